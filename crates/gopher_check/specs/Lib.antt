pub mod Crawl
pub mod Reach
pub mod Coverage
pub mod MenuWarning
pub mod TextWarning
pub mod CrawlWarning
pub mod Script
