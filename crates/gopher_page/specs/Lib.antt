pub mod Words
pub mod Counts
pub mod Packed
pub mod Numbered
pub mod Query
pub mod Page
pub mod Ranking
