pub mod Streams
pub mod LineLemmas
pub mod TextLemmas
