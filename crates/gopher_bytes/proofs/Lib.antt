pub mod Splits
pub mod PartLemmas
pub mod Zips
pub mod Trims
pub mod TrimSearches
