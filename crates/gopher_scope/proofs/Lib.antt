pub mod Elements
pub mod Faultless
