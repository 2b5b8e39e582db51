pub mod Case
pub mod Trim
pub mod Lines
pub mod Number
pub mod Parts
