pub mod Answer
pub mod Kept
pub mod Fault
pub mod Serve
pub mod Talk
pub mod Advance
pub mod Served
