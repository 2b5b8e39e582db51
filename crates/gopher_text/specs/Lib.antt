pub mod Fault
pub mod Watched
pub mod Reply
pub mod Line
pub mod Text
