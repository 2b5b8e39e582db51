pub mod Answer
pub mod Command
pub mod Fault
pub mod Parts
pub mod Replay
pub mod Script
pub mod Stage
pub mod Reading
