pub mod Blocks
pub mod Runs
pub mod Sends
pub mod Refusals
