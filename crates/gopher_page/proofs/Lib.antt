pub mod Distinct
pub mod Few
mod Runs
mod Tokens
mod Joining
pub mod Order
pub mod Sought
mod Sums
pub mod SortedInserts
mod AddedWords
mod Lengths
pub mod Leading
pub mod Terms
pub mod OneMoreTerm
mod Short
mod Lowered
mod Pages
