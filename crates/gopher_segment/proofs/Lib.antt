pub mod PostingLemmas
pub mod RunLemmas
mod RowLemmas
mod WordOrder
mod NumberLemmas
mod MergeLemmas
mod JoinLemmas
mod SegmentLemmas
mod LargeLemmas
pub mod Pieces
mod WordPostings
mod Between
mod RankLemmas
mod CountLemmas
pub mod Each
