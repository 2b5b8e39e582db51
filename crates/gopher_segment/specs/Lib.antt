pub mod Large
pub mod Postings
pub mod Rows
pub mod Segment
pub mod SegmentRows
pub mod Ranks
