pub mod UnderWay
pub mod Sets
pub mod Reasons
pub mod ReachedTexts
