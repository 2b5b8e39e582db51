pub mod KeptLemmas
pub mod LeadsLemmas
pub mod FirstLines
pub mod Talking
pub mod StepLemmas
pub mod StopLemmas
pub mod PauseLemmas
pub mod PutBack
mod ServedLemmas
