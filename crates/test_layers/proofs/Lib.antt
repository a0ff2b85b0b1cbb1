pub mod HandleLemmas
pub mod KeyLemmas
pub mod Steps
