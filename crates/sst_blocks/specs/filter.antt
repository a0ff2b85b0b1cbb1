pub mod Filter
pub mod Policy
pub mod KeyHash
