pub mod KeyRange
pub mod Run
pub mod Packing
pub mod Links
pub mod LinkedRuns
pub mod Packed
