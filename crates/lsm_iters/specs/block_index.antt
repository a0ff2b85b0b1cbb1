pub mod Index
pub mod Left
pub mod Seen
pub mod Yielded
pub mod Answers
pub mod Kinds
pub mod Partitions
pub mod Words
