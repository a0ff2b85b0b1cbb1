pub mod Ends
pub mod Parts
pub mod Walks
pub mod Words
