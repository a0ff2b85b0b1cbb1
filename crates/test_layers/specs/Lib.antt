pub mod Keys
pub mod Rows
pub mod Sorted
pub mod Words
