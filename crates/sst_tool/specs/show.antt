pub mod Failures
pub mod Files
pub mod Gets
pub mod Merged
pub mod Read
pub mod Words
