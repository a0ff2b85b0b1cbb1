pub mod Reads
pub mod Results
pub mod Tail
pub mod Keeping
pub mod Scan
pub mod Words
