pub mod Lent
pub mod LentFaults
pub mod LentNewest
pub mod LentCompaction
