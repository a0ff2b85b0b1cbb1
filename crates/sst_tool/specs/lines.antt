pub mod Escapes
pub mod Faults
pub mod ObjectLine
pub mod WordLine
pub mod Words
