pub mod RunParts
pub mod Tables
pub mod Words
