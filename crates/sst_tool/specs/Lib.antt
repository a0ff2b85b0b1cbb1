pub mod lines
pub mod files
pub mod show
pub mod make
