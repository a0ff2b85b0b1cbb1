pub mod Asks
pub mod Commands
pub mod Program
pub mod Tasks
pub mod Words
