pub mod Making
pub mod Options
pub mod Showing
pub mod Statuses
pub mod Tasks
pub mod Verified
pub mod Words
