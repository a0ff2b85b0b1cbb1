pub mod Recent
pub mod Story
pub mod Ranged
pub mod Ids
pub mod Closed
pub mod Faulty
pub mod Part
pub mod Words
