pub mod Places
pub mod Opens
