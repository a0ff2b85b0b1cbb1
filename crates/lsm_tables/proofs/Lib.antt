pub mod TableLaws
pub mod Shares
