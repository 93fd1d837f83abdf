pub mod Records
pub mod Spellings
