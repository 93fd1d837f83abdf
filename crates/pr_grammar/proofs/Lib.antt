pub mod Fronts
pub mod Spellings
pub mod Records
pub mod Beginnings
pub mod Framings
pub mod Coding
pub mod Maskings
mod Shown
