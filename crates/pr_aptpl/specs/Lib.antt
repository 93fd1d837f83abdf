pub mod Doubts
pub mod Gates
pub mod Slots
pub mod Views
pub mod Opens
pub mod Keepers
