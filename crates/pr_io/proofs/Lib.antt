mod Ahead
pub mod Pieces
mod Placing
pub mod Following
pub mod Sent
pub mod Spanning
pub mod Recording
pub mod Settings
pub mod LineLaws
pub mod Remaining
