mod Blocks
mod Jobs
mod Parts
mod Turns
mod Askings
mod Stepping
mod Doing
mod Drivings
pub mod Sharings
pub mod Growing
pub mod Servings
mod Reaching
mod LaterBytes
mod Shrinking
mod Peers
pub mod Opened
pub mod Counting
pub mod Closings
pub mod Connections
pub mod Holdings
pub mod Sends
