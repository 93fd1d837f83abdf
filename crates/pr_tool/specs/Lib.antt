pub mod Lanes
pub mod Statuses
pub mod Reading
pub mod Counting
pub mod Exits
pub mod Asking
pub mod Stops
pub mod Showing
