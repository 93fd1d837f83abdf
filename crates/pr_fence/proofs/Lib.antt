pub mod Stepping
pub mod Visiting
pub mod Sighting
pub mod Keeping
pub mod Ousted
pub mod Ending
