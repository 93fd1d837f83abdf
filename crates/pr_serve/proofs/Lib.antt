pub mod Acceptings
pub mod Counting
pub mod Crowding
pub mod Lists
pub mod Openings
pub mod Standings
