pub mod Entries
pub mod Rules
pub mod Seats
pub mod Passes
pub mod Lending
