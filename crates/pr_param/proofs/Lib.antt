pub mod Cuts
pub mod Pieces
pub mod Holders
pub mod Readings
pub mod RoundTrips
pub mod Ignored
pub mod IgnoredReplies
pub mod IgnoredEntries
