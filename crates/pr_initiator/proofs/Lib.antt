pub mod Going
pub mod Fronting
pub mod HeardAfter
pub mod Judgings
pub mod Replying
pub mod Ordering
pub mod Readying
pub mod Coming
