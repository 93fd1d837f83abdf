pub mod Streams
pub mod Deframer
pub mod Laws
pub mod Calls
pub mod Requests
pub mod Replies
pub mod ValueLaws
pub mod Fronts
