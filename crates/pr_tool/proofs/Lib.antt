pub mod Outputting
pub mod Running
pub mod Standing
pub mod Places
mod Words
mod Stopping
pub mod Causes
pub mod LineTexts
pub mod Showings
pub mod Serving
