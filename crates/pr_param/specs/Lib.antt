pub mod Laid
pub mod Fits
