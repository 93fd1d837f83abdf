pub mod Arguments
pub mod Asking
pub mod Exits
pub mod Runs
pub mod Texts
pub mod Prints
pub mod Shows
pub mod Whole
