pub mod Fields
pub mod Codes
pub mod Kinds
pub mod Orders
pub mod Services
