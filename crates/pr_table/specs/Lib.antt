pub mod Goes
pub mod Kepts
pub mod Orderings
pub mod Tables
pub mod Told
pub mod Noted
pub mod Owns
pub mod Places
