pub mod Laws
pub mod Rig
