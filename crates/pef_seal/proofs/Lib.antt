pub mod Masks
mod Messages
pub mod Places
pub mod Sizes
pub mod Tags
