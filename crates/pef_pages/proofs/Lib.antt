pub mod Orders
pub mod Moves
pub mod Oldest
pub mod Frames
