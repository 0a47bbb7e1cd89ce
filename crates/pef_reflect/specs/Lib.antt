pub mod Leave
pub mod Write
pub mod Slots
