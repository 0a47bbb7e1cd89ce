pub mod Loads
pub mod Registers
pub mod Start
