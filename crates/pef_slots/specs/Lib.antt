pub mod Slots
pub mod SlotsLaw
pub mod Keyed
