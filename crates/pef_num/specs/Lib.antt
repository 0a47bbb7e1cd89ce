pub mod Addresses
pub mod DoublewordLaw
pub mod AddressLaw
