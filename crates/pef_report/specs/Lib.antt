pub mod Text
pub mod EdgeLaw
