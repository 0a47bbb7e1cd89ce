pub mod Loading
pub mod Outputs
