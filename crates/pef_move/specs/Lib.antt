pub mod PageOut
pub mod Route
pub mod PageIn
pub mod PageInval
pub mod Unseal
