pub mod Loading
pub mod OnePage
pub mod Wholes
pub mod OneVcpu
pub mod Deeds
pub mod Begun
pub mod Asked
pub mod Written
