pub mod Frame
pub mod Lent
pub mod Pool
pub mod PoolLaw
