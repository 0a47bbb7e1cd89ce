pub mod PageSize
pub mod SealLaw
pub mod Serves
pub mod Vault
