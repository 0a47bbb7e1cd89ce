pub mod PutBytes
pub mod AddressLemmas
