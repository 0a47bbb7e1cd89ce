mod Hexadecimal
pub mod SinkLemmas
