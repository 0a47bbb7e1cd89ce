pub mod Cause
pub mod MemSink
pub mod MemSource
pub mod Sink
pub mod Standard
pub mod Text
