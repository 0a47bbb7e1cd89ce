pub mod PageBytes
pub mod Codes
pub mod Begun
pub mod BegunRows
pub mod Ended
pub mod Coming
pub mod ComingRows
pub mod OnWayIn
pub mod Come
pub mod ComeRows
pub mod Bundle
pub mod InvalRow
mod Asking
mod LateEnds
