pub mod Reaching
mod Changed
pub mod Meets
pub mod AccessPages
pub mod SamePage
pub mod AccessSeals
pub mod AccessShows
pub mod AccessRows
mod Found
mod AccessDoes
mod RowDoes
mod ThroughDoes
