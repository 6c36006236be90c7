pub mod Tests
pub mod Readers
mod Ops
pub mod Values
pub mod Records
pub mod Bodies
pub mod Offsets
pub mod Numbers
pub mod Resume
pub mod Rules
pub mod Complete
pub mod Sound
pub mod Prefix
pub mod Finished
pub mod Landing
pub mod Refusals
pub mod Resolve
pub mod ByPlace
mod Table
