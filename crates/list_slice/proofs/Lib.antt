pub mod Areas
pub mod Parse
pub mod Laid
mod Ops
pub mod Pieces
pub mod Determined
pub mod ReadingBack
pub mod Freedom
pub mod Pool
pub mod Read
pub mod ReadWords
pub mod Positions
pub mod Labels
pub mod Finish
pub mod Functions
mod Table
