mod Cut
pub mod Fills
mod Rounds
