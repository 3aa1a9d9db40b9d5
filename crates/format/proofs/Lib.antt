-- The lemmas that the proofs of this crate use.
mod Doubles
pub mod Numbers
pub mod Integers
pub mod Pieces
pub mod Durations
pub mod WellFormed
pub mod Starts
pub mod Texts
pub mod Shown
