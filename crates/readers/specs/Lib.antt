pub mod Slices
pub mod Wraps
pub mod Equal
pub mod Rings
pub mod Unseen
