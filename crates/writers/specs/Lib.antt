pub mod Stored
pub mod Equal
pub mod Sizes
pub mod Slices
pub mod Pages
