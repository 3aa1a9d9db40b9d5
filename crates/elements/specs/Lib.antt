pub mod Elements
pub mod Scalars
pub mod Compounds
