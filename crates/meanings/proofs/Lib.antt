pub mod Decodes
pub mod Laws
pub mod Parts
pub mod OfScalars
pub mod OfCompounds
