mod Accepted
mod Cut
pub mod Fronts
pub mod Holds
