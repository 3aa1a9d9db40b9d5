pub mod Leading
pub mod Offers
pub mod Doing
pub mod Standing
