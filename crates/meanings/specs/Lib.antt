pub mod Decodes
pub mod Relations
