pub mod Stack
pub mod Act
pub mod Check
pub mod Nesting
