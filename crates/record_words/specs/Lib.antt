pub mod Fields
pub mod Flags
pub mod Record
