pub mod Decoded
pub mod Field
pub mod Flags
pub mod Name
