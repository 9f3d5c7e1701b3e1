pub mod Name
pub mod Entry
pub mod Decode
pub mod Bytes
