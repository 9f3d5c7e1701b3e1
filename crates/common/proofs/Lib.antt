pub mod Bytes
pub mod Later
pub mod Numbers
