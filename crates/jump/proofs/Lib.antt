pub mod Jumps
pub mod Hops
