pub mod Jump
pub mod Hop
