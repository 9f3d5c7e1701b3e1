pub mod Listing
pub mod Puts
