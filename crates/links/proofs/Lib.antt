pub mod Openers
pub mod Relinked
