pub mod Name
pub mod Lent
