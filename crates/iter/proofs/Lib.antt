pub mod Laws
pub mod Reading
pub mod Records
pub mod Rows
pub mod Steps
