pub mod Examples
pub mod Programs
