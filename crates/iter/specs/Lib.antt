pub mod Step
pub mod Reading
