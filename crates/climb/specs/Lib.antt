pub mod Climb
pub mod Opener
