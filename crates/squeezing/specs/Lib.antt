pub mod Squeeze
pub mod Squeezes
pub mod Preview
pub mod Foretells
pub mod Landing
pub mod Plan
pub mod Write
