pub mod Climbs
pub mod Openers
