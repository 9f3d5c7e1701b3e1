pub mod Nest
pub mod Turns
pub mod Skip
pub mod Agree
pub mod Parents
pub mod Agreement
