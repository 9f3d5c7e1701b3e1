pub mod Word
pub mod Written
