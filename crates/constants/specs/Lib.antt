pub mod Kind
pub mod Language
pub mod Processor
pub mod Raw
