pub mod Compressed
pub mod Annotation
pub mod Program
