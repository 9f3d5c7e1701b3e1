pub mod Compile
pub mod Linkage
pub mod Object
pub mod Reference
