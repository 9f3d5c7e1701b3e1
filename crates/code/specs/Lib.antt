pub mod Block
pub mod End
pub mod Inline
pub mod Procedure
pub mod Thunk
