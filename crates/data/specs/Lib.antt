pub mod Local
pub mod Storage
pub mod Variable
