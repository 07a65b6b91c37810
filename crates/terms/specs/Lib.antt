pub mod Bytes
pub mod Faults
pub mod Integers
pub mod Limits
pub mod Rows
pub mod Stored
