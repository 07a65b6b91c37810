pub mod Shorter
pub mod Spreading
