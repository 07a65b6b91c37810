pub mod ByPlace
pub mod Integers
pub mod Passed
pub mod Places
pub mod SmallLists
pub mod Sums
pub mod FirstFault
pub mod Made
