pub mod Bodies
pub mod Bytes
pub mod Maps
pub mod Rest
