pub mod Places
pub mod Reading
pub mod Carving
pub mod Joining
pub mod Calls
