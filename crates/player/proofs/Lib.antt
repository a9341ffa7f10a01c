pub mod Acting
pub mod Storing
pub mod Turning
pub mod Underway
