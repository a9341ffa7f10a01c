pub mod Calling
pub mod Sent
