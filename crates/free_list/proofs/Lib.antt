pub mod Releasing
pub mod Reading
