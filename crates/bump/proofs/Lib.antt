pub mod Headings
pub mod Tables
pub mod Calls
pub mod Readings
