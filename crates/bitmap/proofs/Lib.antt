pub mod Flips
pub mod Searches
pub mod Changes
pub mod Calls
