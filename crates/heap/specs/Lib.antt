pub mod Faults
pub mod Meaning
pub mod Checks
pub mod Histories
pub mod Roundings
pub mod Runs
pub mod Classes
