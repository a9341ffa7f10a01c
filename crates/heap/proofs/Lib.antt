pub mod Lawful
pub mod Checked
pub mod Offers
pub mod Books
pub mod Agreeing
pub mod Runnings
