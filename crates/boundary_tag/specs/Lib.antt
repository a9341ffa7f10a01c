pub mod Chunks
pub mod States
pub mod Placed
pub mod Ends
pub mod Walks
pub mod Lists
pub mod Laws
pub mod Keeping
