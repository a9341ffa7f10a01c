pub mod Holdings
pub mod FreeLists
pub mod FreeList
pub mod FreeListed
pub mod Newest
pub mod Unheld
pub mod Addresses
pub mod Keeping
