pub mod Table
pub mod Headers
pub mod Walks
pub mod Laws
