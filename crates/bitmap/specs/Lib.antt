pub mod Words
pub mod Cells
pub mod Rows
pub mod Laws
pub mod Keeping
