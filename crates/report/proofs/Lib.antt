pub mod Laying
pub mod Lining
pub mod Tallying
