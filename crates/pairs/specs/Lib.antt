pub mod Pairs
pub mod PairStates
pub mod Paired
pub mod Shares
