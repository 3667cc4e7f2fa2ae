pub mod Pairs
pub mod Rows
pub mod Tokens
pub mod Leavers
pub mod Orders
