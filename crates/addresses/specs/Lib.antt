pub mod Numerals
pub mod Forms
pub mod Gaps
pub mod Rows
pub mod Addresses
pub mod Examples
