pub mod Gregorian
pub mod Civil
