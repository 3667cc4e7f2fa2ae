pub mod Digits
pub mod Faults
pub mod Written
pub mod Codec
pub mod Reader
pub mod Writer
