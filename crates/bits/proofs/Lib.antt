pub mod DigitLaws
pub mod Laying
pub mod ByteLaws
pub mod Codecs
