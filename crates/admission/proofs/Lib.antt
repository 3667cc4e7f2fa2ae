pub mod Sound
pub mod Misread
pub mod Worked
pub mod Entries
