pub mod Parts
pub mod Counts
pub mod Opening
pub mod Calls
pub mod Surveys
pub mod Agrees
pub mod Ahead
pub mod Law
