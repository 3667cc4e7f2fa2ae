pub mod RowLaws
pub mod Presenting
pub mod Counts
pub mod Noting
pub mod Layering
