pub mod Writings
pub mod Padding
pub mod Notes
pub mod Careful
pub mod CarefulRules
pub mod Sides
pub mod Room
