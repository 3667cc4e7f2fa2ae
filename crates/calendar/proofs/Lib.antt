pub mod FirstDays
pub mod MonthOf
pub mod Readings
