pub mod Requests
pub mod Views
pub mod Admitting
pub mod Covering
pub mod Laws
pub mod Examples
pub mod Misreadings
