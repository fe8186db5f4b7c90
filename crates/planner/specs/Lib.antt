pub mod Promise
pub mod Askable
