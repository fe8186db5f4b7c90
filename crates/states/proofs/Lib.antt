pub mod Held
pub mod Raised
pub mod Splice
pub mod Start
pub mod Steps
