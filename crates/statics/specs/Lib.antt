pub mod Static
pub mod Potentials
pub mod Reach
pub mod Peel
pub mod Closed
