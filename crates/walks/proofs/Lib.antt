pub mod Walk
pub mod ArrayWalk
