pub mod Promise
pub mod Answering
