pub mod LinkTests
pub mod Checking
pub mod Refusals
