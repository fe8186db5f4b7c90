pub mod Answers
pub mod Promises
pub mod Corollaries
pub mod Refusals
pub mod Holding
