pub mod Narrow
pub mod Pushing
