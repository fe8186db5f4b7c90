pub mod CutTests
pub mod Verdicts
