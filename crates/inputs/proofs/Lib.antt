pub mod Framing
pub mod Taking
pub mod Answers
