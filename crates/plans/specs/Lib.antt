pub mod Record
pub mod Carried
pub mod Held
pub mod InLimits
pub mod WritablePlan
pub mod Fields
pub mod Longest
