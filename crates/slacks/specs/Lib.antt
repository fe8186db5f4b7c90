pub mod Addend
