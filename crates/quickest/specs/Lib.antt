pub mod Quickest
