pub mod Lasting
