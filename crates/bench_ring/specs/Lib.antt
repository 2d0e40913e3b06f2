pub mod Lendings
pub mod Passing
