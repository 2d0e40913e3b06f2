pub mod Lendings
pub mod PassedCommands
pub mod Reservations
