pub mod Acts
pub mod Answers
pub mod Asked
pub mod Faults
pub mod Kinds
pub mod Left
pub mod Readings
pub mod Taken
