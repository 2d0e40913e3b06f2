pub mod Answers
pub mod Fields
pub mod Held
pub mod Openings
pub mod Replayed
pub mod Rings
pub mod Running
