pub mod Areas
pub mod Backs
pub mod Painting
pub mod Reach
pub mod Runs
pub mod Stretches
pub mod Updates
