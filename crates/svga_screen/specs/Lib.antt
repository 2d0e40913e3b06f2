pub mod Clips
pub mod Definitions
pub mod Kept
pub mod ScreenSet
