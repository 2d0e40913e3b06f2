pub mod Answers
pub mod DecoderStates
pub mod Kept
pub mod Nexts
pub mod Scans
pub mod Visits
