pub mod LanesOf
pub mod MorePixels
pub mod Pixels
pub mod Widening
