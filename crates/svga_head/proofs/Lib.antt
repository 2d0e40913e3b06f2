pub mod Drawn
pub mod Loops
pub mod PictureLaws
pub mod PixelRows
pub mod ShowingLaws
pub mod SlotLaws
