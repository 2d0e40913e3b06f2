pub mod ClipLaws
pub mod DefinitionLaws
pub mod FaultLaws
pub mod PixelLaws
pub mod ScreenLaws
