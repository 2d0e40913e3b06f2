-- Each step keeps all that is sound.
pub mod Apart
pub mod Beside
pub mod Each
pub mod Joining
pub mod LoadsAndCells
pub mod OnWords
pub mod Sends
pub mod Stop
