pub mod Displays
pub mod Effects
pub mod Listed
pub mod MachineSet
pub mod Remaps
pub mod Touched
