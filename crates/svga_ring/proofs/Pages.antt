-- Where each page is, and the steps that move one.
pub mod DeviceSteps
pub mod DriverSteps
pub mod Locations
pub mod Moves
pub mod Noted
