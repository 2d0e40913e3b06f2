pub mod Chains
pub mod Devices
pub mod Reading
pub mod Serving
pub mod Telling
