-- Heads: what contracts see of them, what telling them does, and what they show.
pub mod Changes
pub mod HeadStates
pub mod Mirrors
pub mod Plugs
pub mod PlugStates
pub mod Showing
pub mod Telling
