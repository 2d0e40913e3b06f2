pub mod Acts
pub mod Pages
pub mod Requests
pub mod Sessions
pub mod Steps
pub mod Table
pub mod Words
pub mod Wrong
