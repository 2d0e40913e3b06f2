pub mod Closing
pub mod Following
pub mod Marks
pub mod OwnPages
