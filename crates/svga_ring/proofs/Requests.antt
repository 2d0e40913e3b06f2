-- Requests and their replies.
pub mod Asks
pub mod Replies
pub mod Words
