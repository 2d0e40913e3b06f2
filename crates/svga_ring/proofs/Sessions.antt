-- How a session opens, and lists of steps whose conditions hold in turn.
pub mod ChainRead
pub mod Closes
pub mod FenceTaken
pub mod Opens
pub mod OpensInWords
pub mod PageServed
pub mod Reads
pub mod TableWords
pub mod Written
