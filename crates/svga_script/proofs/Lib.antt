pub mod HexLaws
pub mod KeyLaws
pub mod LineLaws
pub mod LineWords
pub mod ReadingLaws
pub mod RunLaws
pub mod WordLaws
