pub mod FeedLaws
pub mod NextLaws
pub mod ScanLaws
pub mod VisitKept
pub mod VisitLaws
