pub mod CallLaws
pub mod ClientOfLaws
pub mod CloseLaws
pub mod FollowLaws
pub mod MarkLaws
pub mod OpeningLaws
pub mod OwnLaws
pub mod WalkLaws
