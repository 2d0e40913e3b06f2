mod BytesLaws
mod ListingLaws
mod MappedLaws
mod RaceLaws
mod RangeLaws
mod ReplayLaws
mod RunLaws
mod WithinLaws
