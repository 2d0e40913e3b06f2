mod EntryLaws
pub mod IdLaws
pub mod LargestLaws
pub mod PassingLaws
pub mod RowLaws
pub mod RunLaws
pub mod RunPassing
