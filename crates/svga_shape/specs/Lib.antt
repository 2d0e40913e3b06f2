pub mod Admission
pub mod ShapeSet
pub mod Spans
