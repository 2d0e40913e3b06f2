pub mod KeyLaws
pub mod Maps
pub mod MemPagesLaws
pub mod MemoryLaws
pub mod SlotLaws
pub mod SpelledLaws
