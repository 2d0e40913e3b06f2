-- The words of the ring and of FENCE: how they are counted, sent, read and taken.
pub mod Cells
pub mod FenceOrder
pub mod Moves
pub mod NextCommand
pub mod Order
pub mod Pieces
pub mod Told
pub mod Turns
