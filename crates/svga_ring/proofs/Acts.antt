-- The acts of a session: what those that are settled leave, and the one in hand.
pub mod Append
pub mod ByKnown
pub mod ChainWalks
pub mod DeviceKeys
pub mod Float
pub mod InHand
pub mod KnownDone
pub mod PutsBehind
pub mod Runs
pub mod Served
pub mod Settled
pub mod UntouchedPage
