-- What the sources, the sinks and the calls over them promise.
pub mod Adapted
pub mod Growing
pub mod Memory
pub mod Rising
pub mod Taking
