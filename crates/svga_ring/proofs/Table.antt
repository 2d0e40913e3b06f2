-- What a shared table asks of its rule.
pub mod Rule
pub mod SeatSteps
