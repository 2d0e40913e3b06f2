-- Steps of wrong ends leave no sound state.
pub mod OnPages
pub mod OnRequests
pub mod OnWords
