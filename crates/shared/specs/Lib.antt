pub mod Calls
pub mod Limits
pub mod Next
pub mod Noted
pub mod Opened
pub mod Repairing
pub mod Shown
pub mod Traces
