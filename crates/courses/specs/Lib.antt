pub mod Leads
pub mod Plans
pub mod Life
pub mod Session
pub mod After
pub mod Done
pub mod Serves
pub mod Bytes
