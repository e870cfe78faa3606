pub mod Census
pub mod Runs
