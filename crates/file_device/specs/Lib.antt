pub mod Calls
pub mod Opening
pub mod Runs
pub mod CallLaws
