pub mod Findings
pub mod Groups
pub mod Numbers
pub mod Report
pub mod Rules
pub mod Samples
