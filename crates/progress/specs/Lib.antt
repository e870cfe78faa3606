-- How far long work has come.
pub mod Texts
pub mod Times
