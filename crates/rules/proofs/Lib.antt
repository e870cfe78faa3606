mod LeastRule
mod Loaded
