mod OnTop
mod Lifted
pub mod Along
