mod ChainWalks
mod StackWalks
