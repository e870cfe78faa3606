mod FirstUpdates
mod Names
mod Planning
mod Refusals
