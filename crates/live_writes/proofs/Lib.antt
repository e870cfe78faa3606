mod Bytes
mod Facts
mod Planning
mod Pointing
mod Refusals
mod Sights
