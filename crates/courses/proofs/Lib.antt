mod Chains
mod Members
mod Fits
mod Walks
mod Pieces
mod DataPlans
mod NamingPlans
mod PlansLead
pub mod LifeCourses
mod Spared
mod Images
mod Runs
pub mod LifeBytes
mod AcceptedPlans
mod AcceptedWrites
mod SafeModes
pub mod Doing
pub mod Serving
pub mod ServiceLemmas
pub mod Leaving
pub mod OwnBytes
mod Firm
mod WritesKeep
mod PlansHold
mod BytesHeld
pub mod Lasting
pub mod ServiceBytes
pub mod Looking
