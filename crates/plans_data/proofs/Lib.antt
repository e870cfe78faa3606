pub mod Holders
pub mod Linking
pub mod Placed
pub mod Chains
mod Growing
pub mod Numbers
mod Filling
pub mod Append
pub mod Clearing
pub mod LetsGo
pub mod Freeing
pub mod Swept
pub mod Blocks
pub mod Enlarging
pub mod WriteInPlace
pub mod WriteAppended
mod Moving
pub mod Moved
pub mod WriteMoved
pub mod Truncating
pub mod Attributing
pub mod Relinking
pub mod Repairing
pub mod Releasing
pub mod Accepted
mod FewerSafe
pub mod Lists
pub mod Plans
pub mod Room
pub mod Tables
pub mod SafeFiles
pub mod Stands
pub mod CarriedWrites
pub mod CarriedRepairs
mod HeldAppends
pub mod LetGoRight
mod HeldWrites
mod HeldFrees
