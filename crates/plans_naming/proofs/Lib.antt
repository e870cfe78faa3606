mod Tallies
mod Folders
mod Puts
mod Births
mod EntryEffects
mod CreateEffect
pub mod CreateOrder
pub mod Links
mod Rests
mod Removals
pub mod Unlinks
pub mod Renaming
mod Grounds
mod GroundSteps
pub mod Moving
mod MoveEffect
mod Dots
mod DirectoryEntries
mod MakeViews
mod MakeOrder
pub mod MakeInSlot
mod Frees
pub mod UnlinkLast
mod RemoveOrder
pub mod RemoveName
pub mod RemoveLast
mod Grown
mod FilledBlocks
mod GrowthFacts
mod Growths
mod Rooms
pub mod CreateGrown
pub mod LinkGrown
pub mod MoveGrown
mod MoveGrownEffect
pub mod MakeGrown
mod MakeGrownEffect
pub mod AcceptedPlaces
pub mod AcceptedCommands
mod AcceptedRemovals
pub mod CarriedOut
pub mod CarriedRenames
pub mod CarriedRemovals
mod Choices
