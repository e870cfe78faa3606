mod Refused
mod Exactness
pub mod Decisions
mod Owed
pub mod Records
pub mod Clears
pub mod Counting
pub mod Base
pub mod Walks
mod DecideOwed
mod Handles
mod PlanSteps
mod Unmarking
mod Freed
mod Closing
mod Release
mod Steps
mod PathLemmas
mod RowSteps
mod RowRun
mod VersionRows
pub mod Entries
mod Naming
pub mod NewFile
pub mod Putting
pub mod Holders
pub mod Renaming
pub mod WholeBlocks
mod Ledger
pub mod Snapshots
mod Evolves
mod OtherLinks
mod Relinking
mod SlotEvolves
mod Emptying
mod Relinked
mod Unlinking
mod GraftCount
mod EmptyingDirectory
mod Removing
mod Rewriting
mod FileTrees
mod SettingAttributes
mod AttributesLast
mod Truncating
mod PlanLists
mod Installing
mod EnteringFile
pub mod Behind
mod RenameWithin
pub mod PointerTables
pub mod Pointing
mod Placing
pub mod Placements
mod Growing
mod Founding
mod EntersFile
mod NewFiles
mod NewLinks
mod RenameAcross
mod EnteringDirectory
mod DotBlocks
mod NewDirectories
mod WriteInPlace
mod Writing
mod RenameCommand
pub mod AllSteps
mod Reading
mod Bools
mod OpenHandles
pub mod ZeroBlocks
mod Debts
mod Clean
mod Paying
mod Forgives
mod Repairing
pub mod FileRecords
pub mod Tests
mod Rewrites
mod Aside
mod Cycles
mod SeenAfter
mod WritesSeen
mod WholeCycles
mod SameFiles
mod PlacingSeen
mod SnapshotSeen
mod FileStays
mod NewDirectoryFiles
mod TruncatedSeen
mod AllFiles
mod StayOpen
mod RunsOfFiles
