pub mod Folds
pub mod Lists
pub mod NextSteps
pub mod GoAll
pub mod GoesOn
pub mod OneNext
pub mod Runs
pub mod OwnWrites
pub mod NextValues
pub mod Opened
pub mod Secrets
pub mod Deeds
pub mod HypercallTables
pub mod HypercallRows
pub mod Scrubs
pub mod Hypercalls
pub mod Stores
pub mod Loads
pub mod Called
pub mod Returned
pub mod ReturnRows
pub mod Assigned
pub mod Touched
pub mod Clashes
pub mod Aims
pub mod Works
pub mod OwnRegisters
pub mod Outcomes
pub mod LetOut
pub mod Steps
pub mod Moves
mod Newest
pub mod Puts
pub mod Changes
pub mod HypervisorChanges
pub mod PageInChanges
pub mod GuestChanges
pub mod EntryChanges
pub mod Unmapped
pub mod ChangeOf
pub mod Fields
pub mod Moving
pub mod Paging
pub mod Begun
mod Tags
pub mod Reached
pub mod Running
pub mod Parts
pub mod Times
pub mod Orders
pub mod Grown
mod Ranges
pub mod Frames
pub mod KeptStores
pub mod Fresh
pub mod RefusedClashes
pub mod Doublewords
pub mod Places
pub mod PageBytes
pub mod Away
pub mod SealedCopies
pub mod Filled
pub mod Streams
pub mod Pairs
pub mod Placed
pub mod Through
pub mod Whole
pub mod Hands
pub mod Normal
pub mod ThroughStores
pub mod Written
pub mod FrameOpen
pub mod AlikeEntries
pub mod Views
pub mod AlikeRuns
pub mod SeenReports
pub mod SeenRegisters
pub mod AlikeClashes
pub mod SoundParts
pub mod ThroughHand
pub mod NormalLoads
pub mod BegunCalls
pub mod SoundReports
pub mod DeedOf
pub mod ContextAnswers
pub mod AccessAnswers
mod KindsLeft
pub mod InvalidPages
pub mod TagBytes
pub mod ToldEntries
pub mod GuestsKeep
pub mod WordsLeft
pub mod PageCalls
pub mod BusyAnswers
mod Unworded
mod Taken
mod Lives
mod AnswerRows
mod PartedAddresses
mod BeginAnswers
mod EntryAnswers
mod SlotAnswers
mod InvalAnswers
mod SlotChanges
pub mod SlotsApart
mod ExitAnswers
mod CallAnswers
mod ComesBack
mod RandomWords
