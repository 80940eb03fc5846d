mod Apart
mod AtMostOne
mod Borders
mod Bound
mod BoundChannels
mod Captured
pub mod CapturedRuns
mod ClientCalls
mod ClientSums
mod EachCall
mod Exactly
pub mod Expanded
mod FileCalls
mod FileLines
mod FromFiles
mod Going
mod GrowthLaws
mod HeldReaders
mod IdleReaders
mod Known
mod LateLaws
mod LateParts
mod LateRows
mod Lines
mod Listed
mod Lists
mod Missed
mod Mixes
mod Numbered
pub mod OnePlayed
mod OneSample
mod Onward
mod OnwardCalls
mod OnwardLines
mod OwnActors
mod OwnClients
mod OwnLines
mod OwnReaders
mod PlayedCourses
mod PlayedLines
mod PlayedSegments
mod PlayedStages
mod Published
mod ReaderCalls
mod ReaderFrames
pub mod Recorded
mod Requests
mod RowLines
mod RowStages
mod RunGoesOn
pub mod Runs
pub mod SampleSizes
mod Sealed
mod Sizes
mod SliceItems
mod SliceLines
mod Sole
mod Stages
mod TableLaws
mod Withdrawn
mod Yields
