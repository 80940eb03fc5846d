mod Beginning
mod Ending
mod Exactly
mod ItemsDone
mod ItemsResults
mod ItemsStopped
mod Writing
mod WritingPhase
