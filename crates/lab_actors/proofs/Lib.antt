mod BoundTo
mod ConfigRange
mod LineCounts
mod Narrowings
mod OpeningLists
mod PairLemmas
pub mod ParamLaws
mod RefusedLaws
mod UsableOpenings
