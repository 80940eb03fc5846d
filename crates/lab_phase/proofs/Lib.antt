mod AloneStages
mod Beginning
mod Ending
mod FirstSetups
mod MeetLaws
mod Numbers
mod PhaseStages
mod StageLaws
