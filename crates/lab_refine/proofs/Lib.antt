mod AnswerLaws
mod MaskMembers
mod AskLines
mod Requests
