mod Asking
mod Ends
mod Leaving
mod Only
mod Texts
mod MadeParts
mod Unmixed
