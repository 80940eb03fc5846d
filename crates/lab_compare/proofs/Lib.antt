pub mod CheckedFiles
pub mod Checks
pub mod Comparing
pub mod PassedChecks
