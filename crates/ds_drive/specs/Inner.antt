-- What code and proofs share, and no promise speaks of.
pub mod AtFault
pub mod BareOrder
pub mod BareRuns
pub mod BareDebugged
pub mod Checked
pub mod Done
pub mod Failures
pub mod Listed
pub mod Listening
pub mod Outcomes
pub mod Placed
pub mod Ran
pub mod Reading
pub mod Told
pub mod TraceRuns
