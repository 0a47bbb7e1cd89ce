pub mod OneWord
pub mod FramesText
pub mod RunText
pub mod Clean
mod FaultLines
pub mod Wrote
pub mod ReportText
pub mod GoSteps
pub mod Pairs
pub mod Outcomes
pub mod Reported
pub mod Memory
