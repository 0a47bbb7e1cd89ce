mod Numerals
mod CutParts
mod Rows
mod Pairs
mod Settings
mod ScriptLines
mod Results
mod ReadWords
mod Ranges
mod ReadCommands
mod Commands
pub mod ReadScripts
mod WrittenWords
mod WrittenLines
mod WrittenText
mod WrittenGuests
mod WrittenHeader
mod WrittenScript
