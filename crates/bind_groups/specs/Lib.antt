pub mod MakeSeries
pub mod MvExpand
pub mod Names
pub mod Parse
pub mod Summarize
