pub mod KeySteps
pub mod ScanSteps
