pub mod ExamplesOfJoins
pub mod ExamplesOfOutputs
pub mod ExamplesOfParts
pub mod ExamplesOfScan
pub mod ExamplesOfTables
pub mod ExamplesOfValues
pub mod ExamplesOfWindows
