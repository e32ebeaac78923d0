mod BlankSteps
mod HexSteps
