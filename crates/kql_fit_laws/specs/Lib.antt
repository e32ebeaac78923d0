pub mod LawsOfCalls
pub mod LawsOfExpressions
pub mod LawsOfFitting
pub mod LawsOfGroupRows
pub mod LawsOfOperators
pub mod LawsOfPrograms
pub mod LawsOfRows
