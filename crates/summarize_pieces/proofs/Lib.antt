mod CallLaws
mod CallSteps
mod ChosenLaws
pub mod ColumnSteps
mod FinishSteps
mod FirstSteps
mod GivenLaws
mod GroupSteps
mod ItemSteps
mod JoinLaws
mod JoinSteps
mod KeptSteps
mod KeyLists
mod KeySteps
pub mod NeighbourLaws
mod PartSteps
mod PassSteps
pub mod PlanSteps
mod ValueSteps
