mod FieldFacts
mod HeaderFacts
mod LossFacts
mod NumberFacts
mod RecordsLeftFacts
