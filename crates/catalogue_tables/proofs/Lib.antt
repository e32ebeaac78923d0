mod AnswerFacts
mod CallFacts
mod EntryFacts
mod FileFacts
mod RowFacts
mod TableFacts
