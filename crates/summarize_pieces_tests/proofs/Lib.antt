mod PieceFacts
mod ProgramFacts
