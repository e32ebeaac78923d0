mod ProgramFacts
