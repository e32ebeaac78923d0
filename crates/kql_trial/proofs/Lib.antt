mod LogFacts
