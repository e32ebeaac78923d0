mod CatalogueFacts
mod JsonFacts
