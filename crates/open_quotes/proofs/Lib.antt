mod CellFacts
mod QuoteFacts
