mod CrossingLaws
mod KeptFacts
mod ViewCrossing
mod ViewLaws
mod WatchFacts
