pub mod ExamplesOfOperators
