mod SeriesSteps
