mod NewIndexes
mod NoReports
mod RouteExamples
mod SendLemmas
