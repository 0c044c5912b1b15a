mod Examples
mod StoreExamples
