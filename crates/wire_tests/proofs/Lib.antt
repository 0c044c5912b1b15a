mod Examples
mod PlayerExamples
