pub mod Lists
pub mod Bytes
pub mod Options
pub mod Results
pub mod Orderings
pub mod Numbers
