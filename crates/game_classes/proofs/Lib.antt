mod Numbers
mod Splits
