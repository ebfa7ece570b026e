mod Numbers
mod Grammar
mod Ranges
mod Splitting
mod Taking
