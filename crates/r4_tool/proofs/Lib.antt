mod Starting
mod Lines
mod Plain
