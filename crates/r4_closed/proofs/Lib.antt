mod Cells
mod Items
mod Taken
