pub mod ChosenCells
