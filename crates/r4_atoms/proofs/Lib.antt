pub mod ForestLaws
pub mod OwnedLaws
pub mod ScriptLaws
pub mod AtomLaws
pub mod KeptLaws
pub mod ScanLaws
pub mod NodeLaws
