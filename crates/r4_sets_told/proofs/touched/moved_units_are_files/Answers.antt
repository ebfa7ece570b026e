use Rattle.r4_sets_told.proofs.MovedFiles.{moved_files}
use Rattle.r4_sets_told.proofs.touched.moved_units_are_files.Goals as goal

pub returns : goal.returns
returns c = λ limit e n raw after moved changed u small lawful h edits moves kinds.
    moved_files limit small e n raw after moved changed u lawful h edits moves kinds
