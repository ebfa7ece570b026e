use Rattle.r4_patch.proofs.Members.{distinct}
use Rattle.r4_rows.specs.Rows.{olds_in}
use Rattle.r4_rows.proofs.Numbered.{numbered_each, numbered_names}
use Rattle.r4_rows.proofs.NumberedBelow.{numbered_change}
use Rattle.r4_rows.proofs.laws.rows_are_numbered.Goals as goal

pub returns : goal.returns
returns c = record {
  names = λ t n to rows over h d there free. numbered_names t n to rows over h (distinct (olds_in rows) d) there free;
  each = λ t n to rows over h free x at. numbered_each t n to rows over h free x at;
  change = λ t r level n to b s more over is. numbered_change t r level n to b s more over is;
}
