use Rattle.r4_rows.proofs.Pointing.{keeps_spans, keeps_units, pointers_point, pointing_row}
use Rattle.r4_rows.proofs.laws.pointers_make_rows.Goals as goal

pub returns : goal.returns
returns c = record {
  row = λ t l b s one is there. pointing_row l one b s is t there;
  spans = λ l b s one is. keeps_spans l one b s is;
  units = λ l b s one is. keeps_units l one b s is;
  points = pointers_point;
}
