use Rattle.std.proofs.Common.{ℕ, List, length, get_or, ap, ◌∙◌, arith}
use Rattle.r4_base.specs.Bytes.{FieldsFit}
use Rattle.r4_base.specs.Log.{header_fields, header_of}
use Rattle.r4_logfmt.proofs.Fields.{length-put_all, get_or-put_all_above}
use Rattle.r4_logfmt.proofs.Laws.{header_again}
use Rattle.r4_logfmt.proofs.header.write_header.Goals as goal

pub returns-clause-again : goal.returns-clause-again
returns-clause-again c =
    let fit : FieldsFit (header_fields c.args.h.now) = (omega arith, tt) in
    ap header_of c.put64.ensures ∙ header_again c.args.h.now c.args.b.now (omega arith) fit

pub returns-clause-len : goal.returns-clause-len
returns-clause-len c = ap length c.put64.ensures ∙ length-put_all (header_fields c.args.h.now) 0 c.args.b.now (omega arith)

pub returns-clause-stays : goal.returns-clause-stays
returns-clause-stays c k past = ap (λ (xs : List ℕ). get_or xs k 0) c.put64.ensures ∙ get_or-put_all_above (header_fields c.args.h.now) 0 c.args.b.now k (omega arith) past
