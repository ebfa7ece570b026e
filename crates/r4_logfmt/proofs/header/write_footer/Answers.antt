use Rattle.std.proofs.Common.{ℕ, List, length, get_or, ap, ◌∙◌, refl, arith}
use Rattle.r4_base.specs.Bytes.{FieldsFit}
use Rattle.r4_base.specs.Log.{footer_fields, footer_of}
use Rattle.r4_logfmt.proofs.Fields.{length-put_all, get_or-put_all_above}
use Rattle.r4_logfmt.proofs.Laws.{footer_again}
use Rattle.r4_logfmt.proofs.header.write_footer.Goals as goal

pub returns-clause-spelled : goal.returns-clause-spelled
returns-clause-spelled c = rw (c.put64-4.ensures, c.put64-3.ensures, c.put64-2.ensures, c.put64.ensures) refl

pub returns-clause-again : goal.returns-clause-again
returns-clause-again c =
    let fit : FieldsFit (footer_fields c.args.f.now) = (omega arith, (omega arith, (omega arith, (omega arith, tt)))) in
    ap footer_of (returns-clause-spelled c) ∙ footer_again c.args.f.now c.args.b.now (omega arith) fit

pub returns-clause-len : goal.returns-clause-len
returns-clause-len c = ap length (returns-clause-spelled c) ∙ length-put_all (footer_fields c.args.f.now) 0 c.args.b.now (omega arith)

pub returns-clause-stays : goal.returns-clause-stays
returns-clause-stays c k past = ap (λ (xs : List ℕ). get_or xs k 0) (returns-clause-spelled c) ∙ get_or-put_all_above (footer_fields c.args.f.now) 0 c.args.b.now k (omega arith) past
