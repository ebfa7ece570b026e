use Rattle.std.proofs.Common.{◌≡◌, ◌∙◌, ◌++◌, [], sym, ap, drop, append-nil, List, arith}
use Rattle.std.proofs.lemmas.List.{drop_all}
use Rattle.r4_atoms.specs.declared.owners.Label.{Label}
use Rattle.r4_atoms.specs.Owned.{label_of, pairs_of}
use Rattle.r4_atoms.proofs.OwnedLaws.{put_next}
use Rattle.r4_atoms.proofs.owners.put_all.Goals as goal

pub loop-one-preserved : goal.loop-one-preserved
loop-one-preserved c = record {
  entries = λ n. put_next c.loop-one.table.entries c.put.new.table.entries c.args.row.now c.loop-one.one-index _ c.loop-one-test.true c.put.ensures.entries n ∙ c.loop-one.invariant.entries n;
  len = omega (arith, c.put.ensures.len, c.loop-one.invariant.len);
  places = omega (arith, c.put.ensures.places, c.loop-one.invariant.places);
}

pub returns-clause-entries : goal.returns-clause-entries
returns-clause-entries c n =
    let t = c.loop-one.table.entries in
    let none : drop c.loop-one.one-index c.args.row.now ≡ [] = drop_all c.loop-one.one-index c.args.row.now c.loop-one-test.false in
    ap (label_of n) (sym (append-nil t)) ∙ ap (λ (r : List Label). label_of n (t ++ pairs_of r)) (sym none) ∙ c.loop-one.invariant.entries n
