use Rattle.std.proofs.Common.{◌≡◌, ℕ, ◌-◌, ◌≤◌, false, List, take, drop, sym, ◌∙◌, arith, rules}
use Rattle.std.specs.Prelude.{slice_range, ◌==◌}
use Rattle.std.proofs.lemmas.Bool.{eqb-false}
use Rattle.r4_base.specs.Key.{rank}
use Rattle.r4_base.proofs.Keys.{is_key}
use Rattle.r4_leaf_edits.proofs.Few.{grows_item, grows_none}
use Rattle.r4_leaf_edits.proofs.Clipped.{part_bytes}
use Rattle.r4_leaf_edits.proofs.Added.{both_ok, run_added, run_bounds, run_nothing, run_short}
use Rattle.r4_leaf_edits.proofs.adding.set_run.Goals as goal

some_of : (n : ℕ) → (n == 0) ≡ false → 1 ≤ n
some_of n e = let h = eqb-false n 0 e in omega (arith, h)

part_is : (xs : List ℕ) (a f t first last : ℕ) → first ≡ f - a → last ≡ t - a → a ≤ f → slice_range xs first last ≡ part_bytes a f t xs
part_is xs a f t first last e g le =
    let n : last - first ≡ t - f = omega arith in
    (λ i. take (n i) (drop (e i) xs))

pub behind-end-requires : goal.behind-end-requires
behind-end-requires c =
    let is = is_key c.args.from (search (rules, c.well_formed.1.1.0)) (search (rules, c.well_formed.1.1.0)) (search (rules, c.well_formed.1.1.0)) (search (rules, c.well_formed.1.1.0)) (search (rules, c.well_formed.1.1.0)) in
    let short = run_short (rank c.args.range.now.from) (rank c.args.range.now.to) c.args.from is c.args.bytes.now (some_of _ (sym c.if-is_empty.ensures)) c.requires in
    omega (arith, short)

pub distance-first-requires-clause-near : goal.distance-first-requires-clause-near
distance-first-requires-clause-near c =
    let is = is_key c.args.from (search (rules, c.well_formed.1.1.0)) (search (rules, c.well_formed.1.1.0)) (search (rules, c.well_formed.1.1.0)) (search (rules, c.well_formed.1.1.0)) (search (rules, c.well_formed.1.1.0)) in
    let some = some_of _ (sym c.if-is_empty.ensures) in
    let short = run_short (rank c.args.range.now.from) (rank c.args.range.now.to) c.args.from is c.args.bytes.now some c.requires in
    let (from, to, lt) = c.in-Some.ensures.part in
    let (low, high) = run_bounds (rank c.args.range.now.from) (rank c.args.range.now.to) c.args.from is c.args.bytes.now some c.requires c.behind-end.result c.behind-end.ensures (rank c.in-Some.part.from) (rank c.in-Some.part.to) from to in
    omega (arith, short, low, high, lt)

pub distance-last-requires-clause-near : goal.distance-last-requires-clause-near
distance-last-requires-clause-near c =
    let is = is_key c.args.from (search (rules, c.well_formed.1.1.0)) (search (rules, c.well_formed.1.1.0)) (search (rules, c.well_formed.1.1.0)) (search (rules, c.well_formed.1.1.0)) (search (rules, c.well_formed.1.1.0)) in
    let some = some_of _ (sym c.if-is_empty.ensures) in
    let short = run_short (rank c.args.range.now.from) (rank c.args.range.now.to) c.args.from is c.args.bytes.now some c.requires in
    let (from, to, lt) = c.in-Some.ensures.part in
    let (low, high) = run_bounds (rank c.args.range.now.from) (rank c.args.range.now.to) c.args.from is c.args.bytes.now some c.requires c.behind-end.result c.behind-end.ensures (rank c.in-Some.part.from) (rank c.in-Some.part.to) from to in
    omega (arith, short, low, high, lt)

pub tail_part-bytes-requires-clause-within : goal.tail_part-bytes-requires-clause-within
tail_part-bytes-requires-clause-within c =
    let is = is_key c.args.from (search (rules, c.well_formed.1.1.0)) (search (rules, c.well_formed.1.1.0)) (search (rules, c.well_formed.1.1.0)) (search (rules, c.well_formed.1.1.0)) (search (rules, c.well_formed.1.1.0)) in
    let some = some_of _ (sym c.if-is_empty.ensures) in
    let (from, to, lt) = c.in-Some.ensures.part in
    let (low, high) = run_bounds (rank c.args.range.now.from) (rank c.args.range.now.to) c.args.from is c.args.bytes.now some c.requires c.behind-end.result c.behind-end.ensures (rank c.in-Some.part.from) (rank c.in-Some.part.to) from to in
    let n = c.distance-last.ensures in
    omega (arith, high, n)

pub returns-in-Some-clause-gains : goal.returns-in-Some-clause-gains
returns-in-Some-clause-gains c =
    let is = is_key c.args.from (search (rules, c.well_formed.1.1.0)) (search (rules, c.well_formed.1.1.0)) (search (rules, c.well_formed.1.1.0)) (search (rules, c.well_formed.1.1.0)) (search (rules, c.well_formed.1.1.0)) in
    let some = some_of _ (sym c.if-is_empty.ensures) in
    let (from, to, lt) = c.in-Some.ensures.part in
    let (low, high) = run_bounds (rank c.args.range.now.from) (rank c.args.range.now.to) c.args.from is c.args.bytes.now some c.requires c.behind-end.result c.behind-end.ensures (rank c.in-Some.part.from) (rank c.in-Some.part.to) from to in
    let same = part_is c.args.bytes.now (rank c.args.from) (rank c.in-Some.part.from) (rank c.in-Some.part.to) c.distance-first.result c.distance-last.result c.distance-first.ensures c.distance-last.ensures low in
    both_ok c.replace.result
    (λ cut more. run_added (rank c.args.range.now.from) (rank c.args.range.now.to) c.args.from is c.args.bytes.now some c.requires c.behind-end.result c.behind-end.ensures c.args.edits.now c.replace.new.self c.in-Some.part
    c.tail_part-bytes.result.now from to lt c.in-Some.ensures.key (c.tail_part-bytes.ensures.value ∙ same) cut more) c.replace.ensures.cuts c.replace.ensures.items

pub returns-in-None-clause-gains : goal.returns-in-None-clause-gains
returns-in-None-clause-gains c =
    let is = is_key c.args.from (search (rules, c.well_formed.1.1.0)) (search (rules, c.well_formed.1.1.0)) (search (rules, c.well_formed.1.1.0)) (search (rules, c.well_formed.1.1.0)) (search (rules, c.well_formed.1.1.0)) in
    let some = some_of _ (sym c.if-is_empty.ensures) in
    run_nothing (rank c.args.range.now.from) (rank c.args.range.now.to) c.args.from is c.args.bytes.now some c.requires c.behind-end.result c.behind-end.ensures c.args.edits.now c.in-None.ensures.part

pub returns-in-Some-clause-few : goal.returns-in-Some-clause-few
returns-in-Some-clause-few c = both_ok c.replace.result (λ cut items. grows_item c.args.edits.now c.replace.new.self c.in-Some.part _ cut items) c.replace.ensures.cuts c.replace.ensures.items

pub returns-in-None-clause-few : goal.returns-in-None-clause-few
returns-in-None-clause-few c = grows_none 1 c.args.edits.now

pub returns-then-is_empty-clause-few : goal.returns-then-is_empty-clause-few
returns-then-is_empty-clause-few c = grows_none 1 c.args.edits.now
