use Rattle.std.proofs.Common.{◌+◌, length, arith, Bool, true, false, not, [], ◌++◌, map, ◌≡◌, refl, ap, subst, sym, ◌∙◌}
use Rattle.std.specs.Prelude.{All, Option, None, Some, if◌then◌else◌, ◌^◌, ℕ}
use Rattle.std.specs.List.{filter}
use Rattle.std.specs.Option.{is_none, is_some}
use Rattle.r4_base.specs.Key.{rank}
use Rattle.r4_content.specs.Edited.{put_keys}
use Rattle.r4_content.specs.Held.{interval_of, pair_of}
use Rattle.r4_content.specs.declared.edits.Interval.{Interval}
use Rattle.r4_leaf_edits.specs.Made.{bytes_end}
use Rattle.r4_leaf_edits.specs.Making.{Gains, Sets, body_cuts, body_pairs, values_set}
use Rattle.r4_leaf_edits.specs.Suiting.{IsBefore, IsLawfulPut, is_byte}
use Rattle.r4_leaf_edits.proofs.Few.{grows_both, has_at_most}
use Rattle.r4_leaf_edits.proofs.Gained.{gains_both}
use Rattle.r4_leaf_edits.proofs.Gathered.{gathers}
use Rattle.r4_leaf_edits.proofs.Meant.{values_before, values_lawful}
use Rattle.r4_leaf_edits.proofs.making.gather.Goals as goal

end_is : (spread : Option Interval) → bytes_end spread ≡ (if is_none spread then 16384 else 2 ^ 64)
end_is None = refl
end_is (Some body) = refl

none_is : (o : Option Interval) (r : Bool) → is_some o ≡ not r → r ≡ is_none o
none_is None true e = refl
none_is None false e = absurd cc
none_is (Some body) true e = absurd cc
none_is (Some body) false e = refl

pub set_values-requires-clause-lawful : goal.set_values-requires-clause-lawful
set_values-requires-clause-lawful c =
    subst (λ vs. All IsLawfulPut (map pair_of vs)) (sym c.as_slice-2.ensures.value) (values_lawful c.args.edits.now (bytes_end c.args.spread) c.requires)

pub set_values-requires-clause-before : goal.set_values-requires-clause-before
set_values-requires-clause-before c =
    let told = subst (λ (n : ℕ). All (IsBefore n) (filter (λ p. is_byte p.1) (map pair_of c.args.edits.now.puts.items))) (end_is c.args.spread ∙ ap (λ (b : Bool). if b then 16384 else 2 ^ 64) (sym (none_is c.args.spread c.is_none.result c.is_none.ensures)))
    (values_before c.args.edits.now (bytes_end c.args.spread) c.requires) in
    subst (λ vs. All (IsBefore (if c.is_none.result then 16384 else 2 ^ 64)) (filter (λ p. is_byte p.1) (map pair_of vs))) (sym c.as_slice-2.ensures.value) told

pub returns-clause-gains : goal.returns-clause-gains
returns-clause-gains c =
    let lo = rank c.args.range.now.from in
    let hi = rank c.args.range.now.to in
    let e = c.args.edits.now in
    let vs = values_set (is_none c.args.spread) (map pair_of e.puts.items) in
    let cuts = subst (λ is. Gains lo hi (map interval_of is) [] c.none-made.result c.cut_each.new.made) c.as_slice.ensures.value c.in_ok-cut_each.ensures.gains in
    let values : Sets lo hi vs c.take_body.new.made c.set_values.new.made =
    subst (λ (b : Bool). Sets lo hi (values_set b (map pair_of e.puts.items)) c.take_body.new.made c.set_values.new.made) (none_is c.args.spread c.is_none.result c.is_none.ensures)
    (subst (λ is. Sets lo hi (values_set c.is_none.result (map pair_of is)) c.take_body.new.made c.set_values.new.made) c.as_slice-2.ensures.value c.in_ok-set_values.ensures.gains) in
    gathers lo hi (map interval_of e.cuts.items ++ (body_cuts c.args.spread e ++ put_keys vs)) (body_pairs c.args.spread e ++ vs) c.none-made.result c.set_values.new.made c.none-made.ensures.cuts c.none-made.ensures.items
    (gains_both lo hi (map interval_of e.cuts.items) (body_cuts c.args.spread e ++ put_keys vs) [] (body_pairs c.args.spread e ++ vs) c.none-made.result c.cut_each.new.made c.set_values.new.made cuts
    (gains_both lo hi (body_cuts c.args.spread e) (put_keys vs) (body_pairs c.args.spread e) vs c.cut_each.new.made c.take_body.new.made c.set_values.new.made c.in_ok-take_body.ensures.gains values))

pub returns-clause-few : goal.returns-clause-few
returns-clause-few c =
    let e = c.args.edits.now in
    let a = ap length c.as_slice.ensures.value in
    let b = ap length c.as_slice-2.ensures.value in
    let m = 1 + (length e.zeros.items + (length e.fills.items + length e.runs.items)) in
    let all = length e.cuts.items + (m + length e.puts.items) in
    has_at_most all all c.none-made.result c.set_values.new.made (omega arith) c.none-made.ensures.cuts c.none-made.ensures.items
    (grows_both (length c.as_slice.result.now) (m + length e.puts.items) all c.none-made.result c.cut_each.new.made c.set_values.new.made (omega (arith, a)) c.in_ok-cut_each.ensures.few
    (grows_both m (length c.as_slice-2.result.now) (m + length e.puts.items) c.cut_each.new.made c.take_body.new.made c.set_values.new.made (omega (arith, b)) c.in_ok-take_body.ensures.few c.in_ok-set_values.ensures.few))
