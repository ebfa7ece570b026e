use Rattle.std.proofs.Common.{◌≡◌, ◌^◌, false, true, Bool, ap, sym, ◌∙◌}
use Rattle.std.specs.Prelude.{nat_lt, not}
use Rattle.std.proofs.lemmas.Bool.{ltb-true}
use Rattle.r4_content.specs.Held.{edits_of}
use Rattle.r4_extent_growth.specs.r4_extent_build.Growing.{end_after, end_before}
use Rattle.r4_extent_growth.specs.r4_extent_demands.Pieces.{gets_among}
use Rattle.r4_extent_shrink.proofs.Losing.{going_is, losing}
use Rattle.r4_extent_shrink.proofs.shrinking.does_lose.Goals as goal

off_if : (x : Bool) → not x ≡ true → x ≡ false
off_if true h = absurd cc
off_if false h = cc

pub returns-then-is_below-clause-loses : goal.returns-then-is_below-clause-loses
returns-then-is_below-clause-loses c quiet =
    let b = c.args.body.now in
    let e = edits_of c.args.edits.now in
    let stood = sym c.stood_in_extents.ensures ∙ c.if-not-stood_in_extents.false in
    let is = going_is b stood in
    let below : nat_lt (end_after b) (end_before b) ≡ true
    = (λ i. nat_lt (sym (c.going-going.ensures.from ∙ ap (λ r. r.0) is) i) (sym (c.going-going.ensures.to ∙ ap (λ r. r.1) is) i))
    ∙ (sym c.is_below.ensures ∙ c.if-is_below.true) in
    let none = ap (λ k. gets_among b e k (2 ^ 52)) (sym c.first_byte-first.ensures.at) ∙ (sym c.gets_some.ensures ∙ off_if c.gets_some.result quiet) in
    (c.first_byte-first.result, losing b c.first_byte-first.result e c.requires stood c.first_byte-first.ensures (ltb-true (end_after b) (end_before b) below) none)
