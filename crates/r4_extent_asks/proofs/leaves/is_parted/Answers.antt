use Rattle.std.proofs.Common.{◌≡◌, ℕ, sym, ◌∙◌}
use Rattle.std.specs.Option.{option_copied}
use Rattle.std.specs.Prelude.{nat_lt}
use Rattle.std.proofs.lemmas.Bool.{ltb-false}
use Rattle.r4_base.specs.Key.{rank}
use Rattle.r4_units.specs.r4_cell.Seen.{node_of}
use Rattle.r4_content.specs.Held.{edits_of}
use Rattle.r4_twig_asks.specs.r4_reach.Needs.{units_after}
use Rattle.r4_extent_asks.proofs.Staying.{cut_as, cut_low, cut_none, none_behind}
use Rattle.r4_extent_asks.proofs.leaves.is_parted.Goals as goal

pub returns-then-not-is_below : goal.returns-then-not-is_below
returns-then-not-is_below c =
    let x = c.args.leaf.now in
    let b = option_copied c.args.body in
    let e = edits_of c.args.edits.now in
    let us = units_after b e (node_of x) in
    let come : ℕ × ℕ = (rank c.args.come.now.from, rank c.args.come.now.to) in
    let low : c.is_below.result ≡ nat_lt (rank x.lo) (rank c.args.come.now.from) = c.is_below.ensures
    ∙ (λ i. nat_lt (rank (c.lo.ensures i)) (rank c.args.come.now.from)) in
    cut_low come x us (sym low ∙ c.if-not-is_below.true)

pub returns-then-not-is_below-2 : goal.returns-then-not-is_below-2
returns-then-not-is_below-2 c =
    let x = c.args.leaf.now in
    let b = option_copied c.args.body in
    let e = edits_of c.args.edits.now in
    let us = units_after b e (node_of x) in
    let come : ℕ × ℕ = (rank c.args.come.now.from, rank c.args.come.now.to) in
    let low : c.is_below.result ≡ nat_lt (rank x.lo) (rank c.args.come.now.from) = c.is_below.ensures
    ∙ (λ i. nat_lt (rank (c.lo.ensures i)) (rank c.args.come.now.from)) in
    let high : c.is_below-2.result ≡ nat_lt (rank c.args.come.now.to) (rank x.hi) = c.is_below-2.ensures
    ∙ (λ i. nat_lt (rank c.args.come.now.to) (rank (c.hi.ensures i))) in
    cut_none come x us (none_behind b e x (rank c.args.come.now.to)
    (ltb-false (rank c.args.come.now.to) (rank x.hi) (sym high ∙ c.if-not-is_below-2.true)))

pub returns : goal.returns
returns c =
    let x = c.args.leaf.now in
    let b = option_copied c.args.body in
    let e = edits_of c.args.edits.now in
    let us = units_after b e (node_of x) in
    let come : ℕ × ℕ = (rank c.args.come.now.from, rank c.args.come.now.to) in
    let low : c.is_below.result ≡ nat_lt (rank x.lo) (rank c.args.come.now.from) = c.is_below.ensures
    ∙ (λ i. nat_lt (rank (c.lo.ensures i)) (rank c.args.come.now.from)) in
    cut_as come x us c.in_ok-behind.behind (sym low ∙ c.if-not-is_below.false) c.in_ok-behind.ensures
