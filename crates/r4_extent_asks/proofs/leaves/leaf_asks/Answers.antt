use Rattle.std.proofs.Common.{◌≡◌, ◌+◌, ℕ, ap, false, sym, true, ◌∙◌}
use Rattle.std.specs.Option.{option_copied}
use Rattle.std.specs.Prelude.{if◌then◌else◌, nat_lt}
use Rattle.std.proofs.lemmas.Bool.{ltb-false}
use Rattle.r4_base.specs.Key.{rank}
use Rattle.r4_units.specs.r4_cell.Seen.{node_of}
use Rattle.r4_content.specs.Held.{edits_of}
use Rattle.r4_twig_asks.specs.r4_reach.Needs.{asking, come_of, cut_in_two, is_gone, over, units_after}
use Rattle.r4_twig_asks.specs.r4_leaf.Units.{leaf_bytes}
use Rattle.r4_extent_asks.proofs.Staying.{asks_come, asks_nothing, asks_plain}
use Rattle.r4_extent_asks.proofs.leaves.leaf_asks.Goals as goal

pub returns-then-not-is_below-clause-asks : goal.returns-then-not-is_below-clause-asks
returns-then-not-is_below-clause-asks c =
    let x = c.args.leaf.now in
    let off : nat_lt (rank x.lo) (rank x.hi) ≡ false = sym (c.if-not-is_below.ensures
    ∙ (λ i. nat_lt (rank (c.lo.ensures i)) (rank (c.hi.ensures i)))) in
    sym (asks_nothing (option_copied c.args.body) (edits_of c.args.edits.now) x (ltb-false (rank x.lo) (rank x.hi) off))

pub returns-in_default-clause-asks : goal.returns-in_default-clause-asks
returns-in_default-clause-asks c =
    c.asking_for.ensures.asks
    ∙ ap (λ n. asking false (record { more = n; gone = false })) (c.over.ensures ∙ ap over c.in_ok-bytes.ensures.bytes)
    ∙ sym (asks_plain (option_copied c.args.body) (edits_of c.args.edits.now) c.args.leaf.now c.in_default.ensures)

pub returns-clause-asks : goal.returns-clause-asks
returns-clause-asks c =
    let x = c.args.leaf.now in
    let b = option_copied c.args.body in
    let e = edits_of c.args.edits.now in
    let us = units_after b e (node_of x) in
    let come_is = c.in-Some.ensures.1 in
    let parted : (if c.in_ok-parted.parted then 1 else 0) ≡ cut_in_two (come_of b) (node_of x) us = c.in_ok-parted.ensures
    ∙ ap (λ (r : ℕ × ℕ). cut_in_two r (node_of x) us) (sym come_is) in
    let more : c.more_for.result ≡ over (leaf_bytes us) + cut_in_two (come_of b) (node_of x) us = c.more_for.ensures.more
    ∙ (λ i. over (c.in_ok-bytes.ensures.bytes i) + parted i) in
    let gone : c.is_gone-gone.result ≡ is_gone (come_of b) (node_of x) us = c.is_gone-gone.ensures us c.in_ok-bytes.ensures.bytes
    ∙ ap (λ (r : ℕ × ℕ). is_gone r (node_of x) us) (sym come_is) in
    c.asking_for-2.ensures.asks ∙ (λ i. asking true (record { more = more i; gone = gone i }))
    ∙ sym (asks_come b e x c.in-Some.ensures.0)
