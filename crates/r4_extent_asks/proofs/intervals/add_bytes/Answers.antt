use Rattle.std.proofs.Common.{◌≡◌, ◌+◌, ◌≤◌, ℕ, [], ◌∷◌, arith, ap, false, length, rules, sym, ◌∙◌}
use Rattle.std.specs.Prelude.{◌==◌, ◌^◌}
use Rattle.std.proofs.lemmas.Bool.{eqb-false}
use Rattle.r4_base.specs.Key.{rank}
use Rattle.r4_base.proofs.Keys.{is_key}
use Rattle.r4_content.specs.Edited.{is_in, put_keys}
use Rattle.r4_content.specs.Objects.{byte_pairs}
use Rattle.r4_twig_asks.proofs.r4_graft.Halves.{later_rank}
use Rattle.r4_twig_asks.proofs.r4_leaf_edits.Spelled.{offset_is}
use Rattle.r4_extent_asks.specs.Widening.{widened}
use Rattle.r4_extent_asks.proofs.Adding.{adds_one, bytes_in, ends_before}
use Rattle.r4_extent_asks.proofs.intervals.add_bytes.Goals as goal

some_of : (n : ℕ) → (n == 0) ≡ false → 1 ≤ n
some_of n e = let h = eqb-false n 0 e in omega (arith, h)

pub behind-requires : goal.behind-requires
behind-requires c =
    let is = is_key c.args.from (search rules) (search rules) (search rules) (search rules) (search rules) in
    let short = ends_before (rank c.args.from) c.args.bytes.now
    (some_of (length c.args.bytes.now) (sym c.if-not-is_empty.ensures)) c.requires in
    let offset = offset_is c.args.from is in
    omega (arith, short, offset)

pub returns-in_ok-push : goal.returns-in_ok-push
returns-in_ok-push c =
    let end : rank c.behind.result ≡ rank c.args.from + length c.args.bytes.now = ap rank c.behind.ensures
    ∙ later_rank c.args.from (length c.args.bytes.now) in
    let some = some_of (length c.args.bytes.now) (sym c.if-not-is_empty.ensures) in
    adds_one c.args.keys.now.items c.push.new.self.items (record { from = c.args.from; to = c.behind.result })
    (put_keys (byte_pairs (rank c.args.from) c.args.bytes.now)) c.in_ok-push.ensures.items
    (λ b k low. ap (λ (n : ℕ). is_in (widened b (rank c.args.from, n) ∷ []) k) end
    ∙ bytes_in b k (2 ^ 30) (rank c.args.from) c.args.bytes.now some c.requires)
