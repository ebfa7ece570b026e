use Rattle.std.proofs.Common.{◌≡◌, ◌-◌, ℕ, [], ◌∷◌, ap, arith, sym, ◌∙◌}
use Rattle.std.specs.Prelude.{◌^◌, length, replicate}
use Rattle.std.proofs.lemmas.Bool.{ltb-true}
use Rattle.std.proofs.lemmas.List.{length-replicate}
use Rattle.r4_base.specs.Key.{rank}
use Rattle.r4_content.specs.Edited.{is_in, put_keys}
use Rattle.r4_content.specs.Held.{fill_pairs}
use Rattle.r4_extent_asks.specs.Widening.{widened}
use Rattle.r4_extent_asks.proofs.Adding.{adds_one, bytes_in}
use Rattle.r4_extent_asks.proofs.intervals.add_filled.Goals as goal

pub returns-in_ok-push : goal.returns-in_ok-push
returns-in_ok-push c =
    let f = c.args.fill.now in
    let xs = replicate (rank f.to - rank f.from) f.byte in
    let long : length xs ≡ rank f.to - rank f.from = length-replicate (rank f.to - rank f.from) f.byte in
    let lt = ltb-true (rank f.from) (rank f.to) (sym c.if-is_below.ensures) in
    adds_one c.args.keys.now.items c.push.new.self.items (record { from = f.from; to = f.to })
    (put_keys (fill_pairs f)) c.in_ok-push.ensures.items
    (λ b k low. ap (λ (n : ℕ). is_in (widened b (rank f.from, n) ∷ []) k) (omega (arith, long, lt))
    ∙ bytes_in b k (2 ^ 30) (rank f.from) xs (omega (arith, long, lt)) c.requires)
