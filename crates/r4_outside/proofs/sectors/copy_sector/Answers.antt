use Rattle.std.proofs.Common.{refl, ◌+◌, ◌*◌, ◌-◌, ℕ, take, drop, ap, ◌∙◌, arith}
use Rattle.r4_outside.proofs.Mixing.{copies}
use Rattle.r4_outside.proofs.sectors.copy_sector.Goals as goal

pub returns : goal.returns
returns c =
    let s = c.args.s in
    copies (512 * s) s _ c.args.from.now c.args.into.now c.copy_from_slice.new.self refl (omega arith) c.requires.s c.requires.into (omega (arith, c.copy_from_slice.ensures.len, c.requires.into, c.requires.s))
    (c.copy_from_slice.ensures.after ∙ ap (λ (k : ℕ). take k (drop (512 * s) c.args.from.now)) {x = 512 * s + 512 - 512 * s} {y = 512} (omega arith))
