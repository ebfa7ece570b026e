use Rattle.std.proofs.Common.{rules, sym, ap}
use Rattle.r4_base.proofs.Keys.{is_key}
use Rattle.r4_base.specs.declared.key.Key.{Key}
use Rattle.r4_build.specs.r4_branch.declared.piece.TwigPart.TheVariants.{Pointer}
use Rattle.r4_build.specs.r4_branch.declared.piece.TwigPiece.{TwigPiece}
use Rattle.r4_build.proofs.r4_leaf_edits.KeyRanks.{key_again}
use Rattle.r4_extent_among.proofs.putting.pointer.Goals as goal

pub returns : goal.returns
returns c = ap (λ (k : Key). let p : TwigPiece = record { key = k; part = Pointer c.args.id } in p)
    (sym (key_again c.args.key (is_key c.args.key (search rules) (search rules) (search rules) (search rules) (search rules))))
