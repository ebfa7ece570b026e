use Rattle.std.proofs.Common.{◌≡◌, List, ℕ, [], ◌++◌, length, drop, ap, ◌∙◌, refl, arith}
use Rattle.std.proofs.lemmas.Bool.{le-leb}
use Rattle.std.proofs.lemmas.List.{drop_all, append-nil}
use Rattle.r4_base.specs.Bytes.{number_at, number_bytes}
use Rattle.r4_base.specs.Extents.{pointer_of}
use Rattle.r4_base.proofs.Numbers.{length-number_bytes, length-overwrite, number_at-overwrite}
use Rattle.r4_base.proofs.Stats.{overwrite_over}
use Rattle.r4_twig.proofs.pointers.put_pointer.Goals as goal

pub returns-clause-spelled : goal.returns-clause-spelled
returns-clause-spelled c =
    let bytes = number_bytes 8 c.args.to.0 in
    let n = length-number_bytes 8 c.args.to.0 in
    let none : drop (length bytes) c.args.body.now ≡ [] = drop_all (length bytes) c.args.body.now (omega arith) in
    c.put64.ensures ∙ overwrite_over 0 [] bytes c.args.body.now refl ∙ ap (λ (xs : List ℕ). bytes ++ xs) none ∙ append-nil bytes

pub returns-clause-again : goal.returns-clause-again
unfolding pointer_of
returns-clause-again c high =
    let n = length-number_bytes 8 c.args.to.0 in
    let long : length c.put64.new.b ≡ 8 = ap length c.put64.ensures ∙ length-overwrite 0 (number_bytes 8 c.args.to.0) c.args.body.now (omega arith) ∙ c.requires in
    let read : number_at 8 0 c.put64.new.b ≡ c.args.to.0 = ap (number_at 8 0) c.put64.ensures ∙ number_at-overwrite 8 0 c.args.to.0 c.args.body.now (omega arith) (omega arith) in
    rw (long, read, le-leb 22 c.args.to.0 high) refl
