use Rattle.std.proofs.Common.{◌≡◌, ◌+◌, ◌≤◌, ◌||◌, ℕ, Bool, false, true, ap, refl, sym, ◌∙◌, rules, arith, length}
use Rattle.std.specs.Prelude.{◌==◌}
use Rattle.std.proofs.lemmas.Bool.{eqb-false}
use Rattle.r4_base.specs.Key.{rank}
use Rattle.r4_base.proofs.Keys.{is_key}
use Rattle.r4_content.specs.Edited.{is_between}
use Rattle.r4_content.proofs.BytePairs.{keys_in}
use Rattle.r4_leaf_edits.proofs.r4_graft.Halves.{later_rank}
use Rattle.r4_leaf_edits.proofs.Added.{run_short}
use Rattle.r4_touching.proofs.changed.keys_of_bytes.Goals as goal

some_of : (n : ℕ) → (n == 0) ≡ false → 1 ≤ n
some_of n e = let h = eqb-false n 0 e in omega (arith, h)

or_false : (b : Bool) → (b || false) ≡ b
or_false true = refl
or_false false = refl

pub behind-requires : goal.behind-requires
behind-requires c =
    let is = is_key c.args.from (search rules) (search rules) (search rules) (search rules) (search rules) in
    let short = run_short 0 0 c.args.from is c.args.bytes.now
    (some_of (length c.args.bytes.now) (sym c.if-is_empty.ensures)) c.requires in
    omega (arith, short)

pub returns : goal.returns
returns c k =
    let end : rank c.behind.result ≡ rank c.args.from + length c.args.bytes.now = ap rank c.behind.ensures
    ∙ later_rank c.args.from (length c.args.bytes.now) in
    or_false (is_between (rank c.args.from) (rank c.behind.result) k)
    ∙ (ap (λ n. is_between (rank c.args.from) n k) end ∙ sym (keys_in (rank c.args.from) c.args.bytes.now k))
