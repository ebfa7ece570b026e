use Rattle.std.proofs.Common.{arith, rules}
use Rattle.std.proofs.lemmas.Option.{same_Some}
use Rattle.r4_base.specs.Key.{rank}
use Rattle.r4_base.proofs.Keys.{is_key}
use Rattle.r4_graft.proofs.Objects.{same_object}
use Rattle.r4_graft.proofs.parting.bytes_before.Goals as goal
use Rattle.r4_graft.proofs.parting.bytes_before.Goals.{then-key-end-via-then-key-end, then-key-end-via-else-key-end+then-key-end-2, then-key-end-via-else-key-end+else-key-end-2+then-key-end-3}

pub returns-then-key-end-clause-none : goal.returns-then-key-end-clause-none
returns-then-key-end-clause-none c = λ e n fits low high.
    let s = same_object c.args.key.now c.args.end.now n (is_key c.args.key.now (search rules) (search rules) (search rules) (search rules) (search rules)) (is_key c.args.end.now (search rules) (search rules) (search rules) (search rules) (search rules)) fits low high in
    elim c.then-key-end.branch [
      | then-key-end-via-then-key-end w ↦ let no = w.if-key-end.true in omega (arith, s, no)
      | then-key-end-via-else-key-end+then-key-end-2 w ↦ let no = w.if-key-end-2.true in omega (arith, s, no)
      | then-key-end-via-else-key-end+else-key-end-2+then-key-end-3 w ↦ let no = w.if-key-end-3.true in omega (arith, s, no)
    ]

pub returns-then-end-key-clause-none : goal.returns-then-end-key-clause-none
returns-then-end-key-clause-none c = λ e n fits low high.
    let s = same_object c.args.key.now c.args.end.now n (is_key c.args.key.now (search rules) (search rules) (search rules) (search rules) (search rules)) (is_key c.args.end.now (search rules) (search rules) (search rules) (search rules) (search rules)) fits low high in
    let not = c.if-end-key.true in
    omega (arith, s, not)

pub returns-clause-bytes : goal.returns-clause-bytes
unfolding rank
returns-clause-bytes c = λ n is.
    let v = same_Some _ _ is in
    let a = c.if-key-end.false in
    let b = c.if-key-end-2.false in
    let d = c.if-key-end-3.false in
    let e = c.if-end-key.false in
    omega (arith, v, a, b, d, e)
