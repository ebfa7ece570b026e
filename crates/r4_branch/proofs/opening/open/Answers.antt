use Rattle.std.proofs.Common.{◌≡◌, ℕ, List, ◌+◌, ◌≤◌, length, sym, subst, ◌∙◌, arith}
use Rattle.r4_base.specs.Node.{Item}
use Rattle.r4_base.specs.declared.key.Key.{Key}
use Rattle.r4_base.proofs.Choices.{went_well}
use Rattle.r4_node40.proofs.LaidItems.{room_small}
use Rattle.r4_node40.specs.Edits.{InsertsItem}
use Rattle.r4_node40.specs.Laid.{room_of}
use Rattle.r4_node40.specs.Loan.{bytes_of}
use Rattle.r4_branch.specs.Filling.{IsPlace, need}
use Rattle.r4_branch.proofs.Opened.{grows, need_new, need_old, opened_longer, opened_new, together}
use Rattle.r4_branch.proofs.opening.open.Goals as goal

-- so much fits into a node
both_fit : (b : List ℕ) (i used more : ℕ) (it : Item) → IsPlace b i it → length it.body ≡ used → (used ≡ 0 → ⊥) → need it more ≤ room_of b → used + more ≤ 4068
both_fit b i used more it place is some room =
    let old : 1 ≤ length it.body = omega (arith, is, some) in
    let n = need_old it more old in
    let t = together b b i more (length it.body + more) it place old (omega arith) in
    let small = room_small b place.node.laid in
    omega (arith, n, t, room, is, small)

pub insert-requires-clause-short : goal.insert-requires-clause-short
insert-requires-clause-short c =
    let p = c.requires.place in
    let n = need_new p.0 c.args.more (p.2 ∙ c.if-place-eq0.true) in
    let small = room_small (bytes_of c.args.node.now) p.1.node.laid in
    let room = p.5 in
    omega (arith, n, small, room)

pub overflow_add-place : goal.overflow_add-place
overflow_add-place c =
    let p = c.requires.place in
    let h = both_fit (bytes_of c.args.node.now) c.args.place.item c.args.place.used c.args.more p.0 p.1 p.2 c.if-place-eq0.false p.5 in
    omega (arith, h)

pub resize-requires-clause-short : goal.resize-requires-clause-short
resize-requires-clause-short c =
    let p = c.requires.place in
    let h = both_fit (bytes_of c.args.node.now) c.args.place.item c.args.place.used c.args.more p.0 p.1 p.2 c.if-place-eq0.false p.5 in
    omega (arith, h)

pub returns-then-place-eq0-clause-opens : goal.returns-then-place-eq0-clause-opens
returns-then-place-eq0-clause-opens c = λ it place used plugin key room.
    let none : length it.body ≡ 0 = used ∙ c.if-place-eq0.true in
    let n = need_new it c.args.more none in
    let put = went_well c.insert.result _ (c.insert.ensures.fits.1 (omega (arith, n, room))) c.insert.ensures.ok in
    opened_new (bytes_of c.args.node.now) (bytes_of c.insert.new.self) c.args.place.item c.args.more it place none
    (subst (λ (k : Key). InsertsItem (bytes_of c.args.node.now) c.args.place.item k it.plugin c.args.more (bytes_of c.insert.new.self)) (sym (key c.if-place-eq0.true))
    (subst (λ p. InsertsItem (bytes_of c.args.node.now) c.args.place.item c.args.key.now p c.args.more (bytes_of c.insert.new.self)) (sym plugin) put))

pub returns-else-place-eq0-clause-opens : goal.returns-else-place-eq0-clause-opens
returns-else-place-eq0-clause-opens c = λ it place used plugin key room.
    let some : 1 ≤ length it.body = let not_zero = c.if-place-eq0.false in omega (arith, used, not_zero) in
    let n = need_old it c.args.more some in
    let is : c.args.place.used + c.args.more ≡ length it.body + c.args.more = omega (arith, used) in
    let g = grows (bytes_of c.args.node.now) (bytes_of c.resize.new.self) c.args.place.item c.args.more (c.args.place.used + c.args.more) it place some is in
    let put = went_well c.resize.result _ (c.resize.ensures.fits.1 (omega (arith, n, room, g))) c.resize.ensures.ok in
    opened_longer (bytes_of c.args.node.now) (bytes_of c.resize.new.self) c.args.place.item c.args.more (c.args.place.used + c.args.more) it place some is put
