use Rattle.std.proofs.Common.{◌≡◌, ℕ, List, ◌+◌, ◌++◌, ◌≤◌, length, take, sym, ap, subst, ◌∙◌, arith}
use Rattle.std.proofs.lemmas.List.{length-append}
use Rattle.r4_base.specs.Lending.{written}
use Rattle.r4_base.specs.Node.{Item, offset_at}
use Rattle.r4_node40.proofs.LaidItems.{room_small}
use Rattle.r4_node40.specs.Laid.{room_of, span_at}
use Rattle.r4_node40.specs.Loan.{bytes_of}
use Rattle.r4_node40.proofs.Bodies.{body_lent}
use Rattle.r4_leaf.specs.Filling.{Holds, Opens, need}
use Rattle.r4_leaf.proofs.Opened.{need_least}
use Rattle.r4_leaf.proofs.opening.put_bytes_at.Goals as goal

pub overflow_cast-len : goal.overflow_cast-len
overflow_cast-len c =
    let p = c.requires.place in
    let n = need_least p.0 (length c.args.bytes.now) in
    let small = room_small (bytes_of c.args.node.now) p.1.node.laid in
    let room = p.5 in
    let long = c.len.ensures in
    omega (arith, n, small, room, long)

pub write_behind-requires : goal.write_behind-requires
write_behind-requires c =
    let p = c.requires.place in
    let o = c.open.ensures.opens p.0 p.1 p.2 p.3 p.4 (subst (λ n. need p.0 n ≤ room_of (bytes_of c.args.node.now)) (sym c.len.ensures) p.5) in
    let long = o.long in
    let same = ap length c.body_mut.ensures.value in
    let used = p.2 in
    let more = c.len.ensures in
    omega (arith, long, same, used, more)

held : (old mid : List ℕ) (i used more : ℕ) (it : Item) (bytes body : List ℕ) → more ≡ length bytes → length it.body ≡ used → Opens old i it more mid → body ≡ take used (span_at mid i i) ++ bytes → Holds old i it (it.body ++ bytes) (written mid (offset_at mid i) body)
held old mid i used more it bytes body many is opens e =
    let o = subst (λ n. Opens old i it n mid) many opens in
    let same : body ≡ it.body ++ bytes = e ∙ ap (λ xs. xs ++ bytes) (ap (λ n. take n (span_at mid i i)) (sym is) ∙ o.keeps) in
    let long : length (it.body ++ bytes) ≡ length it.body + length bytes = length-append it.body bytes in
    subst (λ xs. Holds old i it (it.body ++ bytes) (written mid (offset_at mid i) xs)) (sym same)
    (o.written (it.body ++ bytes) (written mid (offset_at mid i) (it.body ++ bytes)) long (body_lent mid (it.body ++ bytes) i o.laid o.within (long ∙ sym o.long)))

pub returns-clause-holds : goal.returns-clause-holds
returns-clause-holds c = λ it place used plugin key room.
    held (bytes_of c.args.node.now) (bytes_of c.open.new.node) c.args.place.item c.args.place.used c.len.result it c.args.bytes.now c.write_behind.new.body c.len.ensures used
    (c.open.ensures.opens it place used plugin key (subst (λ n. need it n ≤ room_of (bytes_of c.args.node.now)) (sym c.len.ensures) room))
    (c.write_behind.ensures ∙ ap (λ xs. take c.args.place.used xs ++ c.args.bytes.now) c.body_mut.ensures.value)
