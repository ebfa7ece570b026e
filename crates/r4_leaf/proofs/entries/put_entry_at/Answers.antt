use Rattle.std.proofs.Common.{◌≡◌, ℕ, List, ◌≤◌, length, take, sym, ap, ◌∙◌, arith}
use Rattle.r4_base.specs.Lending.{written}
use Rattle.r4_base.specs.Dir.{Entry}
use Rattle.r4_base.specs.Node.{Item, offset_at}
use Rattle.r4_node40.specs.Laid.{span_at}
use Rattle.r4_node40.specs.Loan.{bytes_of}
use Rattle.r4_node40.proofs.Bodies.{body_lent}
use Rattle.r4_cde.specs.Shown.{entry_shown}
use Rattle.r4_leaf.specs.Filling.{HasEntry, Holds, Opens, entry_need, need}
use Rattle.r4_leaf.proofs.entries.put_entry_at.Goals as goal

held : (old mid : List ℕ) (i used at more : ℕ) (it : Item) (e : Entry) (ws : List ℕ) → length it.body ≡ used → more ≡ entry_need used e → Opens old i it more mid → HasEntry it e ws → Holds old i it ws (written mid (offset_at mid i) ws)
held old mid i used at more it e ws long is o h =
    let same = ap (λ n. entry_need n e) long in
    let l = h.long in
    let span = o.long in
    o.written ws (written mid (offset_at mid i) ws) (omega (arith, same, l, is)) (body_lent mid ws i o.laid o.within (omega (arith, same, l, is, span)))

open_need : (it : Item) (used n more r : ℕ) → n ≡ more → need it more ≤ r → need it n ≤ r
open_need it used n more r is le = let same = ap (need it) is in omega (arith, same, le)

kept : (old mid body : List ℕ) (i used more : ℕ) (it : Item) → length it.body ≡ used → Opens old i it more mid → body ≡ span_at mid i i → take used body ≡ it.body
kept old mid body i used more it long o value = ap (take used) value ∙ (ap (λ n. take n (span_at mid i i)) (sym long) ∙ o.keeps)

pub returns-clause-holds : goal.returns-clause-holds
returns-clause-holds c = λ it t room.
    let o = c.open.ensures.opens it t.place t.receives.long t.plugin t.receives.new (open_need it c.args.place.used c.need_of.result (entry_need c.args.place.used (entry_shown c.args.entry.now)) _ c.need_of.ensures.need room) in
    let h = c.write_entry.ensures it t.receives (kept (bytes_of c.args.node.now) (bytes_of c.open.new.node) c.body_mut.result.now c.args.place.item c.args.place.used c.need_of.result it t.receives.long o c.body_mut.ensures.value) in
    (c.write_entry.new.body, h, held (bytes_of c.args.node.now) (bytes_of c.open.new.node) c.args.place.item c.args.place.used c.args.at c.need_of.result it (entry_shown c.args.entry.now) c.write_entry.new.body t.receives.long c.need_of.ensures.need o h)
