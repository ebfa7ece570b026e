use Rattle.std.proofs.Common.{◌≡◌, ◌∙◌, ℕ, List, take, length, inr, sym, arith}
use Rattle.std.proofs.lemmas.List.{length-take-le}
use Rattle.r4_cde.proofs.Edits.{Edited}
use Rattle.r4_cde.proofs.Carried.{edited_laid}
use Rattle.r4_cde.proofs.Cuts.{cutting, body_laid, cut_order, can_cut, cut_edited, cut_entries, cut_all, cut_accepted}
use Rattle.r4_cde.proofs.edit.cut.Goals as goal

pub edge_of-begin-requires-clause-laid : goal.edge_of-begin-requires-clause-laid
edge_of-begin-requires-clause-laid c = body_laid (take c.args.used c.args.body.now) c.requires.lawful

pub edge_of-end-requires-clause-laid : goal.edge_of-end-requires-clause-laid
edge_of-end-requires-clause-laid c = body_laid (take c.args.used c.args.body.now) c.requires.lawful

pub overflow_sub-place-2 : goal.overflow_sub-place-2
overflow_sub-place-2 c =
    let t = take c.args.used c.args.body.now in
    let up = cut_order t c.args.from c.args.to c.edge_of-begin.result c.edge_of-end.result (body_laid t c.requires.lawful) c.requires.order c.requires.within c.edge_of-begin.ensures c.edge_of-end.ensures in
    omega arith

pub apply-left-requires : goal.apply-left-requires
apply-left-requires c = can_cut c.args.used c.args.from c.args.to c.edge_of-begin.result c.edge_of-end.result c.args.body.now c.requires.short c.requires.inside (body_laid (take c.args.used c.args.body.now) c.requires.lawful) c.requires.order c.requires.within c.edge_of-begin.ensures c.edge_of-end.ensures

pub returns-then-left-eq-COUNT-clause-entries : goal.returns-then-left-eq-COUNT-clause-entries
returns-then-left-eq-COUNT-clause-entries c item =
    let t : List ℕ = take c.args.used c.args.body.now in
    let d : List ℕ = take c.apply-left.result c.apply-left.new.body in
    let e : Edited (cutting c.args.from c.args.to c.edge_of-begin.result c.edge_of-end.result) t d = cut_edited c.args.used c.apply-left.result c.args.from c.args.to c.edge_of-begin.result c.edge_of-end.result c.args.body.now c.apply-left.new.body c.requires.short c.requires.inside (body_laid t c.requires.lawful) c.requires.order c.requires.within c.edge_of-begin.ensures c.edge_of-end.ensures c.apply-left.ensures in
    let long : length d ≡ c.apply-left.result = length-take-le c.apply-left.result c.apply-left.new.body (omega arith) in
    cut_all item c.apply-left.new.body d (edited_laid (cutting c.args.from c.args.to c.edge_of-begin.result c.edge_of-end.result) t d e) (omega arith)
    ∙ cut_entries item c.args.from c.args.to c.edge_of-begin.result c.edge_of-end.result t d c.requires.order e

pub returns-else-left-eq-COUNT-clause-entries : goal.returns-else-left-eq-COUNT-clause-entries
returns-else-left-eq-COUNT-clause-entries c item =
    let t : List ℕ = take c.args.used c.args.body.now in
    let d : List ℕ = take c.apply-left.result c.apply-left.new.body in
    let e : Edited (cutting c.args.from c.args.to c.edge_of-begin.result c.edge_of-end.result) t d = cut_edited c.args.used c.apply-left.result c.args.from c.args.to c.edge_of-begin.result c.edge_of-end.result c.args.body.now c.apply-left.new.body c.requires.short c.requires.inside (body_laid t c.requires.lawful) c.requires.order c.requires.within c.edge_of-begin.ensures c.edge_of-end.ensures c.apply-left.ensures in
    cut_entries item c.args.from c.args.to c.edge_of-begin.result c.edge_of-end.result t d c.requires.order e

pub returns-else-left-eq-COUNT-clause-lawful : goal.returns-else-left-eq-COUNT-clause-lawful
returns-else-left-eq-COUNT-clause-lawful c item ok =
    let t : List ℕ = take c.args.used c.args.body.now in
    let d : List ℕ = take c.apply-left.result c.apply-left.new.body in
    let e : Edited (cutting c.args.from c.args.to c.edge_of-begin.result c.edge_of-end.result) t d = cut_edited c.args.used c.apply-left.result c.args.from c.args.to c.edge_of-begin.result c.edge_of-end.result c.args.body.now c.apply-left.new.body c.requires.short c.requires.inside (body_laid t c.requires.lawful) c.requires.order c.requires.within c.edge_of-begin.ensures c.edge_of-end.ensures c.apply-left.ensures in
    let long : length d ≡ c.apply-left.result = length-take-le c.apply-left.result c.apply-left.new.body (omega arith) in
    inr (cut_accepted item c.args.from c.args.to c.edge_of-begin.result c.edge_of-end.result t d ok e (λ two. c.if-left-eq-COUNT.false (sym long ∙ two)))
