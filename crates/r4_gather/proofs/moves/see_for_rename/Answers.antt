use Rattle.std.proofs.Common.{◌≡◌, ◌<◌, ◌∙◌, length, true, sym, subst, arith}
use Rattle.std.specs.Prelude.{OnErr, OnOk}
use Rattle.std.proofs.lemmas.Result.{on_err_weaker, on_ok_weaker}
use Rattle.r4_content.specs.Entries.{move}
use Rattle.r4_content.specs.Meaning.{is_path}
use Rattle.r4_dir.specs.Coming.{last_of, object_of}
use Rattle.r4_gather.specs.Asking.{EndsIn, HasAsked, IsAtEnds, StopsIn}
use Rattle.r4_gather.proofs.Beginning.{later_both}
use Rattle.r4_gather.proofs.Below.{last_is}
use Rattle.r4_gather.proofs.Quiet.{rename_is}
use Rattle.r4_gather.proofs.moves.see_for_rename.Goals as goal

pub returns-in-Some-clause-asked : goal.returns-in-Some-clause-asked
returns-in-Some-clause-asked g c =
    let from = c.args.from.now in
    let to = c.args.to.now in
    let old = g.S.Sight.state c.args.sight.now in
    let mid = g.S.Sight.state c.see_ends.new.sight in
    let new = g.S.Sight.state c.see_move.new.sight in
    let e = c.in-Some.ends in
    let f : is_path from ≡ true = grind arith in
    let t : is_path to ≡ true = grind arith in
    let some : 0 < length to = grind arith in
    let at : IsAtEnds from to old mid (object_of e.dir) (object_of e.object) (object_of e.new_dir) = rw c.in-Some.is
    at c.in_ok-ends.ensures.comes in
    let moved : OnOk c.see_move.result
    (HasAsked (move (object_of e.dir) (last_of from) (object_of e.object) (object_of e.new_dir) (last_of to)) mid
    new) =
    subst (λ m. OnOk c.see_move.result
    (HasAsked (move (object_of e.dir) (last_of from) (object_of e.object) (object_of e.new_dir) m) mid new))
    (last_is to c.index-to-to.result some c.index-to-to.is)
    (c.see_move.ensures.asked (object_of e.dir) (last_of from)) in
    on_ok_weaker c.see_move.result (λ h. subst (λ x. HasAsked x old new) (sym (rename_is from to f t some))
    (λ last l. at move last (later_both mid new last c.see_move.ensures.later l) ∙ h last l)) moved

pub returns-in-Some-clause-stops : goal.returns-in-Some-clause-stops
returns-in-Some-clause-stops g c =
    let from = c.args.from.now in
    let to = c.args.to.now in
    let old = g.S.Sight.state c.args.sight.now in
    let mid = g.S.Sight.state c.see_ends.new.sight in
    let new = g.S.Sight.state c.see_move.new.sight in
    let e = c.in-Some.ends in
    let f : is_path from ≡ true = grind arith in
    let t : is_path to ≡ true = grind arith in
    let some : 0 < length to = grind arith in
    let at : IsAtEnds from to old mid (object_of e.dir) (object_of e.object) (object_of e.new_dir) = rw c.in-Some.is
    at c.in_ok-ends.ensures.comes in
    let moved : OnErr c.see_move.result
    (StopsIn (move (object_of e.dir) (last_of from) (object_of e.object) (object_of e.new_dir) (last_of to)) mid
    new) =
    subst (λ m. OnErr c.see_move.result
    (StopsIn (move (object_of e.dir) (last_of from) (object_of e.object) (object_of e.new_dir) m) mid new))
    (last_is to c.index-to-to.result some c.index-to-to.is)
    (c.see_move.ensures.stops (object_of e.dir) (last_of from)) in
    on_err_weaker c.see_move.result (λ h. subst (λ x. StopsIn x old new) (sym (rename_is from to f t some))
    (λ last l. subst (λ xs. EndsIn new.asked xs)
    (sym (at move last (later_both mid new last c.see_move.ensures.later l))) (h last l))) moved
