use Rattle.std.proofs.Common.{◌≡◌, ◌+◌, ◌∷◌, ◌∙◌, false, sym, subst}
use Rattle.std.specs.Prelude.{Some}
use Rattle.std.specs.FinMap.{find}
use Rattle.std.specs.Ordering.{nat_cmp}
use Rattle.std.proofs.lemmas.Result.{on_err_weaker, on_ok_weaker}
use Rattle.r4_base.specs.Key.{rank}
use Rattle.r4_content.specs.Entries.{replace}
use Rattle.r4_content.specs.Objects.{entry_rank, is_same_target}
use Rattle.r4_content.specs.Walk.{target_in}
use Rattle.r4_content.specs.Ways.{object_at}
use Rattle.r4_dir.specs.Coming.{object_of}
use Rattle.r4_gather.specs.Asking.{EndsIn, IsAt}
use Rattle.r4_gather.proofs.Beginning.{always_err, later_both}
use Rattle.r4_gather.proofs.Quiet.{move_goes, move_stops}
use Rattle.r4_gather.proofs.moves.see_move.Goals as goal

pub returns-in_err-target-clause-stops : goal.returns-in_err-target-clause-stops
returns-in_err-target-clause-stops g c dir n =
    let old = g.S.Sight.state c.args.sight.now in
    let mid = g.S.Sight.state c.see_target.new.sight in
    let stops = subst (λ k. EndsIn mid.asked ((rank k, rank k + 1) ∷ old.asked)) c.name_key-key.ensures
    c.in_err-target.ensures.stops in
    always_err c.from_residual.result (move_stops dir n (object_of c.args.ends.now.object)
    (object_of c.args.ends.now.new_dir) c.args.new_name.now old mid stops)

pub returns-in-Some-2-clause-asked : goal.returns-in-Some-2-clause-asked
returns-in-Some-2-clause-asked g c dir n =
    let old = g.S.Sight.state c.args.sight.now in
    let mid = g.S.Sight.state c.see_target.new.sight in
    let seen = g.S.Sight.state c.see_object.new.sight in
    let new = g.S.Sight.state c.see_old.new.sight in
    let o = object_of c.args.ends.now.object in
    let nd = object_of c.args.ends.now.new_dir in
    let m = c.args.new_name.now in
    let t = c.in-Some.target in
    let is = subst (λ k. mid.asked ≡ (rank k, rank k + 1) ∷ old.asked) c.name_key-key.ensures
    c.in_ok-target.ensures.asked in
    let target : target_in m (find nat_cmp (entry_rank nd.target m) mid.seen) ≡ Some t =
    subst (λ k. target_in m (find nat_cmp (rank k) mid.seen)
    ≡ Some t) c.name_key-key.ensures (sym c.in_ok-target.ensures.target ∙ c.in-Some.is) in
    let other : is_same_target t o.target ≡ false = sym c.is_same_target.ensures ∙ c.if-is_same_target.false in
    let at : IsAt (object_at t) mid seen (object_of c.in-Some-2.old) = rw c.in-Some-2.is at c.in_ok-old.ensures.comes
    in
    on_ok_weaker c.see_old.result (λ h last l.
    let below = later_both seen new last c.see_old.ensures.later l in
    move_goes dir n o nd m old mid is t target other last (later_both mid seen last c.in_ok-old.ensures.later below)
    ∙ at (replace dir n o nd m) last below ∙ h last l) (c.see_old.ensures.asked dir nd n m)

pub returns-in-Some-2-clause-stops : goal.returns-in-Some-2-clause-stops
returns-in-Some-2-clause-stops g c dir n =
    let old = g.S.Sight.state c.args.sight.now in
    let mid = g.S.Sight.state c.see_target.new.sight in
    let seen = g.S.Sight.state c.see_object.new.sight in
    let new = g.S.Sight.state c.see_old.new.sight in
    let o = object_of c.args.ends.now.object in
    let nd = object_of c.args.ends.now.new_dir in
    let m = c.args.new_name.now in
    let t = c.in-Some.target in
    let is = subst (λ k. mid.asked ≡ (rank k, rank k + 1) ∷ old.asked) c.name_key-key.ensures
    c.in_ok-target.ensures.asked in
    let target : target_in m (find nat_cmp (entry_rank nd.target m) mid.seen) ≡ Some t =
    subst (λ k. target_in m (find nat_cmp (rank k) mid.seen)
    ≡ Some t) c.name_key-key.ensures (sym c.in_ok-target.ensures.target ∙ c.in-Some.is) in
    let other : is_same_target t o.target ≡ false = sym c.is_same_target.ensures ∙ c.if-is_same_target.false in
    let at : IsAt (object_at t) mid seen (object_of c.in-Some-2.old) = rw c.in-Some-2.is at c.in_ok-old.ensures.comes
    in
    on_err_weaker c.see_old.result (λ h last l.
    let below = later_both seen new last c.see_old.ensures.later l in
    subst (λ xs. EndsIn new.asked xs)
    (sym (move_goes dir n o nd m old mid is t target other last
    (later_both mid seen last c.in_ok-old.ensures.later below)
    ∙ at (replace dir n o nd m) last below)) (h last l)) (c.see_old.ensures.stops dir nd n m)
