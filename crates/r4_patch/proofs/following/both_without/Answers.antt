use Rattle.std.proofs.Common.{◌≡◌, ℕ, ◌++◌, List, map, sym, ap, ◌∙◌}
use Rattle.std.specs.Arc.{arc_value}
use Rattle.r4_cell.specs.Seen.{CellSeen}
use Rattle.r4_patch.specs.Following.{without}
use Rattle.r4_patch.specs.Joining.{ids_of}
use Rattle.r4_patch.proofs.LeftOut.{without_moved}
use Rattle.r4_patch.proofs.following.both_without.Goals as goal

pub returns : goal.returns
returns c =
    c.from_vec.ensures
    ∙ (c.in_ok-share_without.ensures
    ∙ (ap (λ (xs : List CellSeen). xs ++ without c.as_slice-3.result.now (map (λ cell. arc_value cell) c.as_slice-2.result.now)) shared
    ∙ ap (λ (xs : List CellSeen). c.args.first.now ++ xs) rest))
  where
    shared : map (λ cell. arc_value cell) c.share.new.items.items ≡ c.args.first.now
    shared = c.in_ok-share.ensures ∙ ap (λ xs. map (λ cell. arc_value cell) xs ++ map (λ cell. arc_value cell) c.as_slice.result.now) c.new-items.ensures.items ∙ c.as_slice.ensures

    rest : without c.as_slice-3.result.now (map (λ cell. arc_value cell) c.as_slice-2.result.now) ≡ without (ids_of c.args.others.now) c.args.second.now
    rest =
        ap (λ (ids : List ℕ). without ids (map (λ cell. arc_value cell) c.as_slice-2.result.now)) c.as_slice-3.ensures.value
        ∙ (ap (without c.in_ok-ids.ids.items) c.as_slice-2.ensures
        ∙ sym (without_moved (ids_of c.args.others.now) c.in_ok-ids.ids.items c.in_ok-ids.ensures.moved c.args.second.now))
