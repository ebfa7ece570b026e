use Rattle.std.proofs.Common.{inl, inr, refl, arith}
use Rattle.r4_list.specs.Lists.{root_name_of}
use Rattle.r4_check.specs.Walk.{nothing_met}
use Rattle.r4_check.proofs.Closed.{look_grows}
use Rattle.r4_check.proofs.Kept.{IsSoundWhole, look_keeps, no_cell, sound_kept}
use Rattle.r4_check.proofs.laws.whole_walks_are_closed.Goals as goal

pub returns-clause-sound : goal.returns-clause-sound
returns-clause-sound c s image = look_keeps IsSoundWhole s.block_count image (sound_kept s.block_count image) s.tree_height nothing_met (root_name_of s) (λ none. refl)

pub returns-clause-root : goal.returns-clause-root
returns-clause-root c s image whole = (look_grows s.block_count image s.tree_height nothing_met (root_name_of s) (omega arith) whole).1

pub returns-clause-named : goal.returns-clause-named
returns-clause-named c s image i d n whole at named =
    let grows = (look_grows s.block_count image s.tree_height nothing_met (root_name_of s) (omega arith) whole).0 in
    elim (grows.closed i d at) [
      | inl never ↦ absurd (no_cell i d never)
      | inr all ↦ all n named
    ]
