-- Changes without effect, of which one follows the other, are one.
use Rattle.std.proofs.Common.{◌≡◌, inl, inr, ℕ, false, List, ◌++◌, None, sym, ap, subst, ◌∙◌, refl}
use Rattle.std.specs.Prelude.{Contains, not}
use Rattle.std.specs.List.{filter}
use Rattle.std.specs.Option.{option_or}
use Rattle.std.proofs.lemmas.List.{append_assoc}
use Rattle.std.proofs.lemmas.List.Elements.{Contains-append_cases, Contains-append_left, filter-append}
use Rattle.r4_base.specs.Tree.{Root, Store}
use Rattle.r4_base.specs.Value.{Value}
use Rattle.r4_work.specs.r4_cell.Patch.{HaveNames, Patch, join, place, root_after}
use Rattle.r4_work.specs.r4_cell.Seen.{CellSeen}
use Rattle.r4_work.specs.r4_cell.declared.change.Change.{Change}
use Rattle.r4_work.specs.r4_patch.Effect.{HasEffect}
use Rattle.r4_work.specs.r4_patch.Following.{AreInTurn, IsFollowed, is_among, without}
use Rattle.r4_work.specs.r4_patch.Joining.{ids_of, patch_of_change}
use Rattle.r4_work.specs.r4_patch.Part.{MeetsPart}
use Rattle.r4_work.proofs.r4_patch.Effects.{effects_follow}
use Rattle.r4_work.proofs.r4_patch.Followed.{followed_change, followed_meets, followed_same, in_without}
use Rattle.r4_work.proofs.r4_patch.LeftOut.{among_contained}
use Rattle.r4_row_gather.specs.Gathering.{HasTwigOf, IsBroughtBelow, IsStill, StandIn, StaysStill}
use Rattle.r4_row_gather.specs.declared.gathering.Gathered.{Gathered}
use Rattle.r4_row_gather.proofs.Numbers.{from_cells, new_number, old_numbers, second_number, without_twice}
use Rattle.r4_row_gather.proofs.Still.{alone, part_now, root_stays, stand_now}

module _ (cells : List CellSeen) (one two : Gathered) (first : StaysStill cells one) (second : StaysStill one.cells two)
    (both : Gathered) (f : IsFollowed one.change two.change both.change) (cells_are : both.cells ≡ two.cells) where
  abbrev c : Change
  c = both.change

  abbrev p : Patch Value
  p = patch_of_change one.change

  module _ (t : Store Value) (r : Root) (within : StandIn t r cells) where
    then_stand : StandIn (place p t) r one.cells
    then_stand = record {
      part = part_now cells one first t r within.part within.stand;
      stand = stand_now cells one first t r within.part within.stand;
    }

    kept : IsStill t r one.change
    kept = first.still t r within

    next : IsStill (place p t) r two.change
    next = second.still (place p t) r then_stand

    in_turn : AreInTurn one.change two.change t r
    in_turn = record {
      part = within.part;
      one_is = kept.change;
      one_meets = kept.meets;
      two_is = next.change;
      two_meets = subst (λ x. MeetsPart (patch_of_change two.change) (place p t) x)
          (sym (root_stays cells one first t r within.part within.stand)) next.meets;
    }

    both_still : IsStill t r c
    both_still = record {
      change = followed_change one.change two.change c t r in_turn f;
      meets = followed_meets one.change two.change c t r in_turn f;
      effect = subst (λ (x : Patch Value). HasEffect x (λ k. false) (λ k. None)) (sym (followed_same one.change two.change c t r in_turn f))
          (alone (join p (patch_of_change two.change)) (λ k. false) (λ k. None)
          (effects_follow p (patch_of_change two.change) t r within.part kept.change.patch kept.meets next.change.patch in_turn.two_meets
          (λ k. false) (λ k. false) (λ k. None) (λ k. None) kept.effect next.effect));
    }

  old_numbered : (i : ℕ) → Contains (ids_of two.change.old) i → Contains (ids_of c.old) i
  old_numbered i at = second_number cells one first two.change c f second.old i (among_contained (ids_of two.change.old) i at)

  numbered : (y : CellSeen) → Contains c.new y → Contains (ids_of c.old) y.id
  numbered y at = elim (Contains-append_cases two.change.new (without (ids_of two.change.old) one.change.new) y
      (subst (λ xs. Contains xs y) f.new at)) [
        | inl own ↦ old_numbered y.id (second.new y own)
        | inr rest ↦ new_number cells one first two.change c f second.old y
            (in_without (ids_of two.change.old) one.change.new y rest).0
      ]

  stand : both.cells ≡ c.new ++ without (ids_of c.old) cells
  stand =
      let a = ids_of one.change.old in
      let b = ids_of two.change.old in
      let test : CellSeen → _ = λ x. not (is_among b x.id) in
      cells_are ∙ (second.stand
      ∙ (ap (λ (xs : List CellSeen). two.change.new ++ without b xs) first.stand
      ∙ (ap (λ (xs : List CellSeen). two.change.new ++ xs) (filter-append test one.change.new (without a cells))
      ∙ (sym (append_assoc two.change.new (without b one.change.new) (without b (without a cells)))
      ∙ (λ i. sym f.new i ++ without_twice a b (ids_of c.old) cells (old_numbers cells one first two.change c f second.old) i)))))

  pub both_stay : StaysStill cells both
  both_stay = record {
    still = both_still;
    root = f.root ∙ (λ i. option_or (second.root i) (first.root i));
    old = from_cells cells one first two.change c f second.old;
    new = numbered;
    stand = stand;
    names = λ t r within names. subst HaveNames (sym cells_are)
        (second.names (place p t) r (then_stand t r within) (first.names t r within names));
  }

  -- and what the second brings below a twig is below it
  pub both_brought : (from to : ℕ) → HasTwigOf two.change.new from to → IsBroughtBelow cells from to both
  both_brought from to has = record {
    stays = both_stay;
    below = record {
      twig = has.twig;
      is = subst (λ xs. Contains xs has.twig) (sym f.new)
          (Contains-append_left two.change.new (without (ids_of two.change.old) one.change.new) has.twig has.is);
      level = has.level;
      begins = has.begins;
      ends = has.ends;
    };
  }
