-- A working set of which nothing is changed yet.
use Rattle.std.specs.Prelude.{◌≡◌, false, List, [], None, Some}
use mathlib.Core.Path.{sym, ap, subst}
use mathlib.Core.Logic.{inl, inr}
use native.Mathlib.Omega.{arith}
use Rattle.std.specs.List.Sorted.{IsPermutation}
use Rattle.std.proofs.lemmas.List.Sorted.{Contains-permutation, IsPermutation-refl, IsPermutation-sym}
use Rattle.std.proofs.lemmas.Option.{none-some}
use Rattle.r4_base.specs.Tree.{Root, Store}
use Rattle.r4_base.specs.Value.{Value}
use Rattle.r4_edit.specs.r4_cell.Patch.{IsChange, IsPatch, Patch, patch_of, place, root_after}
use Rattle.r4_edit.specs.r4_cell.Seen.{CellSeen, node_of}
use Rattle.r4_edit.specs.r4_cell.declared.change.Fresh.{Fresh}
use Rattle.r4_edit.specs.r4_patch.Effect.{HasEffect}
use Rattle.r4_edit.specs.r4_patch.Joining.{patch_of_change}
use Rattle.r4_edit.specs.r4_patch.Part.{MeetsPart}
use Rattle.r4_edit.specs.r4_path.Nodes.{IsPointable}
use Rattle.r4_edit.specs.r4_path.Steps.{IsFree}
use Rattle.r4_work.specs.Working.{AreCellsIn, IsStart, IsWorking, now_of, root_of}
use Rattle.r4_work.specs.declared.working.WorkingSet.{WorkingSet}

abbrev nothing : Patch Value
nothing = patch_of [] [] None

nothing_is_patch : IsPatch nothing
nothing_is_patch = record {
  nodes = λ i c e. absurd (none-some c e);
  covers_old = λ l k two (i, c, e, cl, at). absurd (none-some c e);
  covers_new = λ l k two (i, c, e, cl, at). absurd (none-some c e);
  new_root = λ r e. absurd (none-some r e);
  apart = λ i j c d k e h same one at_c at_d. absurd (none-some c e);
  named = λ n (i, c, e, cn). absurd (none-some c e);
  kept = λ n (i, c, e, cn) gone. absurd (none-some c e);
  replaced = λ i c e unnamed. absurd (none-some c e);
  reached = λ i c e needs. absurd (none-some c e);
  leaves_old = λ k h. elim h [ inl (i, c, e, cl, at) ↦ absurd (none-some c e) | inr (i, c, s, e, cs, at) ↦ absurd (none-some c e) ];
  leaves_new = λ k h. elim h [ inl (i, c, e, cl, at) ↦ absurd (none-some c e) | inr (i, c, s, e, cs, at) ↦ absurd (none-some c e) ];
}

nothing_is_change : IsChange [] [] None
nothing_is_change = record { old_names = λ i j d less l. absurd (omega (arith, l)); new_names = λ i j d less l. absurd (omega (arith, l)); patch = nothing_is_patch }

nothing_meets : (t : Store Value) (r : Root) → MeetsPart nothing t r
nothing_meets t r = record {
  meets = record { has_old = λ i c e. absurd (none-some c e); free = λ i c e gone. absurd (none-some c e); root_old = λ h. absurd (grind (arith, h)) };
  unnamed = λ i c e gone h. absurd (none-some c e);
}

nothing_effect : HasEffect nothing (λ k. false) (λ k. None)
nothing_effect = record {
  held = λ k h. absurd (grind (arith, h));
  there = λ k v h. absurd (grind (arith, h));
  others = λ k v h. (λ u. let (i, c, e, has, kind) = u in absurd (none-some c e), λ u. let (i, c, e, has, kind) = u in absurd (none-some c e));
}

module _ (cells : List CellSeen) (w : WorkingSet) (is : IsStart cells w) where
  same : patch_of_change w.change ≡ nothing
  same = λ j. patch_of (is.old j) (is.new j) (is.root j)

  pub start_effect : HasEffect (patch_of_change w.change) (λ k. false) (λ k. None)
  start_effect = subst (λ (p : Patch Value). HasEffect p (λ k. false) (λ k. None)) (sym same) nothing_effect

  module _ (t : Store Value) (r : Root) (f : Fresh) (are : AreCellsIn t r f cells) where
    as_before : now_of w t ≡ t
    as_before = ap (λ (p : Patch Value). place p t) same

    root_as_before : root_of w r ≡ r
    root_as_before = ap (λ (p : Patch Value). root_after p r) same

    pub start_working : IsWorking t r f w
    start_working = record {
      part = are.part;
      change = subst (λ root. IsChange w.change.old w.change.new root) (sym is.root)
          (subst (λ new. IsChange w.change.old new None) (sym is.new)
          (subst (λ old. IsChange old [] None) (sym is.old) nothing_is_change));
      meets = subst (λ (p : Patch Value). MeetsPart p t r) (sym same) (nothing_meets t r);
      made = subst (λ xs. IsPermutation xs w.made) (sym is.new) (subst (IsPermutation []) (sym is.made) (IsPermutation-refl []));
      kept = λ c at. subst (λ (s : Store Value). s c.id ≡ Some (node_of c)) (sym as_before)
          (are.stand c (Contains-permutation w.kept cells c (IsPermutation-sym cells w.kept is.kept) at));
      free = subst (λ (s : Store Value). IsFree f.next f.end s) (sym as_before) are.free;
      root_number = subst (λ (x : Root). IsPointable x.id) (sym root_as_before) are.root_number;
    }
