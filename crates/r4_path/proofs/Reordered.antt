-- Cells in another order are found by the same names.
use Rattle.std.proofs.Common.{◌≡◌, inl, inr, ℕ, List, refl, sym, ap, subst, ◌∙◌}
use Rattle.std.specs.Prelude.{◌⊎◌, Contains, Option, None, Some}
use Rattle.std.proofs.lemmas.Option.{none-some}
use Rattle.std.specs.Option.{option_map}
use Rattle.r4_base.specs.Tree.{Node, Root, Store}
use Rattle.r4_base.specs.Value.{Value}
use Rattle.r4_patch.specs.r4_cell.Patch.{HaveNames, IsChange, IsPatch, Meets, Patch, by_name, patch_of, root_of_pair}
use Rattle.r4_patch.specs.r4_cell.Seen.{CellSeen}
use Rattle.r4_patch.specs.r4_cell.declared.change.Root.{Root as RootPair}
use Rattle.r4_patch.specs.Part.{MeetsPart}
use Rattle.r4_patch.proofs.Members.{Distinct, found, there}
use Rattle.r4_path.specs.Twigs.{IsReordered}
use Rattle.r4_path.proofs.Ordered.{distinct}

none_or_some : (o : Option (Node Value)) → (o ≡ None) ⊎ ((c : Node Value) × (o ≡ Some c))
none_or_some None = inl refl
none_or_some (Some c) = inr (c, refl)

-- what is found among some cells is found among others that have them
carried : (cells others : List CellSeen) (i : ℕ) (c : Node Value) → ((x : CellSeen) → Contains cells x → Contains others x)
    → Distinct others → by_name cells i ≡ Some c → by_name others i ≡ Some c
carried cells others i c goes names e =
    let (x, member, id, says) = found cells i c e in
    subst (λ j. by_name others j ≡ Some c) id (there others x names (goes x member) ∙ ap Some (sym says))

same_at : (cells others : List CellSeen) (i : ℕ) → HaveNames cells → IsReordered cells others
    → by_name cells i ≡ by_name others i
same_at cells others i names is = elim (none_or_some (by_name cells i)) [
  | inr h ↦ let (c, e) = h in e ∙ sym (carried cells others i c (λ x. (is.same x).0) (distinct others is.names) e)
  | inl none ↦ elim (none_or_some (by_name others i)) [
    | inl none_too ↦ none ∙ sym none_too
    | inr h ↦ let (c, e) = h in absurd (none-some c (sym none ∙ carried others cells i c (λ x. (is.same x).1)
        (distinct cells names) e))
  ]
]

same_cells : (cells others : List CellSeen) → HaveNames cells → IsReordered cells others → by_name cells ≡ by_name others
same_cells cells others names is = λ j i. same_at cells others i names is j

pub same_patch : (old new old2 new2 : List CellSeen) (root : Option RootPair) → HaveNames old → HaveNames new
    → IsReordered old old2 → IsReordered new new2 → patch_of old new root ≡ patch_of old2 new2 root
same_patch old new old2 new2 root names_old names_new is_old is_new =
    ap (λ (o : Store Value). record { old = o; new = by_name new; root = option_map root_of_pair root })
    (same_cells old old2 names_old is_old)
    ∙ ap (λ (n : Store Value). record { old = by_name old2; new = n; root = option_map root_of_pair root })
    (same_cells new new2 names_new is_new)

module _ (old new old2 new2 : List CellSeen) (root : Option RootPair) (is : IsChange old new root)
    (is_old : IsReordered old old2) (is_new : IsReordered new new2) where
  pub change_patch : patch_of old new root ≡ patch_of old2 new2 root
  change_patch = same_patch old new old2 new2 root is.old_names is.new_names is_old is_new

  pub change_again : IsChange old2 new2 root
  change_again = record { old_names = is_old.names; new_names = is_new.names; patch = subst IsPatch change_patch is.patch }

  pub meets_again : (t : Store Value) (r : Root) → Meets (patch_of old new root) t r → Meets (patch_of old2 new2 root) t r
  meets_again t r m = subst (λ (p : Patch Value). Meets p t r) change_patch m

  pub part_again : (t : Store Value) (r : Root) → MeetsPart (patch_of old new root) t r
      → MeetsPart (patch_of old2 new2 root) t r
  part_again t r m = subst (λ (p : Patch Value). MeetsPart p t r) change_patch m
