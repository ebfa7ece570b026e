-- Bytes that are put at a key where no other value is, as what leaves have at it.
use Rattle.std.proofs.Common.{◌≡◌, ◌⊎◌, inl, inr, ℕ, ◌==◌, Bool, true, false, cond, List, [], ◌∷◌, Option, Some, None, refl, sym, ap, subst, ◌∙◌}
use Rattle.std.specs.Prelude.{Contains}
use Rattle.std.specs.Option.{option_or}
use Rattle.std.proofs.lemmas.Bool.{eq-eqb, eqb-true}
use Rattle.std.proofs.lemmas.List.Concat.{flat_map-cons}
use Rattle.std.proofs.lemmas.List.Elements.{Contains-append_left, Contains-append_right}
use Rattle.r4_base.specs.Value.{Byte, Value}
use Rattle.r4_content.specs.Edited.{Pairs, is_between}
use Rattle.r4_content.specs.Seen.{pairs_in}
use Rattle.r4_extent_moves.specs.r4_applied.r4_sets_told.r4_cell.Seen.{CellSeen, node_of}
use Rattle.r4_extent_moves.specs.r4_extent_change.r4_extent_blocks.Setting.{byte_of, last_put}
use Rattle.r4_extent_moves.proofs.r4_applied.r4_build.r4_patch.Members.{cases, here, later, none}
use Rattle.r4_extent_moves.proofs.r4_applied.r4_build.r4_work.UnitMembers.{to_filtered}
use Rattle.r4_extent_moves.specs.r4_extent_turned.r4_extent_turn.Gathering.{units_within}

module _ (k y : ℕ) where
  -- no pair has another value at the key
  abbrev pub IsAlone : Pairs → Type 0
  IsAlone ps = (p : ℕ × Value) → Contains ps p → p.0 ≡ k → p.1 ≡ Byte y

  with_rest : (p : ℕ × Value) (ps : Pairs) (o : Option ℕ) → last_put ps k ≡ o
      → last_put (p ∷ ps) k ≡ option_or o (cond (p.0 == k) (byte_of p.1) None)
  with_rest p ps o is = ap (λ (z : Option ℕ). option_or z (cond (p.0 == k) (byte_of p.1) None)) is

  pub none_or_it : (ps : Pairs) → IsAlone ps → (last_put ps k ≡ None) ⊎ (last_put ps k ≡ Some y)
  none_or_it [] alone = inl refl
  none_or_it (p ∷ ps) alone = elim (none_or_it ps (λ q m. alone q (later p q ps m))) [
    | inr rest ↦ inr (with_rest p ps (Some y) rest)
    | inl no_more ↦ by (p.0 == k) refl (with_rest p ps None no_more)
  ]
    where
      by : (t : Bool) → (p.0 == k) ≡ t → last_put (p ∷ ps) k ≡ cond (p.0 == k) (byte_of p.1) None
          → (last_put (p ∷ ps) k ≡ None) ⊎ (last_put (p ∷ ps) k ≡ Some y)
      by true is at =
          inr (at ∙ (ap (λ (s : Bool). cond s (byte_of p.1) None) is ∙ ap byte_of (alone p (here p ps) (eqb-true p.0 k is))))
      by false is at = inl (at ∙ ap (λ (s : Bool). cond s (byte_of p.1) None) is)

  pub it_is_put : (ps : Pairs) → IsAlone ps → Contains ps (k, Byte y) → last_put ps k ≡ Some y
  it_is_put [] alone m = absurd (none (k, Byte y) m)
  it_is_put (p ∷ ps) alone m = elim (cases p (k, Byte y) ps m) [
    | inr more ↦ with_rest p ps (Some y) (it_is_put ps (λ q at. alone q (later p q ps at)) more)
    | inl same ↦ elim (none_or_it ps (λ q at. alone q (later p q ps at))) [
      | inr rest ↦ with_rest p ps (Some y) rest
      | inl no_more ↦
          with_rest p ps None no_more
          ∙ (ap (λ (q : ℕ × Value). cond (q.0 == k) (byte_of q.1) None) (sym same)
          ∙ ap (λ (t : Bool). cond t (Some y) None) (eq-eqb k k refl))
    ]
  ]

-- a unit that one of the leaves has between the keys
pub in_units : (from to : ℕ) (cells : List CellSeen) (p : ℕ × Value) (c : CellSeen) → Contains cells c
    → Contains (node_of c).units p → is_between from to p.0 ≡ true → Contains (units_within from to cells) p
in_units from to [] p c m has on = absurd (none c m)
in_units from to (d ∷ cs) p c m has on =
    subst (λ (ps : Pairs). Contains ps p) (sym (flat_map-cons (λ (z : CellSeen). pairs_in (node_of z).units from to) d cs))
    (elim (cases d c cs m) [
      | inl same ↦
          Contains-append_left (pairs_in (node_of d).units from to) (units_within from to cs) p
          (to_filtered (λ (u : ℕ × Value). is_between from to u.0) (node_of d).units p on
          (subst (λ (z : CellSeen). Contains (node_of z).units p) same has))
      | inr more ↦
          Contains-append_right (pairs_in (node_of d).units from to) (units_within from to cs) p (in_units from to cs p c more has on)
    ])
