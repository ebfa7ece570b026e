-- Items that lie one after the other, and the pieces that are read of them.
use Rattle.std.proofs.Common.{◌≡◌, ℕ, zero, suc, ◌+◌, ◌≤◌, List, [], ◌∷◌, ◌++◌, length, drop, refl, sym, ap, subst, ◌∙◌, arith}
use Rattle.std.specs.Prelude.{slice_get, Some}
use Rattle.std.proofs.lemmas.List.{append_assoc, append-nil, drop_all}
use Rattle.std.proofs.lemmas.Option.{same_Some}
use Rattle.r4_base.specs.Cell.{item_end, item_units, units_in}
use Rattle.r4_base.specs.Key.{rank}
use Rattle.r4_base.specs.Node.{Item}
use Rattle.r4_leaf.specs.Items.{IsSoundItem, Lie}
use Rattle.r4_leaf.specs.Pieces.{Adds, Follow, units_of}
use Rattle.r4_leaf.proofs.Following.{follow_wider}
use Rattle.r4_leaf.specs.declared.piece.Piece.{Piece}

pub drop_at : {A : Type 0} (i : ℕ) (xs : List A) (x : A) → slice_get xs i ≡ Some x → drop i xs ≡ x ∷ drop (i + 1) xs
drop_at zero [] x e = absurd cc
drop_at (suc i) [] x e = absurd cc
drop_at zero (y ∷ ys) x e = ap (λ z. z ∷ ys) (same_Some y x e)
drop_at (suc i) (y ∷ ys) x e = drop_at i ys x e ∙ ap (λ k. x ∷ drop k (y ∷ ys)) (let step : suc (i + 1) ≡ suc i + 1 = omega arith in step)

pub lie_sound : (from to : ℕ) (xs : List Item) (i : ℕ) (x : Item) → Lie from to xs → slice_get xs i ≡ Some x → IsSoundItem x
lie_sound from to [] i x h e = absurd cc
lie_sound from to (y ∷ ys) zero x h e = subst IsSoundItem (same_Some y x e) h.1
lie_sound from to (y ∷ ys) (suc i) x h e = lie_sound (item_end y) to ys i x h.2 e

-- The pieces of so many of the items.
pub record HasRead (items : List Item) (i : ℕ) (ps : List Piece) : Type 0 where
  pub units : units_of ps ++ units_in (drop i items) ≡ units_in items
  pub follow : (lo hi : ℕ) → Lie lo hi items → (mid : ℕ) × Follow lo mid ps × Lie mid hi (drop i items)

pub read_none : (items : List Item) → HasRead items 0 []
read_none items = record { units = refl; follow = λ lo hi h. (lo, omega arith, h) }

pub units_cons : (x : Item) (xs : List Item) → units_in (x ∷ xs) ≡ item_units x ++ units_in xs
unfolding units_in
units_cons x xs = refl

pub units_nil : units_in [] ≡ []
unfolding units_in
units_nil = refl

pub read_more : (items : List Item) (i : ℕ) (x : Item) (ps qs : List Piece) → slice_get items i ≡ Some x → HasRead items i ps → Adds ps (rank x.key) (item_end x) (item_units x) qs → HasRead items (i + 1) qs
read_more items i x ps qs at r a = record {
  units = ap (λ us. us ++ units_in (drop (i + 1) items)) a.units
      ∙ (append_assoc (units_of ps) (item_units x) (units_in (drop (i + 1) items))
      ∙ (ap (λ us. units_of ps ++ us) (sym (units_cons x (drop (i + 1) items)) ∙ ap units_in (sym (drop_at i items x at))) ∙ r.units));
  follow = λ lo hi h.
      let f = r.follow lo hi h in
      let lies : Lie f.0 hi (x ∷ drop (i + 1) items) = subst (λ xs. Lie f.0 hi xs) (drop_at i items x at) f.2 in
      (item_end x, a.follow lo (follow_wider lo f.0 (rank x.key) ps lies.0 f.1), lies.2);
}

module _ (items : List Item) (i : ℕ) (ps : List Piece) (past : length items ≤ i) (r : HasRead items i ps) where
  pub read_units : units_of ps ≡ units_in items
  read_units = sym (append-nil (units_of ps)) ∙ (ap (λ us. units_of ps ++ us) (sym (ap units_in (drop_all i items past) ∙ units_nil)) ∙ r.units)

  pub read_follow : (lo hi : ℕ) → Lie lo hi items → Follow lo hi ps
  read_follow lo hi h =
      let f = r.follow lo hi h in
      let le : f.0 ≤ hi = subst (λ xs. Lie f.0 hi xs) (drop_all i items past) f.2 in
      follow_wider lo f.0 hi ps le f.1
