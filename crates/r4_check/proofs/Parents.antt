-- Each cell of a walk but the root's is named by another.
use Rattle.std.proofs.Common.{◌≡◌, ◌⊎◌, inl, inr, ℕ, zero, suc, Bool, true, false, List, [], ◌∷◌, refl, subst, arith}
use Rattle.std.specs.Prelude.{Option, Some, None, Contains, fold, if◌then◌else◌}
use Rattle.std.specs.Option.{is_none}
use Rattle.r4_base.specs.Image.{Image}
use Rattle.r4_base.specs.Tree.{Name, Node}
use Rattle.r4_base.specs.Value.{Value}
use Rattle.r4_base.specs.declared.items.CellFault.{CellFault}
use Rattle.r4_check.specs.Walk.{IsNamedIn, Walk, cell_at, is_reached, look, meet, names_below, refusal_at}
use Rattle.r4_check.proofs.Kept.{meet_by, one_of}
use Rattle.r4_check.proofs.Meets.{meet_accepted}

abbrev HasAll : Walk → Walk → Type 0
HasAll w v = (i : ℕ) (c : Node Value) → Contains w.cells (i, c) → Contains v.cells (i, c)

-- each cell is that of such a name
abbrev pub AreNamed : Image → (root : Name) → Walk → Type 0
AreNamed image root w = (i : ℕ) (c : Node Value) → Contains w.cells (i, c) → (n : Name) × IsNamedIn root w n × (◌≡◌ {A = ℕ × Node Value} (n.id, cell_at image n) (i, c))

later : {X : Type 0} (x : X) (xs : List X) (y : X) → Contains xs y → Contains (x ∷ xs) y
later {X} x xs y (k, lt, e) = (suc k, omega (arith, lt), e)

no_name : (n : Name) → Contains [] n → ⊥
no_name n (k, lt, e) = omega (arith, lt)

named_more : (root : Name) (w v : Walk) (n : Name) → HasAll w v → IsNamedIn root w n → IsNamedIn root v n
named_more root w v n all (inl is) = inl is
named_more root w v n all (inr (j, d, at, in_names)) = inr (j, d, all j d at, in_names)

module _ (blocks : ℕ) (image : Image) (root : Name) where
  meet_named : (w : Walk) (n : Name) → IsNamedIn root w n → AreNamed image root w → AreNamed image root (meet blocks image w n) × HasAll w (meet blocks image w n)
  meet_named w n named h = meet_by (λ v. AreNamed image root v × HasAll w v) blocks image w n (λ again. (h, λ i c at. at)) (λ first sound. (accepted, λ i c at. later (n.id, cell_at image n) w.cells (i, c) at)) (λ f first bad. (h, λ i c at. at))
    where
      more : (m : Name) → IsNamedIn root w m → (m ≡ root) ⊎ ((j : ℕ) × (d : Node Value) × Contains ((n.id, cell_at image n) ∷ w.cells) (j, d) × Contains d.names m)
      more m (inl is) = inl is
      more m (inr (j, d, at, in_names)) = inr (j, d, later (n.id, cell_at image n) w.cells (j, d) at, in_names)

      accepted : (i : ℕ) (c : Node Value) → Contains ((n.id, cell_at image n) ∷ w.cells) (i, c) → (m : Name) × ((m ≡ root) ⊎ ((j : ℕ) × (d : Node Value) × Contains ((n.id, cell_at image n) ∷ w.cells) (j, d) × Contains d.names m)) × (◌≡◌ {A = ℕ × Node Value} (m.id, cell_at image m) (i, c))
      accepted i c at = elim (one_of (n.id, cell_at image n) w.cells (i, c) at) [
        | inl e ↦ (n, more n named, e)
        | inr old ↦ (let (m, is, e) = h i c old in (m, more m is, e))
      ]

  below_member : (again : Bool) (o : Option CellFault) (names : List Name) (m : Name) → Contains (if again then [] else if is_none o then names else []) m → (again ≡ false) × (o ≡ None) × Contains names m
  below_member true o names m at = absurd (no_name m at)
  below_member false None names m at = (refl, refl, at)
  below_member false (Some f) names m at = absurd (no_name m at)

  below_named : (w : Walk) (n m : Name) → Contains (names_below blocks image w n) m → IsNamedIn root (meet blocks image w n) m
  unfolding names_below
  below_named w n m at =
      let h = below_member (is_reached w n.id) (refusal_at blocks image n) (cell_at image n).names m at in
      let P : Walk → Type 0 = λ v. Contains v.cells (n.id, cell_at image n) in
      inr (n.id, cell_at image n, subst P (meet_accepted blocks image w n h.0 h.1) (zero, omega arith, refl), h.2)

  fold_named : (f : Walk → Name → Walk) → ((w : Walk) (n : Name) → IsNamedIn root w n → AreNamed image root w → AreNamed image root (f w n) × HasAll w (f w n))
      → (names : List Name) (w : Walk) → ((m : Name) → Contains names m → IsNamedIn root w m) → AreNamed image root w → AreNamed image root (fold f w names) × HasAll w (fold f w names)
  fold_named f on [] w all h = (h, λ i c at. at)
  fold_named f on (n ∷ names) w all h =
      let first = on w n (all n (zero, omega arith, refl)) h in
      let rest = fold_named f on names (f w n) (λ m at. named_more root w (f w n) m first.1 (all m (later n names m at))) first.0 in
      (rest.0, λ i c at. rest.1 i c (first.1 i c at))

  pub look_named : (levels : ℕ) (w : Walk) (n : Name) → IsNamedIn root w n → AreNamed image root w → AreNamed image root (look levels blocks image w n) × HasAll w (look levels blocks image w n)
  unfolding look
  look_named zero w n named h = meet_named w n named h
  look_named (suc levels) w n named h =
      let first = meet_named w n named h in
      let rest = fold_named (look levels blocks image) (look_named levels) (names_below blocks image w n) (meet blocks image w n) (λ m at. below_named w n m at) first.0 in
      (rest.0, λ i c at. rest.1 i c (first.1 i c at))
