-- What a node points to it names.
use Rattle.std.proofs.Common.{◌≡◌, inl, inr, ℕ, suc, ◌-◌, Bool, true, false, List, [], ◌∷◌, refl, ap, sym, subst, arith}
use Rattle.std.specs.Prelude.{Contains, Option, None, Some, ◌==◌, if◌then◌else◌}
use Rattle.std.proofs.lemmas.Bool.{eq-eqb, eqb-true}
use Rattle.std.proofs.lemmas.List.Elements.{Contains-append_left, Contains-append_right}
use Rattle.std.proofs.lemmas.List.Sums.{sum_by-cons}
use Rattle.r4_base.specs.Cell.{block_names, item_names, names_in, next_key, pointer_names}
use Rattle.r4_base.specs.Extents.{pointer_of, units_of}
use Rattle.r4_base.specs.Key.{rank}
use Rattle.r4_base.specs.Node.{Item, items_of}
use Rattle.r4_base.specs.Tree.{Name}
use Rattle.r4_extent_put.specs.r4_extent_change.r4_measure.Budget.{below, of_item, of_target}
use Rattle.r4_extent_put.specs.r4_extent_change.r4_measure.r4_cell.Seen.{CellSeen, node_of}
use Rattle.r4_extent_put.proofs.r4_extent_change.r4_measure.r4_patch.Members.{cases, here, later, none}
use Rattle.r4_extent_put.proofs.r4_extent_change.r4_measure.r4_path.CellNodes.{names_are}
use Rattle.r4_allowed.specs.Allowing.{IsPointerTo, PointsTo}

-- a name of this number
abbrev HasId : List Name → ℕ → Type 0
HasId ns k = (n : Name) × Contains ns n × (n.id ≡ k)

item_names_it : (level next : ℕ) (it : Item) (k : ℕ) → IsPointerTo it k → HasId (item_names level next it) k
unfolding item_names
item_names_it level next it k (three, to) = by (it.plugin == 3) (eq-eqb it.plugin 3 three)
  where
    has_one : HasId (pointer_names level (rank it.key) next (Some k)) k
    has_one =
        let one : Name = record { id = k; level = level - 1; lo = rank it.key; hi = next } in
        (one, here one [], refl)

    by : (t : Bool) → t ≡ true → HasId (if t then pointer_names level (rank it.key) next (pointer_of it.body) else (if it.plugin == 5 then block_names (rank it.key) (units_of it.body) else [])) k
    by true h = subst (λ ns. HasId ns k) (ap (pointer_names level (rank it.key) next) (sym to)) has_one
    by false h = absurd cc

items_name_it : (level hi : ℕ) (items : List Item) (it : Item) (k : ℕ) → Contains items it → IsPointerTo it k
    → HasId (names_in level hi items) k
unfolding names_in
items_name_it level hi [] it k member is = absurd (none it member)
items_name_it level hi (x ∷ xs) it k member is = elim (cases x it xs member) [
  | inl same ↦
      let (n, at, id) = item_names_it level (next_key hi xs) x k (subst (λ y. IsPointerTo y k) same is) in
      (n, Contains-append_left (item_names level (next_key hi xs) x) (names_in level hi xs) n at, id)
  | inr rest ↦
      let (n, at, id) = items_name_it level hi xs it k rest is in
      (n, Contains-append_right (item_names level (next_key hi xs) x) (names_in level hi xs) n at, id)
]

pub names_it : (c : CellSeen) (l k : ℕ) → c.level ≡ suc l → PointsTo c k
    → (n : Name) × Contains (node_of c).names n × (n.id ≡ k)
names_it c l k level (it, member, is) =
    subst (λ ns. HasId ns k) (sym (names_are c l level)) (items_name_it (suc l) (rank c.hi) (items_of c.block) it k member is)

-- where nothing comes of what items point to, nothing comes below them
pub nothing_below : (u : ℕ → ℕ) (items : List Item)
    → ((it : Item) (k : ℕ) → Contains items it → IsPointerTo it k → u k ≡ 0) → below u items ≡ 0
nothing_below u [] zero = refl
nothing_below u (x ∷ xs) zero =
    let a = sum_by-cons (of_item u) x xs in
    let h = by (x.plugin == 3) refl (pointer_of x.body) refl in
    let rest = nothing_below u xs (λ it k member is. zero it k (later x it xs member) is) in
    omega (arith, a, h, rest)
  where
    by : (v : Bool) → (x.plugin == 3) ≡ v → (o : Option ℕ) → pointer_of x.body ≡ o → (if v then of_target u o else 0) ≡ 0
    by false g o e = refl
    by true g None e = refl
    by true g (Some k) e = zero x k (here x xs) (eqb-true x.plugin 3 g, e)
