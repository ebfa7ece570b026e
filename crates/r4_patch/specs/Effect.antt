-- What a patch does to the units of every part of a tree that it is put into.
use Rattle.std.specs.Prelude.{◌≡◌, ◌↔◌, ◌||◌, ◌==◌, ℕ, Bool, true, false, Contains, Option, None, Some, if◌then◌else◌}
use Rattle.std.specs.Option.{option_map}
use Rattle.r4_base.specs.Tree.{Node, Store, Root, Holds}
use Rattle.r4_base.specs.Value.{Content, Value, at_key}
use Rattle.r4_cell.specs.Patch.{Patch}
use Rattle.r4_patch.specs.Part.{IsPart, MeetsPart}

-- A value, and whether a leaf has it: a byte of a file in tails stands in a leaf, and one of a
-- file in extents in a twig or a data block.
abbrev pub Placed : Type 0 → Type 0
Placed V = V × Bool

abbrev pub UnitIn : {V : Type 0} → Store V → ℕ → Placed V → Type 0
UnitIn {V} t k u =
    (i : ℕ) × (c : Node V) × (t i ≡ Some c) × Contains c.units (k, u.0) × ((c.level == 1) ≡ u.1)

-- a cell of the store holds the key
abbrev pub IsHeld : {V : Type 0} → Store V → ℕ → Type 0
IsHeld {V} t k = (i : ℕ) × (c : Node V) × (t i ≡ Some c) × Holds c k

-- The old cells hold the keys of a set. At these keys the new cells have the values of a
-- function, and no others; at every other key they have what the old ones had, in leaves where
-- those had it in leaves.
pub record HasEffect {V : Type 0} (p : Patch V) (at : ℕ → Bool) (to : ℕ → Option (Placed V))
    : Type 0 where
  pub held : (k : ℕ) → at k ≡ true → IsHeld p.old k
  pub there : (k : ℕ) (u : Placed V) → at k ≡ true → UnitIn p.new k u ↔ (to k ≡ Some u)
  pub others : (k : ℕ) (u : Placed V) → at k ≡ false → UnitIn p.new k u ↔ UnitIn p.old k u

-- A patch with this effect, and a part of a tree that it meets.
pub record Affects {V : Type 0} (p : Patch V) (t : Store V) (root : Root) (at : ℕ → Bool)
    (to : ℕ → Option (Placed V)) : Type 0 where
  pub part : IsPart t root
  pub meets : MeetsPart p t root
  pub effect : HasEffect p at to

-- The second content has the function's values at the keys of the set, and what the first has
-- at every other key.
abbrev pub IsSetAt : (ℕ → Bool) → (ℕ → Option (Placed Value)) → (m n : Content) → Type 0
IsSetAt at to m n =
    (k : ℕ) → at_key n k ≡ (if at k then option_map (λ u. u.0) (to k) else at_key m k)

-- the keys of either set
abbrev pub either : (ℕ → Bool) → (ℕ → Bool) → ℕ → Bool
either one two k = one k || two k

-- the second function on its set, and the first elsewhere
abbrev pub later : {X : Type 0} → (ℕ → Bool) → (two one : ℕ → Option X) → ℕ → Option X
later at two one k = if at k then two k else one k

-- a value in a leaf
abbrev pub in_leaf : {V : Type 0} → Option V → Option (Placed V)
in_leaf None = None
in_leaf (Some v) = Some (v, true)

-- a value in a twig or a data block
abbrev pub in_extent : {V : Type 0} → Option V → Option (Placed V)
in_extent None = None
in_extent (Some v) = Some (v, false)
