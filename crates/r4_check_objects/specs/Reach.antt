-- How the ids are found that the root reaches (docs/check.md, "Objects").
use Rattle.std.specs.Prelude.{◌≡◌, ◌⊎◌, ℕ, ◌≤◌, List, [], ◌∷◌, ◌++◌, length, slice_get, Bool, true, false, ◌&&◌, ◌||◌, ◌==◌, nat_eq, Some, if◌then◌else◌}
use Rattle.std.specs.BTreeMap.{BTreeMap, get}
use Rattle.std.specs.List.{IsDistinct, list_any}
use Rattle.std.specs.Option.{option_map_or}
use Rattle.std.specs.Ordering.{nat_cmp}
use Rattle.std.specs.Global.{Vec}
use Rattle.r4_check_objects.specs.Held.{id_of}
use Rattle.r4_check_objects.specs.Objects.{leads_to}
use Rattle.r4_check_objects.specs.Table.{value_at}
use Rattle.r4_check_objects.specs.declared.held.Held.{Held}
use Rattle.r4_check_objects.specs.declared.reach.Reach.{Reach}

-- whether a number is one of these
abbrev pub is_among : (q : ℕ) → List ℕ → Bool
is_among q xs = list_any (nat_eq q) xs

-- whether an id is noted as one that another names
abbrev pub is_named : BTreeMap ℕ (Vec ℕ) → (from to : ℕ) → Bool
is_named named from to = option_map_or (λ v. is_among to v.items) (get nat_cmp named from) false

-- whether an entry under an id names another
abbrev pub leads : (from to : ℕ) → Held → Bool
leads from to h = leads_to to h.thing && id_of h == from

-- These are the ids that entries name.
pub record AreNamed (found : List Held) (named : BTreeMap ℕ (Vec ℕ)) : Type 0 where
  pub each : (from to : ℕ) → is_named named from to ≡ list_any (leads from to) found

pub record AddsName (from to : ℕ) (old new : BTreeMap ℕ (Vec ℕ)) : Type 0 where
  pub each : (p q : ℕ) → is_named new p q ≡ ((to == q && from == p) || is_named old p q)

-- The ids of the list are noted, which are different.
pub record IsReach (r : Reach) : Type 0 where
  pub same : (q : ℕ) → value_at r.ids q ≡ is_among q r.order.items
  pub once : IsDistinct nat_eq r.order.items

-- An id is added where it is not there.
pub record Adds (id : ℕ) (old new : Reach) : Type 0 where
  pub good : IsReach new
  pub order : new.order.items ≡ (if is_among id old.order.items then old.order.items else (old.order.items ++ id ∷ []))

-- Each of these ids is there, and what is new is one of them and stands behind the old ones.
pub record Grows (ids : List ℕ) (old new : Reach) : Type 0 where
  pub good : IsReach new
  pub long : length old.order.items ≤ length new.order.items
  pub kept : (k q : ℕ) → slice_get old.order.items k ≡ Some q → slice_get new.order.items k ≡ Some q
  pub all : (q : ℕ) → is_among q ids ≡ true → is_among q new.order.items ≡ true
  pub only : (k q : ℕ) → slice_get new.order.items k ≡ Some q
      → (slice_get old.order.items k ≡ Some q) ⊎ ((length old.order.items ≤ k) × (is_among q ids ≡ true))
