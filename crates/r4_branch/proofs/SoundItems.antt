-- What is said of an item of a twig that has no fault, by its plugin.
use Rattle.std.proofs.Common.{◌≡◌, ◌⊎◌, inl, inr, ℕ, ◌+◌, ◌*◌, ◌^◌, ◌≤◌, Bool, true, false, List, [], ◌∷◌, length, refl, sym, ap}
use Rattle.std.specs.Prelude.{Option, Some, None, ◌==◌, ◌&&◌, nat_le, if◌then◌else◌}
use Rattle.std.specs.Option.{option_map}
use Rattle.std.proofs.lemmas.Bool.{and_parts, eqb-true, leb-true}
use Rattle.r4_base.specs.Bytes.{number_at}
use Rattle.r4_base.specs.Cell.{block_names, hole_bytes, item_body_fault, item_end, item_names, item_units, names_block}
use Rattle.r4_base.specs.Extents.{blocks_in, body_fault, pointer_of, units_of}
use Rattle.r4_base.specs.Key.{offset_of, rank}
use Rattle.r4_base.specs.Node.{Item}
use Rattle.r4_base.specs.declared.items.CellFault.{CellFault}
use Rattle.r4_base.specs.declared.items.CellFault.TheVariants.{Extent, Pointer}
use Rattle.r4_base.proofs.Choices.{chosen, none_under}
use Rattle.r4_branch.specs.Items.{IsSoundItem}

pub record IsExtentItem (it : Item) : Type 0 where
  pub body : body_fault true (2 ^ 64) it.body ≡ None
  pub names : (next : ℕ) → item_names 2 next it ≡ block_names (rank it.key) (units_of it.body)
  pub units : item_units it ≡ hole_bytes (rank it.key) (units_of it.body)
  pub end : item_end it ≡ rank it.key + 4096 * blocks_in (units_of it.body)
  pub fits : offset_of it.key + 4096 * blocks_in (units_of it.body) ≤ 2 ^ 64

pub extent_item : (it : Item) → it.plugin ≡ 5 → IsSoundItem it → IsExtentItem it
unfolding item_body_fault item_end item_names item_units
extent_item it is s =
    let a : (it.plugin == 0) ≡ false = ap (λ (x : ℕ). x == 0) is in
    let b : (it.plugin == 2) ≡ false = ap (λ (x : ℕ). x == 2) is in
    let d : (it.plugin == 3) ≡ false = ap (λ (x : ℕ). x == 3) is in
    let e : (it.plugin == 5) ≡ true = ap (λ (x : ℕ). x == 5) is in
    let body = s.body in
    let fits = s.fits in
    record {
      body = none_under Extent (body_fault true (2 ^ 64) it.body) (rw (a, b, d, e) at body);
      names = λ next. rw (d, e) refl;
      units = rw (a, b, d, e) refl;
      end = rw (a, d, b, e) refl;
      fits = leb-true (offset_of it.key + 4096 * blocks_in (units_of it.body)) (2 ^ 64) (rw (a, d, b, e) at fits);
    }

pub record IsPointerItem (it : Item) : Type 0 where
  pub long : length it.body ≡ 8
  pub named : names_block true (2 ^ 64) (Some (number_at 8 0 it.body)) ≡ true
  pub names : (next : ℕ) → item_names 2 next it ≡ (record { id = number_at 8 0 it.body; level = 1; lo = rank it.key; hi = next }) ∷ []
  pub units : item_units it ≡ []
  pub end : item_end it ≡ rank it.key + 1

read_pointer : (s : List ℕ) → names_block true (2 ^ 64) (pointer_of s) ≡ true → (length s ≡ 8) × (pointer_of s ≡ Some (number_at 8 0 s))
unfolding pointer_of
read_pointer s e = by_test (length s == 8 && nat_le 22 (number_at 8 0 s)) refl e
  where
    by_test : (t : Bool) → t ≡ (length s == 8 && nat_le 22 (number_at 8 0 s)) → names_block true (2 ^ 64) (if t then Some (number_at 8 0 s) else None) ≡ true
        → (length s ≡ 8) × ((if t then Some (number_at 8 0 s) else None) ≡ Some (number_at 8 0 s))
    by_test true is h = let both = and_parts (length s == 8) (nat_le 22 (number_at 8 0 s)) (sym is) in (eqb-true _ _ both.0, refl)
    by_test false is h = absurd cc

pub pointer_item : (it : Item) → it.plugin ≡ 3 → IsSoundItem it → IsPointerItem it
unfolding item_body_fault item_end item_names item_units
pointer_item it is s =
    let a : (it.plugin == 0) ≡ false = ap (λ (x : ℕ). x == 0) is in
    let b : (it.plugin == 2) ≡ false = ap (λ (x : ℕ). x == 2) is in
    let d : (it.plugin == 3) ≡ true = ap (λ (x : ℕ). x == 3) is in
    let body = s.body in
    let named = chosen (names_block true (2 ^ 64) (pointer_of it.body)) Pointer (rw (a, b, d) at body) in
    let read = read_pointer it.body named in
    let to = read.1 in
    record {
      long = read.0;
      named = (rw to at named);
      names = λ next. rw (d, to) refl;
      units = rw (a, b, d) refl;
      end = rw (a, d) refl;
    }

pub other_plugin : (plugin : ℕ) → (plugin ≡ 3) ⊎ (plugin ≡ 5) → (plugin ≡ 3 → ⊥) → plugin ≡ 5
other_plugin plugin (inl is) a = absurd (a is)
other_plugin plugin (inr is) a = is
