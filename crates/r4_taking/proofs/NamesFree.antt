-- What a cell names that may stand on a volume of so many blocks is no fixed block.
use Rattle.std.proofs.Common.{◌≡◌, ◌≢◌, inl, inr, ℕ, zero, suc, ◌+◌, ◌*◌, Bool, true, false, not, ◌&&◌, ◌||◌, List, []}
use Rattle.std.proofs.Common.{◌∷◌}
use Rattle.std.proofs.Common.{refl, sym, ap, subst, ◌∙◌, arith}
use Rattle.std.specs.Prelude.{Option, Some, None, Contains, ◌==◌, nat_lt, if◌then◌else◌}
use Rattle.std.specs.Option.{option_map}
use Rattle.std.proofs.lemmas.Bool.{and_parts, eqb-true, ne_eqb}
use Rattle.std.proofs.lemmas.List.Elements.{Contains-append_cases}
use Rattle.r4_base.specs.Bitmap.{is_fixed}
use Rattle.r4_base.specs.Cell.{block_names, cell_fault, cell_of, item_body_fault, item_names, items_in_fault}
use Rattle.r4_base.specs.Cell.{names_block}
use Rattle.r4_base.specs.Cell.{names_in, next_key, pointer_names, run_names}
use Rattle.r4_base.specs.Extents.{AreLawfulUnits, IsLawfulUnit, body_fault, holds_fixed, is_hole, pointer_of, units_of}
use Rattle.r4_base.specs.Key.{rank}
use Rattle.r4_base.specs.Node.{Item, items_of}
use Rattle.r4_base.specs.Tree.{Name}
use Rattle.r4_base.specs.declared.items.Unit.{Unit as ExtentUnit}
use Rattle.r4_base.specs.declared.items.ExtentFault.{ExtentFault}
use Rattle.r4_base.specs.declared.items.CellFault.{CellFault}
use Rattle.r4_base.specs.declared.items.CellFault.TheVariants.{Extent, Pointer}
use Rattle.r4_base.proofs.FreshTree.{only}
use Rattle.r4_base.proofs.Choices.{nothing_in}
use Rattle.r4_kept.proofs.r4_twig.Faults.{body_lawful}
use Rattle.r4_kept.proofs.r4_cell.Items.{good_item}
use Rattle.r4_kept.proofs.r4_cell.NodesAt.{node_at}

neither_of : (a b : Bool) → (a || b) ≡ false → (a ≡ false) × (b ≡ false)
neither_of true b e = absurd (cc e)
neither_of false b e = (refl, e)

not_so : (a : Bool) → not a ≡ true → a ≡ false
not_so true e = absurd (cc e)
not_so false e = refl

run_free : (blocks k start width : ℕ) (x : Name) → holds_fixed blocks start width ≡ false
    → Contains (run_names k start width) x → is_fixed blocks x.id ≡ false
unfolding holds_fixed
run_free blocks k start zero x none h = absurd (nothing_in x h)
run_free blocks k start (suc width) x none h =
    let both = neither_of (is_fixed blocks start) (holds_fixed blocks (start + 1) width) none in
    elim (Contains-append_cases (record { id = start; level = 0; lo = k; hi = k + 4096 } ∷ [])
    (run_names (k + 4096) (start + 1) width) x h) [
      | inl y ↦
          let is = ap (λ (m : Name). m.id) (only (record { id = start; level = 0; lo = k; hi = k + 4096 }) x y) in
          subst (λ (i : ℕ). is_fixed blocks i ≡ false) (sym is) both.0
      | inr y ↦ run_free blocks (k + 4096) (start + 1) width x both.1 y
    ]

unit_free : (blocks k : ℕ) (u : ExtentUnit) (hole : Bool) (x : Name) → is_hole u ≡ hole → IsLawfulUnit false blocks u
    → Contains (if hole then [] else run_names k u.start u.width) x → is_fixed blocks x.id ≡ false
unit_free blocks k u true x is lawful h = absurd (nothing_in x h)
unit_free blocks k u false x is (inl unplaced) h = absurd (no_memory unplaced.0)
  where
    no_memory : false ≡ true → ⊥
    no_memory e = cc
unit_free blocks k u false x is (inr (inl hole)) h = absurd (no_hole u.start hole.0 is)
  where
    no_hole : (start : ℕ) → start ≡ 0 → (start == 0) ≡ false → ⊥
    no_hole zero e f = cc
    no_hole (suc start) e f = absurd (omega (arith, e))
unit_free blocks k u false x is (inr (inr run)) h = run_free blocks k u.start u.width x run.spares_fixed h

units_free : (blocks k : ℕ) (us : List ExtentUnit) (x : Name) → AreLawfulUnits false blocks us
    → Contains (block_names k us) x → is_fixed blocks x.id ≡ false
units_free blocks k [] x lawful h = absurd (nothing_in x h)
units_free blocks k (u ∷ us) x lawful h =
    elim (Contains-append_cases (if is_hole u then [] else run_names k u.start u.width)
    (block_names (k + 4096 * u.width) us) x h) [
      | inl y ↦ unit_free blocks k u (is_hole u) x refl lawful.0 y
      | inr y ↦ units_free blocks (k + 4096 * u.width) us x lawful.1 y
    ]

pointer_free : (blocks level key next : ℕ) (o : Option ℕ) (x : Name)
    → (if names_block false blocks o then None else Some Pointer) ≡ None
    → Contains (pointer_names level key next o) x → is_fixed blocks x.id ≡ false
pointer_free blocks level key next None x good h = absurd (nothing_in x h)
pointer_free blocks level key next (Some to) x good h =
    let is = ap (λ (m : Name). m.id) (only _ x h) in
    let free = not_so (is_fixed blocks to) (and_parts (nat_lt to blocks) (not (is_fixed blocks to))
    (chosen (nat_lt to blocks && not (is_fixed blocks to)) good)).1 in
    subst (λ (i : ℕ). is_fixed blocks i ≡ false) (sym is) free
  where
    chosen : (t : Bool) → (if t then None else Some Pointer) ≡ None → t ≡ true
    chosen true g = refl
    chosen false g = absurd cc

none_of_extent : (f : Option ExtentFault) → option_map Extent f ≡ None → f ≡ None
none_of_extent None h = refl
none_of_extent (Some f) h = absurd cc

-- by the plugin: stat data, a directory, a pointer, an extent, a tail
by_plugin : (blocks : ℕ) (stat dir to ext : Bool) (a b p e t : Option CellFault) (n m : List Name) (x : Name)
    → (to ≡ true → stat ≡ false) → (to ≡ true → dir ≡ false)
    → (ext ≡ true → stat ≡ false) → (ext ≡ true → dir ≡ false)
    → (p ≡ None → Contains n x → is_fixed blocks x.id ≡ false)
    → (e ≡ None → Contains m x → is_fixed blocks x.id ≡ false)
    → (if stat then a else if dir then b else if to then p else if ext then e else t) ≡ None
    → Contains (if to then n else if ext then m else []) x → is_fixed blocks x.id ≡ false
by_plugin blocks stat dir true ext a b p e t n m x ts td es ed point run good h =
    point (sym (rw (ts refl, td refl) refl) ∙ good) h
by_plugin blocks stat dir false true a b p e t n m x ts td es ed point run good h =
    run (sym (rw (es refl, ed refl) refl) ∙ good) h
by_plugin blocks stat dir false false a b p e t n m x ts td es ed point run good h = absurd (nothing_in x h)

is_other : (n i j : ℕ) → i ≢ j → (n == i) ≡ true → (n == j) ≡ false
is_other n i j other is = subst (λ (k : ℕ). (k == j) ≡ false) (sym (eqb-true n i is)) (apart i j other)
  where
    apart : (i j : ℕ) → i ≢ j → (i == j) ≡ false
    apart i j other = ne_eqb i j other

item_free : (blocks level next : ℕ) (it : Item) (x : Name) → item_body_fault false blocks it ≡ None
    → Contains (item_names level next it) x → is_fixed blocks x.id ≡ false
unfolding item_body_fault item_names
item_free blocks level next it x good h =
    by_plugin blocks (it.plugin == 0) (it.plugin == 2) (it.plugin == 3) (it.plugin == 5) _ _ _
    (option_map Extent (body_fault false blocks it.body)) _ _ (block_names (rank it.key) (units_of it.body)) x
    (is_other it.plugin 3 0 (λ e. absurd cc)) (is_other it.plugin 3 2 (λ e. absurd cc))
    (is_other it.plugin 5 0 (λ e. absurd cc)) (is_other it.plugin 5 2 (λ e. absurd cc))
    (pointer_free blocks level (rank it.key) next (pointer_of it.body) x)
    (λ e. units_free blocks (rank it.key) (units_of it.body) x
    (body_lawful false blocks it.body (none_of_extent _ e)).2)
    good h

items_free : (blocks level lo hi i : ℕ) (items : List Item) (x : Name)
    → items_in_fault false blocks level lo hi i items ≡ None → Contains (names_in level hi items) x
    → is_fixed blocks x.id ≡ false
unfolding names_in
items_free blocks level lo hi i [] x good h = absurd (nothing_in x h)
items_free blocks level lo hi i (it ∷ items) x good h =
    let g = good_item false blocks level lo hi i it items good in
    elim (Contains-append_cases (item_names level (next_key hi items) it) (names_in level hi items) x h) [
      | inl y ↦ item_free blocks level (next_key hi items) it x g.body y
      | inr y ↦ items_free blocks level lo hi (i + 1) items x g.rest y
    ]

pub names_free : (blocks level lo hi : ℕ) (b : List ℕ) (x : Name) → cell_fault false blocks level lo hi b ≡ None
    → Contains (cell_of level lo hi b).names x → is_fixed blocks x.id ≡ false
unfolding cell_of
names_free blocks zero lo hi b x good h = absurd (nothing_in x h)
names_free blocks (suc level) lo hi b x good h =
    items_free blocks (suc level) lo hi 0 (items_of b) x
    (node_at false blocks (suc level) lo hi b (omega arith) good).items h
