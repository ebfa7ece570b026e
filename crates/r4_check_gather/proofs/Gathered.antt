-- What a node holds, one item or entry at a time.
use Rattle.std.proofs.Common.{◌≡◌, ℕ, zero, suc, ◌+◌, ◌-◌, ◌^◌, ◌≤◌, ◌<◌, ◌==◌, Bool, true, false, cond, ◌&&◌, not, List, [], ◌∷◌, ◌++◌, length, map, take, get_or, Option, Some, None, refl, sym, ap, ◌∙◌, append_assoc, arith}
use Rattle.std.specs.Prelude.{Result, Ok, Err, slice_get, if◌then◌else◌}
use Rattle.std.specs.List.{flat_map}
use Rattle.std.specs.Option.{option_map}
use Rattle.std.proofs.lemmas.Bool.Decides.{nat_tests}
use Rattle.std.proofs.lemmas.Grind.{flat_map-append}
use Rattle.std.proofs.lemmas.List.{append-nil, map-append, take_more}
use Rattle.std.proofs.lemmas.Option.{get_or_from_slice_get, slice_get_within}
use Rattle.r4_base.specs.Cell.{cell_of, fault_in, is_dir, item_body_fault}
use Rattle.r4_base.specs.Dir.{dir_fault, entries_of}
use Rattle.r4_base.specs.Extents.{body_fault}
use Rattle.r4_base.specs.Key.{rank}
use Rattle.r4_base.specs.Node.{Item, items_of}
use Rattle.r4_base.specs.Stat.{attr_of, kind_is_good, mask_is_good, stat_of}
use Rattle.r4_base.specs.declared.items.Attr.{Attr}
use Rattle.r4_base.specs.declared.items.CellFault.TheVariants.{Stat as StatData, Dir, Extent}
use Rattle.r4_base.specs.declared.items.DirFault.{DirFault}
use Rattle.r4_base.specs.declared.items.ExtentFault.{ExtentFault}
use Rattle.r4_base.specs.declared.items.StatFault.{StatFault}
use Rattle.r4_base.specs.declared.items.StatFault.TheVariants.{Mask, Length, Kind}
use Rattle.r4_check_objects.specs.Held.{held_at, held_by, held_entry, held_in, held_one, thing_by}
use Rattle.r4_check_objects.specs.declared.held.Held.{Held}
use Rattle.r4_check_objects.specs.declared.held.Thing.{Thing}

-- ---- lists

take_push : {X : Type 0} (xs : List X) (i : ℕ) (x : X) → slice_get xs i ≡ Some x → take (i + 1) xs ≡ take i xs ++ x ∷ []
take_push {X} xs i x at = take_more xs i x (slice_get_within xs i x at) ∙ ap (λ (y : X). take i xs ++ y ∷ []) (get_or_from_slice_get xs i x x at)

pub map_more : {X : Type 0} (f : X → Held) (xs : List X) (i : ℕ) (x : X) (base old new : List Held) → slice_get xs i ≡ Some x → old ≡ base ++ map f (take i xs) → new ≡ old ++ f x ∷ [] → new ≡ base ++ map f (take (i + 1) xs)
map_more {X} f xs i x base old new at so_far is =
    is ∙ ap (λ (l : List Held). l ++ f x ∷ []) so_far ∙ append_assoc base (map f (take i xs)) (f x ∷ []) ∙ ap (λ (l : List Held). base ++ l) (sym (ap (map f) (take_push xs i x at) ∙ map-append f (take i xs) (x ∷ [])))

pub flat_more : (f : Item → List Held) (xs : List Item) (i : ℕ) (x : Item) (base old new : List Held) → slice_get xs i ≡ Some x → old ≡ base ++ flat_map f (take i xs) → new ≡ old ++ f x → new ≡ base ++ flat_map f (take (i + 1) xs)
flat_more f xs i x base old new at so_far is =
    is ∙ ap (λ (l : List Held). l ++ f x) so_far ∙ append_assoc base (flat_map f (take i xs)) (f x)
    ∙ ap (λ (l : List Held). base ++ l) (sym (ap (flat_map f) (take_push xs i x at) ∙ flat_map-append f (take i xs) (x ∷ []) ∙ ap (λ (l : List Held). flat_map f (take i xs) ++ l) (append-nil (f x))))

pub base_more : (base l m : List Held) → l ≡ m → base ++ l ≡ base ++ m
base_more base l m is = ap (λ (x : List Held). base ++ x) is

-- ---- a node

pub node_held : (b level lo hi : ℕ) (block : List ℕ) → 1 ≤ level → flat_map (held_by b) (items_of block) ≡ held_in b (cell_of level lo hi block)
unfolding cell_of
node_held b zero lo hi block some = absurd (omega (arith, some))
node_held b (suc l) lo hi block some =
    let node : (suc l == 0) ≡ false = grind (arith, nat_tests) in
    sym (ap (λ (t : Bool). cond t [] (flat_map (held_by b) (items_of block))) node)

pub dir_held : (b : ℕ) (it : Item) → it.plugin ≡ 2 → held_by b it ≡ map (held_entry b) (entries_of it.key it.body)
unfolding held_by
dir_held b it is = ap (λ (x : ℕ). cond (x == 2) (map (held_entry b) (entries_of it.key it.body)) (held_one b it.key (thing_by it))) is

other_held : (b : ℕ) (it : Item) → (it.plugin ≡ 2 → ⊥) → held_by b it ≡ held_one b it.key (thing_by it)
unfolding held_by
other_held b it other =
    let no_dir : (it.plugin == 2) ≡ false = grind (arith, nat_tests) in
    ap (λ (t : Bool). cond t (map (held_entry b) (entries_of it.key it.body)) (held_one b it.key (thing_by it))) no_dir

pub thing_held : (b : ℕ) (it : Item) (o : Option Thing) (t : Thing) (old new : List Held) → (it.plugin ≡ 2 → ⊥) → o ≡ thing_by it → o ≡ Some t → new ≡ old ++ held_at b it.key t ∷ [] → new ≡ old ++ held_by b it
thing_held b it o t old new other told some is = is ∙ ap (λ (x : Option Thing). old ++ held_one b it.key x) (sym some ∙ told) ∙ ap (λ (l : List Held). old ++ l) (sym (other_held b it other))

pub nothing_held : (b : ℕ) (it : Item) (o : Option Thing) (old : List Held) → (it.plugin ≡ 2 → ⊥) → o ≡ thing_by it → o ≡ None → old ≡ old ++ held_by b it
nothing_held b it o old other told none = sym (append-nil old) ∙ ap (λ (x : Option Thing). old ++ held_one b it.key x) (sym none ∙ told) ∙ ap (λ (l : List Held). old ++ l) (sym (other_held b it other))

-- ---- bodies without a fault

none_of_stat : (f : Option StatFault) → option_map StatData f ≡ None → f ≡ None
none_of_stat None h = refl
none_of_stat (Some f) h = absurd cc

none_of_dir : (f : Option DirFault) → option_map Dir f ≡ None → f ≡ None
none_of_dir None h = refl
none_of_dir (Some f) h = absurd cc

none_of_extent : (f : Option ExtentFault) → option_map Extent f ≡ None → f ≡ None
none_of_extent None h = refl
none_of_extent (Some f) h = absurd cc

pub stat_good : (it : Item) → it.plugin ≡ 0 → item_body_fault true (2 ^ 64) it ≡ None → fault_in (stat_of it.body) ≡ None
unfolding item_body_fault
stat_good it is h =
    let a : (it.plugin == 0) ≡ true = ap (λ (x : ℕ). x == 0) is in
    let fault : item_body_fault true (2 ^ 64) it ≡ option_map StatData (fault_in (stat_of it.body)) = rw a refl in
    none_of_stat _ (sym fault ∙ h)

pub dir_good : (it : Item) → it.plugin ≡ 2 → item_body_fault true (2 ^ 64) it ≡ None → dir_fault it.key it.body ≡ None
unfolding item_body_fault
dir_good it is h =
    let a : (it.plugin == 0) ≡ false = ap (λ (x : ℕ). x == 0) is in
    let b : (it.plugin == 2) ≡ true = ap (λ (x : ℕ). x == 2) is in
    let fault : item_body_fault true (2 ^ 64) it ≡ option_map Dir (dir_fault it.key it.body) = rw (a, b) refl in
    none_of_dir _ (sym fault ∙ h)

pub extent_good : (it : Item) → it.plugin ≡ 5 → item_body_fault true (2 ^ 64) it ≡ None → body_fault true (2 ^ 64) it.body ≡ None
unfolding item_body_fault
extent_good it is h =
    let a : (it.plugin == 0) ≡ false = ap (λ (x : ℕ). x == 0) is in
    let b : (it.plugin == 2) ≡ false = ap (λ (x : ℕ). x == 2) is in
    let d : (it.plugin == 3) ≡ false = ap (λ (x : ℕ). x == 3) is in
    let e : (it.plugin == 5) ≡ true = ap (λ (x : ℕ). x == 5) is in
    let fault : item_body_fault true (2 ^ 64) it ≡ option_map Extent (body_fault true (2 ^ 64) it.body) = rw (a, b, d, e) refl in
    none_of_extent _ (sym fault ∙ h)

attr_by : (m l k : Bool) (r a : Attr) → (if not m then Err Mask else if not l then Err Length else if not k then Err Kind else Ok r) ≡ Ok a → a ≡ r
attr_by false l k r a h = absurd cc
attr_by true false k r a h = absurd cc
attr_by true true false r a h = absurd cc
attr_by true true true r a h = cc

pub attr_is : (b : List ℕ) (a : Attr) → stat_of b ≡ Ok a → a ≡ attr_of b
unfolding stat_of
attr_is b a h = attr_by (mask_is_good b) (length b == 44) (kind_is_good (attr_of b).mode) (attr_of b) a h

pub not_err : (r : Result Attr StatFault) (e : StatFault) → fault_in r ≡ None → r ≡ Err e → ⊥
not_err r e none is = let f : fault_in r ≡ Some e = ap fault_in is in cc
