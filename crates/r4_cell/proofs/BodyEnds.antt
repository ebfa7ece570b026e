-- What is found of the bodies of items, by their plugin.
use Rattle.std.proofs.Common.{◌≡◌, ℕ, zero, suc, ◌+◌, ◌-◌, ◌*◌, ◌^◌, ◌<◌, ◌≤◌, true, false, not, ◌&&◌, List, [], ◌∷◌, length, take, inl, inr, refl, sym, ap, subst, ◌∙◌, arith}
use Rattle.std.specs.Prelude.{Option, Some, None, Ok, Err, ◌==◌, nat_le, nat_lt, slice_get}
use Rattle.std.proofs.lemmas.Bool.{eq-eqb, le-leb}
use Rattle.std.proofs.lemmas.Bool.Decides.{nat_tests}
use Rattle.r4_base.specs.Bitmap.{is_fixed}
use Rattle.r4_base.specs.Cell.{body_bytes, is_short_tail, item_body_fault, item_end, names_block}
use Rattle.r4_base.specs.Dir.{Entry, dir_fault, entries_of, entry_at, entry_count, entry_key_at}
use Rattle.r4_base.specs.Extents.{blocks_in, body_fault, pointer_of, units_of}
use Rattle.r4_base.specs.Key.{offset_of, rank}
use Rattle.r4_base.specs.Node.{Item}
use Rattle.r4_base.specs.Stat.{stat_of}
use Rattle.r4_base.specs.declared.items.Attr.{Attr}
use Rattle.r4_base.specs.declared.items.CellFault.TheVariants.{Stat, Dir, Extent, Tail, Pointer}
use Rattle.r4_base.specs.declared.items.DirFault.{DirFault}
use Rattle.r4_base.specs.declared.items.ExtentFault.{ExtentFault}
use Rattle.r4_base.specs.declared.items.StatFault.{StatFault}
use Rattle.r4_base.specs.declared.key.Key.{Key}
use Rattle.r4_base.specs.declared.items.Unit.{Unit as ExtentUnit}
use Rattle.r4_base.proofs.Dirs.{get-entries_of, length-entries_of}
use Rattle.std.proofs.lemmas.Option.{same_Some}
use Rattle.std.proofs.lemmas.List.{take_all}
use Rattle.r4_twig.proofs.Faults.{body_lawful}
use Rattle.r4_base.specs.Extents.{AreLawfulUnits, IsLawfulUnit}
use Rattle.r4_cell.specs.Ends.{EndsAt, FindsEnd, IsLastByte}

-- ---- stat data

pub stat_found : (blocks : ℕ) (it : Item) (a : Attr) → it.plugin ≡ 0 → stat_of it.body ≡ Ok a → FindsEnd blocks it (Ok (Some it.key))
unfolding item_body_fault item_end
stat_found blocks it a is found =
    let test : (it.plugin == 0) ≡ true = eq-eqb _ _ is in
    (rw (test, found) refl, (rw test refl, rw test refl))

pub stat_refused : (blocks : ℕ) (it : Item) (f : StatFault) → it.plugin ≡ 0 → stat_of it.body ≡ Err f → FindsEnd blocks it (Err (Stat f))
unfolding item_body_fault
stat_refused blocks it f is found = let test : (it.plugin == 0) ≡ true = eq-eqb _ _ is in rw (test, found) refl

-- ---- directories

two_tests : (p : ℕ) → p ≡ 2 → ((p == 0) ≡ false) × ((p == 2) ≡ true) × ((p == 3) ≡ false)
two_tests p is = (ap (λ (x : ℕ). x == 0) is, ap (λ (x : ℕ). x == 2) is, ap (λ (x : ℕ). x == 3) is)

pub dir_found : (blocks : ℕ) (it : Item) (k : Key) → it.plugin ≡ 2 → dir_fault it.key it.body ≡ None → k ≡ entry_key_at it.key it.body (entry_count it.body - 1) → FindsEnd blocks it (Ok (Some k))
unfolding item_body_fault item_end
dir_found blocks it k is found last =
    let t = two_tests it.plugin is in
    (rw (t.0, t.1, found) refl, (rw (t.0, t.1, t.2) refl, ap (λ (x : Key). rank x + 1) last ∙ rw (t.0, t.2, t.1) refl))

pub dir_refused : (blocks : ℕ) (it : Item) (f : DirFault) → it.plugin ≡ 2 → dir_fault it.key it.body ≡ Some f → FindsEnd blocks it (Err (Dir f))
unfolding item_body_fault
dir_refused blocks it f is found = let t = two_tests it.plugin is in rw (t.0, t.1, found) refl

-- ---- pointers

three_tests : (p : ℕ) → p ≡ 3 → ((p == 0) ≡ false) × ((p == 2) ≡ false) × ((p == 3) ≡ true)
three_tests p is = (ap (λ (x : ℕ). x == 0) is, ap (λ (x : ℕ). x == 2) is, ap (λ (x : ℕ). x == 3) is)

pub pointer_refused : (blocks : ℕ) (it : Item) → it.plugin ≡ 3 → names_block false blocks (pointer_of it.body) ≡ false → FindsEnd blocks it (Err Pointer)
unfolding item_body_fault
pointer_refused blocks it is refused = let t = three_tests it.plugin is in rw (t.0, t.1, t.2, refused) refl

pub names_none : (blocks : ℕ) (o : Option ℕ) → o ≡ None → names_block false blocks o ≡ false
names_none blocks o is = ap (names_block false blocks) is

pub names_other : (blocks to : ℕ) (o : Option ℕ) → o ≡ Some to → (nat_lt to blocks && not (is_fixed blocks to)) ≡ false → names_block false blocks o ≡ false
names_other blocks to o is out = ap (names_block false blocks) is ∙ out

pub pointer_found_at : (blocks to : ℕ) (it : Item) → it.plugin ≡ 3 → pointer_of it.body ≡ Some to → (nat_lt to blocks && not (is_fixed blocks to)) ≡ true → FindsEnd blocks it (Ok (Some it.key))
unfolding item_body_fault item_end
pointer_found_at blocks to it is found test =
    let t = three_tests it.plugin is in
    let named : names_block false blocks (pointer_of it.body) ≡ true = ap (names_block false blocks) found ∙ test in
    (rw (t.0, t.1, t.2, named) refl, (rw (t.0, t.2) refl, rw (t.0, t.2) refl))

-- ---- extents

five_tests : (p : ℕ) → p ≡ 5 → ((p == 0) ≡ false) × ((p == 2) ≡ false) × ((p == 3) ≡ false) × ((p == 5) ≡ true)
five_tests p is = (ap (λ (x : ℕ). x == 0) is, ap (λ (x : ℕ). x == 2) is, ap (λ (x : ℕ). x == 3) is, ap (λ (x : ℕ). x == 5) is)

bytes_end : (it : Item) (bytes : ℕ) (last : Option Key) → (it.plugin == 0) ≡ false → (it.plugin == 2) ≡ false → (it.plugin == 3) ≡ false → body_bytes it ≡ bytes → IsLastByte it.key bytes last → EndsAt it last
unfolding item_end
bytes_end it bytes (Some k) a b c is ends =
    let fits : nat_le (offset_of it.key + bytes) (2 ^ 64) ≡ true = le-leb _ _ ends.0 in
    (rw (a, c, b, is, fits) refl, ends.1 ∙ rw (a, c, b, is) refl)
bytes_end it bytes None a b c is ends =
    let fits : nat_le (offset_of it.key + bytes) (2 ^ 64) ≡ false = grind (arith, nat_tests, ends) in
    rw (a, c, b, is, fits) refl

pub extent_found : (blocks bytes : ℕ) (it : Item) (last : Option Key) → it.plugin ≡ 5 → body_fault false blocks it.body ≡ None → bytes ≡ 4096 * blocks_in (units_of it.body) → IsLastByte it.key bytes last → FindsEnd blocks it (Ok last)
unfolding item_body_fault
extent_found blocks bytes it last is found sum ends =
    let t = five_tests it.plugin is in
    let count : body_bytes it ≡ bytes = rw t.3 (sym sum) in
    (rw (t.0, t.1, t.2, t.3, found) refl, bytes_end it bytes last t.0 t.1 t.2 count ends)

pub extent_refused : (blocks : ℕ) (it : Item) (f : ExtentFault) → it.plugin ≡ 5 → body_fault false blocks it.body ≡ Some f → FindsEnd blocks it (Err (Extent f))
unfolding item_body_fault
extent_refused blocks it f is found = let t = five_tests it.plugin is in rw (t.0, t.1, t.2, t.3, found) refl

-- ---- tails

no_test : (p n : ℕ) → (p ≡ n → ⊥) → (p == n) ≡ false
no_test p n other = grind (arith, nat_tests, other)

pub tail_found : (blocks : ℕ) (it : Item) (last : Option Key) → (it.plugin ≡ 0 → ⊥) × (it.plugin ≡ 2 → ⊥) × (it.plugin ≡ 3 → ⊥) × (it.plugin ≡ 5 → ⊥) → is_short_tail it ≡ true
    → IsLastByte it.key (length it.body) last → FindsEnd blocks it (Ok last)
unfolding item_body_fault
tail_found blocks it last other short ends =
    let a = no_test it.plugin 0 other.0 in
    let b = no_test it.plugin 2 other.1 in
    let c = no_test it.plugin 3 other.2 in
    let d = no_test it.plugin 5 other.3 in
    let count : body_bytes it ≡ length it.body = rw d refl in
    (rw (a, b, c, d, short) refl, bytes_end it (length it.body) last a b c count ends)

pub tail_refused : (blocks : ℕ) (it : Item) → (it.plugin ≡ 0 → ⊥) × (it.plugin ≡ 2 → ⊥) × (it.plugin ≡ 3 → ⊥) × (it.plugin ≡ 5 → ⊥) → is_short_tail it ≡ false → FindsEnd blocks it (Err Tail)
unfolding item_body_fault
tail_refused blocks it other refused =
    let a = no_test it.plugin 0 other.0 in
    let b = no_test it.plugin 2 other.1 in
    let c = no_test it.plugin 3 other.2 in
    let d = no_test it.plugin 5 other.3 in
    rw (a, b, c, d, refused) refl

pub tail_tested : (it : Item) (from long : ℕ) → from ≡ offset_of it.key → long ≡ length it.body → (nat_le 1 long && nat_le (from + long) 16384) ≡ is_short_tail it
tail_tested it from long is_from is_long = (λ i. nat_le 1 (is_long i) && nat_le (is_from i + is_long i) 16384)

-- ---- the last entry

pub last_entry : (item key : Key) (b body : List ℕ) (n : ℕ) (e : Entry) → item ≡ key → b ≡ body → n ≡ length (entries_of item b) → 1 ≤ n → slice_get (entries_of item b) (n - 1) ≡ Some e → e.key ≡ entry_key_at key body (entry_count body - 1)
unfolding entry_at
last_entry item key b body n e is_item is_body count some at =
    let long : n ≡ entry_count b = count ∙ length-entries_of item b in
    let there = get-entries_of item b (n - 1) (omega (arith, long, some)) in
    let same : e ≡ entry_at item b (n - 1) = same_Some e (entry_at item b (n - 1)) (sym at ∙ there) in
    ap (λ (x : Entry). x.key) same ∙ (λ i. entry_key_at (is_item i) (is_body i) (n - 1)) ∙ ap (λ (m : ℕ). entry_key_at key body (m - 1)) (long ∙ ap entry_count is_body)

-- ---- the last byte

pub last_rank : (a b c d bytes : ℕ) → 1 ≤ bytes → a * 2 ^ 192 + (b * 2 ^ 128 + (c * 2 ^ 64 + (d + bytes - 1))) + 1 ≡ a * 2 ^ 192 + (b * 2 ^ 128 + (c * 2 ^ 64 + d)) + bytes
last_rank a b c d bytes some = omega (arith, some)

-- ---- how many blocks units have

pub blocks_more : (us : List ExtentUnit) (i : ℕ) (u : ExtentUnit) → slice_get us i ≡ Some u → blocks_in (take (i + 1) us) ≡ blocks_in (take i us) + u.width
blocks_more [] i u e = absurd cc
blocks_more (v ∷ us) zero u e = let same : v ≡ u = same_Some v u e in ap (λ (x : ExtentUnit). x.width + 0) same ∙ omega arith
blocks_more (v ∷ us) (suc i) u e = let rest = blocks_more us i u e in let one : suc i + 1 ≡ suc (i + 1) = omega arith in ap (λ (k : ℕ). blocks_in (take k (v ∷ us))) one ∙ omega (arith, rest)

pub whole_sum : (us : List ExtentUnit) (i : ℕ) → length us ≤ i → blocks_in (take i us) ≡ blocks_in us
whole_sum us i le = ap (λ (xs : List ExtentUnit). blocks_in xs) (take_all i us le)

lawful_width : (blocks : ℕ) (u : ExtentUnit) → IsLawfulUnit false blocks u → 1 ≤ u.width
lawful_width blocks u (inl unplaced) = let w = unplaced.2 in omega (arith, w)
lawful_width blocks u (inr (inl hole)) = let w = hole.1 in omega (arith, w)
lawful_width blocks u (inr (inr run)) = let w = run.width in omega (arith, w)

some_units : (blocks : ℕ) (us : List ExtentUnit) → 0 < length us → AreLawfulUnits false blocks us → 1 ≤ blocks_in us
some_units blocks [] some lawful = absurd (omega (arith, some))
some_units blocks (u ∷ us) some lawful = let w = lawful_width blocks u lawful.0 in omega (arith, w)

-- an extent that is accepted has a block at least
pub some_blocks : (blocks : ℕ) (b : List ℕ) (us : List ExtentUnit) → body_fault false blocks b ≡ None → us ≡ units_of b → 0 < length us → 1 ≤ blocks_in us
some_blocks blocks b us accepted is some = some_units blocks us some (subst (λ (xs : List ExtentUnit). AreLawfulUnits false blocks xs) (sym is) ((body_lawful false blocks b accepted).2))
