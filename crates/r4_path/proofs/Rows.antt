-- Lists of items of a node: keys that rise, two lists one after the other, and a list cut in two.
use Rattle.std.proofs.Common.{◌≡◌, ℕ, zero, suc, ◌+◌, ◌≤◌, true, not, ◌||◌, List, [], ◌∷◌, ◌++◌, refl, sym, ap, subst, arith}
use Rattle.std.specs.Prelude.{Some, ◌==◌, nat_le, slice_get, if◌then◌else◌}
use Rattle.std.proofs.lemmas.Bool.Decides.{nat_tests}
use Rattle.std.proofs.lemmas.List.{append_assoc}
use Rattle.std.proofs.lemmas.Option.{same_Some}
use Rattle.r4_base.specs.Cell.{item_names, item_units, names_in, next_key, spans_in, units_in}
use Rattle.r4_base.specs.Key.{rank}
use Rattle.r4_base.specs.Node.{Item, KeysRise, PluginsFit}
use Rattle.r4_path.proofs.Lying.{Good, good_cons, good_nil, good_parts}

-- ---- keys that rise from one to another

abbrev pub Between : (from to : ℕ) → List Item → Type 0
Between from to [] = from ≤ to
Between from to (x ∷ xs) = (from ≤ rank x.key) × Between (rank x.key + 1) to xs

pub between_order : (from to : ℕ) (xs : List Item) → Between from to xs → from ≤ to
between_order from to [] h = h
between_order from to (x ∷ xs) (low, rest) = let h = between_order (rank x.key + 1) to xs rest in omega (arith, low, h)

pub between_lower : (from low to : ℕ) (xs : List Item) → low ≤ from → Between from to xs → Between low to xs
between_lower from low to [] le h = omega (arith, le, h)
between_lower from low to (x ∷ xs) le (at, rest) = (omega (arith, le, at), rest)

pub between_append : (from mid to : ℕ) (xs ys : List Item) → Between from mid xs → Between mid to ys
    → Between from to (xs ++ ys)
between_append from mid to [] ys h g = between_lower mid from to ys h g
between_append from mid to (x ∷ xs) ys (low, rest) g = (low, between_append (rank x.key + 1) mid to xs ys rest g)

pub between_left : (from to : ℕ) (xs : List Item) (y : Item) (ys : List Item) → Between from to (xs ++ y ∷ ys)
    → Between from (rank y.key) xs
between_left from to [] y ys h = h.0
between_left from to (x ∷ xs) y ys (low, rest) = (low, between_left (rank x.key + 1) to xs y ys rest)

pub between_right : (from to : ℕ) (xs : List Item) (y : Item) (ys : List Item) → Between from to (xs ++ y ∷ ys)
    → Between (rank y.key) to (y ∷ ys)
between_right from to [] y ys h = (omega arith, h.1)
between_right from to (x ∷ xs) y ys (low, rest) = between_right (rank x.key + 1) to xs y ys rest

pub between_rise : (from to : ℕ) (xs : List Item) → Between from to xs → KeysRise xs
between_rise from to [] h k x y ex ey = absurd cc
between_rise from to (a ∷ []) h zero x y ex ey = absurd cc
between_rise from to (a ∷ []) h (suc k) x y ex ey = absurd cc
between_rise from to (a ∷ (b ∷ xs)) (low, (next, rest)) zero x y ex ey =
    let p = ap (λ (z : Item). rank z.key) (same_Some a x ex) in
    let q = ap (λ (z : Item). rank z.key) (same_Some b y ey) in
    omega (arith, p, q, next)
between_rise from to (a ∷ (b ∷ xs)) (low, rest) (suc k) x y ex ey = between_rise (rank a.key + 1) to (b ∷ xs) rest k x y ex
    (subst (λ m. slice_get (a ∷ (b ∷ xs)) m ≡ Some y) (let step : suc k + 1 ≡ suc (k + 1) = omega arith in step) ey)

-- keys that rise, from the first one on
rise_from : (level lo hi i : ℕ) (x : Item) (xs : List Item) → KeysRise (x ∷ xs) → Good level lo hi i (x ∷ xs)
    → Between (rank x.key) hi (x ∷ xs)
rise_from level lo hi i x [] rise good = let low = (good_parts level lo hi i x [] good).0.below in
    (omega arith, omega (arith, low))
rise_from level lo hi i x (y ∷ ys) rise good =
    let up = rise 0 x y refl refl in
    let rest = rise_from level lo hi (i + 1) y ys
    (λ k a b ea eb. rise (suc k) a b ea
    (subst (λ m. slice_get (x ∷ (y ∷ ys)) m ≡ Some b) (let step : suc (k + 1) ≡ suc k + 1 = omega arith in step) eb))
    (good_parts level lo hi i x (y ∷ ys) good).1 in
    (omega arith, between_lower (rank y.key) (rank x.key + 1) hi (y ∷ ys) (omega (arith, up)) rest)

pub rise_between : (level lo hi i : ℕ) (xs : List Item) → lo ≤ hi → KeysRise xs → Good level lo hi i xs → Between lo hi xs
rise_between level lo hi i [] le rise good = le
rise_between level lo hi i (x ∷ xs) le rise good = between_lower (rank x.key) lo hi (x ∷ xs)
    (good_parts level lo hi i x xs good).0.from (rise_from level lo hi i x xs rise good)

-- ---- two lists one after the other

pub next_append : (hi : ℕ) (xs ys : List Item) → next_key hi (xs ++ ys) ≡ next_key (next_key hi ys) xs
next_append hi [] ys = refl
next_append hi (x ∷ xs) ys = refl

pub names_append : (level hi : ℕ) (xs ys : List Item) → names_in level hi (xs ++ ys) ≡ names_in level (next_key hi ys) xs
    ++ names_in level hi ys
unfolding names_in
names_append level hi [] ys = refl
names_append level hi (x ∷ xs) ys =
    let next = next_append hi xs ys in
    let more = names_append level hi xs ys in
    rw (next, more) (sym (append_assoc (item_names level (next_key (next_key hi ys) xs) x)
    (names_in level (next_key hi ys) xs) (names_in level hi ys)))

pub spans_append : (hi : ℕ) (xs ys : List Item) → spans_in hi (xs ++ ys) ≡ spans_in (next_key hi ys) xs ++ spans_in hi ys
unfolding spans_in
spans_append hi [] ys = refl
spans_append hi (x ∷ xs) ys =
    let next = next_append hi xs ys in
    let more = spans_append hi xs ys in
    rw (next, more) (sym (append_assoc
    (if x.plugin == 5 then record { lo = rank x.key; hi = next_key (next_key hi ys) xs } ∷ [] else [])
    (spans_in (next_key hi ys) xs) (spans_in hi ys)))

pub units_append : (xs ys : List Item) → units_in (xs ++ ys) ≡ units_in xs ++ units_in ys
unfolding units_in
units_append [] ys = refl
units_append (x ∷ xs) ys = let more = units_append xs ys in
    rw more (sym (append_assoc (item_units x) (units_in xs) (units_in ys)))

pub fit_append : (level : ℕ) (xs ys : List Item) → PluginsFit level xs → PluginsFit level ys → PluginsFit level (xs ++ ys)
fit_append level [] ys fx fy k z e = fy k z e
fit_append level (x ∷ xs) ys fx fy zero z e = fx zero z e
fit_append level (x ∷ xs) ys fx fy (suc k) z e = fit_append level xs ys (λ j. fx (suc j)) fy k z e

pub fit_left : (level : ℕ) (xs ys : List Item) → PluginsFit level (xs ++ ys) → PluginsFit level xs
fit_left level [] ys f k z e = absurd cc
fit_left level (x ∷ xs) ys f zero z e = f zero z e
fit_left level (x ∷ xs) ys f (suc k) z e = fit_left level xs ys (λ j. f (suc j)) k z e

pub fit_right : (level : ℕ) (xs ys : List Item) → PluginsFit level (xs ++ ys) → PluginsFit level ys
fit_right level [] ys f = f
fit_right level (x ∷ xs) ys f = fit_right level xs ys (λ j. f (suc j))

-- ---- a list cut in two

place_late : (level i key lo : ℕ) → 1 ≤ i → (nat_le level 1 || not (i == 0) || key == lo) ≡ true
place_late level i key lo h = grind (arith, nat_tests, h)

place_first : (level i key lo : ℕ) → key ≡ lo → (nat_le level 1 || not (i == 0) || key == lo) ≡ true
place_first level i key lo h = grind (arith, nat_tests, h)

-- what stands behind the first item may also stand behind another, for a range that begins later
pub good_behind : (level lo low hi i j : ℕ) (xs : List Item) → 1 ≤ j → Between low hi xs → Good level lo hi i xs
    → Good level low hi j xs
good_behind level lo low hi i j [] one between good = good_nil level low hi j
good_behind level lo low hi i j (x ∷ xs) one (from, rest) good =
    let (l, more) = good_parts level lo hi i x xs good in
    good_cons level low hi j x xs
    (record { body = l.body; from = from; below = l.below; fits = l.fits; end = l.end; before = l.before; first = place_late level j (rank x.key) low one })
    (good_behind level lo low hi (i + 1) (j + 1) xs (omega arith)
    (between_lower (rank x.key + 1) low hi xs (omega (arith, from)) rest) more)

pub good_right : (level lo hi i : ℕ) (xs : List Item) (y : Item) (ys : List Item) → Between lo hi (xs ++ y ∷ ys)
    → Good level lo hi i (xs ++ y ∷ ys) → Good level (rank y.key) hi 0 (y ∷ ys)
good_right level lo hi i [] y ys between good =
    let (l, more) = good_parts level lo hi i y ys good in
    good_cons level (rank y.key) hi 0 y ys
    (record { body = l.body; from = omega arith; below = l.below; fits = l.fits; end = l.end; before = l.before; first = place_first level 0 (rank y.key) (rank y.key) refl })
    (good_behind level lo (rank y.key) hi (i + 1) 1 ys (omega arith)
    (between_lower (rank y.key + 1) (rank y.key) hi ys (omega arith) between.1) more)
good_right level lo hi i (x ∷ xs) y ys between good = good_right level lo hi (i + 1) xs y ys
    (between_lower (rank x.key + 1) lo hi (xs ++ y ∷ ys) (let low = between.0 in omega (arith, low)) between.1)
    (good_parts level lo hi i x (xs ++ y ∷ ys) good).1

next_before : (from to : ℕ) (xs : List Item) → Between from to xs → next_key to xs ≤ to
next_before from to [] h = omega arith
next_before from to (x ∷ xs) (low, rest) = let h = between_order (rank x.key + 1) to xs rest in omega (arith, h)

pub good_left : (level lo hi i : ℕ) (xs : List Item) (y : Item) (ys : List Item) → Between lo hi (xs ++ y ∷ ys)
    → Good level lo hi i (xs ++ y ∷ ys) → Good level lo (rank y.key) i xs
good_left level lo hi i [] y ys between good = good_nil level lo (rank y.key) i
good_left level lo hi i (x ∷ xs) y ys between good =
    let (l, more) = good_parts level lo hi i x (xs ++ y ∷ ys) good in
    let low = between.0 in
    let rest = between_left (rank x.key + 1) hi xs y ys between.1 in
    let next = next_append hi xs (y ∷ ys) in
    let before = l.before in
    let most = next_before (rank x.key + 1) (rank y.key) xs rest in
    let over = between_order (rank x.key + 1) (rank y.key) xs rest in
    good_cons level lo (rank y.key) i x xs
    (record { body = l.body; from = l.from; below = omega (arith, over); fits = l.fits; end = omega (arith, before, next, most); before = omega (arith, before, next); first = l.first })
    (good_left level lo hi (i + 1) xs y ys
    (between_lower (rank x.key + 1) lo hi (xs ++ y ∷ ys) (omega (arith, low)) between.1) more)
