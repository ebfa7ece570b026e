-- Items that stand one after the other, whatever node they are in.
use Rattle.std.proofs.Common.{◌≡◌, ℕ, zero, suc, ◌+◌, ◌*◌, ◌≤◌, true, not, ◌||◌, List, [], ◌∷◌, ◌++◌, length}
use Rattle.std.proofs.Common.{map, refl, ap, subst, arith}
use Rattle.std.specs.Prelude.{All, Some, ◌==◌, nat_le, slice_get}
use Rattle.std.proofs.lemmas.Bool.Decides.{nat_tests}
use Rattle.std.proofs.lemmas.List.Elements.{All-append, All-head, All-tail, All-nil, All-cons}
use Rattle.std.proofs.lemmas.Option.{same_Some}
use Rattle.r4_base.specs.Cell.{next_key}
use Rattle.r4_base.specs.Key.{rank}
use Rattle.r4_base.specs.Node.{Item, KeysRise}
use Rattle.r4_cell.specs.Seen.{CellSeen}
use Rattle.r4_path.specs.Nodes.{IsPointable, pointer_item, weight, weight_of}
use Rattle.r4_path.specs.Steps.{Follow}
use Rattle.r4_path.proofs.Cuts.{alike_weigh}
use Rattle.r4_path.proofs.Lying.{Good, good_cons, good_nil, good_parts}
use Rattle.r4_path.proofs.PointerNodes.{pointer_lies}
use Rattle.r4_path.proofs.Replacing.{pointers_next}
use Rattle.r4_path.proofs.Rows.{fit_append, fit_left, fit_right, next_append}
use Rattle.r4_squeeze.specs.Items.{HaveBodies, Stand}
use Rattle.r4_squeeze.specs.Packing.{ArePointers}

pub stand_below : (hi : ℕ) (xs : List Item) → Stand hi xs → next_key hi xs ≤ hi
stand_below hi [] h = omega arith
stand_below hi (x ∷ xs) (placed, below, end, rest) = let h = stand_below hi xs rest in omega (arith, h, below)

pub stand_left : (hi : ℕ) (xs ys : List Item) → Stand hi (xs ++ ys) → Stand (next_key hi ys) xs
stand_left hi [] ys h = tt
stand_left hi (x ∷ xs) ys (placed, below, end, rest) =
    let next = next_append hi xs ys in (placed, omega (arith, below, next), omega (arith, end, next), stand_left hi xs ys rest)

pub stand_right : (hi : ℕ) (xs ys : List Item) → Stand hi (xs ++ ys) → Stand hi ys
stand_right hi [] ys h = h
stand_right hi (x ∷ xs) ys (placed, below, end, rest) = stand_right hi xs ys rest

pub stand_append : (hi : ℕ) (xs ys : List Item) → Stand (next_key hi ys) xs → Stand hi ys → Stand hi (xs ++ ys)
stand_append hi [] ys h k = k
stand_append hi (x ∷ xs) ys (placed, below, end, rest) k =
    let next = next_append hi xs ys in
    (placed, omega (arith, below, next), omega (arith, end, next), stand_append hi xs ys rest k)

pub stand_rise : (hi : ℕ) (xs : List Item) → Stand hi xs → KeysRise xs
stand_rise hi [] h k x y ex ey = absurd cc
stand_rise hi (z ∷ []) h zero x y ex ey = absurd cc
stand_rise hi (z ∷ []) h (suc k) x y ex ey = absurd cc
stand_rise hi (z ∷ (w ∷ xs)) (placed, below, end, rest) zero x y ex ey =
    let ax = ap (λ (i : Item). rank i.key) (same_Some z x ex) in
    let ay = ap (λ (i : Item). rank i.key) (same_Some w y ey) in
    omega (arith, ax, ay, below)
stand_rise hi (z ∷ (w ∷ xs)) (placed, below, end, rest) (suc k) x y ex ey =
    stand_rise hi (w ∷ xs) rest k x y ex (subst (λ m. slice_get (z ∷ (w ∷ xs)) m ≡ Some y)
    (let step : suc k + 1 ≡ suc (k + 1) = omega arith in step) ey)

first_place : (level i key lo : ℕ) → (i ≡ 0 → key ≡ lo) → (nat_le level 1 || not (i == 0) || key == lo) ≡ true
first_place level i key lo h = grind (arith, nat_tests, h)

-- so they may stand in a cell that begins with the first of them
pub stand_good : (level lo hi i : ℕ) (xs : List Item) → Stand hi xs → lo ≤ next_key hi xs
    → (i ≡ 0 → next_key hi xs ≡ lo) → Good level lo hi i xs
stand_good level lo hi i [] h low first = good_nil level lo hi i
stand_good level lo hi i (x ∷ xs) (placed, below, end, rest) low first =
    let most = stand_below hi xs rest in
    good_cons level lo hi i x xs
    (record {
      body = placed.body;
      from = low;
      below = omega (arith, below, most);
      fits = placed.fits;
      end = omega (arith, end, most);
      before = end;
      first = first_place level i (rank x.key) lo first;
    })
    (stand_good level lo hi (i + 1) xs rest (omega (arith, low, below)) (λ none. absurd (omega (arith, none))))

-- and those of a cell that may stand do
pub good_stand : (level lo hi i : ℕ) (xs : List Item) → KeysRise xs → Good level lo hi i xs → Stand hi xs
good_stand level lo hi i [] rise good = tt
good_stand level lo hi i (x ∷ []) rise good =
    let (at, rest) = good_parts level lo hi i x [] good in
    (record { body = at.body; fits = at.fits }, at.below, at.before, tt)
good_stand level lo hi i (x ∷ (y ∷ ys)) rise good =
    let (at, rest) = good_parts level lo hi i x (y ∷ ys) good in (
      record { body = at.body; fits = at.fits },
      rise 0 x y refl refl,
      at.before,
      good_stand level lo hi (i + 1) (y ∷ ys) (λ k a b ea eb. rise (suc k) a b ea
          (subst (λ m. slice_get (x ∷ (y ∷ ys)) m ≡ Some b)
          (let step : suc (k + 1) ≡ suc k + 1 = omega arith in step) eb)) rest,
    )

-- pointers to cells beside each other, before other items
pub pointers_stand : (l hi from to : ℕ) (cells : List CellSeen) (xs : List Item) → Follow l from to cells
    → All (λ (c : CellSeen). IsPointable c.id) cells → next_key hi xs ≡ to → Stand hi xs
    → Stand hi (map pointer_item cells ++ xs)
pointers_stand l hi from to [] xs follow able next h = h
pointers_stand l hi from to (c ∷ cells) xs (cl, at, lt, more) able next h =
    let rest = pointers_stand l hi (rank c.hi) to cells xs more
    (All-tail (λ (x : CellSeen). IsPointable x.id) c cells able) next h in
    let behind = pointers_next l hi (rank c.hi) to cells xs more next in
    let most = stand_below hi (map pointer_item cells ++ xs) rest in
    let lies = pointer_lies 1 (rank c.lo) hi (next_key hi (map pointer_item cells ++ xs)) 0 c
    (All-head (λ (x : CellSeen). IsPointable x.id) c cells able) (omega arith)
    (omega (arith, at, lt, behind)) (omega (arith, most)) (λ zeroth. refl) in
    (record { body = lies.body; fits = lies.fits }, omega (arith, at, lt, behind), lies.before, rest)

-- ---- pointers alone

pub pointers_left : (level hi : ℕ) (xs ys : List Item) → ArePointers level hi (xs ++ ys)
    → ArePointers level (next_key hi ys) xs
pointers_left level hi xs ys p = record {
  stand = stand_left hi xs ys p.stand;
  fit = fit_left level xs ys p.fit;
  alike = alike_left xs ys p.alike;
}
  where
    alike_left : (xs ys : List Item) → All (λ (x : Item). weight_of x ≡ 46) (xs ++ ys)
        → All (λ (x : Item). weight_of x ≡ 46) xs
    alike_left [] ys all = All-nil (λ (x : Item). weight_of x ≡ 46)
    alike_left (x ∷ xs) ys all = All-cons (λ (z : Item). weight_of z ≡ 46) x xs
        (All-head (λ (z : Item). weight_of z ≡ 46) x (xs ++ ys) all)
        (alike_left xs ys (All-tail (λ (z : Item). weight_of z ≡ 46) x (xs ++ ys) all))

pub pointers_right : (level hi : ℕ) (xs ys : List Item) → ArePointers level hi (xs ++ ys)
    → ArePointers level hi ys
pointers_right level hi xs ys p = record {
  stand = stand_right hi xs ys p.stand;
  fit = fit_right level xs ys p.fit;
  alike = alike_right xs ys p.alike;
}
  where
    alike_right : (xs ys : List Item) → All (λ (x : Item). weight_of x ≡ 46) (xs ++ ys)
        → All (λ (x : Item). weight_of x ≡ 46) ys
    alike_right [] ys all = all
    alike_right (x ∷ xs) ys all = alike_right xs ys (All-tail (λ (z : Item). weight_of z ≡ 46) x (xs ++ ys) all)

pub pointers_append : (level hi : ℕ) (xs ys : List Item) → ArePointers level (next_key hi ys) xs
    → ArePointers level hi ys → ArePointers level hi (xs ++ ys)
pointers_append level hi xs ys p q = record {
  stand = stand_append hi xs ys p.stand q.stand;
  fit = fit_append level xs ys p.fit q.fit;
  alike = All-append (λ (x : Item). weight_of x ≡ 46) xs ys p.alike q.alike;
}

pub pointers_weigh : (level hi : ℕ) (xs : List Item) → ArePointers level hi xs → weight xs ≡ 46 * length xs
pointers_weigh level hi xs p = alike_weigh xs p.alike

pub pointer_bodies : (level hi : ℕ) (xs : List Item) → ArePointers level hi xs → HaveBodies xs
pointer_bodies level hi xs p = go xs p.alike
  where
    go : (xs : List Item) → All (λ (x : Item). weight_of x ≡ 46) xs → HaveBodies xs
    go [] all k x e = absurd cc
    go (y ∷ ys) all zero x e =
        let long = All-head (λ (z : Item). weight_of z ≡ 46) y ys all in
        let same = ap weight_of (same_Some y x e) in
        (omega (arith, long, same), omega (arith, long, same))
    go (y ∷ ys) all (suc k) x e = go ys (All-tail (λ (z : Item). weight_of z ≡ 46) y ys all) k x e
