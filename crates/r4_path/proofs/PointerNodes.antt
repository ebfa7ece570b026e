-- A node of pointers to cells whose ranges follow each other.
use Rattle.std.proofs.Common.{◌≡◌, ℕ, zero, suc, ◌+◌, ◌-◌, ◌^◌, ◌<◌, ◌≤◌, true, not, ◌&&◌, ◌||◌, List, [], ◌∷◌, map, refl, sym}
use Rattle.std.proofs.Common.{ap, subst, ◌∙◌, arith}
use Rattle.std.specs.Prelude.{All, Some, None, ◌==◌, nat_le, nat_lt, slice_get}
use Rattle.std.proofs.lemmas.Bool.{le-leb}
use Rattle.std.proofs.lemmas.Bool.Decides.{nat_tests}
use Rattle.std.proofs.lemmas.List.{append-nil}
use Rattle.std.proofs.lemmas.List.Elements.{All-head, All-tail}
use Rattle.std.proofs.lemmas.Option.{same_Some}
use Rattle.r4_base.specs.Bitmap.{is_fixed}
use Rattle.r4_base.specs.Bytes.{number_at, number_bytes}
use Rattle.r4_base.specs.Cell.{item_body_fault, item_end, item_names, item_units, names_in, next_key, spans_in, units_in}
use Rattle.r4_base.specs.Extents.{pointer_of}
use Rattle.r4_base.specs.Key.{rank}
use Rattle.r4_base.specs.Node.{Item, KeysRise}
use Rattle.r4_base.proofs.Numbers.{length-number_bytes, number_at-bytes}
use Rattle.r4_patch.specs.r4_cell.Seen.{CellSeen}
use Rattle.r4_path.specs.Nodes.{IsPointable, pointer_item}
use Rattle.r4_path.specs.Steps.{Follow, name_of}
use Rattle.r4_path.proofs.Lying.{Good, Lies, good_cons, good_nil}

number_is : (to : ℕ) → to < 2 ^ 64 → number_at 8 0 (number_bytes 8 to) ≡ to
number_is to fits = ap (number_at 8 0) (sym (append-nil (number_bytes 8 to))) ∙ number_at-bytes 8 to [] [] 0 refl fits

not_low : (to : ℕ) → (nat_le (2 ^ 63) to || nat_lt to (2 ^ 64) && not (is_fixed (2 ^ 64) to)) ≡ true → 22 ≤ to
not_low to h = grind (arith, nat_tests, h)

pub pointer_is : (to : ℕ) → IsPointable to → pointer_of (number_bytes 8 to) ≡ Some to
unfolding pointer_of
pointer_is to (fits, named) = let t : nat_le 22 to ≡ true = le-leb 22 to (not_low to named) in
    rw (length-number_bytes 8 to, number_is to fits, t) refl

pointer_body : (c : CellSeen) → IsPointable c.id → item_body_fault true (2 ^ 64) (pointer_item c) ≡ None
unfolding item_body_fault
pointer_body c able = let to = pointer_is c.id able in let named = able.1 in rw (to, named) refl

pointer_end : (c : CellSeen) → item_end (pointer_item c) ≡ rank c.lo + 1
unfolding item_end
pointer_end c = refl

pub next_follow : (level lo hi : ℕ) (cells : List CellSeen) → Follow level lo hi cells → next_key hi (map pointer_item cells)
    ≡ lo
next_follow level lo hi [] e = sym e
next_follow level lo hi (c ∷ cells) follow = follow.1

follow_most : (level lo hi : ℕ) (cells : List CellSeen) → Follow level lo hi cells → lo ≤ hi
follow_most level lo hi [] e = omega (arith, e)
follow_most level lo hi (c ∷ cells) (l, at, lt, rest) = let h = follow_most level (rank c.hi) hi cells rest in
    omega (arith, h, lt)

first_place : (level i key lo : ℕ) → (i ≡ 0 → key ≡ lo) → (nat_le level 1 || not (i == 0) || key == lo) ≡ true
first_place level i key lo h = grind (arith, nat_tests, h)

-- a pointer in the place i of a node
pub pointer_lies : (level lo hi next i : ℕ) (c : CellSeen) → IsPointable c.id → lo ≤ rank c.lo → rank c.lo < next → next ≤ hi
    → (i ≡ 0 → rank c.lo ≡ lo) → Lies level lo hi next i (pointer_item c)
pointer_lies level lo hi next i c able from before to first = let end = pointer_end c in record {
  body = pointer_body c able;
  from = from;
  below = omega (arith, before, to);
  fits = refl;
  end = omega (arith, end, before, to);
  before = omega (arith, end, before);
  first = first_place level i (rank c.lo) lo first;
}

pub pointers_good : (level lo hi i from : ℕ) (l : ℕ) (cells : List CellSeen) → Follow l from hi cells
    → All (λ c. IsPointable c.id) cells → lo ≤ from → (i ≡ 0 → from ≡ lo) → Good level lo hi i (map pointer_item cells)
pointers_good level lo hi i from l [] follow able low first = good_nil level lo hi i
pointers_good level lo hi i from l (c ∷ cells) (cl, at, lt, rest) able low first =
    let next = next_follow l (rank c.hi) hi cells rest in
    let most = follow_most l (rank c.hi) hi cells rest in
    good_cons level lo hi i (pointer_item c) (map pointer_item cells)
    (pointer_lies level lo hi (next_key hi (map pointer_item cells)) i c
    (All-head (λ (x : CellSeen). IsPointable x.id) c cells able) (omega (arith, low, at)) (omega (arith, at, lt, next))
    (omega (arith, next, most)) (λ zeroth. at ∙ first zeroth))
    (pointers_good level lo hi (i + 1) (rank c.hi) l cells rest (All-tail (λ (x : CellSeen). IsPointable x.id) c cells able)
    (omega (arith, low, lt)) (λ none. absurd (omega (arith, none))))

pub pointer_names : (l next : ℕ) (c : CellSeen) → IsPointable c.id → c.level ≡ l → rank c.hi ≡ next
    → item_names (suc l) next (pointer_item c) ≡ name_of c ∷ []
unfolding item_names
pointer_names l next c able level hi =
    let to = pointer_is c.id able in
    let down : suc l - 1 ≡ l = omega arith in
    rw (to, down) (λ i. record { id = c.id; level = sym level i; lo = rank c.lo; hi = sym hi i } ∷ [])

pub pointers_name : (l from hi : ℕ) (cells : List CellSeen) → Follow l from hi cells → All (λ c. IsPointable c.id) cells
    → names_in (suc l) hi (map pointer_item cells) ≡ map name_of cells
unfolding names_in
pointers_name l from hi [] follow able = refl
pointers_name l from hi (c ∷ cells) (cl, at, lt, rest) able =
    let next = next_follow l (rank c.hi) hi cells rest in
    let one = pointer_names l (next_key hi (map pointer_item cells)) c
    (All-head (λ (x : CellSeen). IsPointable x.id) c cells able) cl (sym next) in
    let more = pointers_name l (rank c.hi) hi cells rest (All-tail (λ (x : CellSeen). IsPointable x.id) c cells able) in
    rw (one, more) refl

pub pointers_span : (hi : ℕ) (cells : List CellSeen) → spans_in hi (map pointer_item cells) ≡ []
unfolding spans_in
pointers_span hi [] = refl
pointers_span hi (c ∷ cells) = pointers_span hi cells

pub pointers_unit : (cells : List CellSeen) → units_in (map pointer_item cells) ≡ []
unfolding units_in item_units
pointers_unit [] = refl
pointers_unit (c ∷ cells) = pointers_unit cells

pub pointers_rise : (l from hi : ℕ) (cells : List CellSeen) → Follow l from hi cells → KeysRise (map pointer_item cells)
pointers_rise l from hi [] follow k x y ex ey = absurd cc
pointers_rise l from hi (c ∷ []) follow zero x y ex ey = absurd cc
pointers_rise l from hi (c ∷ []) follow (suc k) x y ex ey = absurd cc
pointers_rise l from hi (c ∷ (d ∷ cells)) (cl, at, lt, rest) zero x y ex ey =
    let ax = ap (λ (z : Item). rank z.key) (same_Some (pointer_item c) x ex) in
    let ay = ap (λ (z : Item). rank z.key) (same_Some (pointer_item d) y ey) in
    let next = rest.1 in
    omega (arith, ax, ay, next, at, lt)
pointers_rise l from hi (c ∷ (d ∷ cells)) (cl, at, lt, rest) (suc k) x y ex ey = pointers_rise l (rank c.hi) hi
    (d ∷ cells) rest k x y ex (subst (λ m. slice_get (map pointer_item (c ∷ (d ∷ cells))) m ≡ Some y)
    (let step : suc k + 1 ≡ suc (k + 1) = omega arith in step) ey)
