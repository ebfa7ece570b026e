-- What a command asks of a tree is plain: cells without a changed key ask for nothing by themselves.
use Rattle.std.proofs.Common.{◌≡◌, ◌⊎◌, inl, inr, ℕ, zero, suc, ◌<◌, ◌≤◌, Bool, true, false, List, [], ◌∷◌}
use Rattle.std.proofs.Common.{refl, sym, subst, arith}
use Rattle.std.specs.Prelude.{Contains, Option, None, Some, ◌&&◌, ◌||◌, ◌==◌, nat_lt, if◌then◌else◌}
use Rattle.std.specs.List.{filter, list_any}
use Rattle.std.proofs.lemmas.Option.{none-some}
use Rattle.r4_base.specs.Tree.{Name, Node, Span}
use Rattle.r4_base.specs.Value.{Value}
use Rattle.r4_content.specs.Edited.{Edits, Intervals, is_between, is_in}
use Rattle.r4_reach.specs.Demand.{IsChanged, IsPlain}
use Rattle.r4_content.specs.Bodies.{larger}
use Rattle.r4_reach.specs.Needs.{Ask, cell_asks, demand_of, going_of, is_met, is_touched, meets}
use Rattle.r4_reach.specs.Needs.{node_asks, leaf_asks, twig_asks, changes_pieces}
use Rattle.r4_reach.specs.Touched.{Body}
use Rattle.r4_reach.proofs.Heard.{here, later}

and_left : (a b : Bool) → (a && b) ≡ true → a ≡ true
and_left true b e = refl
and_left false b e = e

or_cases : (a b : Bool) → (a || b) ≡ true → (a ≡ true) ⊎ (b ≡ true)
or_cases true b e = inl refl
or_cases false b e = inr e

or_right : (a b : Bool) → b ≡ true → (a || b) ≡ true
or_right true b e = refl
or_right false b e = e

pub or_left : (a b : Bool) → a ≡ true → (a || b) ≡ true
or_left true b e = refl
or_left false b e = absurd (grind (arith, e))

module _ {X : Type 0} (p : X → Bool) where
  any_of : (xs : List X) → list_any p xs ≡ true → (x : X) × Contains xs x × (p x ≡ true)
  any_of [] e = absurd (grind (arith, e))
  any_of (x ∷ xs) e = by_test (any_of xs) (or_cases (p x) (list_any p xs) e)
    where
      by_test : (list_any p xs ≡ true → (x : X) × Contains xs x × (p x ≡ true))
          → ((p x ≡ true) ⊎ (list_any p xs ≡ true)) → (y : X) × Contains (x ∷ xs) y × (p y ≡ true)
      by_test rest (inl h) = (x, here x xs, h)
      by_test rest (inr h) = let (y, c, t) = rest h in (y, later x y xs c, t)

  filtered : (xs : List X) (x : X) → Contains (filter p xs) x → Contains xs x
  filtered [] x c = c
  filtered (y ∷ ys) x c = by_test (p y) (filtered ys x) c
    where
      by_test : (b : Bool) → (Contains (filter p ys) x → Contains ys x)
          → Contains (if b then y ∷ filter p ys else filter p ys) x → Contains (y ∷ ys) x
      by_test true rest (zero, l, e) = (zero, omega arith, e)
      by_test true rest (suc k, l, e) = later y x ys (rest (k, omega (arith, l), e))
      by_test false rest c = later y x ys (rest c)

-- the key at which an interval meets a range
met_key : (lo hi : ℕ) (r : ℕ × ℕ) → meets lo hi r ≡ true
    → (lo ≤ larger lo r.0) × (larger lo r.0 < hi) × (is_between r.0 r.1 (larger lo r.0) ≡ true)
met_key lo hi r e = by_low (nat_lt lo r.0) (nat_lt hi r.1) refl refl e
  where
    by_low : (x y : Bool) → nat_lt lo r.0 ≡ x → nat_lt hi r.1 ≡ y
        → nat_lt (if x then r.0 else lo) (if y then hi else r.1) ≡ true
        → (lo ≤ (if x then r.0 else lo)) × ((if x then r.0 else lo) < hi)
        × (is_between r.0 r.1 (if x then r.0 else lo) ≡ true)
    by_low true true f g e = (grind (arith, f), grind (arith, e), grind (arith, e, g))
    by_low true false f g e = (grind (arith, f), grind (arith, e, g), grind (arith, e))
    by_low false true f g e = (omega arith, grind (arith, e), grind (arith, f, e, g))
    by_low false false f g e = (omega arith, grind (arith, e, g), grind (arith, e, f))

in_intervals : (rs : Intervals) (r : ℕ × ℕ) (k : ℕ) → Contains rs r → is_between r.0 r.1 k ≡ true → is_in rs k ≡ true
in_intervals [] r k (n, l, e) t = absurd (omega (arith, l))
in_intervals (x ∷ rs) r k (zero, l, e) t = or_left (is_between x.0 x.1 k) (is_in rs k)
    (subst (λ y. is_between y.0 y.1 k ≡ true) (sym e) t)
in_intervals (x ∷ rs) r k (suc n, l, e) t = or_right (is_between x.0 x.1 k) (is_in rs k)
    (in_intervals rs r k (n, omega (arith, l), e) t)

met_in : (rs : Intervals) (lo hi : ℕ) → is_met rs lo hi ≡ true → (k : ℕ) × (is_in rs k ≡ true) × (lo ≤ k) × (k < hi)
met_in rs lo hi e =
    let (r, c, t) = any_of (meets lo hi) rs e in
    let (from, to, at) = met_key lo hi r t in
    (larger lo r.0, in_intervals rs r (larger lo r.0) c at, from, to)

touched_changed : (b : Option Body) (e : Edits) (reads rs : Intervals) (c : Node Value) → is_touched rs c ≡ true
    → IsChanged (demand_of b e reads rs) c
touched_changed b e reads rs c t = by_level (c.level == 1) refl t
  where
    by_level : (v : Bool) → (c.level == 1) ≡ v
        → (if v then is_met rs c.lo c.hi else list_any (λ (s : Span). is_met rs s.lo s.hi) c.spans) ≡ true
        → IsChanged (demand_of b e reads rs) c
    by_level true is t = let (k, w, from, to) = met_in rs c.lo c.hi t in (k, w, inl (grind (arith, is), (from, to)))
    by_level false is t =
        let (s, cs, m) = any_of (λ (s : Span). is_met rs s.lo s.hi) c.spans t in
        let (k, w, from, to) = met_in rs s.lo s.hi m in
        (k, w, inr (s, cs, (from, to)))

asks_touched : (b : Option Body) (e : Edits) (rs : Intervals) (c : Node Value) (a : Ask)
    → cell_asks b e rs c [] ≡ Some a → is_touched rs c ≡ true
asks_touched b e rs c a h = by_test (is_touched rs c) h
  where
    by_test : (v : Bool) → (if v || false then
        (if c.level == 1 then leaf_asks b e c else (if c.level == 2 then twig_asks b e c [] else node_asks b c []))
        else None) ≡ Some a → v ≡ true
    by_test true g = refl
    by_test false g = absurd (none-some a g)

pub demand_plain : (b : Option Body) (e : Edits) (reads rs : Intervals) → IsPlain (demand_of b e reads rs)
demand_plain b e reads rs = record {
  own = λ c a h. touched_changed b e reads rs c (asks_touched b e rs c a h);
  turned = λ c h. touched_changed b e reads rs c (and_left (is_touched rs c) ((c.level == 2)
      && changes_pieces b e c) h);
  besides = λ c n h. filtered (λ (n : Name). (n.level == 1)
      && ((n.hi == (going_of b).0) && nat_lt (going_of b).0 (going_of b).1)) c.names n h;
}
