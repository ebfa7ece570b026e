-- Names and units within a range of keys, and two ranges side by side.
use Rattle.std.proofs.Common.{◌≡◌, inl, inr, ℕ, zero, suc, ◌+◌, ◌<◌, ◌≤◌, List, [], ◌∷◌, ◌++◌, length, sym, ap, subst, ◌∙◌, arith}
use Rattle.std.specs.Prelude.{Contains}
use Rattle.std.proofs.lemmas.List.Elements.{Contains-append_cases}
use Rattle.r4_base.specs.Tree.{Name, InName}
use Rattle.r4_base.specs.Value.{Value, Byte}
use Rattle.r4_base.specs.Cell.{bytes_from, zeros_from}
use Rattle.r4_base.proofs.FreshTree.{only}
use Rattle.r4_base.proofs.Choices.{nothing_in}

-- Names and units of a range of keys: no key lies under two of the names, nor has a unit and lies under one.
pub record IsRow (lo hi : ℕ) (names : List Name) (units : List (ℕ × Value)) : Type 0 where
  pub order : lo ≤ hi
  pub nonempty : (n : Name) → Contains names n → n.lo < n.hi
  pub from : (n : Name) → Contains names n → lo ≤ n.lo
  pub to : (n : Name) → Contains names n → n.hi ≤ hi
  pub apart : (n m : Name) (k : ℕ) → Contains names n → Contains names m → InName n k → InName m k → n ≡ m
  pub unit_in : (k : ℕ) (v : Value) → Contains units (k, v) → (lo ≤ k) × (k < hi)
  pub hole : (n : Name) (k : ℕ) (v : Value) → Contains names n → Contains units (k, v) → InName n k → ⊥
  pub one_unit : (k : ℕ) (v w : Value) → Contains units (k, v) → Contains units (k, w) → v ≡ w

pub row_none : (lo hi : ℕ) → lo ≤ hi → IsRow lo hi [] []
row_none lo hi le = record {
  order = le;
  nonempty = λ n h. absurd (nothing_in n h);
  from = λ n h. absurd (nothing_in n h);
  to = λ n h. absurd (nothing_in n h);
  apart = λ n m k x y _ _. absurd (nothing_in n x);
  unit_in = λ k v h. absurd (nothing_in (k, v) h);
  hole = λ n k v x _ _. nothing_in n x;
  one_unit = λ k v w h _. absurd (nothing_in (k, v) h);
}

pub row_unit : (k : ℕ) (v : Value) → IsRow k (k + 1) [] ((k, v) ∷ [])
row_unit l u = record {
  order = omega arith;
  nonempty = λ n h. absurd (nothing_in n h);
  from = λ n h. absurd (nothing_in n h);
  to = λ n h. absurd (nothing_in n h);
  apart = λ n m k x y _ _. absurd (nothing_in n x);
  unit_in = λ k v h. let e : k ≡ l = ap (λ (x : ℕ × Value). x.0) (only (l, u) (k, v) h) in (omega (arith, e), omega (arith, e));
  hole = λ n k v x _ _. nothing_in n x;
  one_unit = λ k v w x y. ap (λ (z : ℕ × Value). z.1) (only (l, u) (k, v) x) ∙ sym (ap (λ (z : ℕ × Value). z.1) (only (l, u) (k, w) y));
}

pub row_name : (a : Name) → a.lo < a.hi → IsRow a.lo a.hi (a ∷ []) []
row_name a lt = record {
  order = omega (arith, lt);
  nonempty = λ n h. subst (λ (x : Name). x.lo < x.hi) (sym (only a n h)) lt;
  from = λ n h. let e : n.lo ≡ a.lo = ap (λ (x : Name). x.lo) (only a n h) in omega (arith, e);
  to = λ n h. let e : n.hi ≡ a.hi = ap (λ (x : Name). x.hi) (only a n h) in omega (arith, e);
  apart = λ n m k x y _ _. only a n x ∙ sym (only a m y);
  unit_in = λ k v h. absurd (nothing_in (k, v) h);
  hole = λ n k v _ h _. nothing_in (k, v) h;
  one_unit = λ k v w h _. absurd (nothing_in (k, v) h);
}

pub row_wider : (lo hi from to : ℕ) (names : List Name) (units : List (ℕ × Value)) → from ≤ lo → hi ≤ to → IsRow lo hi names units → IsRow from to names units
row_wider lo hi from to names units low high r = record {
  order = let o = r.order in omega (arith, low, high, o);
  nonempty = r.nonempty;
  from = λ n h. let f = r.from n h in omega (arith, low, f);
  to = λ n h. let t = r.to n h in omega (arith, high, t);
  apart = r.apart;
  unit_in = λ k v h. let i = r.unit_in k v h in let a = i.0 in let b = i.1 in (omega (arith, low, a), omega (arith, high, b));
  hole = r.hole;
  one_unit = r.one_unit;
}

module _ (lo mid hi : ℕ) (ns ms : List Name) (us vs : List (ℕ × Value)) (r : IsRow lo mid ns us) (s : IsRow mid hi ms vs) where
  pub name_below : (n : Name) (k : ℕ) → Contains ns n → InName n k → k < mid
  name_below n k h at = let t = r.to n h in let a = at.1 in omega (arith, t, a)

  pub name_above : (n : Name) (k : ℕ) → Contains ms n → InName n k → mid ≤ k
  name_above n k h at = let t = s.from n h in let a = at.0 in omega (arith, t, a)

  pub row_append : IsRow lo hi (ns ++ ms) (us ++ vs)
  row_append = record {
    order = let a = r.order in let b = s.order in omega (arith, a, b);
    nonempty = λ n h. elim (Contains-append_cases ns ms n h) [
      | inl x ↦ r.nonempty n x
      | inr x ↦ s.nonempty n x
    ];
    from = λ n h. elim (Contains-append_cases ns ms n h) [
      | inl x ↦ r.from n x
      | inr x ↦ let a = r.order in let b = s.from n x in omega (arith, a, b)
    ];
    to = λ n h. elim (Contains-append_cases ns ms n h) [
      | inl x ↦ let a = r.to n x in let b = s.order in omega (arith, a, b)
      | inr x ↦ s.to n x
    ];
    apart = λ n m k h g at bt. elim (Contains-append_cases ns ms n h) [
      | inl x ↦ elim (Contains-append_cases ns ms m g) [
        | inl y ↦ r.apart n m k x y at bt
        | inr y ↦ let a = name_below n k x at in let b = name_above m k y bt in absurd (omega (arith, a, b))
      ]
      | inr x ↦ elim (Contains-append_cases ns ms m g) [
        | inl y ↦ let a = name_above n k x at in let b = name_below m k y bt in absurd (omega (arith, a, b))
        | inr y ↦ s.apart n m k x y at bt
      ]
    ];
    unit_in = λ k v h. elim (Contains-append_cases us vs (k, v) h) [
      | inl x ↦ let i = r.unit_in k v x in let a = i.0 in let b = i.1 in let c = s.order in (a, omega (arith, b, c))
      | inr x ↦ let i = s.unit_in k v x in let a = i.0 in let b = i.1 in let c = r.order in (omega (arith, a, c), b)
    ];
    hole = λ n k v h g at. elim (Contains-append_cases ns ms n h) [
      | inl x ↦ elim (Contains-append_cases us vs (k, v) g) [
        | inl y ↦ r.hole n k v x y at
        | inr y ↦ let a = name_below n k x at in let b = (s.unit_in k v y).0 in absurd (omega (arith, a, b))
      ]
      | inr x ↦ elim (Contains-append_cases us vs (k, v) g) [
        | inl y ↦ let a = name_above n k x at in let b = (r.unit_in k v y).1 in absurd (omega (arith, a, b))
        | inr y ↦ s.hole n k v x y at
      ]
    ];
    one_unit = λ k v w h g. elim (Contains-append_cases us vs (k, v) h) [
      | inl x ↦ elim (Contains-append_cases us vs (k, w) g) [
        | inl y ↦ r.one_unit k v w x y
        | inr y ↦ let a = (r.unit_in k v x).1 in let b = (s.unit_in k w y).0 in absurd (omega (arith, a, b))
      ]
      | inr x ↦ elim (Contains-append_cases us vs (k, w) g) [
        | inl y ↦ let a = (s.unit_in k v x).0 in let b = (r.unit_in k w y).1 in absurd (omega (arith, a, b))
        | inr y ↦ s.one_unit k v w x y
      ]
    ];
  }

-- ---- bytes

pub row_bytes : (k : ℕ) (s : List ℕ) → IsRow k (k + length s) [] (bytes_from k s)
row_bytes k [] = row_none k (k + 0) (omega arith)
row_bytes k (x ∷ s) =
    let rest = row_bytes (k + 1) s in
    let e : k + 1 + length s ≡ k + suc (length s) = omega arith in
    row_append k (k + 1) (k + suc (length s)) [] [] ((k, Byte x) ∷ []) (bytes_from (k + 1) s) (row_unit k (Byte x)) (subst (λ (h : ℕ). IsRow (k + 1) h [] (bytes_from (k + 1) s)) e rest)

pub row_zeros : (k n : ℕ) → IsRow k (k + n) [] (zeros_from k n)
row_zeros k zero = row_none k (k + 0) (omega arith)
row_zeros k (suc n) =
    let rest = row_zeros (k + 1) n in
    let e : k + 1 + n ≡ k + suc n = omega arith in
    row_append k (k + 1) (k + suc n) [] [] ((k, Byte 0) ∷ []) (zeros_from (k + 1) n) (row_unit k (Byte 0)) (subst (λ (h : ℕ). IsRow (k + 1) h [] (zeros_from (k + 1) n)) e rest)
