-- Items put in behind all units of a leaf come last.
use Rattle.std.proofs.Common.{◌≡◌, inl, inr, ◌<◌, Bool, true, false, List, [], ◌∷◌, ◌++◌, map, refl, sym, ap, subst}
use Rattle.std.proofs.Common.{◌∙◌, arith}
use Rattle.std.specs.Prelude.{if◌then◌else◌, nat_lt, Contains}
use Rattle.std.proofs.lemmas.Bool.Decides.{nat_tests}
use Rattle.std.proofs.lemmas.List.{append_assoc, append-nil}
use Rattle.std.proofs.lemmas.List.Elements.{Contains-append_left, Contains-append_right}
use Rattle.r4_base.specs.Cell.{item_units, units_in}
use Rattle.r4_leaf.specs.Leaves.{AreApart}
use Rattle.r4_leaf.specs.Remade.{CanPutAll, item_of, put_all}
use Rattle.r4_leaf.specs.Units.{LeafUnit, put_unit, put_units}
use Rattle.r4_leaf.specs.declared.remaking.Given.{Given}
use Rattle.r4_leaf.proofs.Lying.{units_cons, units_nil}
use Rattle.r4_patch.proofs.Members.{cases, here, later, none}
use Rattle.r4_rows.specs.Behind.{EachMayBePut, UnitsRise}

rise_apart : (xs ys : List LeafUnit) (x y : LeafUnit) → UnitsRise (xs ++ ys) → Contains xs x → Contains ys y → x.0 < y.0
rise_apart [] ys x y r mx my = absurd (none x mx)
rise_apart (z ∷ xs) ys x y (first, rest) mx my = elim (cases z x xs mx) [
  | inl is ↦ subst (λ (w : LeafUnit). w.0 < y.0) (sym is) (first y (Contains-append_right xs ys y my))
  | inr more ↦ rise_apart xs ys x y rest more my
]

rise_right : (xs ys : List LeafUnit) → UnitsRise (xs ++ ys) → UnitsRise ys
rise_right [] ys r = r
rise_right (x ∷ xs) ys (first, rest) = rise_right xs ys rest

-- a unit goes before those that have greater keys, and behind those that have smaller ones
step_past : (b : Bool) (u x : LeafUnit) (xs rest : List LeafUnit) → b ≡ false → put_unit u xs ≡ rest
    → (if b then u ∷ (x ∷ xs) else x ∷ put_unit u xs) ≡ x ∷ rest
step_past true u x xs rest e h = absurd cc
step_past false u x xs rest e h = ap (λ (us : List LeafUnit). x ∷ us) h

step_before : (b : Bool) (u x : LeafUnit) (xs : List LeafUnit) → b ≡ true
    → (if b then u ∷ (x ∷ xs) else x ∷ put_unit u xs)
    ≡ u ∷ (x ∷ xs)
step_before true u x xs e = refl
step_before false u x xs e = absurd cc

before : (u : LeafUnit) (gs : List LeafUnit) → UnitsRise (u ∷ gs) → put_unit u gs ≡ u ∷ gs
before u [] r = refl
before u (g ∷ gs) (first, rest) =
    let lt = first g (here g gs) in
    step_before (nat_lt u.0 g.0) u g gs (grind (arith, nat_tests, lt))

put_behind : (u : LeafUnit) (us gs : List LeafUnit) → UnitsRise (us ++ u ∷ gs) → put_unit u (us ++ gs) ≡ us ++ u ∷ gs
put_behind u [] gs r = before u gs r
put_behind u (x ∷ us) gs (first, rest) =
    let lt = first u (Contains-append_right us (u ∷ gs) u (here u gs)) in
    step_past (nat_lt u.0 x.0) u x (us ++ gs) (us ++ u ∷ gs) (grind (arith, nat_tests, lt)) (put_behind u us gs rest)

skip_one : (us : List LeafUnit) (u : LeafUnit) (gs : List LeafUnit) → UnitsRise (us ++ u ∷ gs) → UnitsRise (us ++ gs)
skip_one [] u gs (first, rest) = rest
skip_one (x ∷ us) u gs (first, rest) = (
  λ w at. first w (widen us w at),
  skip_one us u gs rest,
)
  where
    widen : (us : List LeafUnit) (w : LeafUnit) → Contains (us ++ gs) w → Contains (us ++ u ∷ gs) w
    widen [] w at = later u w gs at
    widen (z ∷ us) w at = elim (cases z w (us ++ gs) at) [
      | inl is ↦ subst (Contains (z ∷ (us ++ u ∷ gs))) (sym is) (here z (us ++ u ∷ gs))
      | inr more ↦ later z w (us ++ u ∷ gs) (widen us w more)
    ]

units_behind : (gs us : List LeafUnit) → UnitsRise (us ++ gs) → put_units gs us ≡ us ++ gs
units_behind [] us r = sym (append-nil us)
units_behind (g ∷ gs) us r = ap (put_unit g) (units_behind gs us (skip_one us g gs r)) ∙ put_behind g us gs r

rise_front : (xs ys : List LeafUnit) → UnitsRise (xs ++ ys) → UnitsRise xs
rise_front [] ys r = tt
rise_front (x ∷ xs) ys (first, rest) = (λ w at. first w (Contains-append_left xs ys w at), rise_front xs ys rest)

items_units : (g : Given) (gs : List Given)
    → units_in (map item_of (g ∷ gs)) ≡ item_units (item_of g) ++ units_in (map item_of gs)
items_units g gs = units_cons (item_of g) (map item_of gs)

module _ (g : Given) (gs : List Given) (us : List LeafUnit)
    (r : UnitsRise (us ++ units_in (map item_of (g ∷ gs)))) where
  whole : UnitsRise ((us ++ item_units (item_of g)) ++ units_in (map item_of gs))
  whole = subst UnitsRise (ap (λ (vs : List LeafUnit). us ++ vs) (items_units g gs)
      ∙ sym (append_assoc us (item_units (item_of g)) (units_in (map item_of gs)))) r

  one : put_units (item_units (item_of g)) us ≡ us ++ item_units (item_of g)
  one = units_behind (item_units (item_of g)) us
      (rise_front (us ++ item_units (item_of g)) (units_in (map item_of gs)) whole)

  rest_rises : UnitsRise (put_units (item_units (item_of g)) us ++ units_in (map item_of gs))
  rest_rises = subst (λ (vs : List LeafUnit). UnitsRise (vs ++ units_in (map item_of gs))) (sym one) whole

  apart_one : AreApart us (item_units (item_of g))
  apart_one k v w a b =
      let lt = rise_apart us (item_units (item_of g)) (k, v) (k, w)
      (rise_front (us ++ item_units (item_of g)) (units_in (map item_of gs)) whole) a b in
      omega (arith, lt)

pub can_put_behind : (gs : List Given) (us : List LeafUnit) → EachMayBePut gs
    → UnitsRise (us ++ units_in (map item_of gs)) → CanPutAll gs us
can_put_behind [] us given r = tt
can_put_behind (g ∷ gs) us (mine, others) r = (
  mine,
  apart_one g gs us r,
  can_put_behind gs (put_units (item_units (item_of g)) us) others (rest_rises g gs us r),
)

pub put_all_behind : (gs : List Given) (us : List LeafUnit) → UnitsRise (us ++ units_in (map item_of gs))
    → put_all gs us ≡ us ++ units_in (map item_of gs)
put_all_behind [] us r = sym (append-nil us) ∙ ap (λ (vs : List LeafUnit). us ++ vs) (sym units_nil)
put_all_behind (g ∷ gs) us r =
    put_all_behind gs (put_units (item_units (item_of g)) us) (rest_rises g gs us r)
    ∙ (ap (λ (vs : List LeafUnit). vs ++ units_in (map item_of gs)) (one g gs us r)
    ∙ (append_assoc us (item_units (item_of g)) (units_in (map item_of gs))
    ∙ ap (λ (vs : List LeafUnit). us ++ vs) (sym (items_units g gs))))
