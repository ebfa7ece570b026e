-- Items that may be put into a leaf together.
use Rattle.std.proofs.Common.{◌≡◌, ◌⊎◌, inl, inr, ℕ, ◌+◌, ◌-◌, ◌^◌, ◌<◌, ◌≤◌, Bool, true, false, List, [], ◌∷◌, ◌++◌, length, refl, sym, ap, subst, ◌∙◌, arith}
use Rattle.std.specs.Prelude.{Contains, min, nat_lt, not, if◌then◌else◌}
use Rattle.std.specs.List.{filter}
use Rattle.r4_base.specs.Cell.{bytes_from, item_units}
use Rattle.r4_base.specs.Key.{IsKey, rank}
use Rattle.r4_base.specs.Node.{Item}
use Rattle.r4_base.specs.Value.{Byte, Value}
use Rattle.r4_base.specs.declared.key.Key.{Key}
use Rattle.r4_leaf.specs.Remade.{AreWithin, CanPutAll, cut_all, item_of}
use Rattle.r4_leaf.specs.Units.{LeafUnit, cut_units, is_between, put_unit, put_units}
use Rattle.r4_leaf.specs.declared.remaking.Given.{Given}
use Rattle.r4_leaf.specs.declared.remaking.KeyRange.{KeyRange}
use Rattle.r4_leaf.proofs.SoundItems.{tail_item}
use Rattle.r4_leaf.proofs.TailFilled.{tail_sound}
use Rattle.r4_patch.proofs.Members.{cases, here, later, none}
use Rattle.r4_edit_testing.specs.Remaking.{AreClear, ArePut, IsClear, IsTail, Stands}
use Rattle.r4_edit_testing.specs.Trials.{StandsAlone}

-- ---- members of lists of units

in_put : (b : Bool) (u x y : LeafUnit) (xs rest : List LeafUnit) → (Contains rest y → (y ≡ u) ⊎ Contains xs y)
    → Contains (if b then u ∷ (x ∷ xs) else x ∷ rest) y → (y ≡ u) ⊎ Contains (x ∷ xs) y
in_put true u x y xs rest more at = elim (cases u y (x ∷ xs) at) [ inl is ↦ inl is | inr other ↦ inr other ]
in_put false u x y xs rest more at = elim (cases x y rest at) [
  | inl is ↦ inr (subst (Contains (x ∷ xs)) (sym is) (here x xs))
  | inr other ↦ elim (more other) [ inl is ↦ inl is | inr past ↦ inr (later x y xs past) ]
]

put_one : (u : LeafUnit) (us : List LeafUnit) (y : LeafUnit) → Contains (put_unit u us) y → (y ≡ u) ⊎ Contains us y
put_one u [] y at = elim (cases u y [] at) [ inl is ↦ inl is | inr other ↦ absurd (none y other) ]
put_one u (x ∷ xs) y at = in_put (nat_lt u.0 x.0) u x y xs (put_unit u xs) (put_one u xs y) at

pub put_more : (gs us : List LeafUnit) (y : LeafUnit) → Contains (put_units gs us) y → Contains gs y ⊎ Contains us y
put_more [] us y at = inr at
put_more (g ∷ gs) us y at = elim (put_one g (put_units gs us) y at) [
  | inl is ↦ inl (subst (Contains (g ∷ gs)) (sym is) (here g gs))
  | inr other ↦ elim (put_more gs us y other) [ inl given ↦ inl (later g y gs given) | inr own ↦ inr own ]
]

in_left : (b : Bool) (x y : LeafUnit) (xs rest : List LeafUnit) (test : LeafUnit → Bool) → test x ≡ b
    → (Contains rest y → Contains xs y × (test y ≡ true)) → Contains (if b then x ∷ rest else rest) y
    → Contains (x ∷ xs) y × (test y ≡ true)
in_left true x y xs rest test e more at = elim (cases x y rest at) [
  | inl is ↦ (subst (Contains (x ∷ xs)) (sym is) (here x xs), ap test is ∙ e)
  | inr other ↦ let (a, b) = more other in (later x y xs a, b)
]
in_left false x y xs rest test e more at = let (a, b) = more at in (later x y xs a, b)

left_of : (test : LeafUnit → Bool) (us : List LeafUnit) (y : LeafUnit) → Contains (filter test us) y
    → Contains us y × (test y ≡ true)
left_of test [] y at = absurd (none y at)
left_of test (x ∷ xs) y at = in_left (test x) x y xs (filter test xs) test refl (left_of test xs y) at

-- ---- keys that are cut out

is_out : (from to k : ℕ) → not (is_between from to k) ≡ true → (k < from) ⊎ (to ≤ k)
is_out from to k h = grind (arith, h)

all_kept : (cs : List KeyRange) (us : List LeafUnit) (y : LeafUnit) → Contains (cut_all cs us) y → Contains us y
all_kept [] us y at = at
all_kept (c ∷ cs) us y at = (left_of (λ u. not (is_between (rank c.from) (rank c.to) u.0)) us y (all_kept cs
    (cut_units (rank c.from) (rank c.to) us) y at)).0

pub cut_clear : (cs : List KeyRange) (us : List LeafUnit) (r : KeyRange) → Contains cs r → IsClear r (cut_all cs us)
cut_clear [] us r at = absurd (none r at)
cut_clear (c ∷ cs) us r at = elim (cases c r cs at) [
  | inl is ↦ λ k v member.
      let kept = all_kept cs (cut_units (rank c.from) (rank c.to) us) (k, v) member in
      let out = (left_of (λ u. not (is_between (rank c.from) (rank c.to) u.0)) us (k, v) kept).1 in
      subst (λ (x : KeyRange). (k < rank x.from) ⊎ (rank x.to ≤ k)) (sym is) (is_out (rank c.from) (rank c.to) k out)
  | inr other ↦ cut_clear cs (cut_units (rank c.from) (rank c.to) us) r other
]

-- ---- the items come one after another

pub cut_all_clear : (gs : List Given) (rs cs : List KeyRange) (us : List LeafUnit) → ((r : KeyRange)
    → Contains rs r → Contains cs r)
    → AreClear gs rs (cut_all cs us)
cut_all_clear [] rs cs us among = tt
cut_all_clear (g ∷ gs) [] cs us among = tt
cut_all_clear (g ∷ gs) (r ∷ rs) cs us among = (
  cut_clear cs us r (among r (here r rs)),
  cut_all_clear gs rs cs us (λ q at. among q (later r q rs at)),
)

pub second_half : (first second : List KeyRange) (r : KeyRange) → Contains second r → Contains (first ++ second) r
second_half [] second r at = at
second_half (c ∷ cs) second r at = later c r (cs ++ second) (second_half cs second r at)

-- units below all the ranges
clear_more : (lo hi : ℕ) (gs : List Given) (rs : List KeyRange) (vs us : List LeafUnit) → ArePut lo hi gs rs
    → ((k : ℕ) (v : Value) → Contains vs (k, v) → k < lo) → AreClear gs rs us → AreClear gs rs (put_units vs us)
clear_more lo hi [] rs vs us h below clear = tt
clear_more lo hi (g ∷ gs) [] vs us h below clear = tt
clear_more lo hi (g ∷ gs) (r ∷ rs) vs us (low, same, high, stands, rest) below (own, others) = (
  λ k v at. elim (put_more vs us (k, v) at) [
    | inl given ↦ let b = below k v given in inl (omega (arith, b, low))
    | inr old ↦ own k v old
  ],
  clear_more (rank r.to) hi gs rs vs us rest (λ k v at. let b = below k v at in let past = stands.below in omega
      (arith, b, low, same, past)) others,
)

pub can_put : (lo hi : ℕ) (gs : List Given) (rs : List KeyRange) (us : List LeafUnit) → ArePut lo hi gs rs
    → AreClear gs rs us → CanPutAll gs us
can_put lo hi [] rs us h clear = tt
can_put lo hi (g ∷ gs) [] us h clear = absurd h
can_put lo hi (g ∷ gs) (r ∷ rs) us (low, same, high, stands, rest) (own, others) = (
  stands.put,
  λ k v w mine its.
      let a = stands.above k w its in
      let b = stands.inside k w its in
      elim (own k v mine) [ inl less ↦ omega (arith, a, less, same) | inr more ↦ omega (arith, b, more) ],
  can_put (rank r.to) hi gs rs (put_units (item_units (item_of g)) us) rest
      (clear_more (rank r.to) hi gs rs (item_units (item_of g)) us rest (λ k v at. stands.inside k v at) others),
)

within_lower : (lo low hi : ℕ) (gs : List Given) → low ≤ lo → AreWithin lo hi gs → AreWithin low hi gs
within_lower lo low hi [] le h = tt
within_lower lo low hi (g ∷ gs) le (from, end, rest) = (omega (arith, le, from), end, within_lower lo low hi gs le rest)

pub are_within : (lo hi : ℕ) (gs : List Given) (rs : List KeyRange) → ArePut lo hi gs rs → AreWithin lo hi gs
are_within lo hi [] rs h = tt
are_within lo hi (g ∷ gs) [] h = absurd h
are_within lo hi (g ∷ gs) (r ∷ rs) (low, same, high, stands, rest) =
    let past = stands.below in
    let end = stands.within in (
      omega (arith, low, same),
      omega (arith, end, high),
      within_lower (rank r.to) lo hi gs (omega (arith, low, same, past)) (are_within (rank r.to) hi gs rs rest),
    )

-- ---- an item that stands

pub alone_stands : (it : Item) (end : ℕ) → StandsAlone it end → Stands it end
alone_stands it end a = record {
  put = record { plugin = a.given.plugin; sound = a.given.sound };
  below = a.below;
  within = a.end;
  above = a.above;
  inside = a.inside;
}

pub tail_stands : (key : Key) (plugin : ℕ) (body : List ℕ) (end : ℕ) → plugin ≡ 6 → IsKey key
    → IsTail key (length body) end
    → Stands (record { key = key; plugin = plugin; body = body }) end
tail_stands key plugin body end is good (some, short, room) =
    let sound = tail_sound key plugin body is good some short in
    let t = tail_item (record { key = key; plugin = plugin; body = body }) is sound in
    let last = t.end in
    record {
      put = record { plugin = sound.plugin; sound = sound.body };
      below = omega (arith, some, room);
      within = omega (arith, last, room);
      above = λ k v at. (in_bytes (rank key) body k v (subst (λ us. Contains us (k, v)) t.units at)).0;
      inside = λ k v at. let w = (in_bytes (rank key) body k v (subst (λ us. Contains us
          (k, v)) t.units at)).1 in omega (arith, w, room);
    }
  where
    in_bytes : (from : ℕ) (bs : List ℕ) (k : ℕ) (v : Value) → Contains (bytes_from from bs) (k, v)
        → (from ≤ k) × (k < from + length bs)
    in_bytes from [] k v at = absurd (none (k, v) at)
    in_bytes from (b ∷ bs) k v at = elim (cases (from, Byte b) (k, v) (bytes_from (from + 1) bs) at) [
      | inl is ↦ let e : k ≡ from = ap (λ (u : LeafUnit). u.0) is in (omega (arith, e), omega (arith, e))
      | inr more ↦ let w = in_bytes (from + 1) bs k v more in (omega (arith, w), omega (arith, w))
    ]

-- ---- what was tried out on a leaf

pub put_in : (lo hi low high : ℕ) (gs : List Given) (rs : List KeyRange) → lo ≡ low → hi ≡ high
    → ArePut lo hi gs rs → ArePut low high gs rs
put_in lo hi low high gs rs l h put =
    subst (λ a. ArePut a high gs rs) l (subst (λ b. ArePut lo b gs rs) h put)

pub put_together : (lo hi : ℕ) (gs : List Given) (rs cs all : List KeyRange) (us : List LeafUnit)
    → all ≡ cs ++ rs → ArePut lo hi gs rs
    → CanPutAll gs (cut_all all us)
put_together lo hi gs rs cs all us is put =
    can_put lo hi gs rs (cut_all all us) put (cut_all_clear gs rs all us (λ r at. subst (λ xs. Contains xs r)
    (sym is) (second_half cs rs r at)))

pub is_small : (n total : ℕ) → n ≡ min total (2 ^ 64 - 1) → n ≤ 58911 → total < 58912
is_small n total is few = omega (arith, is, few)
