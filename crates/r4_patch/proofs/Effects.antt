-- What patches do to units, alone and one after another.
use Rattle.std.specs.Prelude.{◌≡◌, ◌↔◌, ◌||◌, ℕ, ◌⊎◌, ◌==◌, Bool, true, false, Contains, None, Option, Some, if◌then◌else◌}
use mathlib.Core.Path.{refl, sym, ap, subst, ◌∙◌}
use mathlib.Core.Logic.{inl, inr}
use native.Mathlib.Omega.{arith}
use Rattle.r4_base.specs.Tree.{Node, Store, Root, UnitAt, Holds}
use Rattle.std.specs.Option.{option_map}
use Rattle.std.proofs.lemmas.Option.{none-some, same_Some}
use Rattle.r4_base.specs.Value.{Value, Content, at_key}
use Rattle.r4_base.specs.Volume.{HasUnits}
use Rattle.r4_base.proofs.Trees.{not_both, one_cell}
use Rattle.r4_cell.specs.Patch.{Patch, place, root_after, IsPatch, join}
use Rattle.r4_patch.specs.Part.{IsPart, MeetsPart}
use Rattle.r4_patch.proofs.Placed.{over_from, over_kept, over_new, placed_part, some_or_none}
use Rattle.r4_patch.specs.Effect.{HasEffect, Placed, UnitIn, either, later}
use Rattle.r4_patch.proofs.Holding.{held_before, one_holder, unit_held}
use Rattle.r4_patch.proofs.PatchesFollow.{from_new, from_old, p_new_in, p_old_in, q_new_in, q_old_from}

true_or_false : (b : Bool) → (b ≡ true) ⊎ (b ≡ false)
true_or_false true = inl refl
true_or_false false = inr refl

one_of : (a b : Bool) → a || b ≡ true → (b ≡ true) ⊎ ((a ≡ true) × (b ≡ false))
one_of a true h = inl refl
one_of true false h = inr (refl, refl)
one_of false false h = inr (h, refl)

none_of : (a b : Bool) → a || b ≡ false → (a ≡ false) × (b ≡ false)
none_of false b h = (refl, h)
none_of true b h = (h, grind (arith, h))

at_second : {V : Type 0} (b : Bool) (x y : Option V) → b ≡ true → (if b then x else y) ≡ x
at_second true x y h = refl
at_second false x y h = grind (arith, h)

at_first : {V : Type 0} (b : Bool) (x y : Option V) → b ≡ false → (if b then x else y) ≡ y
at_first false x y h = refl
at_first true x y h = grind (arith, h)

-- ---- a part with the patch in place

module _ {V : Type 0} (p : Patch V) (t : Store V) (root : Root) (it : IsPart t root) (mp : MeetsPart p t root) where
  -- an untouched cell has it
  Kept : ℕ → Placed V → Type 0
  Kept k u = (i : ℕ) × (c : Node V) × (p.old i ≡ None) × (t i ≡ Some c) × Contains c.units (k, u.0) × ((c.level == 1) ≡ u.1)

  units_from : (k : ℕ) (u : Placed V) → UnitIn (place p t) k u → UnitIn p.new k u ⊎ Kept k u
  unfolding Kept
  units_from k u (i, c, pc, has, kind) = elim (over_from (p.new i) (p.old i) (t i) c pc) [
    | inl nc ↦ inl (i, c, nc, has, kind)
    | inr h ↦ inr (i, c, h.1, h.2, has, kind)
  ]

  new_stays : (k : ℕ) (u : Placed V) → UnitIn p.new k u → UnitIn (place p t) k u
  new_stays k u (i, c, nc, has, kind) = (i, c, over_new (p.new i) (p.old i) (t i) c nc, has, kind)

  kept_stays : (k : ℕ) (u : Placed V) → Kept k u → UnitIn (place p t) k u
  unfolding Kept
  kept_stays k u (i, c, gone, tc, has, kind) = (i, c, over_kept (p.new i) (p.old i) (t i) c (λ d h. not_both t i c (mp.meets.free i d h gone) tc) gone tc, has, kind)

  module _ (at : ℕ → Bool) (to : ℕ → Option (Placed V)) (e : HasEffect p at to) where
    -- a unit at a changed key is an old cell's
    not_kept : (k : ℕ) (u : Placed V) → at k ≡ true → Kept k u → ⊥
    unfolding Kept
    not_kept k u h (j, d, gone, td, has, kind) =
        let (i, c, pc, holds) = e.held k h in
        let is : i ≡ j = one_holder t root it k i j c d (mp.meets.has_old i c pc) td holds (unit_held d k u.0 (it.nodes j d td) has) in
        not_both p.old j c gone (subst (λ x. p.old x ≡ Some c) is pc)

    pub changed_after : (k : ℕ) (u : Placed V) → at k ≡ true → UnitIn (place p t) k u ↔ (to k ≡ Some u)
    changed_after k u h = (
      λ x. elim (units_from k u x) [ inl n ↦ (e.there k u h).0 n | inr kept ↦ absurd (not_kept k u h kept) ],
      λ is. new_stays k u ((e.there k u h).1 is),
    )

    pub others_after : (k : ℕ) (u : Placed V) → at k ≡ false → UnitIn (place p t) k u ↔ UnitIn t k u
    unfolding Kept
    others_after k u h = (
      λ x. elim (units_from k u x) [
        | inl n ↦ let (i, c, pc, has, kind) = (e.others k u h).0 n in (i, c, mp.meets.has_old i c pc, has, kind)
        | inr kept ↦ let (i, c, gone, tc, has, kind) = kept in (i, c, tc, has, kind)
      ],
      λ x. let (i, c, tc, has, kind) = x in elim (some_or_none (p.old i)) [
        | inr gone ↦ kept_stays k u (i, c, gone, tc, has, kind)
        | inl y ↦
            let same : c ≡ y.0 = one_cell t i c y.0 tc (mp.meets.has_old i y.0 y.1) in
            new_stays k u ((e.others k u h).1 (i, y.0, y.1, subst (λ z. Contains z.units (k, u.0)) same has, subst (λ z. (z.level == 1) ≡ u.1) same kind))
      ],
    )

-- with its place, a unit is there
to_unit : {V : Type 0} (t : Store V) (k : ℕ) (u : Placed V) → UnitIn t k u → UnitAt t k u.0
to_unit t k u (i, c, tc, has, kind) = (i, c, tc, has)

from_unit : {V : Type 0} (t : Store V) (k : ℕ) (v : V) → UnitAt t k v → (b : Bool) × UnitIn t k (v, b)
from_unit t k v (i, c, tc, has) = (c.level == 1, (i, c, tc, has, refl))

value_of : {V : Type 0} (o : Option (Placed V)) (v : V) → option_map (λ u. u.0) o ≡ Some v → (b : Bool) × (o ≡ Some (v, b))
value_of None v e = absurd (none-some v e)
value_of (Some (x, b)) v e = (b, λ i. Some (same_Some x v e i, b))

-- a content's units, after
pub content_after : (p : Patch Value) (t : Store Value) (root : Root) (at : ℕ → Bool) (to : ℕ → Option (Placed Value)) (m n : Content) → IsPart t root → MeetsPart p t root → HasEffect p at to → HasUnits t m → ((k : ℕ) → at_key n k ≡ (if at k then option_map (λ u. u.0) (to k) else at_key m k)) → HasUnits (place p t) n
content_after p t root at to m n it mp e u is k v = elim (true_or_false (at k)) [
  | inl h ↦
      let same : at_key n k ≡ option_map (λ x. x.0) (to k) = is k ∙ at_second (at k) (option_map (λ x. x.0) (to k)) (at_key m k) h in (
        λ x. let (b, y) = value_of (to k) v (sym same ∙ x) in to_unit (place p t) k (v, b) ((changed_after p t root it mp at to e k (v, b) h).1 y),
        λ x. let (b, y) = from_unit (place p t) k v x in same ∙ ap (λ o. option_map (λ x. x.0) o) ((changed_after p t root it mp at to e k (v, b) h).0 y),
      )
  | inr h ↦
      let same : at_key n k ≡ at_key m k = is k ∙ at_first (at k) (option_map (λ x. x.0) (to k)) (at_key m k) h in (
        λ x. let (b, y) = from_unit t k v ((u k v).0 (sym same ∙ x)) in to_unit (place p t) k (v, b) ((others_after p t root it mp at to e k (v, b) h).1 y),
        λ x. let (b, y) = from_unit (place p t) k v x in same ∙ (u k v).1 (to_unit t k (v, b) ((others_after p t root it mp at to e k (v, b) h).0 y)),
      )
]

-- ---- fewer keys

pub narrower : {V : Type 0} (p : Patch V) (at less : ℕ → Bool) (to : ℕ → Option (Placed V)) → HasEffect p at to → ((k : ℕ) → less k ≡ true → at k ≡ true) → ((k : ℕ) (u : Placed V) → at k ≡ true → less k ≡ false → UnitIn p.old k u ↔ (to k ≡ Some u)) → HasEffect p less to
narrower p at less to e some same = record {
  held = λ k h. e.held k (some k h);
  there = λ k u h. e.there k u (some k h);
  others = λ k u h. elim (true_or_false (at k)) [
    | inl a ↦ (λ x. (same k u a h).1 ((e.there k u a).0 x), λ x. (e.there k u a).1 ((same k u a h).0 x))
    | inr a ↦ e.others k u a
  ];
}

-- ---- one after another

module _ {V : Type 0} (p q : Patch V) (t : Store V) (root : Root) (it : IsPart t root) (ip : IsPatch p) (mp : MeetsPart p t root) (iq : IsPatch q) (mq : MeetsPart q (place p t) (root_after p root)) (a b : ℕ → Bool) (f g : ℕ → Option (Placed V)) (ep : HasEffect p a f) (eq : HasEffect q b g) where
  mid : IsPart (place p t) (root_after p root)
  mid = placed_part p t root ip it mp.meets mp.unnamed

  held_first : (k : ℕ) → a k ≡ true → (i : ℕ) × (c : Node V) × ((join p q).old i ≡ Some c) × Holds c k
  held_first k h = let (i, c, pc, holds) = ep.held k h in (i, c, p_old_in p q t root it ip mp iq mq i c pc, holds)

  held_second : (k : ℕ) → b k ≡ true → (i : ℕ) × (c : Node V) × ((join p q).old i ≡ Some c) × Holds c k
  held_second k h =
      let (i, c, qc, holds) = eq.held k h in
      elim (q_old_from p q t root it ip mp iq mq i c qc) [
        | inr x ↦ (i, c, x.0, holds)
        | inl x ↦
            let (j, o, po, ho) = held_before p t root it ip mp i c k x holds in
            (j, o, p_old_in p q t root it ip mp iq mq j o po, ho)
      ]

  -- a new cell of the second, or one of the first that the second leaves
  Left : ℕ → Placed V → Type 0
  Left k v = (i : ℕ) × (c : Node V) × (q.new i ≡ None) × (q.old i ≡ None) × (p.new i ≡ Some c) × Contains c.units (k, v.0) × ((c.level == 1) ≡ v.1)

  from_units : (k : ℕ) (v : Placed V) → UnitIn (join p q).new k v → UnitIn q.new k v ⊎ Left k v
  unfolding Left
  from_units k v (i, c, e, has, kind) = elim (from_new p q t root it ip mp iq mq i c e) [
    | inl h ↦ inl (i, c, h, has, kind)
    | inr h ↦ inr (i, c, h.0, h.1, h.2, has, kind)
  ]

  to_second : (k : ℕ) (v : Placed V) → UnitIn q.new k v → UnitIn (join p q).new k v
  to_second k v (i, c, e, has, kind) = (i, c, q_new_in p q t root it ip mp iq mq i c e, has, kind)

  -- a unit of the first's new cells goes on in the join, or is an old one of the second
  to_first : (k : ℕ) (v : Placed V) → UnitIn p.new k v → UnitIn (join p q).new k v ⊎ UnitIn q.old k v
  to_first k v (i, c, e, has, kind) = elim (p_new_in p q t root it ip mp iq mq i c e) [
    | inl h ↦ inl (i, c, h, has, kind)
    | inr h ↦ inr (i, c, h, has, kind)
  ]

  -- what the second changes, the first's new cells that it leaves do not hold
  not_left : (k : ℕ) (v : Placed V) → b k ≡ true → Left k v → ⊥
  unfolding Left
  not_left k v h (j, d, _, gone, pd, has, kind) =
      let (i, c, qc, holds) = eq.held k h in
      let wd : place p t j ≡ Some d = over_new (p.new j) (p.old j) (t j) d pd in
      let is : i ≡ j = one_holder (place p t) (root_after p root) mid k i j c d (mq.meets.has_old i c qc) wd holds (unit_held d k v.0 (ip.nodes j d pd) has) in
      not_both q.old j c gone (subst (λ x. q.old x ≡ Some c) is qc)

  -- what the first changes, cells that it left do not hold
  not_before : (k : ℕ) (v : Placed V) (i : ℕ) (c : Node V) → a k ≡ true → p.old i ≡ None → t i ≡ Some c → Contains c.units (k, v.0) → ⊥
  not_before k v i c h gone tc has =
      let (j, o, po, holds) = ep.held k h in
      let is : j ≡ i = one_holder t root it k j i o c (mp.meets.has_old j o po) tc holds (unit_held c k v.0 (it.nodes i c tc) has) in
      not_both p.old i o gone (subst (λ x. p.old x ≡ Some o) is po)

  there_second : (k : ℕ) (v : Placed V) → b k ≡ true → UnitIn (join p q).new k v ↔ (g k ≡ Some v)
  there_second k v h = (
    λ u. elim (from_units k v u) [ inl x ↦ (eq.there k v h).0 x | inr x ↦ absurd (not_left k v h x) ],
    λ is. to_second k v ((eq.there k v h).1 is),
  )

  there_first : (k : ℕ) (v : Placed V) → a k ≡ true → b k ≡ false → UnitIn (join p q).new k v ↔ (f k ≡ Some v)
  unfolding Left
  there_first k v h off = (
    λ u. (ep.there k v h).0 (elim (from_units k v u) [
      | inr x ↦ let (i, c, _, _, pc, has, kind) = x in (i, c, pc, has, kind)
      | inl x ↦
          let (i, c, qc, has, kind) = (eq.others k v off).0 x in
          elim (q_old_from p q t root it ip mp iq mq i c qc) [
            | inl y ↦ (i, c, y, has, kind)
            | inr y ↦ absurd (not_before k v i c h y.2 y.3 has)
          ]
    ]),
    λ is. elim (to_first k v ((ep.there k v h).1 is)) [
      | inl x ↦ x
      | inr x ↦ to_second k v ((eq.others k v off).1 x)
    ],
  )

  there_neither : (k : ℕ) (v : Placed V) → a k ≡ false → b k ≡ false → UnitIn (join p q).new k v ↔ UnitIn (join p q).old k v
  unfolding Left
  there_neither k v off_a off_b = (
    λ u.
        let by_first : UnitIn p.new k v → UnitIn (join p q).old k v = λ x. let (i, c, pc, has, kind) = (ep.others k v off_a).0 x in (i, c, p_old_in p q t root it ip mp iq mq i c pc, has, kind) in
        elim (from_units k v u) [
          | inr x ↦ let (i, c, _, _, pc, has, kind) = x in by_first (i, c, pc, has, kind)
          | inl x ↦
              let (i, c, qc, has, kind) = (eq.others k v off_b).0 x in
              elim (q_old_from p q t root it ip mp iq mq i c qc) [
                | inl y ↦ by_first (i, c, y, has, kind)
                | inr y ↦ (i, c, y.0, has, kind)
              ]
        ],
    λ u.
        let (i, c, e, has, kind) = u in
        elim (from_old p q t root it ip mp iq mq i c e) [
          | inl x ↦ elim (to_first k v ((ep.others k v off_a).1 (i, c, x, has, kind))) [
            | inl y ↦ y
            | inr y ↦ to_second k v ((eq.others k v off_b).1 y)
          ]
          | inr x ↦ to_second k v ((eq.others k v off_b).1 (i, c, x.2, has, kind))
        ],
  )

  pub effects_follow : HasEffect (join p q) (either a b) (later b g f)
  effects_follow = record {
    held = λ k h. elim (one_of (a k) (b k) h) [ inl x ↦ held_second k x | inr x ↦ held_first k x.0 ];
    there = λ k v h. elim (one_of (a k) (b k) h) [
      | inl x ↦ subst (λ o. UnitIn (join p q).new k v ↔ (o ≡ Some v)) (sym (at_second (b k) (g k) (f k) x)) (there_second k v x)
      | inr x ↦ subst (λ o. UnitIn (join p q).new k v ↔ (o ≡ Some v)) (sym (at_first (b k) (g k) (f k) x.1)) (there_first k v x.0 x.1)
    ];
    others = λ k v h. let (x, y) = none_of (a k) (b k) h in there_neither k v x y;
  }
