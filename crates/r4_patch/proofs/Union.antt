-- Two patches of one part that have no node in common are one patch.
use Rattle.std.specs.Prelude.{◌≡◌, ℕ, ◌<◌, ◌≤◌, ◌⊎◌, IsSome, None, Option, Some}
use mathlib.Core.Path.{refl, sym, subst, ◌∙◌}
use mathlib.Core.Logic.{inl, inr}
use native.Mathlib.Omega.{arith}
use Rattle.std.proofs.Math.Decide.{dec_le}
use Rattle.std.proofs.Math.Nat.{le_trans, lt_of_not-le}
use Rattle.std.proofs.lemmas.Option.{none-some}
use Rattle.r4_base.specs.Tree.{Covers, CoversLeaf, Name, Node, Store, Root, InNode, Fits}
use Rattle.r4_base.proofs.Trees.{not_both}
use Rattle.r4_cell.specs.Patch.{Patch, over, Leaves, Apart, Names, NamesId, SameRange, NeedsName, IsNewRoot, IsPatch, Meets, captured, last_root, join}
use Rattle.r4_patch.specs.Part.{IsPart, IsUnnamed}
use Rattle.r4_patch.proofs.PartCells.{apart, from_piece, one_piece, to_piece}
use Rattle.r4_patch.proofs.Placed.{new_level, old_level, old_root, rises, root_or_not, some_of, some_or_none, still_there}
use Rattle.r4_patch.proofs.Sets.{one_root}

-- the patch has the cells of both, and the root of the one that has one
record IsSum {V : Type 0} (p q u : Patch V) : Type 0 where
  old_from : (i : ℕ) (c : Node V) → u.old i ≡ Some c → (p.old i ≡ Some c) ⊎ (q.old i ≡ Some c)
  new_from : (i : ℕ) (c : Node V) → u.new i ≡ Some c → (p.new i ≡ Some c) ⊎ (q.new i ≡ Some c)
  root_from : (r : Root) → u.root ≡ Some r → (p.root ≡ Some r) ⊎ (q.root ≡ Some r)
  one_old : (i : ℕ) (c : Node V) → p.old i ≡ Some c → u.old i ≡ Some c
  one_new : (i : ℕ) (c : Node V) → p.new i ≡ Some c → u.new i ≡ Some c
  one_root : (r : Root) → p.root ≡ Some r → u.root ≡ Some r
  two_old : (i : ℕ) (c : Node V) → q.old i ≡ Some c → u.old i ≡ Some c
  two_new : (i : ℕ) (c : Node V) → q.new i ≡ Some c → u.new i ≡ Some c
  two_root : (r : Root) → q.root ≡ Some r → u.root ≡ Some r

swapped : {A B : Type 0} → A ⊎ B → B ⊎ A
swapped (inl a) = inr a
swapped (inr b) = inl b

sum_back : {V : Type 0} (p q u : Patch V) → IsSum p q u → IsSum q p u
sum_back p q u s = record {
  old_from = λ i c e. swapped (s.old_from i c e);
  new_from = λ i c e. swapped (s.new_from i c e);
  root_from = λ r e. swapped (s.root_from r e);
  one_old = s.two_old;
  one_new = s.two_new;
  one_root = s.two_root;
  two_old = s.one_old;
  two_new = s.one_new;
  two_root = s.one_root;
}

-- what the first of them brings
module _ {V : Type 0} (p q u : Patch V) (t : Store V) (root : Root) (it : IsPart t root) (mp : Meets p t root) (mq : Meets q t root) (ip : IsPatch p) (iq : IsPatch q) (beside : Apart p q) (s : IsSum p q u) where
  left_by_two : (i : ℕ) (c : Node V) → (p.old i ≡ Some c) ⊎ (p.new i ≡ Some c) → Leaves q i
  left_by_two i c h = elim (beside i) [
    | inr g ↦ g
    | inl g ↦ absurd (elim h [ inl o ↦ not_both p.old i c g.1 o | inr n ↦ not_both p.new i c g.0 n ])
  ]

  not_both_old : (i j : ℕ) (c d : Node V) → p.old i ≡ Some c → q.old j ≡ Some d → i ≡ j → ⊥
  not_both_old i j c d po qo is = not_both q.old j d (left_by_two j c (inl (subst (λ x. p.old x ≡ Some c) is po))).1 qo

  no_old : (i : ℕ) → u.old i ≡ None → p.old i ≡ None
  no_old i gone = elim (some_or_none (p.old i)) [ inr none ↦ none | inl h ↦ absurd (not_both u.old i h.0 gone (s.one_old i h.0 h.1)) ]

  none_old : (i : ℕ) → p.old i ≡ None → q.old i ≡ None → u.old i ≡ None
  none_old i a b = elim (some_or_none (u.old i)) [
    | inr none ↦ none
    | inl h ↦ absurd (elim (s.old_from i h.0 h.1) [ inl g ↦ not_both p.old i h.0 a g | inr g ↦ not_both q.old i h.0 b g ])
  ]

  changed : IsSome p.root → IsSome u.root
  changed h = elim (root_or_not p.root) [
    | inl g ↦ some_of u.root g.0 (s.one_root g.0 g.1)
    | inr g ↦ absurd (elim (root_or_not u.root) [ inl x ↦ grind (arith, h, g) | inr x ↦ grind (arith, h, g) ])
  ]

  unchanged_two : IsSome p.root → IsSome q.root → ⊥
  unchanged_two = one_root p q t root mp mq beside

  sum_level : (i : ℕ) (c : Node V) → u.old i ≡ Some c → c.level ≤ root.height
  sum_level i c e = elim (s.old_from i c e) [ inl h ↦ old_level p t root ip it mp i c h | inr h ↦ old_level q t root iq it mq i c h ]

  covers_old : (l k : ℕ) → 2 ≤ l → Covers p.old l k → Covers u.new l k
  covers_old l k two h = let (i, c, nc, cl, at) = ip.covers_old l k two h in (i, c, s.one_new i c nc, cl, at)

  covers_new : (l k : ℕ) → 2 ≤ l → Covers p.new l k → Covers u.old l k ⊎ (IsSome u.root × ((i : ℕ) (c : Node V) → u.old i ≡ Some c → c.level < l))
  covers_new l k two h = elim (ip.covers_new l k two h) [
    | inl g ↦ let (i, c, oc, cl, at) = g in inl (i, c, s.one_old i c oc, cl, at)
    | inr g ↦
        let (b, ob, level) = old_root p t root ip it mp g.0 in
        let low = g.1 root.id b ob in
        inr (changed g.0, λ i c e. let most = sum_level i c e in omega (arith, level, low, most))
  ]

  new_root : (r : Root) → p.root ≡ Some r → IsNewRoot u.new r
  new_root r e =
      let is = ip.new_root r e in
      record {
        node = is.node;
        is = s.one_new r.id is.node is.is;
        level = is.level;
        lo = is.lo;
        hi = is.hi;
        highest = λ i c nc. elim (s.new_from i c nc) [
          | inl h ↦ is.highest i c h
          | inr h ↦ le_trans (new_level q t root iq it mq (unchanged_two (some_of p.root r e)) i c h) (rises p t root ip it mp r e)
        ];
      }

  -- above the leaves a new cell of each have no key in common
  clash_above : (i j : ℕ) (c d : Node V) (k : ℕ) → p.new i ≡ Some c → q.new j ≡ Some d → c.level ≡ d.level → 2 ≤ c.level → InNode c k → InNode d k → ⊥
  clash_above i j c d k pc qd same two at_c at_d = elim (ip.covers_new c.level k two (i, c, pc, refl, at_c)) [
    | inl h ↦
        let (a, o, ao, al, at_o) = h in
        let most = old_level p t root ip it mp a o ao in
        elim (iq.covers_new c.level k two (j, d, qd, sym same, at_d)) [
          | inl g ↦
              let (b, x, bx, bl, at_x) = g in
              not_both_old a b o x ao bx (apart t root it a b o x k (mp.has_old a o ao) (mq.has_old b x bx) (al ∙ sym bl) (omega (arith, al, two)) at_o at_x)
          | inr g ↦
              let (b, ob, level) = old_root q t root iq it mq g.0 in
              let low = g.1 root.id b ob in
              omega (arith, level, low, most, al)
        ]
    | inr h ↦
        let (b, ob, level) = old_root p t root ip it mp h.0 in
        let low = h.1 root.id b ob in
        let most = new_level q t root iq it mq (unchanged_two h.0) j d qd in
        omega (arith, level, low, most, same)
  ]

  clash : (i j : ℕ) (c d : Node V) (k : ℕ) → p.new i ≡ Some c → q.new j ≡ Some d → c.level ≡ d.level → 1 ≤ c.level → InNode c k → InNode d k → ⊥
  clash i j c d k pc qd same one at_c at_d = elim (dec_le 2 c.level) [
    | yes two ↦ clash_above i j c d k pc qd same two at_c at_d
    | no less ↦
        let low : c.level ≡ 1 = omega (arith, one, lt_of_not-le less) in
        let (a, o, ao, at_o) = to_piece p.old k (ip.leaves_new k (inl (i, c, pc, low, at_c))) in
        let (b, x, bx, at_x) = to_piece q.old k (iq.leaves_new k (inl (j, d, qd, omega (arith, low, same), at_d))) in
        not_both_old a b o x ao bx (one_piece t root it k a b o x (mp.has_old a o ao) (mq.has_old b x bx) at_o at_x)
  ]

  named : (n : Name) → Names p.new n → ((d : Node V) × (u.new n.id ≡ Some d) × Fits n d) ⊎ ((u.old n.id ≡ None) × Names u.old n)
  named n h = elim (ip.named n h) [
    | inl g ↦ let (d, nd, f) = g in inl (d, s.one_new n.id d nd, f)
    | inr g ↦
        let (gone, (j, o, oj, on)) = g in
        elim (some_or_none (q.old n.id)) [
          | inr none ↦ inr (none_old n.id gone none, (j, o, s.one_old j o oj, on))
          | inl x ↦
              let (d, nd, f) = still_there q t root iq it mq j o x.0 n (mp.has_old j o oj) on (left_by_two j o (inl oj)).1 x.1 in
              inl (d, s.two_new n.id d nd, f)
        ]
  ]

  kept : (n : Name) → Names p.old n → u.old n.id ≡ None → Names u.new n
  kept n h gone = let (j, c, jc, cn) = ip.kept n h (no_old n.id gone) in (j, c, s.one_new j c jc, cn)

  in_sum : (i : ℕ) → NamesId p.old i → NamesId u.old i
  in_sum i (n, (j, o, oj, on), is) = (n, (j, o, s.one_old j o oj, on), is)

  replaced : (i : ℕ) (c : Node V) → p.old i ≡ Some c → ¬ (NamesId u.old i) → ((d : Node V) × (u.new i ≡ Some d) × SameRange d c) ⊎ (IsSome u.root × ((j : ℕ) (d : Node V) → u.old j ≡ Some d → d.level ≤ c.level))
  replaced i c oc unnamed = elim (ip.replaced i c oc (λ h. unnamed (in_sum i h))) [
    | inl g ↦ let (d, nd, same) = g in inl (d, s.one_new i d nd, same)
    | inr g ↦
        let (b, ob, level) = old_root p t root ip it mp g.0 in
        let low = g.1 root.id b ob in
        inr (changed g.0, λ j d e. let most = sum_level j d e in omega (arith, level, low, most))
  ]

  IsReached : ℕ → Type 0
  IsReached i = NamesId u.new i ⊎ ((r : Root) × (u.root ≡ Some r) × (r.id ≡ i))

  by_one : (i : ℕ) (c : Node V) → p.new i ≡ Some c → NeedsName p i c → IsReached i
  unfolding IsReached
  by_one i c nc needs = elim (ip.reached i c nc needs) [
    | inl h ↦ let (n, (j, d, nd, dn), is) = h in inl (n, (j, d, s.one_new j d nd, dn), is)
    | inr h ↦ let (r, e, is) = h in inr (r, s.one_root r e, is)
  ]

  -- an old cell that the other's old cell names: a new cell of the other names it too
  by_other : (i : ℕ) (c : Node V) → p.new i ≡ Some c → NamesId q.old i → IsReached i
  unfolding IsReached
  by_other i c nc (n, (j, o, oj, on), is) =
      let (a, e, ae, en) = iq.kept n (j, o, oj, on) (subst (λ x. q.old x ≡ None) (sym is) (left_by_two i c (inr nc)).1) in
      inl (n, (a, e, s.two_new a e ae, en), is)

  reached : (i : ℕ) (c : Node V) → p.new i ≡ Some c → NeedsName u i c → IsReached i
  reached i c nc (inl gone) = by_one i c nc (inl (no_old i gone))
  reached i c nc (inr (inl (n, (j, o, oj, on), is))) = elim (s.old_from j o oj) [
    | inl h ↦ by_one i c nc (inr (inl (n, (j, o, h, on), is)))
    | inr h ↦ by_other i c nc (n, (j, o, h, on), is)
  ]
  reached i c nc (inr (inr (o, oi, other))) = elim (s.old_from i o oi) [
    | inl h ↦ by_one i c nc (inr (inr (o, h, other)))
    | inr h ↦ absurd (not_both q.old i o (left_by_two i c (inr nc)).1 h)
  ]

  leaves_old : (k : ℕ) → CoversLeaf p.old k → CoversLeaf u.new k
  leaves_old k h = let (i, c, nc, at) = to_piece p.new k (ip.leaves_old k h) in from_piece u.new k (i, c, s.one_new i c nc, at)

  leaves_new : (k : ℕ) → CoversLeaf p.new k → CoversLeaf u.old k
  leaves_new k h = let (i, c, oc, at) = to_piece p.old k (ip.leaves_new k h) in from_piece u.old k (i, c, s.one_old i c oc, at)

apart_back : {V : Type 0} (p q : Patch V) → Apart p q → Apart q p
apart_back p q beside i = swapped (beside i)

covers_one : {V : Type 0} (p q a : Store V) (l k : ℕ) → ((i : ℕ) (c : Node V) → a i ≡ Some c → (p i ≡ Some c) ⊎ (q i ≡ Some c)) → Covers a l k → Covers p l k ⊎ Covers q l k
covers_one p q a l k split (i, c, ac, cl, at) = elim (split i c ac) [ inl h ↦ inl (i, c, h, cl, at) | inr h ↦ inr (i, c, h, cl, at) ]

leaves_one : {V : Type 0} (p q a : Store V) (k : ℕ) → ((i : ℕ) (c : Node V) → a i ≡ Some c → (p i ≡ Some c) ⊎ (q i ≡ Some c)) → CoversLeaf a k → CoversLeaf p k ⊎ CoversLeaf q k
leaves_one p q a k split h =
    let (i, c, ac, at) = to_piece a k h in
    elim (split i c ac) [ inl g ↦ inl (from_piece p k (i, c, g, at)) | inr g ↦ inr (from_piece q k (i, c, g, at)) ]

names_one : {V : Type 0} (p q a : Store V) (n : Name) → ((i : ℕ) (c : Node V) → a i ≡ Some c → (p i ≡ Some c) ⊎ (q i ≡ Some c)) → Names a n → Names p n ⊎ Names q n
names_one p q a n split (i, c, ac, cn) = elim (split i c ac) [ inl h ↦ inl (i, c, h, cn) | inr h ↦ inr (i, c, h, cn) ]

module _ {V : Type 0} (p q u : Patch V) (t : Store V) (root : Root) (it : IsPart t root) (mp : Meets p t root) (mq : Meets q t root) (ip : IsPatch p) (iq : IsPatch q) (beside : Apart p q) (s : IsSum p q u) where
  beside2 : Apart q p
  beside2 = apart_back p q beside

  s2 : IsSum q p u
  s2 = sum_back p q u s

  sum_is_patch : IsPatch u
  unfolding IsReached
  sum_is_patch = record {
    nodes = λ i c e. elim (s.new_from i c e) [ inl h ↦ ip.nodes i c h | inr h ↦ iq.nodes i c h ];
    covers_old = λ l k two h. elim (covers_one p.old q.old u.old l k s.old_from h) [
      | inl g ↦ covers_old p q u t root it mp mq ip iq beside s l k two g
      | inr g ↦ covers_old q p u t root it mq mp iq ip beside2 s2 l k two g
    ];
    covers_new = λ l k two h. elim (covers_one p.new q.new u.new l k s.new_from h) [
      | inl g ↦ covers_new p q u t root it mp mq ip iq beside s l k two g
      | inr g ↦ covers_new q p u t root it mq mp iq ip beside2 s2 l k two g
    ];
    new_root = λ r e. elim (s.root_from r e) [
      | inl g ↦ new_root p q u t root it mp mq ip iq beside s r g
      | inr g ↦ new_root q p u t root it mq mp iq ip beside2 s2 r g
    ];
    apart = λ i j c d k a b same one at_c at_d. elim (s.new_from i c a) [
      | inl g ↦ elim (s.new_from j d b) [
        | inl h ↦ ip.apart i j c d k g h same one at_c at_d
        | inr h ↦ absurd (clash p q u t root it mp mq ip iq beside s i j c d k g h same one at_c at_d)
      ]
      | inr g ↦ elim (s.new_from j d b) [
        | inl h ↦ absurd (clash q p u t root it mq mp iq ip beside2 s2 i j c d k g h same one at_c at_d)
        | inr h ↦ iq.apart i j c d k g h same one at_c at_d
      ]
    ];
    named = λ n h. elim (names_one p.new q.new u.new n s.new_from h) [
      | inl g ↦ named p q u t root it mp mq ip iq beside s n g
      | inr g ↦ named q p u t root it mq mp iq ip beside2 s2 n g
    ];
    kept = λ n h gone. elim (names_one p.old q.old u.old n s.old_from h) [
      | inl g ↦ kept p q u t root it mp mq ip iq beside s n g gone
      | inr g ↦ kept q p u t root it mq mp iq ip beside2 s2 n g gone
    ];
    replaced = λ i c e other. elim (s.old_from i c e) [
      | inl g ↦ replaced p q u t root it mp mq ip iq beside s i c g other
      | inr g ↦ replaced q p u t root it mq mp iq ip beside2 s2 i c g other
    ];
    reached = λ i c e needs. elim (s.new_from i c e) [
      | inl g ↦ reached p q u t root it mp mq ip iq beside s i c g needs
      | inr g ↦ reached q p u t root it mq mp iq ip beside2 s2 i c g needs
    ];
    leaves_old = λ k h. elim (leaves_one p.old q.old u.old k s.old_from h) [
      | inl g ↦ leaves_old p q u t root it mp mq ip iq beside s k g
      | inr g ↦ leaves_old q p u t root it mq mp iq ip beside2 s2 k g
    ];
    leaves_new = λ k h. elim (leaves_one p.new q.new u.new k s.new_from h) [
      | inl g ↦ leaves_new p q u t root it mp mq ip iq beside s k g
      | inr g ↦ leaves_new q p u t root it mq mp iq ip beside2 s2 k g
    ];
  }

-- ---- the join of two patches with no node in common has the cells of both

module _ {V : Type 0} where
  captured_left : (po pn qo : Option (Node V)) → pn ≡ None → po ≡ None → captured po pn qo ≡ qo
  captured_left None None qo a b = refl
  captured_left None (Some d) qo a b = absurd (none-some d (sym a))
  captured_left (Some d) pn qo a b = absurd (none-some d (sym b))

  captured_right : (po pn qo : Option (Node V)) → qo ≡ None → captured po pn qo ≡ po
  captured_right (Some d) pn qo a = refl
  captured_right None (Some d) qo a = refl
  captured_right None None qo a = a

  over_left : (qn qo pn : Option (Node V)) → pn ≡ None → over qn qo pn ≡ qn
  over_left (Some d) qo pn a = refl
  over_left None (Some d) pn a = refl
  over_left None None pn a = a

  over_right : (qn qo pn : Option (Node V)) → qn ≡ None → qo ≡ None → over qn qo pn ≡ pn
  over_right None None pn a b = refl
  over_right None (Some d) pn a b = absurd (none-some d (sym b))
  over_right (Some d) qo pn a b = absurd (none-some d (sym a))

root_from : (a b : Option Root) (r : Root) → last_root a b ≡ Some r → (a ≡ Some r) ⊎ (b ≡ Some r)
root_from a (Some x) r e = inr e
root_from a None r e = inl e

first_root : (a b : Option Root) (r : Root) → (IsSome a → IsSome b → ⊥) → a ≡ Some r → last_root a b ≡ Some r
first_root a None r h e = e
first_root (Some y) (Some x) r h e = absurd (h refl refl)
first_root None (Some x) r h e = absurd (none-some r e)

second_root : (a b : Option Root) (r : Root) → b ≡ Some r → last_root a b ≡ Some r
second_root a (Some x) r e = e
second_root a None r e = absurd (none-some r e)

module _ {V : Type 0} (p q : Patch V) (t : Store V) (root : Root) (mp : Meets p t root) (mq : Meets q t root) (beside : Apart p q) where
  old_left : (i : ℕ) → Leaves p i → (join p q).old i ≡ q.old i
  old_left i h = captured_left (p.old i) (p.new i) (q.old i) h.0 h.1

  old_right : (i : ℕ) → Leaves q i → (join p q).old i ≡ p.old i
  old_right i h = captured_right (p.old i) (p.new i) (q.old i) h.1

  new_left : (i : ℕ) → Leaves p i → (join p q).new i ≡ q.new i
  new_left i h = over_left (q.new i) (q.old i) (p.new i) h.0

  new_right : (i : ℕ) → Leaves q i → (join p q).new i ≡ p.new i
  new_right i h = over_right (q.new i) (q.old i) (p.new i) h.0 h.1

  join_is_sum : IsSum p q (join p q)
  join_is_sum = record {
    old_from = λ i c e. elim (beside i) [ inl h ↦ inr (sym (old_left i h) ∙ e) | inr h ↦ inl (sym (old_right i h) ∙ e) ];
    new_from = λ i c e. elim (beside i) [ inl h ↦ inr (sym (new_left i h) ∙ e) | inr h ↦ inl (sym (new_right i h) ∙ e) ];
    root_from = λ r e. root_from p.root q.root r e;
    one_old = λ i c e. elim (beside i) [ inl h ↦ absurd (not_both p.old i c h.1 e) | inr h ↦ old_right i h ∙ e ];
    one_new = λ i c e. elim (beside i) [ inl h ↦ absurd (not_both p.new i c h.0 e) | inr h ↦ new_right i h ∙ e ];
    one_root = λ r e. first_root p.root q.root r (one_root p q t root mp mq beside) e;
    two_old = λ i c e. elim (beside i) [ inl h ↦ old_left i h ∙ e | inr h ↦ absurd (not_both q.old i c h.1 e) ];
    two_new = λ i c e. elim (beside i) [ inl h ↦ new_left i h ∙ e | inr h ↦ absurd (not_both q.new i c h.0 e) ];
    two_root = λ r e. second_root p.root q.root r e;
  }

  pub apart_join : IsPart t root → IsPatch p → IsPatch q → IsPatch (join p q)
  apart_join it ip iq = sum_is_patch p q (join p q) t root it mp mq ip iq beside join_is_sum

  -- and what no cell there names, of the new cells of both
  pub unnamed_join : IsUnnamed p t → IsUnnamed q t → IsUnnamed (join p q) t
  unnamed_join up uq i c nc gone = elim (beside i) [
    | inl h ↦ uq i c (sym (new_left i h) ∙ nc) (sym (old_left i h) ∙ gone)
    | inr h ↦ up i c (sym (new_right i h) ∙ nc) (sym (old_right i h) ∙ gone)
  ]
