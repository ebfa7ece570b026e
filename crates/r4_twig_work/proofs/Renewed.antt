-- Data blocks with other bytes in their place are a change of a part of a tree.
use Rattle.std.specs.Prelude.{◌≡◌, ◌↔◌, ◌==◌, ℕ, zero, suc, ◌+◌, Bool, true, false, List, [], ◌∷◌, map, Contains, None, Option, Some}
use mathlib.Core.Path.{refl, sym, ap, subst, ◌∙◌}
use mathlib.Core.Logic.{inl, inr}
use native.Mathlib.Omega.{arith}
use Rattle.std.proofs.lemmas.Bool.{ne_eqb}
use Rattle.std.proofs.lemmas.Option.{none-some, same_Some}
use Rattle.r4_base.specs.Cell.{cell_of}
use Rattle.r4_base.specs.Key.{rank}
use Rattle.r4_base.specs.Tree.{IsNode, Name, Node, Root, Span, Store}
use Rattle.r4_base.specs.Value.{Value}
use Rattle.r4_extent_edit.proofs.r4_cell.Nodes.{data_node}
use Rattle.r4_measure.specs.r4_cell.Patch.{HaveNames, IsChange, IsPatch, NeedsName, Patch, SameRange, by_name, patch_of}
use Rattle.r4_measure.specs.r4_cell.Seen.{CellSeen, node_of}
use Rattle.r4_measure.specs.r4_cell.declared.change.Change.{Change}
use Rattle.r4_measure.specs.r4_cell.declared.change.Fresh.{Fresh}
use Rattle.r4_measure.specs.r4_patch.Joining.{ids_of}
use Rattle.r4_measure.specs.r4_patch.Part.{IsPart, MeetsPart}
use Rattle.r4_measure.specs.r4_path.Levels.{units_of_cells}
use Rattle.r4_measure.proofs.r4_patch.Members.{Distinct, cases, distinct, found, have_names, here, later, none, there}
use Rattle.r4_measure.proofs.r4_path.Rising.{InCell, hi_is, in_node, level_is, lo_is}
use Rattle.r4_measure.specs.r4_patch.Effect.{HasEffect, Placed, UnitIn, in_extent}
use Rattle.r4_twig_work.specs.Renewing.{AreRenewals, DoesRenew, IsRenewable, IsRenewed, Renewal, news_of, olds_of}
use Rattle.r4_twig_work.proofs.Standing.{as_before, stand_now}
use Rattle.r4_measure.proofs.r4_work.InPlace.{now_effect, now_part, now_working}
use Rattle.r4_measure.specs.r4_work.Working.{IsNextEdit, IsPutInPlace, IsWorking, now_of, root_of}
use Rattle.r4_measure.specs.r4_work.declared.working.WorkingSet.{WorkingSet}
use Rattle.r4_measure.proofs.r4_work.LeafEffect.{from_units, to_units}

-- a data block has no names and no extents
cell_names : (level lo hi : ℕ) (b : List ℕ) → level ≡ 0 → (cell_of level lo hi b).names ≡ []
unfolding cell_of
cell_names zero lo hi b e = refl
cell_names (suc l) lo hi b e = absurd (omega (arith, e))

cell_spans : (level lo hi : ℕ) (b : List ℕ) → level ≡ 0 → (cell_of level lo hi b).spans ≡ []
unfolding cell_of
cell_spans zero lo hi b e = refl
cell_spans (suc l) lo hi b e = absurd (omega (arith, e))

no_names : (c : CellSeen) (n : Name) → c.level ≡ 0 → Contains (node_of c).names n → ⊥
no_names c n e h = none n (subst (λ xs. Contains xs n) (cell_names c.level (rank c.lo) (rank c.hi) c.block e) h)

no_spans : (c : CellSeen) (x : Span) → c.level ≡ 0 → Contains (node_of c).spans x → ⊥
no_spans c x e h = none x (subst (λ xs. Contains xs x) (cell_spans c.level (rank c.lo) (rank c.hi) c.block e) h)

in_map : (f : Renewal → CellSeen) (ps : List Renewal) (x : CellSeen) → Contains (map f ps) x → (p : Renewal) × Contains ps p × (x ≡ f p)
in_map f [] x at = absurd (none x at)
in_map f (p ∷ ps) x at = elim (cases (f p) x (map f ps) at) [
  | inl same ↦ (p, here p ps, same)
  | inr more ↦ let (q, among, e) = in_map f ps x more in (q, later p q ps among, e)
]

to_map : (f : Renewal → CellSeen) (ps : List Renewal) (p : Renewal) → Contains ps p → Contains (map f ps) (f p)
to_map f [] p at = absurd (none p at)
to_map f (q ∷ ps) p at = elim (cases q p ps at) [
  | inl same ↦ subst (λ (x : Renewal). Contains (f q ∷ map f ps) (f x)) (sym same) (here (f q) (map f ps))
  | inr more ↦ later (f q) (f p) (map f ps) (to_map f ps p more)
]

news_distinct : (ps : List Renewal) → ((p : Renewal) → Contains ps p → p.new.id ≡ p.old.id) → Distinct (olds_of ps) → Distinct (news_of ps)
news_distinct [] same d = d
news_distinct (p ∷ ps) same (first, rest) = (
  λ y at e.
      let (q, among, is) = in_map (λ x. x.new) ps y at in
      first q.old (to_map (λ x. x.old) ps q among) (sym (same p (here p ps)) ∙ (e ∙ (ap (λ (c : CellSeen). c.id) is ∙ same q (later p q ps among)))),
  news_distinct ps (λ q at. same q (later p q ps at)) rest,
)

node_at : (c : CellSeen) (level hi : ℕ) → level ≡ c.level → hi ≡ rank c.hi → IsNode (cell_of level (rank c.lo) hi c.block) → IsNode (node_of c)
node_at c level hi a b h = subst (λ k. IsNode (cell_of c.level (rank c.lo) k c.block)) b (subst (λ l. IsNode (cell_of l (rank c.lo) hi c.block)) a h)

module _ (t : Store Value) (r : Root) (part : IsPart t r) (ps : List Renewal) (are : AreRenewals t ps) where
  q : Patch Value
  q = patch_of (olds_of ps) (news_of ps) None

  old_distinct : Distinct (olds_of ps)
  old_distinct = distinct (olds_of ps) are.names

  new_distinct : Distinct (news_of ps)
  new_distinct = news_distinct ps (λ p at. (are.each p at).number) old_distinct

  -- what is found among the old ones, and among the new ones, is of one pair
  Pair : ℕ → Type 0
  Pair i = (p : Renewal) × Contains ps p × (p.old.id ≡ i) × (q.old i ≡ Some (node_of p.old)) × (q.new i ≡ Some (node_of p.new))

  pair_of : (p : Renewal) → Contains ps p → Pair p.old.id
  unfolding q Pair
  pair_of p at = (
    p,
    at,
    refl,
    there (olds_of ps) p.old old_distinct (to_map (λ x. x.old) ps p at),
    subst (λ i. by_name (news_of ps) i ≡ Some (node_of p.new)) (are.each p at).number (there (news_of ps) p.new new_distinct (to_map (λ x. x.new) ps p at)),
  )

  old_pair : (i : ℕ) (c : Node Value) → q.old i ≡ Some c → Pair i
  unfolding q
  old_pair i c e =
      let (x, at, id, _) = found (olds_of ps) i c e in
      let (p, among, is) = in_map (λ y. y.old) ps x at in
      subst Pair (ap (λ (z : CellSeen). z.id) (sym is) ∙ id) (pair_of p among)

  new_pair : (i : ℕ) (c : Node Value) → q.new i ≡ Some c → Pair i
  unfolding q
  new_pair i c e =
      let (x, at, id, _) = found (news_of ps) i c e in
      let (p, among, is) = in_map (λ y. y.new) ps x at in
      subst Pair (sym (are.each p among).number ∙ (ap (λ (z : CellSeen). z.id) (sym is) ∙ id)) (pair_of p among)

  -- so a cell that is found is the pair's
  OldIs : ℕ → Node Value → Type 0
  OldIs i c = (p : Renewal) × Contains ps p × (c ≡ node_of p.old) × (q.new i ≡ Some (node_of p.new))

  old_is : (i : ℕ) (c : Node Value) → q.old i ≡ Some c → OldIs i c
  unfolding Pair OldIs
  old_is i c e = let (p, at, id, o, n) = old_pair i c e in (p, at, same_Some c (node_of p.old) (sym e ∙ o), n)

  NewIs : ℕ → Node Value → Type 0
  NewIs i c = (p : Renewal) × Contains ps p × (c ≡ node_of p.new) × (q.old i ≡ Some (node_of p.old))

  new_is : (i : ℕ) (c : Node Value) → q.new i ≡ Some c → NewIs i c
  unfolding Pair NewIs
  new_is i c e = let (p, at, id, o, n) = new_pair i c e in (p, at, same_Some c (node_of p.new) (sym e ∙ n), o)

  old_low : (i : ℕ) (c : Node Value) → q.old i ≡ Some c → c.level ≡ 0
  unfolding OldIs
  old_low i c e = let (p, at, is, n) = old_is i c e in ap (λ (x : Node Value). x.level) is ∙ (level_is p.old ∙ (are.each p at).old_level)

  new_low : (i : ℕ) (c : Node Value) → q.new i ≡ Some c → c.level ≡ 0
  unfolding NewIs
  new_low i c e = let (p, at, is, o) = new_is i c e in ap (λ (x : Node Value). x.level) is ∙ (level_is p.new ∙ (are.each p at).new_level)

  old_names : (i : ℕ) (c : Node Value) (n : Name) → q.old i ≡ Some c → Contains c.names n → ⊥
  unfolding OldIs
  old_names i c n e h = let (p, at, is, _) = old_is i c e in no_names p.old n (are.each p at).old_level (subst (λ (x : Node Value). Contains x.names n) is h)

  new_names : (i : ℕ) (c : Node Value) (n : Name) → q.new i ≡ Some c → Contains c.names n → ⊥
  unfolding NewIs
  new_names i c n e h = let (p, at, is, _) = new_is i c e in no_names p.new n (are.each p at).new_level (subst (λ (x : Node Value). Contains x.names n) is h)

  old_spans : (i : ℕ) (c : Node Value) (x : Span) → q.old i ≡ Some c → Contains c.spans x → ⊥
  unfolding OldIs
  old_spans i c x e h = let (p, at, is, _) = old_is i c e in no_spans p.old x (are.each p at).old_level (subst (λ (y : Node Value). Contains y.spans x) is h)

  new_spans : (i : ℕ) (c : Node Value) (x : Span) → q.new i ≡ Some c → Contains c.spans x → ⊥
  unfolding NewIs
  new_spans i c x e h = let (p, at, is, _) = new_is i c e in no_spans p.new x (are.each p at).new_level (subst (λ (y : Node Value). Contains y.spans x) is h)

  same_range : (p : Renewal) → Contains ps p → SameRange (node_of p.old) (node_of p.new)
  same_range p at =
      let e = are.each p at in (
        level_is p.old ∙ (e.old_level ∙ sym (level_is p.new ∙ e.new_level)),
        lo_is p.old ∙ (sym e.lo ∙ sym (lo_is p.new)),
        hi_is p.old ∙ (sym e.hi ∙ sym (hi_is p.new)),
      )

  new_node : (p : Renewal) → Contains ps p → IsNode (node_of p.new)
  new_node p at =
      let e = are.each p at in
      let was = part.nodes p.old.id (node_of p.old) (are.stand p at) in
      let from = was.from_least in
      let to = was.to_top in
      let lo = lo_is p.old in
      let hi = hi_is p.old in
      let lo2 = e.lo in
      let wide = e.wide in
      let hi2 = e.hi in
      node_at p.new 0 (rank p.new.lo + 4096) (sym e.new_level) (omega (arith, lo2, wide, hi2)) (data_node (rank p.new.lo) p.new.block e.whole (omega (arith, from, lo, lo2)) (omega (arith, to, hi, wide, lo2)))

  no_root : (x : Root) → q.root ≡ Some x → ⊥
  unfolding q
  no_root x e = none-some x e

  no_need : (i : ℕ) (c : Node Value) → q.new i ≡ Some c → NeedsName q i c → ⊥
  unfolding NewIs
  no_need i c e (inl gone) = let (p, at, is, o) = new_is i c e in none-some (node_of p.old) (sym gone ∙ o)
  no_need i c e (inr (inl (n, (j, d, od, dn), _))) = old_names j d n od dn
  no_need i c e (inr (inr (o, oi, other))) =
      let (p, at, is, o2) = new_is i c e in
      let same : o ≡ node_of p.old = same_Some o (node_of p.old) (sym oi ∙ o2) in
      other (subst (λ (x : Node Value). SameRange o x) (sym is) (subst (λ (x : Node Value). SameRange x (node_of p.new)) (sym same) (same_range p at)))

  renewed_patch : IsPatch q
  unfolding OldIs NewIs
  renewed_patch = record {
    nodes = λ i c e. let (p, at, is, _) = new_is i c e in subst (λ (x : Node Value). IsNode x) (sym is) (new_node p at);
    covers_old = λ l k two (i, c, e, cl, at). absurd (let z = old_low i c e in omega (arith, z, cl, two));
    covers_new = λ l k two (i, c, e, cl, at). absurd (let z = new_low i c e in omega (arith, z, cl, two));
    new_root = λ x e. absurd (no_root x e);
    apart = λ i j c d k e h same one at_c at_d. absurd (let z = new_low i c e in omega (arith, z, one));
    named = λ n (i, c, e, cn). absurd (new_names i c n e cn);
    kept = λ n (i, c, e, cn) gone. absurd (old_names i c n e cn);
    replaced = λ i c e unnamed.
        let (p, at, is, n) = old_is i c e in
        let (a, b, d) = same_range p at in
        inl (node_of p.new, n, (sym a ∙ ap (λ (x : Node Value). x.level) (sym is), sym b ∙ ap (λ (x : Node Value). x.lo) (sym is), sym d ∙ ap (λ (x : Node Value). x.hi) (sym is)));
    reached = λ i c e needs. absurd (no_need i c e needs);
    leaves_old = λ k h. absurd (elim h [ inl (i, c, e, cl, at) ↦ (let z = old_low i c e in omega (arith, z, cl)) | inr (i, c, x, e, cs, at) ↦ old_spans i c x e cs ]);
    leaves_new = λ k h. absurd (elim h [ inl (i, c, e, cl, at) ↦ (let z = new_low i c e in omega (arith, z, cl)) | inr (i, c, x, e, cs, at) ↦ new_spans i c x e cs ]);
  }

  pub renewed_change : IsChange (olds_of ps) (news_of ps) None
  unfolding q
  renewed_change = record { old_names = are.names; new_names = have_names (news_of ps) new_distinct; patch = renewed_patch }

  pub renewed_meets : MeetsPart (patch_of (olds_of ps) (news_of ps) None) t r
  unfolding q OldIs NewIs
  renewed_meets = record {
    meets = record {
      has_old = λ i c e.
          let (x, at, id, says) = found (olds_of ps) i c e in
          let (p, among, is) = in_map (λ y. y.old) ps x at in
          subst (λ n. t n ≡ Some c) (ap (λ (z : CellSeen). z.id) (sym is) ∙ id) (are.stand p among ∙ ap Some (ap node_of (sym is) ∙ sym says));
      free = λ i c e gone. absurd (let (p, at, is, o) = new_is i c e in none-some (node_of p.old) (sym gone ∙ o));
      root_old = λ h. absurd (grind (arith, h));
    };
    unnamed = λ i c e gone h. let (p, at, is, o) = new_is i c e in none-some (node_of p.old) (sym gone ∙ o);
  }

  -- ---- the effect

  no_leaf : (c : CellSeen) → c.level ≡ 0 → ((node_of c).level == 1) ≡ false
  no_leaf c e = let l = level_is c in ne_eqb (node_of c).level 1 (λ h. absurd (omega (arith, l, e, h)))

  new_unit : (k : ℕ) (u : Placed Value) → UnitIn q.new k u → Contains (units_of_cells (news_of ps)) (k, u.0) × (u.1 ≡ false)
  unfolding q
  new_unit k u (i, c, e, has, kind) =
      let (x, at, id, says) = found (news_of ps) i c e in
      let (p, among, is) = in_map (λ y. y.new) ps x at in
      (to_units (news_of ps) x (k, u.0) at (subst (λ (z : Node Value). Contains z.units (k, u.0)) says has), sym (subst (λ (z : Node Value). (z.level == 1) ≡ u.1) (says ∙ ap node_of is) kind) ∙ no_leaf p.new (are.each p among).new_level)

  old_unit : (k : ℕ) (u : Placed Value) → UnitIn q.old k u → Contains (units_of_cells (olds_of ps)) (k, u.0) × (u.1 ≡ false)
  unfolding q
  old_unit k u (i, c, e, has, kind) =
      let (x, at, id, says) = found (olds_of ps) i c e in
      let (p, among, is) = in_map (λ y. y.old) ps x at in
      (to_units (olds_of ps) x (k, u.0) at (subst (λ (z : Node Value). Contains z.units (k, u.0)) says has), sym (subst (λ (z : Node Value). (z.level == 1) ≡ u.1) (says ∙ ap node_of is) kind) ∙ no_leaf p.old (are.each p among).old_level)

  unit_new : (k : ℕ) (v : Value) → Contains (units_of_cells (news_of ps)) (k, v) → UnitIn q.new k (v, false)
  unfolding q
  unit_new k v h =
      let (x, at, has) = from_units (news_of ps) (k, v) h in
      let (p, among, is) = in_map (λ y. y.new) ps x at in
      (x.id, node_of x, there (news_of ps) x new_distinct at, has, ap (λ (z : CellSeen). (node_of z).level == 1) is ∙ no_leaf p.new (are.each p among).new_level)

  unit_old : (k : ℕ) (v : Value) → Contains (units_of_cells (olds_of ps)) (k, v) → UnitIn q.old k (v, false)
  unfolding q
  unit_old k v h =
      let (x, at, has) = from_units (olds_of ps) (k, v) h in
      let (p, among, is) = in_map (λ y. y.old) ps x at in
      (x.id, node_of x, there (olds_of ps) x old_distinct at, has, ap (λ (z : CellSeen). (node_of z).level == 1) is ∙ no_leaf p.old (are.each p among).old_level)

  placed_value : (o : Option Value) (v : Value) (b : Bool) → in_extent o ≡ Some (v, b) → (o ≡ Some v) × (b ≡ false)
  placed_value None v b e = absurd (none-some (v, b) e)
  placed_value (Some x) v b e = let same = same_Some (x, false) (v, b) e in (ap (λ (u : Placed Value). Some u.0) same, ap (λ (u : Placed Value). u.1) (sym same))

  pub renewed_effect : (at : ℕ → Bool) (to : ℕ → Option Value) → ((k : ℕ) → at k ≡ true → (p : Renewal) × Contains ps p × InCell p.old k) → ((k : ℕ) (v : Value) → at k ≡ true → Contains (units_of_cells (news_of ps)) (k, v) ↔ (to k ≡ Some v)) → ((k : ℕ) (v : Value) → at k ≡ false → Contains (units_of_cells (news_of ps)) (k, v) ↔ Contains (units_of_cells (olds_of ps)) (k, v)) → HasEffect (patch_of (olds_of ps) (news_of ps) None) at (λ k. in_extent (to k))
  unfolding q Pair
  renewed_effect at to inside says same = record {
    held = λ k h.
        let (p, among, range) = inside k h in
        let (p2, at2, id, o, n) = pair_of p among in
        let l = level_is p.old in
        let e = (are.each p among).old_level in
        (p.old.id, node_of p.old, there (olds_of ps) p.old old_distinct (to_map (λ x. x.old) ps p among), inl (omega (arith, l, e), in_node p.old k range));
    there = λ k u h. (
      λ x. let y = new_unit k u x in ap in_extent ((says k u.0 h).0 y.0) ∙ ap (λ b. Some (u.0, b)) (sym y.1),
      λ e. let (is_v, kind) = placed_value (to k) u.0 u.1 e in subst (λ b. UnitIn q.new k (u.0, b)) (sym kind) (unit_new k u.0 ((says k u.0 h).1 is_v)),
    );
    others = λ k u h. (
      λ x. let y = new_unit k u x in subst (λ b. UnitIn q.old k (u.0, b)) (sym y.1) (unit_old k u.0 ((same k u.0 h).0 y.0)),
      λ x. let y = old_unit k u x in subst (λ b. UnitIn q.new k (u.0, b)) (sym y.1) (unit_new k u.0 ((same k u.0 h).1 y.0)),
    );
  }

-- ---- as one step of a working set

module _ (t : Store Value) (r : Root) (f : Fresh) (w : WorkingSet) (olds news : List CellSeen) (ps : List Renewal) (is : IsRenewable t r f w olds news ps) where
  abbrev d : Change
  d = record { old = olds; new = news; root = None }

  part : IsPart (now_of w t) (root_of w r)
  part = now_part t r f w is.working

  change : IsChange olds news None
  change = subst (λ xs. IsChange xs news None) (sym is.old_are)
      (subst (λ xs. IsChange (olds_of ps) xs None) (sym is.new_are) (renewed_change (now_of w t) (root_of w r) part ps is.are))

  meets : MeetsPart (patch_of olds news None) (now_of w t) (root_of w r)
  meets = subst (λ xs. MeetsPart (patch_of xs news None) (now_of w t) (root_of w r)) (sym is.old_are)
      (subst (λ xs. MeetsPart (patch_of (olds_of ps) xs None) (now_of w t) (root_of w r)) (sym is.new_are)
      (renewed_meets (now_of w t) (root_of w r) part ps is.are))

  none_new : (c : CellSeen) → Contains news c → by_name olds c.id ≡ None → ⊥
  none_new c at gone =
      let (p, among, same) = in_map (λ y. y.new) ps c (subst (λ xs. Contains xs c) is.new_are at) in
      let stands : by_name (olds_of ps) p.old.id ≡ Some (node_of p.old) =
      there (olds_of ps) p.old (distinct (olds_of ps) is.are.names) (to_map (λ y. y.old) ps p among) in
      let id : c.id ≡ p.old.id = ap (λ (y : CellSeen). y.id) same ∙ (is.are.each p among).number in
      none-some (node_of p.old) (sym gone ∙ (ap (by_name olds) id ∙ (ap (λ xs. by_name xs p.old.id) is.old_are ∙ stands)))

  pub renewed_next : IsNextEdit t r w f f (record { old = olds; new = news; root = None })
  renewed_next = record {
    change = change;
    meets = meets;
    names = λ c at gone. absurd (none_new c at gone);
    takes = (omega arith, is.numbers, refl);
    root = λ x e. absurd (none-some x e);
  }

  module _ (now : WorkingSet) (put : IsPutInPlace w (record { old = olds; new = news; root = None }) now) where
    renewed_numbers : ids_of news ≡ ids_of olds
    renewed_numbers = ap ids_of is.new_are ∙ (pair_numbers ps (λ p at. (is.are.each p at).number) ∙ ap ids_of (sym is.old_are))
      where
        pair_numbers : (qs : List Renewal) → ((p : Renewal) → Contains qs p → p.new.id ≡ p.old.id) → ids_of (news_of qs) ≡ ids_of (olds_of qs)
        pair_numbers [] same = refl
        pair_numbers (p ∷ qs) same = let one = same p (here p qs) in let rest = pair_numbers qs (λ x at. same x (later p x qs at)) in λ i. one i ∷ rest i

    old_names_are : HaveNames olds
    old_names_are = subst HaveNames (sym is.old_are) is.are.names

    pub renewed_working : IsWorking t r f now
    renewed_working = now_working t r w now f f (record { old = olds; new = news; root = None }) is.working renewed_next put

    pub renewed_does : DoesRenew w now ps
    renewed_does at to does a g ew =
        now_effect t r w now f f (record { old = olds; new = news; root = None }) is.working renewed_next put a at g (λ k. in_extent (to k)) ew
        (subst (λ xs. HasEffect (patch_of xs news None) at (λ k. in_extent (to k))) (sym is.old_are)
        (subst (λ xs. HasEffect (patch_of (olds_of ps) xs None) at (λ k. in_extent (to k))) (sym is.new_are)
        (renewed_effect (now_of w t) (root_of w r) part ps is.are at to does.held does.there does.others)))

    pub renewed_made : IsRenewed t r f w now olds news
    renewed_made = record {
      numbers = renewed_numbers;
      change = change;
      meets = meets;
      put = put;
      stand = stand_now w now olds news renewed_numbers old_names_are is.working.made put;
      as_before = as_before w now olds news renewed_numbers old_names_are is.working.made put;
      working = renewed_working;
    }

-- the same cells, as they are held otherwise
pub renewable_as : (t : Store Value) (r : Root) (f : Fresh) (w : WorkingSet) (olds news olds2 news2 : List CellSeen) (ps : List Renewal) → olds2 ≡ olds → news2 ≡ news
    → IsRenewable t r f w olds news ps → IsRenewable t r f w olds2 news2 ps
renewable_as t r f w olds news olds2 news2 ps a b is = record
    { working = is.working; old_are = a ∙ is.old_are; new_are = b ∙ is.new_are; are = is.are; numbers = is.numbers }
