-- All cells with an atom in place, put together from its own and the committed ones.
use Rattle.std.proofs.Common.{◌≡◌, ◌≢◌, ◌⊎◌, inl, inr, ⊎_elim, ℕ, ◌^◌, ◌<◌, Bool, true, false, cond, List, [], ◌∷◌}
use Rattle.std.proofs.Common.{map, Option, Some, None, refl, sym, ap, ◌∙◌, subst, arith}
use Rattle.std.specs.Prelude.{Contains}
use Rattle.std.specs.Option.{option_or}
use Rattle.std.proofs.lemmas.Bool.{cases_eq, eq-eqb, ne_eqb}
use Rattle.std.proofs.lemmas.Option.{same_Some}
use Rattle.r4_base.proofs.Choices.{never_both, nothing_in}
use Rattle.r4_base.specs.Image.{AreDifferent}
use Rattle.r4_base.specs.Tree.{Name, Node, Store}
use Rattle.r4_base.specs.Value.{Content, Value}
use Rattle.r4_base.proofs.Members.{member_or_not}
use Rattle.r4_placed.specs.r4_cell.Seen.{CellSeen, node_of}
use Rattle.r4_placed.specs.r4_place.declared.placed.Placed.{Placed}
use Rattle.r4_placed.specs.r4_commit.Plannable.{is_marked_in}
use Rattle.r4_placed.proofs.r4_wander.Members.{any_cases, any_here, any_later, from_map, in_map}
use Rattle.r4_placed.specs.r4_sets.Renaming.{IsRenamed, renamed_name}
use Rattle.r4_placed.specs.r4_sets.Session.{Session, only, picks, cells as cells_with}
use Rattle.r4_flushed.specs.Flushed.{AreFlushed, IsFlushed, cell_at, with_flushed}
use Rattle.r4_placed.specs.Flushing.{Flushing, IsAtRest, name_after}
use Rattle.r4_placed.specs.r4_sealed.Commits.{spot}
use Rattle.r4_flushed.proofs.FlushedCells.{picks_cases}
use Rattle.r4_placed.proofs.Planning.{below_or, cell_marked, fresh_free, low_spot, old_spot, renamed_cell}
use Rattle.r4_placed.proofs.Planning.{renamed_not, renamed_twice, same_spot}

-- a number on which one of the cells stands, or none
pub spot_or_not : (answers : List Placed) (xs : List CellSeen) (j : ℕ)
    → ((x : CellSeen) × Contains xs x × (spot answers x ≡ j))
    ⊎ ((cell_at answers xs j ≡ None) × ((x : CellSeen) → Contains xs x → spot answers x ≡ j → ⊥))
spot_or_not answers [] j = inr (refl, λ x one is. nothing_in x one)
spot_or_not answers (y ∷ ys) j = elim (cases_eq (spot answers y) j) [
  | inl is ↦ inl (y, any_here y ys y refl, is)
  | inr other ↦ ⊎_elim
      (λ (x, one, at). inl (x, any_later y ys x one, at))
      (λ (none, out). inr (
        ap (λ (t : Bool). cond t (Some (node_of y)) (cell_at answers ys j))
            (ne_eqb (spot answers y) j other) ∙ none,
        λ x one at. ⊎_elim (λ is. other (ap (spot answers) (sym is) ∙ at))
            (λ later. out x later at) (any_cases y ys x one),
      ))
      (spot_or_not answers ys j)
]

module _ (n : ℕ) (work : Flushing) (m : Content) (r : IsAtRest n work m)
    (c : Session) (fl : AreFlushed c work r.content.store) where
  abbrev to : ℕ → ℕ
  to = name_after work

  abbrev u : Store Value
  u = with_flushed c work r.content.store

  pub found_in : (xs : List CellSeen) → ((x : CellSeen) → Contains xs x → Contains work.cells x)
      → AreDifferent (map (λ (x : CellSeen). x.id) xs) → (x : CellSeen) → Contains xs x
      → cell_at work.answers xs (spot work.answers x) ≡ Some (node_of x)
  found_in [] within names x one = absurd (nothing_in x one)
  found_in (y ∷ ys) within names x one = ⊎_elim
      (λ is. ap (λ (t : Bool). cond t (Some (node_of y)) (cell_at work.answers ys (spot work.answers x)))
      (eq-eqb (spot work.answers y) (spot work.answers x) (ap (spot work.answers) (sym is)))
      ∙ ap (λ (z : CellSeen). Some (node_of z)) (sym is))
      (λ later.
      let other : spot work.answers y ≢ spot work.answers x = λ same.
      names.0 (subst (Contains (map (λ (z : CellSeen). z.id) ys))
      (same_spot n work m r x y (within x one) (within y (any_here y ys y refl)) (sym same))
      (in_map (λ (z : CellSeen). z.id) ys x later)) in
      ap (λ (t : Bool). cond t (Some (node_of y)) (cell_at work.answers ys (spot work.answers x)))
      (ne_eqb (spot work.answers y) (spot work.answers x) other)
      ∙ found_in ys (λ z in_z. within z (any_later y ys z in_z)) names.1 x later)
      (any_cases y ys x one)

  at_spot : (x : CellSeen) → Contains work.cells x → u (spot work.answers x) ≡ Some (node_of x)
  at_spot x one = ap (λ (o : Option (Node Value)). option_or o
      (cond (picks (only work.atom.0) (c.owner (spot work.answers x))) None (r.content.store (spot work.answers x))))
      (found_in work.cells (λ z in_z. in_z) r.names x one)

  elsewhere : (j : ℕ) → cell_at work.answers work.cells j ≡ None
      → u j ≡ cond (picks (only work.atom.0) (c.owner j)) None (r.content.store j)
  elsewhere j none = ap (λ (o : Option (Node Value)). option_or o
      (cond (picks (only work.atom.0) (c.owner j)) None (r.content.store j))) none

  -- no cell of the atom stands on a committed one that it does not own
  off_spots : (i : ℕ) (d : Node Value) → r.content.store i ≡ Some d → (c.owner i ≡ Some work.atom.0 → ⊥)
      → (x : CellSeen) → Contains work.cells x → spot work.answers x ≡ i → ⊥
  off_spots i d is out x one at = ⊎_elim
      (λ low. out (ap c.owner (sym at ∙ old_spot n work m r x one low) ∙ (fl.flush.owned x one).0))
      (λ high. never_both (is_marked_in work.space i) (cell_marked n work m r i d is).0
      (subst (λ (k : ℕ). is_marked_in work.space k ≡ false) at (fresh_free n work m r x one high).1))
      (below_or x.id)

  pub not_owned : (i : ℕ) (d : Node Value) → r.content.store i ≡ Some d → (c.owner i ≡ Some work.atom.0 → ⊥)
      → picks (only work.atom.0) (c.owner i) ≡ false → u i ≡ Some d
  not_owned i d is out pick = ⊎_elim
      (λ (x, one, at). absurd (off_spots i d is out x one at))
      (λ (none, off). elsewhere i none ∙ ap (λ (t : Bool). cond t None (r.content.store i)) pick ∙ is)
      (spot_or_not work.answers work.cells i)

  -- the names of committed cells stay
  fixed : (i : ℕ) (d : Node Value) → r.content.store i ≡ Some d → to i ≡ i
  fixed i d is = ⊎_elim
      (λ named.
      let (x, one, at) = from_map (λ (z : CellSeen). z.id) work.cells i named in
      ap to at ∙ renamed_cell n work m r x one
      ∙ old_spot n work m r x one (let small = low_committed i d is in omega (arith, small, at)) ∙ sym at)
      (λ out. renamed_not n work m r i d is (λ x one at. out
      (subst (Contains (map (λ (z : CellSeen). z.id) work.cells)) at
      (in_map (λ (z : CellSeen). z.id) work.cells x one))))
      (member_or_not (map (λ (z : CellSeen). z.id) work.cells) i)
    where
      low_committed : (i : ℕ) (d : Node Value) → r.content.store i ≡ Some d → i < 2 ^ 63
      low_committed i d is = let lt : i < work.space.block_count =
          subst (λ (k : ℕ). i < k) r.here.count (r.content.places i d is).0 in omega (arith, lt, r.lawful.most)

  same_name : (i : ℕ) (d : Node Value) (y : Name) → r.content.store i ≡ Some d → Contains d.names y
      → renamed_name to y ≡ y
  same_name i d y is one = let (e, there, fits) = r.content.tree.named i d y is one in
      ap (λ (k : ℕ). record y { id = k }) (fixed y.id e there)

  kept_cell : (i : ℕ) (d : Node Value) → r.content.store i ≡ Some d → IsRenamed to d d
  kept_cell i d is = record {
    level = refl;
    lo = refl;
    hi = refl;
    names_to = λ y one. subst (Contains d.names) (sym (same_name i d y is one)) one;
    names_from = λ y one. (y, one, sym (same_name i d y is one));
    spans = λ y. (λ h. h, λ h. h);
    units = λ k v. (λ h. h, λ h. h);
  }

  with_atom_at : (i : ℕ) → picks (only work.atom.0) (c.owner i) ≡ true
      → cells_with c (only work.atom.0) i ≡ c.memory i
  with_atom_at i pick = ap (λ (t : Bool). cond t (c.memory i) (c.under.cells i)) pick

  without_at : (i : ℕ) → picks (only work.atom.0) (c.owner i) ≡ false
      → cells_with c (only work.atom.0) i ≡ r.content.store i
  without_at i pick = ap (λ (t : Bool). cond t (c.memory i) (c.under.cells i)) pick ∙ fl.alone i

  -- a cell that does not stand on a spot
  off_is : (j : ℕ) (d : Node Value) → cell_at work.answers work.cells j ≡ None → u j ≡ Some d
      → (picks (only work.atom.0) (c.owner j) ≡ false) × (r.content.store j ≡ Some d)
  off_is j d none is = go (picks (only work.atom.0) (c.owner j)) refl (sym (elsewhere j none) ∙ is)
    where
      go : (t : Bool) → picks (only work.atom.0) (c.owner j) ≡ t → cond t None (r.content.store j) ≡ Some d
          → (t ≡ false) × (r.content.store j ≡ Some d)
      go true e f = absurd (cc f)
      go false e f = (refl, f)

  to_new : (i : ℕ) (d : Node Value) → cells_with c (only work.atom.0) i ≡ Some d → (e : Node Value)
      × (u (to i) ≡ Some e) × IsRenamed to d e
  to_new i d is = ⊎_elim
      (λ (own, pick).
      let mem : c.memory i ≡ Some d = sym (with_atom_at i pick) ∙ is in
      let (x, one, at) = fl.flush.mine i d own mem in (
        node_of x,
        ap u (ap to (sym at) ∙ renamed_cell n work m r x one) ∙ at_spot x one,
        fl.flush.renamed_cells x d one (ap c.memory at ∙ mem),
      ))
      (λ (out, pick).
      let old : r.content.store i ≡ Some d = sym (without_at i pick) ∙ is in
      (d, ap u (fixed i d old) ∙ not_owned i d old out pick, kept_cell i d old))
      (picks_cases work.atom.0 (c.owner i))

  from_new : (j : ℕ) (e : Node Value) → u j ≡ Some e → (d : Node Value)
      × (cells_with c (only work.atom.0) (to j) ≡ Some d) × IsRenamed to d e
  from_new j e is = ⊎_elim
      (λ (x, one, at).
      let (own, (d, mem)) = fl.flush.owned x one in
      let back : to j ≡ x.id = ap to (sym at ∙ sym (renamed_cell n work m r x one)) ∙ renamed_twice n work m r x.id in
      let same : node_of x ≡ e = same_Some (node_of x) e (sym (at_spot x one) ∙ ap u at ∙ is) in
      ⊎_elim
      (λ (mine, pick). (
        d,
        ap (cells_with c (only work.atom.0)) back ∙ with_atom_at x.id pick ∙ mem,
        subst (IsRenamed to d) same (fl.flush.renamed_cells x d one mem),
      ))
      (λ (out, pick). absurd (out own))
      (picks_cases work.atom.0 (c.owner x.id)))
      (λ (none, off).
      let (pick, old) = off_is j e none is in
      (e, ap (cells_with c (only work.atom.0)) (fixed j e old) ∙ without_at j pick ∙ old, kept_cell j e old))
      (spot_or_not work.answers work.cells j)

  others : (i : ℕ) (d : Node Value) → (c.owner i ≡ Some work.atom.0 → ⊥) → to i ≡ i → u i ≡ Some d
      → r.content.store i ≡ Some d
  others i d out still is = ⊎_elim
      (λ (x, one, at). ⊎_elim
      (λ low. absurd (out (ap c.owner (sym at ∙ old_spot n work m r x one low) ∙ (fl.flush.owned x one).0)))
      (λ high.
      let back : x.id ≡ i = sym (renamed_twice n work m r x.id) ∙ ap to (renamed_cell n work m r x one ∙ at)
      ∙ still in
      let small : i < 2 ^ 63 = subst (λ (k : ℕ). k < 2 ^ 63) at (low_spot n work m r x one) in
      absurd (omega (arith, high, small, back)))
      (below_or x.id))
      (λ (none, off). (off_is i d none is).1)
      (spot_or_not work.answers work.cells i)

  pub flushed : IsFlushed c work r.content.store u
  flushed = record {
    alone = fl.alone;
    mine = fl.flush.mine;
    owned = fl.flush.owned;
    renaming = record {
      to = to_new;
      from = from_new;
      back = renamed_twice n work m r;
      again =
          renamed_twice n work m r;
    };
    node = at_spot;
    stands = fl.flush.stands;
    others = others;
    deferred = fl.deferred;
  }
