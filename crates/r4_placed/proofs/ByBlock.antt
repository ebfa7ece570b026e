-- A plan for cells under the names of their blocks.
use Rattle.std.proofs.Common.{◌≡◌, inl, inr, ⊎_elim, ℕ, ◌<◌, Bool, true, false, cond, eqb, List, [], ◌∷◌, ◌++◌, map}
use Rattle.std.proofs.Common.{Option, Some, None, refl, sym, ap, ◌∙◌, subst}
use Rattle.std.specs.Prelude.{Contains, All, slice_index_or}
use Rattle.std.specs.Option.{option_or}
use Rattle.std.proofs.lemmas.Bool.{eq-eqb, ne_eqb}
use Rattle.std.proofs.lemmas.List.Elements.{All-contains}
use Rattle.r4_base.proofs.Choices.{never_both, nothing_in}
use Rattle.r4_base.specs.Image.{AreDifferent}
use Rattle.r4_base.specs.Bitmap.{is_fixed}
use Rattle.r4_base.specs.Tree.{Node, Store}
use Rattle.r4_base.specs.Value.{Content, Value}
use Rattle.r4_base.specs.declared.things.BlockNo.{BlockNo}
use Rattle.r4_base.proofs.Members.{member_here, member_later, member_or_not, no_member}
use Rattle.r4_sealed.specs.r4_cell.Seen.{CellSeen}
use Rattle.r4_sealed.specs.r4_space.Space.{is_taken}
use Rattle.r4_sealed.specs.r4_place.Chosen.{block_of, fresh_blocks, placed_all}
use Rattle.r4_sealed.specs.r4_place.declared.placed.How.{How}
use Rattle.r4_sealed.specs.r4_place.declared.placed.How.TheVariants.{Fresh, Relocate, Overwrite}
use Rattle.r4_sealed.specs.r4_place.declared.placed.Placed.{Placed}
use Rattle.r4_sealed.proofs.r4_place.ChosenCells.{fresh_unused}
use Rattle.r4_sealed.proofs.r4_wander.Members.{any_cases, any_here, any_later, from_map, in_map}
use Rattle.r4_sealed.specs.r4_wander.declared.plan.LogPlan.{LogPlan}
use Rattle.r4_sealed.specs.r4_commit.Places.{block_given, kept_at, overwritten, overwritten_blocks, place_of}
use Rattle.r4_sealed.specs.r4_commit.Plannable.{IsPlannable, is_marked_in, is_spoken_for}
use Rattle.r4_sealed.proofs.r4_commit.Safety.{not_taken}
use Rattle.r4_sealed.specs.Written.{ComesFrom, Frees}
use Rattle.r4_placed.specs.Flushing.{Flushing, IsAtRest, answers_by_block, cells_by_block, commit_by_block, commit_of}
use Rattle.r4_placed.specs.Flushing.{named_by_block}
use Rattle.r4_sealed.specs.Commits.{HasPlan, IsCommitOn, spot, spot_of}
use Rattle.r4_placed.proofs.Planning.{below_or, cell_marked, fresh_given, fresh_spot, none_or, old_kept, old_spot}
use Rattle.r4_placed.proofs.Planning.{or_first, some_or}
use Rattle.r4_placed.proofs.Planning.{plannable, same_spot}

-- ---- the answers

same_fresh : (ps : List Placed) → fresh_blocks (answers_by_block ps) ≡ fresh_blocks ps
same_fresh [] = refl
same_fresh (p ∷ ps) = ap (λ (l : List ℕ). block_of p.how ++ l) (same_fresh ps)

then_or : (o q : Option BlockNo) (b : BlockNo) → o ≡ None → q ≡ Some b → option_or o q ≡ Some b
then_or o q b e f = rw (e, f) refl

no_block : (t : Bool) → ◌≡◌ {A = Option BlockNo} (cond t None None) None
no_block true = refl
no_block false = refl

-- no block is given to what is no fresh block
none_given : (ps : List Placed) (j : ℕ) → (Contains (fresh_blocks ps) j → ⊥) → place_of (answers_by_block ps) j ≡ None
none_given [] j out = refl
none_given (p ∷ ps) j out = go p.how (λ rest. none_given ps j rest) out
  where
    go : (how : How) → ((Contains (fresh_blocks ps) j → ⊥) → place_of (answers_by_block ps) j ≡ None)
        → (Contains (block_of how ++ fresh_blocks ps) j → ⊥)
        → option_or (place_of (answers_by_block ps) j)
        (cond (eqb (spot_of (block_given how) p.node.0) j) (block_given how) None) ≡ None
    go (Fresh a) ih off = none_or (place_of (answers_by_block ps) j) _
        (ih (λ h. off (member_later a.0 (fresh_blocks ps) j h)))
        (ap (λ (t : Bool). cond t (Some a) None) (ne_eqb a.0 j
        (λ is. off (member_here a.0 (fresh_blocks ps) j (sym is)))))
    go (Relocate a) ih off = none_or (place_of (answers_by_block ps) j) _
        (ih (λ h. off (member_later a.0 (fresh_blocks ps) j h)))
        (ap (λ (t : Bool). cond t (Some a) None) (ne_eqb a.0 j
        (λ is. off (member_here a.0 (fresh_blocks ps) j (sym is)))))
    go Overwrite ih off = none_or (place_of (answers_by_block ps) j) _ (ih off) (no_block (eqb p.node.0 j))

-- a fresh block is given to itself
self_given : (ps : List Placed) (b : BlockNo) → Contains (fresh_blocks ps) b.0
    → place_of (answers_by_block ps) b.0 ≡ Some b
self_given [] b one = absurd (no_member b.0 one)
self_given (p ∷ ps) b one = ⊎_elim
    (λ later. some_or (place_of (answers_by_block ps) b.0) _ b (self_given ps b later))
    (λ out. go p.how one out)
    (member_or_not (fresh_blocks ps) b.0)
  where
    here : (a : BlockNo) → Contains (a.0 ∷ fresh_blocks ps) b.0 → (Contains (fresh_blocks ps) b.0 → ⊥)
        → option_or (place_of (answers_by_block ps) b.0) (cond (eqb a.0 b.0) (Some a) None) ≡ Some b
    here a h out =
        let is : b.0 ≡ a.0 = ⊎_elim (λ e. e) (λ later. absurd (out later)) (any_cases a.0 (fresh_blocks ps) b.0 h) in
        then_or (place_of (answers_by_block ps) b.0) _ b (none_given ps b.0 out)
        (ap (λ (t : Bool). cond t (Some a) None) (eq-eqb a.0 b.0 (sym is))
        ∙ ap (λ (k : ℕ). Some (record { 0 = k })) (sym is))

    go : (how : How) → Contains (block_of how ++ fresh_blocks ps) b.0 → (Contains (fresh_blocks ps) b.0 → ⊥)
        → option_or (place_of (answers_by_block ps) b.0)
        (cond (eqb (spot_of (block_given how) p.node.0) b.0) (block_given how) None) ≡ Some b
    go (Fresh a) h out = here a h out
    go (Relocate a) h out = here a h out
    go Overwrite h out = absurd (out h)

from_named : (answers : List Placed) (xs : List CellSeen) (z : CellSeen) → Contains (cells_by_block answers xs) z
    → (y : CellSeen) × Contains xs y × (z ≡ named_by_block answers y)
from_named answers [] z one = absurd (nothing_in z one)
from_named answers (x ∷ xs) z one = ⊎_elim (λ is. (x, any_here x xs x refl, is))
    (λ later. let (y, in_y, is) = from_named answers xs z later in (y, any_later x xs y in_y, is))
    (any_cases (named_by_block answers x) (cells_by_block answers xs) z one)

module _ (n : ℕ) (work : Flushing) (m : Content) (r : IsAtRest n work m) where
  -- an old cell's block is not fresh
  not_fresh : (b : ℕ) (d : Node Value) → r.content.store b ≡ Some d → Contains (fresh_blocks work.answers) b → ⊥
  not_fresh b d is fresh =
      let unused = All-contains (λ (k : ℕ). (k < work.space.block_count) × (is_taken work.space k ≡ false))
      (fresh_blocks work.answers) b (fresh_unused 22 work.space work.cells work.answers r.lawful.placed_size
      r.chosen) fresh in
      never_both (is_marked_in work.space b) (cell_marked n work m r b d is).0
      (or_first (is_marked_in work.space b) _ (not_taken work.space b unused.1).1)

  -- a cell gets what it got
  same_place : (x : CellSeen) → Contains work.cells x → place_of (answers_by_block work.answers)
      (spot work.answers x) ≡ place_of work.answers x.id
  same_place x one = ⊎_elim
      (λ low.
      let (d, is) = r.old x one low in
      let at : spot work.answers x ≡ x.id = old_spot n work m r x one low in
      none_given work.answers (spot work.answers x) (λ fresh. not_fresh x.id d is
      (subst (Contains (fresh_blocks work.answers)) at fresh))
      ∙ sym (old_kept 22 work.space work.cells work.answers x.id r.chosen low))
      (λ high.
      let (b, some) = fresh_given 22 work.space work.cells work.answers x r.chosen one high in
      let at : spot work.answers x ≡ b.0 = ap (λ (o : Option BlockNo). spot_of o x.id) some in
      ap (place_of (answers_by_block work.answers)) at
      ∙ self_given work.answers b (subst (Contains (fresh_blocks work.answers)) at
      (fresh_spot n work m r x one high)) ∙ sym some)
      (below_or x.id)

  pub same_spot_by : (x : CellSeen) → Contains work.cells x
      → spot (answers_by_block work.answers) (named_by_block work.answers x) ≡ spot work.answers x
  same_spot_by x one = ap (λ (o : Option BlockNo). spot_of o (spot work.answers x)) (same_place x one)
      ∙ go (place_of work.answers x.id) refl
    where
      go : (o : Option BlockNo) → place_of work.answers x.id ≡ o
          → spot_of o (spot work.answers x) ≡ spot work.answers x
      go None e = refl
      go (Some b) e = sym (ap (λ (q : Option BlockNo). spot_of q x.id) e)

  -- the same blocks are overwritten
  same_over : (xs : List CellSeen) → ((x : CellSeen) → Contains xs x → Contains work.cells x)
      → map (λ (x : CellSeen). x.id) (overwritten (place_of (answers_by_block work.answers))
      (cells_by_block work.answers xs)) ≡ map (λ (x : CellSeen). x.id) (overwritten (place_of work.answers) xs)
  same_over [] within = refl
  same_over (x ∷ xs) within =
      ap (λ (o : Option BlockNo). map (λ (y : CellSeen). y.id)
      (kept_at (named_by_block work.answers x) o ++ overwritten (place_of (answers_by_block work.answers))
      (cells_by_block work.answers xs))) (same_place x (within x (any_here x xs x refl)))
      ∙ go (place_of work.answers x.id) refl (same_over xs (λ y one. within y (any_later x xs y one)))
    where
      go : (o : Option BlockNo) → place_of work.answers x.id ≡ o
          → map (λ (y : CellSeen). y.id) (overwritten (place_of (answers_by_block work.answers))
          (cells_by_block work.answers xs)) ≡ map (λ (y : CellSeen). y.id) (overwritten (place_of work.answers) xs)
          → map (λ (y : CellSeen). y.id) (kept_at (named_by_block work.answers x) o ++ overwritten
          (place_of (answers_by_block work.answers)) (cells_by_block work.answers xs)) ≡ map
          (λ (y : CellSeen). y.id) (kept_at x o ++ overwritten (place_of work.answers) xs)
      go (Some b) e ih = ih
      go None e ih = ap (λ (l : List ℕ). spot work.answers x ∷ l) ih
          ∙ ap (λ (k : ℕ). k ∷ map (λ (y : CellSeen). y.id) (overwritten (place_of work.answers) xs))
          (ap (λ (q : Option BlockNo). spot_of q x.id) e)

  all_over : overwritten_blocks (answers_by_block work.answers)
      (cells_by_block work.answers work.cells) ≡ overwritten_blocks work.answers work.cells
  all_over = same_over work.cells (λ x one. one)

  -- no two cells stand on one block
  different_in : (xs : List CellSeen) → ((x : CellSeen) → Contains xs x → Contains work.cells x)
      → AreDifferent (map (λ (x : CellSeen). x.id) xs)
      → AreDifferent (map (λ (x : CellSeen). x.id) (cells_by_block work.answers xs))
  different_in [] within names = tt
  different_in (x ∷ xs) within names = (
    λ again.
        let (z, in_z, at) = from_map (λ (y : CellSeen). y.id) (cells_by_block work.answers xs)
        (spot work.answers x) again in
        let (y, in_y, is) = from_named work.answers xs z in_z in
        let same : spot work.answers x ≡ spot work.answers y = at ∙ ap (λ (w : CellSeen). w.id) is in
        names.0 (subst (Contains (map (λ (w : CellSeen). w.id) xs))
        (sym (same_spot n work m r x y (within x (any_here x xs x refl)) (within y (any_later x xs y in_y)) same))
        (in_map (λ (w : CellSeen). w.id) xs y in_y)),
    different_in xs (λ y one. within y (any_later x xs y one)) names.1,
  )

  pub plannable_by : IsPlannable n work.base [] (placed_all work.space work.answers)
      (cells_by_block work.answers work.cells) (answers_by_block work.answers) work.next work.last
  plannable_by =
      let h = plannable n work m r in
      record {
        image = h.image;
        log = h.log;
        few = h.few;
        prev = h.prev;
        lawful = h.lawful;
        within = h.within;
        blocks = h.blocks;
        names = different_in work.cells (λ x one. one) r.names;
        overwritten = subst (All (λ b. (is_marked_in (placed_all work.space work.answers) b ≡ true)
            × (is_fixed (placed_all work.space work.answers).block_count b ≡ false))) (sym all_over) h.overwritten;
        different = subst AreDifferent (sym (same_fresh work.answers)) h.different;
        placed = subst (All (λ b. (slice_index_or (placed_all work.space work.answers).placed b false ≡ true)
            × (is_spoken_for (placed_all work.space work.answers) b ≡ false)))
            (sym (same_fresh work.answers)) h.placed;
        kept = λ b one. absurd (no_member b one);
        in_place = λ b one. absurd (no_member b one);
      }

  pub is_commit_by : (p : LogPlan) → HasPlan (commit_by_block work p) → IsCommitOn n (commit_by_block work p)
  is_commit_by p plan = record { is_for = plan; plannable = plannable_by }

  pub comes_by : (p : LogPlan) (u : Store Value) → ComesFrom r.content (commit_of work p) u
      → ComesFrom r.content (commit_by_block work p) u
  comes_by p u from = record {
    each = λ i d is. ⊎_elim
        (λ (x, one, at, bytes). inl (
          named_by_block work.answers x,
          in_map (named_by_block work.answers) work.cells x one,
          same_spot_by x one ∙ at,
          bytes,
        ))
        (λ (old, out). inr (old, λ over. out (subst (λ (l : List ℕ). Contains l i) all_over over)))
        (from.each i d is);
    kept = from.kept;
  }

  pub frees_by : (p : LogPlan) (u : Store Value) → Frees r.content (commit_of work p) u
      → Frees r.content (commit_by_block work p) u
  frees_by p u frees = record { freed = frees.freed; gone = frees.gone; placed = frees.placed; over = frees.over }
