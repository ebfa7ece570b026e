-- What a plan writes, and where.
use Rattle.std.proofs.Common.{◌≡◌, ◌≢◌, ◌⊎◌, inl, inr, ⊎_elim, ℕ, zero, suc, ◌+◌, ◌*◌, ◌≤◌, ◌<◌, Bool, true, false, cond, eqb, List, [], ◌∷◌, ◌++◌, length, map, Option, Some, None, refl, sym, ap, ◌∙◌, subst, length-append, arith}
use Rattle.std.specs.Prelude.{Contains}
use Rattle.std.specs.Option.{option_or}
use Rattle.std.proofs.lemmas.Bool.{eqb-true, ne_eqb}
use Rattle.std.proofs.lemmas.List.{length-map, map-append}
use Rattle.std.proofs.lemmas.List.Elements.{Contains-append_cases, Contains-append_left, Contains-append_right}
use Rattle.std.proofs.lemmas.Simd.{map-map}
use Rattle.r4_base.specs.Bitmap.{bitmap_block, bitmap_count}
use Rattle.r4_base.specs.declared.superblock.Super40.{Super40}
use Rattle.r4_base.specs.declared.things.BlockNo.{BlockNo}
use Rattle.r4_base.proofs.Members.{member_cases, member_here, no_member}
use Rattle.r4_place.specs.r4_cell.Seen.{CellSeen}
use Rattle.r4_place.specs.Chosen.{block_of, fresh_blocks}
use Rattle.r4_place.specs.declared.placed.How.{How}
use Rattle.r4_place.specs.declared.placed.How.TheVariants.{Fresh, Relocate, Overwrite}
use Rattle.r4_place.specs.declared.placed.Placed.{Placed}
use Rattle.r4_wander.specs.Seen.{Placed as PlacedCell}
use Rattle.r4_wander.specs.Torn.{Write, targets, IsTarget}
use Rattle.r4_commit.specs.Places.{block_given, place_of, placed_at, kept_at, placed_cells, overwritten}
use Rattle.r4_commit.specs.Planned.{bitmap_writes, new_homes}

-- ---- what is overwritten

pub length-bitmap_writes : (n : ℕ) (bs : List (List ℕ)) → length (bitmap_writes n bs) ≡ length bs
length-bitmap_writes n [] = refl
length-bitmap_writes n (b ∷ bs) = ap (λ (k : ℕ). suc k) (length-bitmap_writes (n + 1) bs)

pub length-new_homes : (super : Super40) (bs : List (List ℕ)) (cells : List CellSeen) → length (new_homes super bs cells) ≡ length cells + length bs + 1
length-new_homes super bs cells = omega (arith, length-append (bitmap_writes 0 bs) (map (λ (c : CellSeen). (c.id, c.block)) cells), length-bitmap_writes 0 bs, length-map {B = Write} cells (λ (c : CellSeen). (c.id, c.block)))

pub bitmap_target : (n : ℕ) (bs : List (List ℕ)) (b : ℕ) → IsTarget (bitmap_writes n bs) b → (k : ℕ) × (n ≤ k) × (k < n + length bs) × (b ≡ bitmap_block k)
bitmap_target n [] b h = absurd (no_member b h)
bitmap_target n (x ∷ xs) b h = ⊎_elim
    (λ is. (n, omega arith, omega arith, is))
    (λ later. let r = bitmap_target (n + 1) xs b later in let le = r.1 in let lt = r.2 in (r.0, omega (arith, le), omega (arith, lt), r.3))
    (member_cases (bitmap_block n) (targets (bitmap_writes (n + 1) xs)) b h)

-- the superblock, a bitmap, or a cell that keeps its block
pub home_cases : (super : Super40) (bs : List (List ℕ)) (cells : List CellSeen) (b : ℕ) → IsTarget (new_homes super bs cells) b → (b ≡ 17) ⊎ (((k : ℕ) × (k < length bs) × (b ≡ bitmap_block k)) ⊎ Contains (map (λ (c : CellSeen). c.id) cells) b)
home_cases super bs cells b h = ⊎_elim
    (λ is. inl is)
    (λ more. inr (⊎_elim
    (λ one. let r = bitmap_target 0 bs b one in let lt = r.2 in inl (r.0, omega (arith, lt), r.3))
    (λ cell. inr (subst (λ (l : List ℕ). Contains l b) (map-map (λ (w : Write). w.0) (λ (c : CellSeen). (c.id, c.block)) cells) cell))
    (Contains-append_cases (targets (bitmap_writes 0 bs)) (targets (map (λ (c : CellSeen). (c.id, c.block)) cells)) b
    (subst (λ (l : List ℕ). Contains l b) (map-append (λ (w : Write). w.0) (bitmap_writes 0 bs) (map (λ (c : CellSeen). (c.id, c.block)) cells)) more))))
    (member_cases 17 (targets (bitmap_writes 0 bs ++ map (λ (c : CellSeen). (c.id, c.block)) cells)) b h)

pub later_bitmap : (k : ℕ) → bitmap_block (suc k) ≡ suc k * 32736
later_bitmap k = let other : eqb (suc k) 0 ≡ false = ne_eqb (suc k) 0 (λ is. absurd (omega (arith, is))) in rw other refl

-- a bitmap's block is one of the volume
pub bitmap_within : (blocks k : ℕ) → 64 ≤ blocks → k < bitmap_count blocks → (bitmap_block k ≢ 0) × (bitmap_block k < blocks)
bitmap_within blocks zero more lt = (λ is. absurd (omega (arith, is)), omega (arith, more))
bitmap_within blocks (suc k) more lt =
    let at : bitmap_block (suc k) ≡ suc k * 32736 = later_bitmap k in
    (λ is. absurd (omega (arith, is, at)), omega (arith, lt, at))

-- ---- which cells get blocks

-- a block that answers give to a name is one of the fresh blocks
pub given_fresh : (answers : List Placed) (name : ℕ) (b : BlockNo) → place_of answers name ≡ Some b → (p : Placed) × Contains answers p × (p.node.0 ≡ name) × Contains (block_of p.how) b.0
given_fresh [] name b is = absurd (cc is)
given_fresh (p ∷ ps) name b is = go (λ more. given_fresh ps name b more) (place_of ps name) refl is
  where
    own : (how : How) (t : Bool) → cond t (block_given how) None ≡ Some b → (t ≡ true) × Contains (block_of how) b.0
    own (Fresh a) true e = (refl, member_here a.0 [] b.0 (let same : a ≡ b = cc in ap (λ (x : BlockNo). x.0) (sym same)))
    own (Relocate a) true e = (refl, member_here a.0 [] b.0 (let same : a ≡ b = cc in ap (λ (x : BlockNo). x.0) (sym same)))
    own Overwrite true e = absurd cc
    own how false e = absurd cc

    go : (place_of ps name ≡ Some b → (q : Placed) × Contains ps q × (q.node.0 ≡ name) × Contains (block_of q.how) b.0) → (o : Option BlockNo) → place_of ps name ≡ o → option_or o (cond (eqb p.node.0 name) (block_given p.how) None) ≡ Some b → (q : Placed) × Contains (p ∷ ps) q × (q.node.0 ≡ name) × Contains (block_of q.how) b.0
    go ih None none e = let mine = own p.how (eqb p.node.0 name) e in (p, (0, omega arith, refl), eqb-true _ _ mine.0, mine.1)
    go ih (Some a) some e =
        let same : a ≡ b = cc in
        let r = ih (some ∙ ap (λ (x : BlockNo). Some x) same) in
        let here = r.1 in
        let lt = here.1 in
        (r.0, (suc here.0, omega (arith, lt), here.2), r.2, r.3)

pub in_fresh : (answers : List Placed) (p : Placed) (b : ℕ) → Contains answers p → Contains (block_of p.how) b → Contains (fresh_blocks answers) b
in_fresh [] p b (k, lt, is) h = absurd (omega arith)
in_fresh (q ∷ qs) p b (zero, lt, is) h = Contains-append_left (block_of q.how) (fresh_blocks qs) b (subst (λ (x : Placed). Contains (block_of x.how) b) (sym is) h)
in_fresh (q ∷ qs) p b (suc k, lt, is) h = Contains-append_right (block_of q.how) (fresh_blocks qs) b (in_fresh qs p b (k, omega arith, is) h)

-- a cell that gets a block, by the answers
pub placed_from : (place : ℕ → Option BlockNo) (cells : List CellSeen) (b : ℕ) → Contains (map (λ (x : PlacedCell). x.at) (placed_cells place cells)) b → (c : CellSeen) × Contains cells c × ((a : BlockNo) × (place c.id ≡ Some a) × (b ≡ a.0))
placed_from place [] b h = absurd (no_member b h)
placed_from place (c ∷ cs) b h = go (λ more. placed_from place cs b more) (place c.id) refl h
  where
    go : (Contains (map (λ (x : PlacedCell). x.at) (placed_cells place cs)) b → (d : CellSeen) × Contains cs d × ((a : BlockNo) × (place d.id ≡ Some a) × (b ≡ a.0)))
        → (o : Option BlockNo) → place c.id ≡ o → Contains (map (λ (x : PlacedCell). x.at) (placed_at c o ++ placed_cells place cs)) b → (d : CellSeen) × Contains (c ∷ cs) d × ((a : BlockNo) × (place d.id ≡ Some a) × (b ≡ a.0))
    go ih None none h = let r = ih h in let here = r.1 in let lt = here.1 in (r.0, (suc here.0, omega (arith, lt), here.2), r.2)
    go ih (Some a) some h = ⊎_elim (λ is. (c, (0, omega arith, refl), (a, some, is))) (λ more. let r = ih more in let here = r.1 in let lt = here.1 in (r.0, (suc here.0, omega (arith, lt), here.2), r.2))
        (member_cases a.0 (map (λ (x : PlacedCell). x.at) (placed_cells place cs)) b h)

pub placed_fresh : (answers : List Placed) (cells : List CellSeen) (b : ℕ) → Contains (map (λ (x : PlacedCell). x.at) (placed_cells (place_of answers) cells)) b → Contains (fresh_blocks answers) b
placed_fresh answers cells b h =
    let r = placed_from (place_of answers) cells b h in
    let given = given_fresh answers r.0.id r.2.0 r.2.1 in
    subst (Contains (fresh_blocks answers)) (sym r.2.2) (in_fresh answers given.0 r.2.0.0 given.1 given.3)

-- each cell gets a block or keeps its own
pub length-both : (place : ℕ → Option BlockNo) (cells : List CellSeen) → length (placed_cells place cells) + length (overwritten place cells) ≡ length cells
length-both place [] = omega arith
length-both place (c ∷ cs) = go (length-both place cs) (place c.id)
  where
    go : length (placed_cells place cs) + length (overwritten place cs) ≡ length cs → (o : Option BlockNo) → length (placed_at c o ++ placed_cells place cs) + length (kept_at c o ++ overwritten place cs) ≡ length (c ∷ cs)
    go ih None = omega (arith, ih)
    go ih (Some a) = omega (arith, ih)
