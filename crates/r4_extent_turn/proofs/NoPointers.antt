-- The pieces that a twig has more where a body comes to extents are no pointers.
use Rattle.std.proofs.Common.{◌≡◌, inl, inr, ℕ, zero, suc, ◌+◌, ◌≤◌, Bool, true, false, cond, List, [], ◌∷◌, ◌++◌, length, take, drop, refl, sym, ap, subst, ◌∙◌, arith}
use Rattle.std.specs.Prelude.{Contains, Some, ◌&&◌, not, if◌then◌else◌}
use Rattle.std.specs.List.{filter}
use Rattle.std.proofs.lemmas.List.{length-append}
use Rattle.std.proofs.lemmas.List.Elements.{filter-append}
use Rattle.r4_base.specs.Key.{key_of_rank, rank}
use Rattle.r4_base.specs.Volume.{blocks_for}
use Rattle.r4_base.specs.declared.key.Key.{Key}
use Rattle.r4_build.specs.r4_branch.declared.piece.TwigPiece.{TwigPiece}
use Rattle.r4_extent_build.specs.r4_cell.Seen.{CellSeen, node_of}
use Rattle.r4_extent_build.specs.Setting.{is_hole_of}
use Rattle.r4_extent_build.specs.r4_extent_demands.Pieces.{block_at}
use Rattle.r4_extent_build.specs.r4_graft.Splices.{place}
use Rattle.r4_extent_build.proofs.RunPieces.{hole_of, wider}
use Rattle.r4_content.specs.Edited.{Edits}
use Rattle.r4_build.specs.r4_leaf.Units.{is_between}
use Rattle.r4_build.proofs.r4_patch.Members.{cases, here, later, none}
use Rattle.r4_build.specs.r4_path.TwigPieces.{ArePiecesOf, twig_pieces}
use Rattle.r4_build.specs.r4_reach.Needs.{gets_bytes, pieces_after, runs, widened}
use Rattle.r4_build.specs.r4_reach.Touched.{Body, coming, first_byte}
use Rattle.r4_extent_turn.specs.Asked.{is_pointer, points_there, without_turned}
use Rattle.r4_extent_turn.specs.Turning.{IsTurningBody, told_extent}
use Rattle.r4_extent_turn.proofs.ToldRuns.{after_is}

pub filter_all : {X : Type 0} (f : X → Bool) (xs : List X) → ((x : X) → Contains xs x → f x ≡ true) → filter f xs ≡ xs
filter_all f [] all = refl
filter_all {X} f (x ∷ xs) all = ap (λ (t : Bool). cond t (x ∷ filter f xs) (filter f xs)) (all x (here x xs)) ∙ ap (λ (ys : List X). x ∷ ys) (filter_all f xs (λ y at. all y (later x y xs at)))

-- ---- blocks one after the other

abbrev AreBlocks : List TwigPiece → Type 0
AreBlocks ps = (q : TwigPiece) → Contains ps q → is_pointer q.part ≡ false

wider_blocks : (k : ℕ) (ps : List TwigPiece) → AreBlocks ps → AreBlocks (widened k ps)
wider_blocks k ps are q at =
    let w = wider k ps in
    elim (cases (hole_of (key_of_rank k) w.width) q w.more (subst (λ (zs : List TwigPiece). Contains zs q) w.is at)) [
      | inl same ↦ ap (λ (z : TwigPiece). is_pointer z.part) same
      | inr more ↦ elim w.how [
        | inl (same, one) ↦ are q (subst (λ (zs : List TwigPiece). Contains zs q) same more)
        | inr (n, p, is, part, wide) ↦ are q (subst (λ (zs : List TwigPiece). Contains zs q) (sym is) (later p q w.more more))
      ]
    ]

runs_blocks : (gets : ℕ → Bool) (k n : ℕ) → AreBlocks (runs gets k n)
runs_blocks gets k zero q at = absurd (none q at)
runs_blocks gets k (suc n) q at = by_test (gets k) (runs_blocks gets (k + 4096) n) at
  where
    rest : List TwigPiece
    rest = runs gets (k + 4096) n

    by_test : (t : Bool) → AreBlocks rest → Contains (if t then block_at (key_of_rank k) ∷ rest else widened k rest) q → is_pointer q.part ≡ false
    by_test true are m = elim (cases (block_at (key_of_rank k)) q rest m) [
      | inl same ↦ ap (λ (z : TwigPiece). is_pointer z.part) same
      | inr more ↦ are q more
    ]
    by_test false are m = wider_blocks k rest are q m

none_off : (v : Bool) → (v && false) ≡ false
none_off true = refl
none_off false = refl

pub told_stays : (b : Body) (e : Edits) (q : TwigPiece) → Contains (told_extent b e) q → not (points_there b q) ≡ true
told_stays b e q at =
    let within = is_between (coming b).0 (coming b).1 (rank q.key) in
    ap not (ap (λ (v : Bool). within && v) (runs_blocks (gets_bytes b e) (first_byte b) (blocks_for b.now) q at) ∙ none_off within)

-- so they are among the pieces without pointers
pub told_among : (b : Body) (first : Key) (g : IsTurningBody b first) (e : Edits) (twig : CellSeen) (are : ArePiecesOf twig (twig_pieces twig))
    (within : is_between (rank twig.lo) (rank twig.hi) (first_byte b) ≡ true) (no_holes : (p : TwigPiece) → Contains (twig_pieces twig) p → is_hole_of b p ≡ false)
    → length (told_extent b e) ≤ length (without_turned b (pieces_after (Some b) e (node_of twig) []))
told_among b first g e twig are within no_holes =
    let stay : TwigPiece → Bool = λ q. not (points_there b q) in
    let ps = twig_pieces twig in
    let k = place (first_byte b) ps in
    let ts = told_extent b e in
    let is = ap (filter stay) (after_is b first g e twig are within no_holes) in
    let one = filter-append stay (take k ps) (ts ++ drop k ps) in
    let two = filter-append stay ts (drop k ps) in
    let all = filter_all stay ts (told_stays b e) in
    let long = ap length (is ∙ (one ∙ ap (λ (zs : List TwigPiece). filter stay (take k ps) ++ zs) (two ∙ ap (λ (zs : List TwigPiece). zs ++ filter stay (drop k ps)) all))) in
    let a = length-append (filter stay (take k ps)) (ts ++ filter stay (drop k ps)) in
    let z = length-append ts (filter stay (drop k ps)) in
    omega (arith, long, a, z)
