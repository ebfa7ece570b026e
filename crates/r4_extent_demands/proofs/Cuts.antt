-- Pieces without blocks that go.
use Rattle.std.specs.Prelude.{◌≡◌, ℕ, zero, suc, ◌+◌, ◌-◌, ◌<◌, ◌≤◌, List, [], ◌∷◌, length, take, drop}
use Rattle.std.specs.Prelude.{Bool, true, false, ◌&&◌, ◌||◌, ◌==◌, None, if◌then◌else◌}
use Rattle.std.proofs.Common.{arith, get_or, refl, sym, ap, ◌∙◌, drop-cons}
use Rattle.std.specs.List.{list_any}
use Rattle.std.proofs.lemmas.List.{take_all, take_more}
use Rattle.std.proofs.lemmas.List.Folds.{list_any-append}
use Rattle.r4_base.specs.Cell.{run_names}
use Rattle.r4_base.specs.Extents.{is_hole}
use Rattle.r4_base.specs.Key.{rank}
use Rattle.r4_base.specs.Tree.{Name, Node}
use Rattle.r4_base.specs.Value.{Value}
use Rattle.r4_graft.specs.r4_branch.Pieces.{is_at, last_end, names_of, next_of, open_end, part_names}
use Rattle.r4_graft.specs.r4_branch.declared.piece.TwigPart.{TwigPart}
use Rattle.r4_graft.specs.r4_branch.declared.piece.TwigPart.TheVariants.{Blocks, Pointer}
use Rattle.r4_graft.specs.r4_branch.declared.piece.TwigPiece.{TwigPiece}
use Rattle.r4_graft.proofs.r4_branch.Following.{last_more}
use Rattle.r4_bodies.specs.r4_cell.Seen.{CellSeen, node_of}
use Rattle.r4_graft.specs.Splices.{parted, place, spliced}
use Rattle.r4_bodies.specs.r4_leaf_edits.r4_path.TwigPieces.{ArePiecesOf}
use Rattle.r4_bodies.specs.r4_leaf_edits.r4_reach.Needs.{cut_pieces, has_left_leaf, pointer_at, taken_up}
use Rattle.r4_extent_demands.specs.Pieces.{ends_leaf, has_leaf_end, without_between}

-- ---- leaves that end at a key

module _ (k : ℕ) where
  no_blocks : (key start count : ℕ) → list_any (λ (n : Name). (n.level == 1) && (n.hi == k)) (run_names key start count) ≡ false
  no_blocks key start zero = refl
  no_blocks key start (suc n) = no_blocks (key + 4096) (start + 1) n

  or_none : (t : Bool) → (t || false) ≡ t
  or_none true = refl
  or_none false = refl

  part_ends : (key next : ℕ) (t : TwigPart)
      → list_any (λ (n : Name). (n.level == 1) && (n.hi == k)) (part_names key next t) ≡ ends_leaf next k t
  part_ends key next (Pointer to) = or_none (next == k)
  part_ends key next (Blocks u) = by_hole (is_hole u)
    where
      by_hole : (t : Bool) → list_any (λ (n : Name). (n.level == 1) && (n.hi == k))
          (if t then [] else run_names key u.start u.width) ≡ false
      by_hole true = refl
      by_hole false = no_blocks key u.start u.width

  leaf_ends : (hi : ℕ) (ps : List TwigPiece)
      → list_any (λ (n : Name). (n.level == 1) && (n.hi == k)) (names_of hi ps) ≡ has_leaf_end hi k ps
  unfolding names_of
  leaf_ends hi [] = refl
  leaf_ends hi (p ∷ ps) =
      list_any-append (λ (n : Name). (n.level == 1) && (n.hi == k)) (part_names (rank p.key) (next_of hi ps) p.part) (names_of hi ps)
      ∙ (λ i. part_ends (rank p.key) (next_of hi ps) p.part i || leaf_ends hi ps i)

  pub left_is : (twig : CellSeen) (ps : List TwigPiece) → ArePiecesOf twig ps
      → has_left_leaf (node_of twig) k ≡ has_leaf_end (rank twig.hi) k ps
  left_is twig ps are = ap (list_any (λ (n : Name). (n.level == 1) && (n.hi == k))) (sym are.names) ∙ leaf_ends (rank twig.hi) ps

-- ---- the last of pieces

pub last_at : (ps : List TwigPiece) (d : TwigPiece) → 1 ≤ length ps
    → last_end None ps ≡ open_end (get_or ps (length ps - 1) d)
last_at ps d some =
    let n = length ps - 1 in
    let all : n + 1 ≡ length ps = omega (arith, some) in
    let more = take_more ps n d (omega (arith, some)) in
    let whole : ps ≡ take (n + 1) ps = sym (take_all (n + 1) ps (omega (arith, all))) in
    ap (last_end None) (whole ∙ more) ∙ last_more None (take n ps) (get_or ps n d)

-- ---- what takes up the range of what goes

first_between : (from to : ℕ) (ps : List TwigPiece) (d : TwigPiece) → from < to → to ≤ length ps
    → take (to - from) (drop from ps) ≡ get_or ps from d ∷ take (to - from - 1) (drop (from + 1) ps)
first_between from to ps d lt le =
    let count : to - from ≡ suc (to - from - 1) = omega (arith, lt) in
    let next : suc from ≡ from + 1 = omega arith in
    let first : drop from ps ≡ get_or ps from d ∷ drop (from + 1) ps = drop-cons ps from d (omega (arith, lt, le))
    ∙ ap (λ (n : ℕ). get_or ps from d ∷ drop n ps) next in
    ap (λ (n : ℕ). take n (drop from ps)) count ∙ ap (take (suc (to - from - 1))) first

pub taken_between : (c : Node Value) (from to : ℕ) (ps : List TwigPiece) (d : TwigPiece) → from < to → to ≤ length ps
    → taken_up c (take from ps) (take (to - from) (drop from ps))
    ≡ (if has_left_leaf c (rank (get_or ps from d).key) || is_at (last_end None (take from ps)) (rank (get_or ps from d).key)
    then [] else pointer_at (rank (get_or ps from d).key))
taken_between c from to ps d lt le = ap (taken_up c (take from ps)) (first_between from to ps d lt le)

pub taken_none : (c : Node Value) (from to : ℕ) (ps : List TwigPiece) → to ≤ from
    → taken_up c (take from ps) (take (to - from) (drop from ps)) ≡ []
taken_none c from to ps le =
    let none : to - from ≡ 0 = omega (arith, le) in
    ap (λ (n : ℕ). taken_up c (take from ps) (take n (drop from ps))) none

-- ---- all of it

pub between_is : (c : Node Value) (f t : ℕ) (qs middle : List TwigPiece) (from to : ℕ) → from ≡ place f qs → to ≡ place t qs
    → middle ≡ taken_up c (take from qs) (take (to - from) (drop from qs))
    → spliced from to middle qs ≡ without_between c f t qs
between_is c f t qs middle from to p q m =
    (λ i. spliced (p i) (q i) ((m ∙ (λ j. taken_up c (take (p j) qs) (take (q j - p j) (drop (p j) qs)))) i) qs)

pub cut_is : (r : ℕ × ℕ) (c : Node Value) (ps qs : List TwigPiece) (f t : ℕ) → f ≡ r.0 → t ≡ r.1
    → qs ≡ parted t (parted f ps) → without_between c f t qs ≡ cut_pieces r c ps
cut_is r c ps qs f t p q parts =
    (λ i. without_between c (p i) (q i) qs)
    ∙ ap (without_between c r.0 r.1) (parts ∙ (λ i. parted (q i) (parted (p i) ps)))

-- the pieces of a twig tell which leaves end where
module _ (twig : CellSeen) (all : List TwigPiece) (are : ArePiecesOf twig all) (from to : ℕ) (ps : List TwigPiece)
    (d : TwigPiece) (lt : from < to) (le : to ≤ length ps) where
  by_tests : (s t : Bool) → has_leaf_end (rank twig.hi) (rank (get_or ps from d).key) all ≡ s
      → is_at (last_end None (take from ps)) (rank (get_or ps from d).key) ≡ t
      → taken_up (node_of twig) (take from ps) (take (to - from) (drop from ps))
      ≡ (if s || t then [] else pointer_at (rank (get_or ps from d).key))
  by_tests s t e f =
      taken_between (node_of twig) from to ps d lt le
      ∙ (λ i. if (left_is (rank (get_or ps from d).key) twig all are ∙ e) i || f i then []
      else pointer_at (rank (get_or ps from d).key))

  pub taken_left : has_leaf_end (rank twig.hi) (rank (get_or ps from d).key) all ≡ true
      → taken_up (node_of twig) (take from ps) (take (to - from) (drop from ps)) ≡ []
  taken_left e = by_tests true (is_at (last_end None (take from ps)) (rank (get_or ps from d).key)) e refl

  pub taken_at : has_leaf_end (rank twig.hi) (rank (get_or ps from d).key) all ≡ false
      → is_at (last_end None (take from ps)) (rank (get_or ps from d).key) ≡ true
      → taken_up (node_of twig) (take from ps) (take (to - from) (drop from ps)) ≡ []
  taken_at e f = by_tests false true e f

  pub taken_new : has_leaf_end (rank twig.hi) (rank (get_or ps from d).key) all ≡ false
      → is_at (last_end None (take from ps)) (rank (get_or ps from d).key) ≡ false
      → taken_up (node_of twig) (take from ps) (take (to - from) (drop from ps)) ≡ pointer_at (rank (get_or ps from d).key)
  taken_new e f = by_tests false false e f
