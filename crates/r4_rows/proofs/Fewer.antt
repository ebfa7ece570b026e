-- Filling from the left needs no more nodes than any other way.
use Rattle.std.proofs.Common.{◌≡◌, ◌⊎◌, inl, inr, ℕ, suc, ◌+◌, ◌<◌, ◌≤◌, List, [], ◌∷◌, ◌++◌, length, sym, ap, ◌∙◌}
use Rattle.std.proofs.Common.{arith}
use Rattle.std.specs.Prelude.{None, Some}
use Rattle.r4_base.specs.Key.{rank}
use Rattle.r4_leaf.specs.Filling.{last_of}
use Rattle.r4_leaf.specs.Leaves.{Packs}
use Rattle.r4_leaf.specs.Units.{LeafUnit, bytes_behind, leaf_bytes, unit_bytes}
use Rattle.r4_leaf.specs.declared.leaf.Leaf.{Leaf}
use Rattle.r4_leaf.proofs.Weighed.{behind_append, last_is}
use Rattle.std.specs.List.{last_or}
use Rattle.r4_base.specs.Value.{Stat as StatValue, Entry as EntryValue, Byte}
use Rattle.r4_branch.specs.Pieces.{last_end, open_end, part_bytes, twig_bytes}
use Rattle.r4_branch.specs.Pieces.{bytes_behind as pieces_behind}
use Rattle.r4_branch.specs.Twigs.{PacksTwigs}
use Rattle.r4_branch.specs.declared.piece.TwigPart.{TwigPart}
use Rattle.r4_branch.specs.declared.piece.TwigPart.TheVariants.{Blocks, Pointer}
use Rattle.r4_branch.specs.declared.piece.TwigPiece.{TwigPiece}
use Rattle.r4_branch.specs.declared.twig.Twig.{Twig}
use Rattle.r4_branch.proofs.Counted.{costs}
use Rattle.r4_branch.proofs.Counted.{behind_append as pieces_append}
use Rattle.r4_rows.specs.Fewest.{EachFits, joined}

-- ---- on any lists

module _ {A : Type 0} (size : List A → ℕ) (room : ℕ) (shorter : (u : A) (g : List A) → size g ≤ size (u ∷ g)) where
  -- the lists without some first ones
  pub record AreLeft (xs : List A) (n : ℕ) : Type 0 where
    pub groups : List (List A)
    pub are : joined groups ≡ xs
    pub fit : EachFits size room groups
    pub few : length groups ≤ n

  drop_one : (u : A) (xs : List A) (gs : List (List A)) → joined gs ≡ u ∷ xs → EachFits size room gs
      → AreLeft xs (length gs)
  drop_one u xs [] e fit = absurd cc
  drop_one u xs ([] ∷ gs) e (first, rest) =
      let h = drop_one u xs gs e rest in
      let few = h.few in
      record { groups = h.groups; are = h.are; fit = h.fit; few = omega (arith, few) }
  drop_one u xs ((v ∷ g) ∷ gs) e (first, rest) =
      let tail : g ++ joined gs ≡ xs = cc in
      let less = shorter v g in
      record { groups = g ∷ gs; are = tail; fit = (omega (arith, first, less), rest); few = omega arith }

  drop_some : (f xs : List A) (gs : List (List A)) → joined gs ≡ f ++ xs → EachFits size room gs
      → AreLeft xs (length gs)
  drop_some [] xs gs e fit = record { groups = gs; are = e; fit = fit; few = omega arith }
  drop_some (u ∷ f) xs gs e fit =
      let one = drop_one u (f ++ xs) gs e fit in
      let more = drop_some f xs one.groups one.are one.fit in
      let a = one.few in
      let b = more.few in
      record { groups = more.groups; are = more.are; fit = more.fit; few = omega (arith, a, b) }

  -- the first list goes on behind these, or ends before
  past_first : (f : List A) (next : A) (rest g : List A) (gs : List (List A)) → g ++ joined gs ≡ f ++ next ∷ rest
      → EachFits size room gs
      → ((more : List A) × (g ≡ f ++ next ∷ more)) ⊎ AreLeft (next ∷ rest) (length gs)
  past_first [] next rest [] gs e fit = inr (record { groups = gs; are = e; fit = fit; few = omega arith })
  past_first [] next rest (v ∷ g) gs e fit = let head : v ≡ next = cc in inl (g, ap (λ (x : A). x ∷ g) head)
  past_first (u ∷ f) next rest [] gs e fit = inr (drop_some (u ∷ f) (next ∷ rest) gs e fit)
  past_first (u ∷ f) next rest (v ∷ g) gs e fit =
      let head : v ≡ u = cc in
      let tail : g ++ joined gs ≡ f ++ next ∷ rest = cc in
      elim (past_first f next rest g gs tail fit) [
        | inl h ↦
            let (more, is) = h in
            inl (more, ap (λ (x : A). x ∷ g) head ∙ ap (λ (ys : List A). u ∷ ys) is)
        | inr h ↦ inr h
      ]

  pub after_full : (f : List A) (next : A) (rest : List A) (gs : List (List A)) → joined gs ≡ f ++ next ∷ rest
      → EachFits size room gs
      → ((more : List A) → room < size (f ++ next ∷ more)) → (n : ℕ) × AreLeft (next ∷ rest) n × (suc n ≤ length gs)
  after_full [] next rest [] e fit full = absurd cc
  after_full (u ∷ f) next rest [] e fit full = absurd cc
  after_full f next rest (g ∷ gs) e (first, others) full = elim (past_first f next rest g gs e others) [
    | inl h ↦
        let (more, is) = h in
        let much = full more in
        let same = ap size is in
        absurd (omega (arith, much, same, first))
    | inr left ↦ (length gs, left, omega arith)
  ]

-- ---- leaves

-- what a unit costs behind another one more than alone is less than that other one costs
two_bytes : (u v : LeafUnit) → unit_bytes None v ≤ unit_bytes None u + unit_bytes (Some u) v
unfolding unit_bytes
two_bytes u (k, StatValue a) = omega arith
two_bytes (j, StatValue b) (k, EntryValue name target) = omega arith
two_bytes (j, EntryValue m to) (k, EntryValue name target) = omega arith
two_bytes (j, Byte y) (k, EntryValue name target) = omega arith
two_bytes (j, StatValue b) (k, Byte x) = omega arith
two_bytes (j, EntryValue m to) (k, Byte x) = omega arith
two_bytes (j, Byte y) (k, Byte x) = omega arith

leaf_shorter : (u : LeafUnit) (g : List LeafUnit) → leaf_bytes g ≤ leaf_bytes (u ∷ g)
unfolding bytes_behind
leaf_shorter u [] = omega arith
leaf_shorter u (v ∷ g) = let h = two_bytes u v in omega (arith, h)

leaf_full : (f : List LeafUnit) (next : LeafUnit) (more : List LeafUnit)
    → 4068 < leaf_bytes f + unit_bytes (last_of f) next
    → 4068 < leaf_bytes (f ++ next ∷ more)
unfolding bytes_behind
leaf_full f next more full =
    let both = behind_append None f (next ∷ more) in
    let same : unit_bytes (last_of f) next ≡ unit_bytes (last_or None f) next =
    ap (λ b. unit_bytes b next) (last_is f) in
    omega (arith, full, both, same)

-- Units that stand in so many leaves, in whatever way, are packed into no more.
pub packs_fewest : (lo hi : ℕ) (us : List LeafUnit) (leaves : List Leaf) (gs : List (List LeafUnit))
    → Packs lo hi us leaves
    → us ≡ joined gs → EachFits leaf_bytes 4068 gs → 1 ≤ length gs → length leaves ≤ length gs
packs_fewest lo hi us [] gs p e fit some = absurd p
packs_fewest lo hi us (x ∷ []) gs p e fit some = omega (arith, some)
packs_fewest lo hi us (x ∷ (y ∷ more)) gs (first, next, rest, is, from, low, leaf, full, packs) e fit some =
    let (n, left, less) = after_full leaf_bytes 4068 leaf_shorter first next rest gs (sym e ∙ is) fit
    (λ m. leaf_full first next m full.full) in
    let few = left.few in
    let inner = packs_fewest next.0 hi (next ∷ rest) (y ∷ more) left.groups packs (sym left.are) left.fit
    (some_left left.groups left.are) in
    omega (arith, less, few, inner)
  where
    some_left : (gs : List (List LeafUnit)) → joined gs ≡ next ∷ rest → 1 ≤ length gs
    some_left [] e = absurd cc
    some_left (g ∷ gs) e = omega arith

-- ---- twigs

piece_alone : (part : TwigPart) (k : ℕ) → 46 ≤ part_bytes None k part
piece_alone (Pointer to) k = omega arith
piece_alone (Blocks u) k = omega arith

twig_shorter : (u : TwigPiece) (g : List TwigPiece) → twig_bytes g ≤ twig_bytes (u ∷ g)
unfolding pieces_behind
twig_shorter u [] = omega arith
twig_shorter u (v ∷ g) =
    let h = (costs (open_end u) (rank v.key) v.part).less in
    let a = piece_alone u.part (rank u.key) in
    omega (arith, h, a)

twig_full : (f : List TwigPiece) (next : TwigPiece) (more : List TwigPiece)
    → 4068 < twig_bytes f + part_bytes (last_end None f) (rank next.key) next.part
    → 4068 < twig_bytes (f ++ next ∷ more)
unfolding pieces_behind
twig_full f next more full =
    let both = pieces_append None f (next ∷ more) in
    omega (arith, full, both)

-- The same of pieces that stand in so many twigs.
pub packs_fewest_twigs : (lo hi : ℕ) (ps : List TwigPiece) (twigs : List Twig) (gs : List (List TwigPiece))
    → PacksTwigs lo hi ps twigs
    → ps ≡ joined gs → EachFits twig_bytes 4068 gs → 1 ≤ length gs → length twigs ≤ length gs
packs_fewest_twigs lo hi ps [] gs p e fit some = absurd p
packs_fewest_twigs lo hi ps (x ∷ []) gs p e fit some = omega (arith, some)
packs_fewest_twigs lo hi ps (x ∷ (y ∷ more)) gs (first, next, rest, is, from, low, twig, full, packs) e fit some =
    let (n, left, less) = after_full twig_bytes 4068 twig_shorter first next rest gs (sym e ∙ is) fit
    (λ m. twig_full first next m full.full) in
    let few = left.few in
    let inner = packs_fewest_twigs (rank next.key) hi (next ∷ rest) (y ∷ more) left.groups packs (sym left.are) left.fit
    (some_left left.groups left.are) in
    omega (arith, less, few, inner)
  where
    some_left : (gs : List (List TwigPiece)) → joined gs ≡ next ∷ rest → 1 ≤ length gs
    some_left [] e = absurd cc
    some_left (g ∷ gs) e = omega arith
