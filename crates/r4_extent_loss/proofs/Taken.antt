-- What takes up the range of the blocks that go of a twig, and what its pieces become.
use Rattle.std.proofs.Common.{◌≡◌, ◌↔◌, ◌⊎◌, inl, inr, ℕ, ◌+◌, ◌^◌, ◌<◌, ◌≤◌, Bool, true, false, cond, List, [], ◌∷◌, ◌++◌, refl, sym, ap, subst, ◌∙◌, arith}
use Rattle.std.specs.Prelude.{Contains, Option, None, Some, if◌then◌else◌}
use Rattle.std.proofs.lemmas.Bool.{eq-eqb, ne_eqb}
use Rattle.std.proofs.lemmas.List.{append_assoc}
use Rattle.std.proofs.lemmas.Option.{none-some, same_Some}
use Rattle.r4_base.specs.Cell.{names_block}
use Rattle.r4_base.specs.Key.{offset_of, rank}
use Rattle.r4_base.specs.Tree.{Name}
use Rattle.r4_base.specs.declared.key.Key.{Key}
use Rattle.r4_extent_build.specs.r4_branch.Pieces.{Follow, IsSoundPart, bytes_behind, is_at, last_end, names_of, next_of, open_end, part_bytes, part_names, part_units, piece_end, twig_bytes, units_of}
use Rattle.r4_extent_build.specs.r4_branch.declared.piece.TwigPart.{TwigPart}
use Rattle.r4_extent_build.specs.r4_branch.declared.piece.TwigPart.TheVariants.{Pointer}
use Rattle.r4_extent_build.specs.r4_branch.declared.piece.TwigPiece.{TwigPiece}
use Rattle.r4_extent_build.proofs.r4_branch.ItemPieces.{units_append}
use Rattle.r4_extent_build.specs.r4_cell.Seen.{CellSeen, node_of}
use Rattle.r4_extent_build.specs.r4_edit.CutBlocks.{BeginsAt, next_key, pieces_below, pieces_between, pointer_over}
use Rattle.r4_extent_build.specs.r4_edit.Extents.{given_cells}
use Rattle.r4_extent_build.proofs.r4_edit.CutNames.{EndsWithLeaf, between_names, units_without}
use Rattle.r4_extent_build.proofs.r4_edit.CutOut.{IsLed}
use Rattle.r4_extent_build.proofs.r4_edit.CutParts.{AreSplit, follow_higher, twice_units}
use Rattle.r4_extent_build.proofs.r4_edit.CutTaken.{name_append, over_units}
use Rattle.r4_extent_build.proofs.r4_graft.Joined.{end_of, follow_lower, follow_parts}
use Rattle.r4_extent_build.proofs.r4_graft.Placed.{follow_above, follow_end, has_end, take_below}
use Rattle.r4_extent_build.specs.r4_leaf.Units.{cut_units}
use Rattle.r4_extent_build.proofs.r4_patch.Members.{cases, here, later, none}
use Rattle.r4_extent_build.specs.r4_path.Steps.{IsNameOf, name_of}
use Rattle.r4_extent_build.proofs.r4_path.Rising.{lo_is}
use Rattle.r4_extent_build.specs.r4_reach.Touched.{Body}
use Rattle.r4_extent_loss.specs.Losing.{IsLossOf, Loss, gone_from, gone_to, leaf_at, parted_pieces, pointed, taken_from, with_leaf}
use Rattle.r4_extent_loss.proofs.LostPieces.{all_names, hi, high, led, lo, low, ms, parts, pp, ps, rest, xs, ys}
use Rattle.r4_extent_loss.proofs.Replaced.{cells_of}

-- ---- pieces that begin at a key, or none

abbrev pub AreOff : (key : ℕ) → List TwigPiece → Type 0
AreOff k ps = (p : TwigPiece) → Contains ps p → rank p.key ≡ k → ⊥

leaf_off : (k id : ℕ) (ps : List TwigPiece) → AreOff k ps → with_leaf k id ps ≡ ps
leaf_off k id [] off = refl
leaf_off k id (p ∷ ps) off =
    (λ i. cond (ne_eqb (rank p.key) k (off p (here p ps)) i) (record p { part = Pointer (record { 0 = id }) }) p ∷ leaf_off k id ps (λ q at. off q (later p q ps at)) i)

leaf_append : (k id : ℕ) (ps qs : List TwigPiece) → with_leaf k id (ps ++ qs) ≡ with_leaf k id ps ++ with_leaf k id qs
leaf_append k id [] qs = refl
leaf_append k id (p ∷ ps) qs = ap (λ rs. pointed k id p ∷ rs) (leaf_append k id ps qs)

cell_off : (k id : ℕ) (hi : Key) (block : List ℕ) (ps qs : List TwigPiece) → AreOff k ps → leaf_at k id hi block (ps ++ qs) ≡ leaf_at k id hi block qs
unfolding leaf_at
cell_off k id hi block [] qs off = refl
cell_off k id hi block (p ∷ ps) qs off =
    (λ i. cond (ne_eqb (rank p.key) k (off p (here p ps)) i) (record { id = id; level = 1; lo = p.key; hi = next_key hi (ps ++ qs); block = block } ∷ []) (leaf_at k id hi block (ps ++ qs)))
    ∙ cell_off k id hi block ps qs (λ q at. off q (later p q ps at))

no_cell : (k id : ℕ) (hi : Key) (block : List ℕ) (ps : List TwigPiece) → AreOff k ps → leaf_at k id hi block ps ≡ []
unfolding leaf_at
no_cell k id hi block [] off = refl
no_cell k id hi block (p ∷ ps) off =
    (λ i. cond (ne_eqb (rank p.key) k (off p (here p ps)) i) (record { id = id; level = 1; lo = p.key; hi = next_key hi ps; block = block } ∷ []) (leaf_at k id hi block ps))
    ∙ no_cell k id hi block ps (λ q at. off q (later p q ps at))

one_cell : (k id : ℕ) (hi : Key) (block : List ℕ) (p : TwigPiece) (ps : List TwigPiece) → rank p.key ≡ k
    → leaf_at k id hi block (p ∷ ps) ≡ record { id = id; level = 1; lo = p.key; hi = next_key hi ps; block = block } ∷ []
unfolding leaf_at
one_cell k id hi block p ps at =
    ap (λ (t : Bool). cond t (record { id = id; level = 1; lo = p.key; hi = next_key hi ps; block = block } ∷ []) (leaf_at k id hi block ps)) (eq-eqb (rank p.key) k at)

over_leaf : (k id n : ℕ) (before : Option ℕ) (qs : List TwigPiece) → BeginsAt k qs → with_leaf k id (pointer_over before n qs) ≡ pointer_over before id qs
over_leaf k id n before [] begins = absurd begins
over_leaf k id n before (m ∷ more) begins = by_test (is_at before (rank m.key))
  where
    by_test : (t : Bool) → with_leaf k id (if t then [] else record { key = m.key; part = Pointer (record { 0 = n }) } ∷ []) ≡ (if t then [] else record { key = m.key; part = Pointer (record { 0 = id }) } ∷ [])
    by_test true = refl
    by_test false = (λ i. cond (eq-eqb (rank m.key) k begins i) (record { key = m.key; part = Pointer (record { 0 = id }) }) (record { key = m.key; part = Pointer (record { 0 = n }) }) ∷ [])

over_cell : (k id n : ℕ) (before : Option ℕ) (hi : Key) (block : List ℕ) (qs ys : List TwigPiece) → BeginsAt k qs → AreOff k ys
    → leaf_at k id hi block (pointer_over before n qs ++ ys) ≡ cells_of (pointer_over before id qs) id (next_key hi ys) block
over_cell k id n before hi block [] ys begins off = absurd begins
over_cell k id n before hi block (m ∷ more) ys begins off = by_test (is_at before (rank m.key))
  where
    by_test : (t : Bool) → leaf_at k id hi block ((if t then [] else record { key = m.key; part = Pointer (record { 0 = n }) } ∷ []) ++ ys)
        ≡ cells_of (if t then [] else record { key = m.key; part = Pointer (record { 0 = id }) } ∷ []) id (next_key hi ys) block
    by_test true = no_cell k id hi block ys off
    by_test false = one_cell k id hi block (record { key = m.key; part = Pointer (record { 0 = n }) }) ys begins

below_end : (from to : ℕ) (ps : List TwigPiece) (q : TwigPiece) → Follow from to ps → Contains ps q → rank q.key < to
below_end from to [] q f m = absurd (none q m)
below_end from to (p ∷ ps) q f m = elim (cases p q ps m) [
  | inl is ↦
      let e = has_end p f.1 in
      let g = follow_end (piece_end p) to ps f.2 in
      subst (λ (x : TwigPiece). rank x.key < to) (sym is) (omega (arith, e, g))
  | inr more ↦ below_end (piece_end p) to ps q f.2 more
]

begins_next : (k h : ℕ) (qs : List TwigPiece) → BeginsAt k qs → next_of h qs ≡ k
begins_next k h [] begins = absurd begins
begins_next k h (q ∷ qs) begins = begins

-- ---- a pointer needs the same room, wherever it leads

pointer_bytes : (before : Option ℕ) (ps qs : List TwigPiece) (key : Key) (id n : ℕ)
    → bytes_behind before (ps ++ (record { key = key; part = Pointer (record { 0 = id }) } ∷ qs)) ≡ bytes_behind before (ps ++ (record { key = key; part = Pointer (record { 0 = n }) } ∷ qs))
unfolding bytes_behind
pointer_bytes before [] qs key id n = refl
pointer_bytes before (p ∷ ps) qs key id n = ap (λ k. part_bytes before (rank p.key) p.part + k) (pointer_bytes (open_end p) ps qs key id n)

over_same : (before : Option ℕ) (ps ms qs : List TwigPiece) (id n : ℕ) → twig_bytes (ps ++ (pointer_over before id ms ++ qs)) ≡ twig_bytes (ps ++ (pointer_over before n ms ++ qs))
over_same before ps [] qs id n = refl
over_same before ps (m ∷ ms) qs id n = by_test (is_at before (rank m.key))
  where
    by_test : (t : Bool) → twig_bytes (ps ++ ((if t then [] else record { key = m.key; part = Pointer (record { 0 = id }) } ∷ []) ++ qs))
        ≡ twig_bytes (ps ++ ((if t then [] else record { key = m.key; part = Pointer (record { 0 = n }) } ∷ []) ++ qs))
    by_test true = refl
    by_test false = pointer_bytes None ps qs m.key id n

-- ---- what takes the range up

-- Some of the pieces, from one key on, go; in their place comes a pointer to a leaf, or, where an extent before them ends
-- there, nothing.
pub record IsTaken (b : Body) (x : Loss) (all : List TwigPiece) : Type 0 where
  pub from : ℕ
  pub front : List TwigPiece
  pub gone : List TwigPiece
  pub behind : List TwigPiece
  pub before : Option ℕ
  pub how : (before ≡ None) ⊎ (before ≡ last_end None front)
  pub parts : AreSplit (rank x.twig.lo) (rank x.twig.hi) from (gone_to b x.twig) (parted_pieces b x.twig) front gone behind
  pub low : rank x.twig.lo ≤ from
  pub pieces : (id : ℕ) → with_leaf (taken_from b x) id all ≡ front ++ (pointer_over before id gone ++ behind)
  pub cells : (id : ℕ) (hi : Key) (block : List ℕ) → leaf_at (taken_from b x) id hi block all ≡ cells_of (pointer_over before id gone) id (next_key hi behind) block
  pub names : (n : Name) → Contains (names_of (next_of (rank x.twig.hi) behind) gone) n ↔ IsNameOf (x.blocks ++ given_cells x.leaf) n
  pub units : (id : ℕ) → units_of (front ++ (pointer_over before id gone ++ behind)) ≡ cut_units (gone_from b x.twig) (gone_to b x.twig) (node_of x.twig).units
  pub bytes : (id : ℕ) → twig_bytes (front ++ (pointer_over before id gone ++ behind)) ≡ twig_bytes all
  pub lead : (l : CellSeen) → x.leaf ≡ Some l → (id : ℕ) (hi : Key) (block : List ℕ) (c : CellSeen)
      → Contains (cells_of (pointer_over before id gone) id hi block) c → rank c.lo ≡ rank l.lo
  pub goes_on : (l : CellSeen) → x.leaf ≡ Some l → (id : ℕ) (hi : Key) (block : List ℕ)
      → (c : CellSeen) × Contains (cells_of (pointer_over before id gone) id hi block) c
  pub stands : (l : CellSeen) → x.leaf ≡ Some l → all ≡ front ++ (pointer_over before l.id gone ++ behind)
  pub new : x.leaf ≡ None → (before ≡ last_end None (pieces_below (gone_from b x.twig) (parted_pieces b x.twig))) × (gone ≡ pieces_between (gone_from b x.twig) (gone_to b x.twig) (parted_pieces b x.twig))
  pub may : (l : CellSeen) → x.leaf ≡ Some l → names_block true (2 ^ 64) (Some l.id) ≡ true

module _ (b : Body) (x : Loss) (c : IsLossOf b x) where
  end_off : (k : ℕ) → k ≤ gone_from b x.twig → AreOff k (ys b x c)
  end_off k le p at is = let a = follow_above (gone_to b x.twig) (hi b x c) (ys b x c) (parts b x c).right p at in let s = c.some in omega (arith, a, s, le, is)

  all_units : units_of (pp b x c) ≡ (node_of x.twig).units
  all_units = twice_units (lo b x c) (hi b x c) (gone_from b x.twig) (gone_to b x.twig) (ps b x c) c.pieces.pieces.follow (low b x c) c.some (high b x c) c.first_border c.last_border ∙ c.pieces.units

  blocks_named : (n : Name) → Contains (names_of (next_of (hi b x c) (ys b x c)) (ms b x c)) n ↔ IsNameOf x.blocks n
  blocks_named n =
      let h = between_names (lo b x c) (hi b x c) (gone_from b x.twig) (gone_to b x.twig) (pp b x c) (xs b x c) (ms b x c) (ys b x c) (parts b x c) (λ m at. c.clear m (subst (λ ns. Contains ns m) (all_names b x c) at)) n in (
        (λ at. let g = h.0 at in (c.goes n).1 (subst (λ ns. Contains ns n) (all_names b x c) g.0, g.1)),
        (λ at. let g = (c.goes n).0 at in h.1 (subst (λ ns. Contains ns n) (sym (all_names b x c)) g.0, g.1)),
      )

module _ (b : Body) (twig : CellSeen) (blocks : List CellSeen) where
  abbrev of_leaf : Option CellSeen → Loss
  of_leaf o = record { twig = twig; leaf = o; blocks = blocks }

  -- nothing ends where the blocks begin that go, or an extent does
  by_new : (c : IsLossOf b (of_leaf None)) → IsTaken b (of_leaf None) (rest b (of_leaf None) c)
  by_new c =
      let x = of_leaf None in
      let before = last_end None (xs b x c) in
      let s = parts b x c in
      let front_off : AreOff (gone_from b twig) (xs b x c) = λ p at is. let n = take_below (gone_from b twig) (pp b x c) p at in omega (arith, n, is) in
      let behind_off = end_off b x c (gone_from b twig) (omega arith) in
      record {
        from = gone_from b twig;
        front = xs b x c;
        gone = ms b x c;
        behind = ys b x c;
        before = last_end None (xs b x c);
        how = inr refl;
        parts = s;
        low = low b x c;
        pieces = λ id.
            leaf_append (gone_from b twig) id (xs b x c) (pointer_over before (2 ^ 63) (ms b x c) ++ ys b x c)
            ∙ (λ i. leaf_off (gone_from b twig) id (xs b x c) front_off i ++ (leaf_append (gone_from b twig) id (pointer_over before (2 ^ 63) (ms b x c)) (ys b x c)
            ∙ (λ j. over_leaf (gone_from b twig) id (2 ^ 63) before (ms b x c) c.begins j ++ leaf_off (gone_from b twig) id (ys b x c) behind_off j)) i);
        cells = λ id h block.
            cell_off (gone_from b twig) id h block (xs b x c) (pointer_over before (2 ^ 63) (ms b x c) ++ ys b x c) front_off
            ∙ over_cell (gone_from b twig) id (2 ^ 63) before h block (ms b x c) (ys b x c) c.begins behind_off;
        names = λ n.
            let h = blocks_named b x c n in (
              (λ at. (name_append blocks [] n).1 (inl (h.0 at))),
              (λ is. elim ((name_append blocks [] n).0 is) [ inl block ↦ h.1 block | inr nil ↦ absurd (none nil.0 nil.1) ]),
            );
        units = λ id.
            units_without (lo b x c) (hi b x c) (gone_from b twig) (gone_to b twig) (pp b x c) (xs b x c) (ms b x c) (ys b x c) (pointer_over before id (ms b x c)) s (over_units before id (ms b x c))
            ∙ ap (cut_units (gone_from b twig) (gone_to b twig)) (all_units b x c);
        bytes = λ id. over_same before (xs b x c) (ms b x c) (ys b x c) id (2 ^ 63);
        lead = λ l is. absurd (none-some l is);
        goes_on = λ l is. absurd (none-some l is);
        stands = λ l is. absurd (none-some l is);
        may = λ l is. absurd (none-some l is);
        new = λ is. (refl, refl);
      }

  -- the leaf that ends there goes on
  module _ (l : CellSeen) (c : IsLossOf b (of_leaf (Some l))) where
    abbrev x : Loss
    x = of_leaf (Some l)

    is_led : IsLed (Some l) (xs b x c) (ms b x c)
    is_led = led b x c (Some l) c.left

    abbrev ends : EndsWithLeaf (xs b x c) (name_of l)
    ends = is_led.0

    abbrev front : List TwigPiece
    front = is_led.0.before

    abbrev piece : TwigPiece
    piece = is_led.0.piece

    abbrev gone : List TwigPiece
    gone = is_led.0.piece ∷ ms b x c

    at_leaf : rank piece.key ≡ rank l.lo
    at_leaf = is_led.0.key

    part : piece.part ≡ Pointer (record { 0 = l.id })
    part = is_led.0.part

    was_is : pp b x c ≡ front ++ (gone ++ ys b x c)
    was_is = (parts b x c).is ∙ ((λ i. is_led.0.is i ++ (ms b x c ++ ys b x c)) ∙ append_assoc front (piece ∷ []) (ms b x c ++ ys b x c))

    stays_is : rest b x c ≡ front ++ (piece ∷ ys b x c)
    stays_is = (λ i. is_led.0.is i ++ ys b x c) ∙ append_assoc front (piece ∷ []) (ys b x c)

    halves : Follow (lo b x c) (end_of (lo b x c) front) front × Follow (end_of (lo b x c) front) (gone_from b twig) (piece ∷ [])
    halves = follow_parts (lo b x c) (gone_from b twig) front (piece ∷ []) (subst (Follow (lo b x c) (gone_from b twig)) is_led.0.is (parts b x c).left)

    new_parts : AreSplit (lo b x c) (hi b x c) (rank l.lo) (gone_to b twig) (pp b x c) front gone (ys b x c)
    new_parts =
        let k = at_leaf in
        let h = halves.1 in
        let low_end = h.0 in
        let last = h.2 in
        record {
          is = was_is;
          left = follow_higher (lo b x c) (end_of (lo b x c) front) (rank l.lo) front (omega (arith, low_end, k)) halves.0;
          mid = (omega (arith, k), h.1, follow_lower (gone_from b twig) (piece_end piece) (gone_to b twig) (ms b x c) last (parts b x c).mid);
          right = (parts b x c).right;
        }

    first_is : lo b x c ≤ rank l.lo
    first_is = let n = c.node.name_from (name_of l) c.left.named in let e = lo_is twig in omega (arith, n, e)

    front_off : AreOff (rank l.lo) front
    front_off p at is = let n = below_end (lo b x c) (rank l.lo) front p new_parts.left at in omega (arith, n, is)

    leaf_low : rank l.lo ≤ gone_from b twig
    leaf_low = let n = c.node.name_nonempty (name_of l) c.left.named in let e = c.left.ends in omega (arith, n, e)

    behind_off : AreOff (rank l.lo) (ys b x c)
    behind_off = end_off b x c (rank l.lo) leaf_low

    gone_names : names_of (next_of (hi b x c) (ys b x c)) gone ≡ name_of l ∷ names_of (next_of (hi b x c) (ys b x c)) (ms b x c)
    unfolding names_of
    gone_names =
        (λ i. part_names (at_leaf i) (begins_next (rank l.hi) (next_of (hi b x c) (ys b x c)) (ms b x c) is_led.1.1 i) (part i) ++ names_of (next_of (hi b x c) (ys b x c)) (ms b x c))
        ∙ (λ i. record { id = l.id; level = sym c.left.level i; lo = rank l.lo; hi = rank l.hi } ∷ names_of (next_of (hi b x c) (ys b x c)) (ms b x c))

    new_units : (id : ℕ) → units_of (front ++ (record { key = piece.key; part = Pointer (record { 0 = id }) } ∷ ys b x c)) ≡ cut_units (gone_from b twig) (gone_to b twig) (node_of twig).units
    unfolding units_of
    new_units id =
        units_append front (record { key = piece.key; part = Pointer (record { 0 = id }) } ∷ ys b x c)
        ∙ ((λ i. units_of front ++ (part_units (rank piece.key) (sym part i) ++ units_of (ys b x c)))
        ∙ (sym (units_append front (piece ∷ ys b x c))
        ∙ (ap units_of (sym stays_is)
        ∙ (units_without (lo b x c) (hi b x c) (gone_from b twig) (gone_to b twig) (pp b x c) (xs b x c) (ms b x c) (ys b x c) [] (parts b x c) refl
        ∙ ap (cut_units (gone_from b twig) (gone_to b twig)) (all_units b x c)))))

    by_leaf : IsTaken b (of_leaf (Some l)) (rest b (of_leaf (Some l)) c)
    by_leaf = record {
      from = rank l.lo;
      front = front;
      gone = gone;
      behind = ys b x c;
      before = None;
      how = inl refl;
      parts = new_parts;
      low = first_is;
      pieces = λ id.
          ap (with_leaf (rank l.lo) id) stays_is
          ∙ (leaf_append (rank l.lo) id front (piece ∷ ys b x c)
          ∙ (λ i. leaf_off (rank l.lo) id front front_off i ++ (cond (eq-eqb (rank piece.key) (rank l.lo) at_leaf i) (record { key = piece.key; part = Pointer (record { 0 = id }) }) piece ∷ leaf_off (rank l.lo) id (ys b x c) behind_off i)));
      cells = λ id h block.
          ap (leaf_at (rank l.lo) id h block) stays_is
          ∙ (cell_off (rank l.lo) id h block front (piece ∷ ys b x c) front_off
          ∙ one_cell (rank l.lo) id h block piece (ys b x c) at_leaf);
      names = λ n.
          let h = blocks_named b x c n in (
            (λ at. elim (cases (name_of l) n (names_of (next_of (hi b x c) (ys b x c)) (ms b x c)) (subst (λ ns. Contains ns n) gone_names at)) [
              | inl is ↦ (name_append blocks (l ∷ []) n).1 (inr (l, here l [], is))
              | inr more ↦ (name_append blocks (l ∷ []) n).1 (inl (h.0 more))
            ]),
            (λ is. subst (λ ns. Contains ns n) (sym gone_names) (elim ((name_append blocks (l ∷ []) n).0 is) [
              | inl block ↦ later (name_of l) n (names_of (next_of (hi b x c) (ys b x c)) (ms b x c)) (h.1 block)
              | inr (d, at, same) ↦ elim (cases l d [] at) [
                | inl this ↦ subst (λ k. Contains (name_of l ∷ names_of (next_of (hi b x c) (ys b x c)) (ms b x c)) k) (sym (same ∙ ap name_of this)) (here (name_of l) (names_of (next_of (hi b x c) (ys b x c)) (ms b x c)))
                | inr nil ↦ absurd (none d nil)
              ]
            ])),
          );
      units = new_units;
      bytes = λ id.
          pointer_bytes None front (ys b x c) piece.key id l.id
          ∙ (ap (λ (t : TwigPart). twig_bytes (front ++ (record { key = piece.key; part = t } ∷ ys b x c))) (sym part)
          ∙ ap twig_bytes (sym stays_is));
      lead = λ d is id h block e at. elim (cases (record { id = id; level = 1; lo = piece.key; hi = h; block = block }) e [] at) [
        | inl this ↦ ap (λ (z : CellSeen). rank z.lo) this ∙ (at_leaf ∙ ap (λ (z : CellSeen). rank z.lo) (same_Some l d is))
        | inr nil ↦ absurd (none e nil)
      ];
      goes_on = λ d is id h block. (record { id = id; level = 1; lo = piece.key; hi = h; block = block }, here (record { id = id; level = 1; lo = piece.key; hi = h; block = block }) []);
      stands = λ d is. stays_is ∙ ((λ i. front ++ (record { key = piece.key; part = part i } ∷ ys b x c)) ∙ ap (λ (z : CellSeen). front ++ (record { key = piece.key; part = Pointer (record { 0 = z.id }) } ∷ ys b x c)) (same_Some l d is));
      new = λ is. absurd (none-some l (sym is));
      may = λ d is. subst (λ (z : CellSeen). names_block true (2 ^ 64) (Some z.id) ≡ true) (same_Some l d is) (subst (IsSoundPart (offset_of piece.key)) part halves.1.1.1);
    }

  taken_by : (o : Option CellSeen) → (c : IsLossOf b (of_leaf o)) → IsTaken b (of_leaf o) (rest b (of_leaf o) c)
  taken_by None c = by_new c
  taken_by (Some l) c = by_leaf l c

pub is_taken : (b : Body) (x : Loss) (c : IsLossOf b x) → IsTaken b x (rest b x c)
is_taken b x c = taken_by b x.twig x.blocks x.leaf c
