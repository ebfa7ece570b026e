-- The turn of a twig of which blocks go is one of a twig that is packed anew.
use Rattle.std.proofs.Common.{◌≡◌, ◌↔◌, ◌⊎◌, inl, inr, ℕ, zero, suc, ◌+◌, ◌^◌, ◌<◌, ◌≤◌, true, List, [], ◌∷◌, ◌++◌, length, refl, sym, ap, subst, ◌∙◌, arith}
use Rattle.std.specs.Prelude.{Contains, Option, None, Some, slice_get}
use Rattle.std.proofs.lemmas.List.{append-nil}
use Rattle.std.proofs.lemmas.List.Elements.{Contains-append_cases, Contains-append_right}
use Rattle.std.proofs.lemmas.Option.{none-some}
use Rattle.r4_base.specs.Cell.{cell_fault, names_block}
use Rattle.r4_base.specs.Key.{rank}
use Rattle.r4_base.specs.Node.{Item, KeysRise, PluginsFit, level_of, mkfs_id_of}
use Rattle.r4_base.specs.Tree.{IsNode, Name}
use Rattle.r4_base.specs.declared.key.Key.{Key}
use Rattle.r4_extent_build.specs.r4_branch.Pieces.{AreTwigPieces, names_of, next_of, twig_bytes}
use Rattle.r4_extent_build.specs.r4_branch.declared.piece.TwigPiece.{TwigPiece}
use Rattle.r4_extent_build.specs.r4_cell.Seen.{CellSeen, node_of}
use Rattle.r4_content.specs.Edited.{Edits}
use Rattle.r4_extent_build.specs.r4_edit.CutBlocks.{next_key, pointer_over}
use Rattle.r4_extent_build.specs.r4_edit.Extents.{given_cells}
use Rattle.r4_extent_build.specs.r4_edit.LeafParts.{IsWidened}
use Rattle.r4_extent_build.proofs.r4_edit.CutGraft.{may_be_named}
use Rattle.r4_extent_build.proofs.r4_edit.CutTaken.{next_higher, next_is}
use Rattle.r4_extent_build.proofs.r4_edit.NewLeaves.{leaf_node, none_fits, wide_leaf}
use Rattle.r4_extent_build.proofs.r4_graft.FoundPlaces.{next_lower}
use Rattle.r4_extent_build.specs.r4_node40.Laid.{fresh_node}
use Rattle.r4_extent_build.proofs.r4_node40.Fresh.{fresh}
use Rattle.r4_extent_build.specs.r4_patch.Joining.{ids_of}
use Rattle.r4_extent_build.proofs.r4_patch.Members.{Distinct, cases, have_names, here, none}
use Rattle.r4_extent_build.specs.r4_path.Nodes.{IsNodeOf}
use Rattle.r4_extent_build.specs.r4_path.Sharing.{IsSound}
use Rattle.r4_extent_build.specs.r4_path.Steps.{CountUp, IsNameOf, name_of}
use Rattle.r4_extent_build.proofs.r4_path.Rising.{hi_is, id_member, lo_is}
use Rattle.r4_extent_build.specs.r4_reach.Needs.{pieces_after}
use Rattle.r4_extent_build.specs.r4_reach.Touched.{Body}
use Rattle.r4_extent_build.specs.r4_twig_turns.Turning.{IsTurnOf}
use Rattle.r4_extent_loss.specs.Losing.{IsLeft, IsLosing, IsLossOf, Loss, gone_to, leaf_at, losing_turn, numbers_taken, parted_pieces, taken_block, taken_from, taken_id, taken_pieces, with_leaf}
use Rattle.r4_extent_loss.proofs.LostPieces.{after_is, all_bytes, all_first, all_follow, all_names, rest, some}
use Rattle.r4_extent_loss.proofs.Replaced.{IsTaker, cells_of, each_taker, few_takers, replaced_bytes, replaced_names, replaced_pieces}
use Rattle.r4_extent_loss.proofs.Taken.{IsTaken, is_taken}

-- ---- at most one cell, of a number

one_or_none : (n : ℕ) (cs : List CellSeen) → length cs ≤ 1 → ((c : CellSeen) → Contains cs c → c.id ≡ n) → Distinct cs × CountUp n (ids_of cs)
one_or_none n [] few is = (tt, tt)
one_or_none n (c ∷ []) few is = (((λ y at e. absurd (none y at)), tt), (is c (here c []), tt))
one_or_none n (c ∷ (d ∷ ds)) few is = absurd (omega (arith, few))

long_ids : (cs : List CellSeen) → length (ids_of cs) ≡ length cs
long_ids [] = refl
long_ids (c ∷ cs) = let h = long_ids cs in omega (arith, h)

-- ---- what stands in the leaf

no_item : (k : ℕ) (y : Item) → slice_get {X = Item} [] k ≡ Some y → ⊥
no_item zero y is = none-some y is
no_item (suc k) y is = none-some y is

pub fresh_leaf : (m : ℕ) → m < 2 ^ 32 → IsNodeOf 1 [] (fresh_node 1 m)
fresh_leaf m small =
    let f = fresh 1 m (omega arith) (omega arith) small in
    record {
      node = record { laid = f.laid; head = f.head; plugins = subst (PluginsFit (level_of (fresh_node 1 m))) (sym f.items) (λ k y is. absurd (no_item k y is)); keys = subst KeysRise (sym f.items) (λ k y z is next. absurd (no_item k y is)) };
      level_is = f.level_is;
      items_are = f.items;
    }

module _ (b : Body) (x : Loss) (c : IsLossOf b x) where
  abbrev all : List TwigPiece
  all = rest b x c

  abbrev taken : IsTaken b x (rest b x c)
  taken = is_taken b x c

  abbrev pub end : Key
  end = next_key x.twig.hi (is_taken b x c).behind

  pub end_is : rank end ≡ next_of (rank x.twig.hi) (is_taken b x c).behind
  end_is = next_is x.twig.hi (is_taken b x c).behind

  pub end_low : gone_to b x.twig ≤ rank end
  end_low = let e = end_is in let l = next_lower (gone_to b x.twig) (rank x.twig.hi) (is_taken b x c).behind (is_taken b x c).parts.right in omega (arith, e, l)

  end_high : rank end ≤ rank x.twig.hi
  end_high = let e = end_is in let l = next_higher (gone_to b x.twig) (rank x.twig.hi) (is_taken b x c).behind (is_taken b x c).parts.right in omega (arith, e, l)

  abbrev pub cells : (n : ℕ) → List CellSeen
  cells n = cells_of (pointer_over (is_taken b x c).before n (is_taken b x c).gone) n (next_key x.twig.hi (is_taken b x c).behind) (taken_block x)

  pub cells_are : (n : ℕ) → leaf_at (taken_from b x) n x.twig.hi (taken_block x) (rest b x c) ≡ cells n
  cells_are n = (is_taken b x c).cells n x.twig.hi (taken_block x)

  pub each : (n : ℕ) (d : CellSeen) → Contains (cells n) d → IsTaker (is_taken b x c).from (gone_to b x.twig) n (next_key x.twig.hi (is_taken b x c).behind) (taken_block x) d
  each n d at = each_taker (is_taken b x c).from (gone_to b x.twig) (is_taken b x c).before n (next_key x.twig.hi (is_taken b x c).behind) (taken_block x) (is_taken b x c).gone (is_taken b x c).parts.mid d at

  -- ---- it may stand

  fits : (n : ℕ) (d : CellSeen) → Contains (cells n) d → cell_fault true (2 ^ 64) 1 (rank d.lo) (rank end) (taken_block x) ≡ None
  fits n d at = by_leaf x.leaf refl c.left
    where
      by_leaf : (o : Option CellSeen) → x.leaf ≡ o → IsLeft b x.twig o → cell_fault true (2 ^ 64) 1 (rank d.lo) (rank end) (taken_block x) ≡ None
      by_leaf None is left =
          subst (λ (o : Option CellSeen). cell_fault true (2 ^ 64) 1 (rank d.lo) (rank end) (taken_block (record x { leaf = o })) ≡ None) (sym is)
          (none_fits (rank d.lo) (rank end) (fresh_node 1 (mkfs_id_of x.twig.block)) (fresh_leaf (mkfs_id_of x.twig.block) c.mkfs_id))
      by_leaf (Some l) is left =
          let wider : rank l.hi ≤ rank end = let s = c.some in let e = left.ends in let z = end_low in omega (arith, s, e, z) in
          let as_read : CellSeen = record { id = l.id; level = level_of l.block; lo = l.lo; hi = end; block = l.block } in
          let w : IsWidened l end as_read = wide_leaf l end left.level left.sound.whole left.sound.accepted wider (level_of l.block) l.lo l.block l.block refl refl refl refl as_read l.id refl refl in
          let wide : IsSound (record l { hi = end }) = subst IsSound w.is w.sound in
          let lead : rank d.lo ≡ rank l.lo = (is_taken b x c).lead l is n end (taken_block x) d at in
          subst (λ (o : Option CellSeen). cell_fault true (2 ^ 64) 1 (rank d.lo) (rank end) (taken_block (record x { leaf = o })) ≡ None) (sym is)
          ((λ i. cell_fault true (2 ^ 64) (sym left.level i) (lead i) (rank end) l.block) ∙ wide.accepted)

  long : length (taken_block x) ≡ 4096
  long = by_leaf x.leaf refl c.left
    where
      by_leaf : (o : Option CellSeen) → x.leaf ≡ o → IsLeft b x.twig o → length (taken_block x) ≡ 4096
      by_leaf None is left = ap (λ (o : Option CellSeen). length (taken_block (record x { leaf = o }))) is ∙ (fresh_leaf (mkfs_id_of x.twig.block) c.mkfs_id).node.laid.whole
      by_leaf (Some l) is left = ap (λ (o : Option CellSeen). length (taken_block (record x { leaf = o }))) is ∙ left.sound.whole

  pub taker_sound : (n : ℕ) (d : CellSeen) → Contains (cells n) d → IsSound d
  taker_sound n d at =
      let t = each n d at in
      record {
        whole = ap length t.bytes ∙ long;
        accepted = (λ i. cell_fault true (2 ^ 64) (t.level i) (rank d.lo) (rank (t.ends i)) (t.bytes i)) ∙ fits n d at;
      }

  pub taker_node : (n : ℕ) (d : CellSeen) → Contains (cells n) d → IsNode (node_of d)
  taker_node n d at =
      let t = each n d at in
      let lows = t.low in
      let less = t.some in
      let ends : rank d.hi ≡ rank end = ap (λ (k : Key). rank k) t.ends in
      let e = end_low in
      let h = end_high in
      let f = (is_taken b x c).low in
      let a = c.node.from_least in
      let z = c.node.to_top in
      let l = lo_is x.twig in
      let k = hi_is x.twig in
      leaf_node d t.level (omega (arith, lows, f, a, l)) (omega (arith, less, ends, e)) (omega (arith, ends, h, z, k)) (taker_sound n d at)

  -- ---- the turn

  module _ (first : Key) (e : Edits) (g : IsLosing b first e) (n : ℕ) where
    abbrev pub qs : List TwigPiece
    qs = taken_pieces x (taken_from b x) n (pieces_after (Some b) e (node_of x.twig) [])

    abbrev pub come : List CellSeen
    come = leaf_at (taken_from b x) (taken_id x n) x.twig.hi (taken_block x) (pieces_after (Some b) e (node_of x.twig) [])

    abbrev old : List CellSeen
    old = x.blocks ++ given_cells x.leaf

    abbrev pub many : ℕ
    many = numbers_taken x (leaf_at (taken_from b x) 0 x.twig.hi (taken_block x) (pieces_after (Some b) e (node_of x.twig) []))

    -- the leaf's number
    abbrev pub id : ℕ
    id = taken_id x n

    pub qs_are : qs ≡ (is_taken b x c).front ++ (pointer_over (is_taken b x c).before (taken_id x n) (is_taken b x c).gone ++ (is_taken b x c).behind)
    qs_are = by_leaf x.leaf refl
      where
        by_leaf : (o : Option CellSeen) → x.leaf ≡ o → taken_pieces (record x { leaf = o }) (taken_from b x) n (pieces_after (Some b) e (node_of x.twig) [])
            ≡ (is_taken b x c).front ++ (pointer_over (is_taken b x c).before (taken_id (record x { leaf = o }) n) (is_taken b x c).gone ++ (is_taken b x c).behind)
        by_leaf None is = ap (with_leaf (taken_from b x) n) (after_is b x c first e g) ∙ (is_taken b x c).pieces n
        by_leaf (Some l) is = after_is b x c first e g ∙ (is_taken b x c).stands l is

    pub come_is : come ≡ cells id
    come_is = ap (leaf_at (taken_from b x) id x.twig.hi (taken_block x)) (after_is b x c first e g) ∙ cells_are id

    in_come : (d : CellSeen) → Contains come d → Contains (cells id) d
    in_come d at = subst (λ ds. Contains ds d) come_is at

    pub bytes_are : twig_bytes qs ≡ twig_bytes (pieces_after (Some b) e (node_of x.twig) [])
    bytes_are = ap twig_bytes qs_are ∙ ((is_taken b x c).bytes id ∙ ap twig_bytes (sym (after_is b x c first e g)))

    pub as_many : (length (leaf_at (taken_from b x) 0 x.twig.hi (taken_block x) (pieces_after (Some b) e (node_of x.twig) [])) ≡ length come) × (length come ≤ 1)
    as_many =
        let zero_is : length (leaf_at (taken_from b x) 0 x.twig.hi (taken_block x) (pieces_after (Some b) e (node_of x.twig) [])) ≡ length (cells 0) = ap length (ap (leaf_at (taken_from b x) 0 x.twig.hi (taken_block x)) (after_is b x c first e g) ∙ cells_are 0) in
        let f = few_takers (is_taken b x c).before 0 id (next_key x.twig.hi (is_taken b x c).behind) (taken_block x) (is_taken b x c).gone in
        let l = ap length come_is in
        (omega (arith, zero_is, f, l), omega (arith, zero_is, f, l))

    pub many_is : (many ≡ numbers_taken x come) × (many ≤ 1)
    many_is = by_leaf x.leaf
      where
        by_leaf : (o : Option CellSeen) → (numbers_taken (record x { leaf = o }) (leaf_at (taken_from b x) 0 x.twig.hi (taken_block x) (pieces_after (Some b) e (node_of x.twig) [])) ≡ numbers_taken (record x { leaf = o }) come)
            × (numbers_taken (record x { leaf = o }) (leaf_at (taken_from b x) 0 x.twig.hi (taken_block x) (pieces_after (Some b) e (node_of x.twig) [])) ≤ 1)
        by_leaf None = let m = as_many in (m.0, omega (arith, m))
        by_leaf (Some l) = (refl, omega arith)

    numbers : Distinct come × CountUp id (ids_of come)
    numbers = let m = as_many in one_or_none id come m.1 (λ d at. (each id d (in_come d at)).number)

    -- the numbers that are taken: that of a new leaf
    are_mine : (mine : List ℕ) × (((d : CellSeen) → Contains come d → Contains (ids_of old) d.id ⊎ Contains mine d.id) × CountUp (n + 0) mine × (length mine ≤ many))
    are_mine = by_leaf x.leaf refl numbers.1
      where
        by_leaf : (o : Option CellSeen) → x.leaf ≡ o → CountUp (taken_id (record x { leaf = o }) n) (ids_of come)
            → (mine : List ℕ) × (((d : CellSeen) → Contains come d → Contains (ids_of old) d.id ⊎ Contains mine d.id) × CountUp (n + 0) mine
            × (length mine ≤ numbers_taken (record x { leaf = o }) (leaf_at (taken_from b x) 0 x.twig.hi (taken_block x) (pieces_after (Some b) e (node_of x.twig) []))))
        by_leaf None is count = (
          ids_of come,
          (
            λ d at. inr (id_member come d at),
            subst (λ k. CountUp k (ids_of come)) (let z : n ≡ n + 0 = omega arith in z) count,
            let l = long_ids come in let m = as_many in omega (arith, l, m),
          ),
        )
        by_leaf (Some l) is count = (
          [],
          (
            λ d at. inl (subst (Contains (ids_of old)) (sym ((each id d (in_come d at)).number ∙ ap (λ (o : Option CellSeen). taken_id (record x { leaf = o }) n) is))
                (id_member old l (Contains-append_right x.blocks (given_cells x.leaf) l (subst (λ (o : Option CellSeen). Contains (given_cells o) l) (sym is) (here l []))))),
            tt,
            omega arith,
          ),
        )

    module _ (unplaced : 2 ^ 63 ≤ n) where
      may_be : names_block true (2 ^ 64) (Some (taken_id x n)) ≡ true
      may_be = by_leaf x.leaf refl
        where
          by_leaf : (o : Option CellSeen) → x.leaf ≡ o → names_block true (2 ^ 64) (Some (taken_id (record x { leaf = o }) n)) ≡ true
          by_leaf None is = may_be_named n unplaced
          by_leaf (Some l) is = (is_taken b x c).may l is

      are_pieces : AreTwigPieces (rank x.twig.lo) (rank x.twig.hi) qs
      are_pieces = subst (AreTwigPieces (rank x.twig.lo) (rank x.twig.hi)) (sym qs_are)
          (replaced_pieces (rank x.twig.lo) (rank x.twig.hi) (is_taken b x c).from (gone_to b x.twig) (parted_pieces b x.twig) (is_taken b x c).front (is_taken b x c).gone (is_taken b x c).behind (is_taken b x c).parts (all_follow b x c)
          (is_taken b x c).before (is_taken b x c).how id may_be (some b x c) (all_first b x c))

      named : (m : Name) → Contains (names_of (rank x.twig.hi) qs) m ↔ ((Contains (node_of x.twig).names m × (IsNameOf old m → ⊥)) ⊎ IsNameOf come m)
      named m =
          let h = replaced_names (rank x.twig.lo) (rank x.twig.hi) (is_taken b x c).from (gone_to b x.twig) (parted_pieces b x.twig) (is_taken b x c).front (is_taken b x c).gone (is_taken b x c).behind (is_taken b x c).parts (all_follow b x c)
          (is_taken b x c).before (is_taken b x c).how old (next_key x.twig.hi (is_taken b x c).behind) (taken_block x) end_is (is_taken b x c).names id m in (
            (λ at. elim (h.0 (subst (λ ps. Contains (names_of (rank x.twig.hi) ps) m) qs_are at)) [
              | inl was ↦ inl (subst (λ ns. Contains ns m) (all_names b x c) was.0, was.1)
              | inr new ↦ inr (subst (λ ds. IsNameOf ds m) (sym come_is) new)
            ]),
            (λ at. subst (λ ps. Contains (names_of (rank x.twig.hi) ps) m) (sym qs_are) (h.1 (elim at [
              | inl was ↦ inl (subst (λ ns. Contains ns m) (sym (all_names b x c)) was.0, was.1)
              | inr new ↦ inr (subst (λ ds. IsNameOf ds m) come_is new)
            ]))),
          )

      pub turn_of : IsTurnOf (node_of x.twig) (losing_turn b e x) n
      turn_of = record {
        pieces = subst (λ k. AreTwigPieces k (node_of x.twig).hi qs) (sym (lo_is x.twig)) (subst (λ k. AreTwigPieces (rank x.twig.lo) k qs) (sym (hi_is x.twig)) are_pieces);
        bytes = small;
        data_names = [];
        blocks = record { names = refl; whole = λ d at. absurd (none d at) };
        of_data = λ m at. absurd (none m at);
        block_numbers = tt;
        block_count = refl;
        goes = λ d at. elim (Contains-append_cases x.blocks (given_cells x.leaf) d at) [
          | inl block ↦ ((c.goes (name_of d)).0 (d, block, refl)).0
          | inr leaf ↦ of_leaf x.leaf c.left d leaf
        ];
        names = λ m.
            let h = named m in (
              (λ at. elim (h.0 (subst (λ k. Contains (names_of k qs) m) (hi_is x.twig) at)) [
                | inl was ↦ inl was
                | inr new ↦ inr (inl new)
              ]),
              (λ at. subst (λ k. Contains (names_of k qs) m) (sym (hi_is x.twig)) (h.1 (elim at [
                | inl was ↦ inl was
                | inr more ↦ elim more [ inl new ↦ inr new | inr nil ↦ absurd (none m nil) ]
              ]))),
            );
        nodes = λ d at. taker_node id d (in_come d at);
        low = λ d at. let l = (each id d (in_come d (subst (λ ds. Contains ds d) (append-nil come) at))).level in omega (arith, l);
        old = c.once;
        new = have_names come numbers.0;
        mine = are_mine.0;
        each = are_mine.1.0;
        few = let m = as_many in omega (arith, m);
        leaf_numbers = are_mine.1.1;
        leaf_count = are_mine.1.2;
      }
        where
          of_leaf : (o : Option CellSeen) → IsLeft b x.twig o → (d : CellSeen) → Contains (given_cells o) d → Contains (node_of x.twig).names (name_of d)
          of_leaf None left d at = absurd (none d at)
          of_leaf (Some l) left d at = elim (cases l d [] at) [
            | inl is ↦ subst (λ (z : CellSeen). Contains (node_of x.twig).names (name_of z)) (sym is) left.named
            | inr nil ↦ absurd (none d nil)
          ]

          small : twig_bytes qs ≤ 16000
          small =
              let a = replaced_bytes (rank x.twig.lo) (rank x.twig.hi) (is_taken b x c).from (gone_to b x.twig) (parted_pieces b x.twig) (is_taken b x c).front (is_taken b x c).gone (is_taken b x c).behind (is_taken b x c).parts (all_follow b x c)
              (is_taken b x c).before (is_taken b x c).how id in
              let q = ap twig_bytes qs_are in
              let p = all_bytes b x c in
              let f = c.pieces.fits in
              omega (arith, a, q, p, f)
