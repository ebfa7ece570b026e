-- Borders of an extent's blocks are borders of the twig's pieces.
use Rattle.std.proofs.Common.{◌≡◌, ◌⊎◌, inl, inr, ℕ, ◌+◌, ◌-◌, ◌*◌, ◌^◌, ◌≤◌, Bool, true, false, List, [], ◌∷◌, ◌++◌}
use Rattle.std.proofs.Common.{refl, sym, ap, subst, ◌∙◌, arith}
use Rattle.std.specs.Prelude.{Contains, None, if◌then◌else◌}
use Rattle.std.proofs.lemmas.Bool.{cases_lt, eqb-true}
use Rattle.std.proofs.lemmas.List.{append_assoc}
use Rattle.std.proofs.lemmas.List.Elements.{Contains-append_cases}
use Rattle.r4_base.specs.Cell.{cell_fault, is_extent, item_end, next_key, spans_in}
use Rattle.r4_base.specs.Extents.{units_of as units_of_body}
use Rattle.r4_base.specs.Key.{later, rank}
use Rattle.r4_base.specs.Node.{Item, items_of}
use Rattle.r4_base.specs.Tree.{IsData, Name, Span}
use Rattle.r4_base.specs.declared.items.Unit.{Unit as ExtentUnit}
use Rattle.r4_base.specs.declared.key.Key.{Key}
use Rattle.r4_work.specs.r4_branch.Items.{IsSoundItem, Lie}
use Rattle.r4_work.specs.r4_branch.Pieces.{Follow, MayStand, item_pieces, piece_end, pieces_in, unit_pieces}
use Rattle.r4_work.specs.r4_branch.declared.piece.TwigPart.TheVariants.{Blocks}
use Rattle.r4_work.specs.r4_branch.declared.piece.TwigPiece.{TwigPiece}
use Rattle.r4_work.proofs.r4_branch.ItemPieces.{bytes_of_twig, extent_pieces, follow_item, follow_items, names_of_twig}
use Rattle.r4_work.proofs.r4_branch.ItemPieces.{next_of_items, pieces_of_twig, units_of_twig}
use Rattle.r4_work.proofs.r4_branch.Standing.{stand_lie}
use Rattle.r4_work.proofs.r4_branch.UnitPieces.{rank_later}
use Rattle.r4_work.specs.r4_cell.Seen.{CellSeen, node_of}
use Rattle.r4_work.specs.r4_graft.Splices.{IsBorder}
use Rattle.r4_work.proofs.r4_graft.Placed.{first_or_later, follow_end, has_end, not_in_none}
use Rattle.r4_work.specs.r4_path.Sharing.{IsSound}
use Rattle.r4_work.specs.r4_path.TwigPieces.{ArePiecesOf, twig_pieces}
use Rattle.r4_work.proofs.r4_path.CellNodes.{names_are, spans_are, units_are}
use Rattle.r4_work.proofs.r4_path.Rising.{hi_is, level_is, lo_is}
use Rattle.r4_work.proofs.r4_edit.CutParts.{follow_from}
use Rattle.r4_extent_edit.specs.Setting.{AreHoles}
use Rattle.r4_extent_edit.specs.Spans.{AreOfSpan, AreWholeBlocks, IsSpanBorder}
use Rattle.r4_extent_edit.proofs.WholeBlocks.{whole_blocks}

-- ---- a twig's pieces

stands : (twig : CellSeen) → IsSound twig → twig.level ≡ 2 → MayStand (rank twig.lo) (rank twig.hi) twig.block
stands twig sound level = (
  sound.whole,
  subst (λ (l : ℕ). cell_fault true (2 ^ 64) l (rank twig.lo)
      (rank twig.hi) twig.block ≡ None) level sound.accepted,
)

-- The pieces of a twig that may stand.
pub sound_pieces : (twig : CellSeen) → IsSound twig → twig.level ≡ 2 → ArePiecesOf twig (twig_pieces twig)
sound_pieces twig sound level =
    let stand = stands twig sound level in
    record {
      is = refl;
      pieces = pieces_of_twig (rank twig.lo) (rank twig.hi) twig.block stand;
      names = names_of_twig (rank twig.lo) (rank twig.hi) twig.block stand (rank twig.hi)
          ∙ sym (names_are twig 1 level);
      units = units_of_twig (rank twig.lo) (rank twig.hi) twig.block stand ∙ sym (units_are twig 1 level);
      fits = bytes_of_twig (rank twig.lo) (rank twig.hi) twig.block stand;
    }

-- ---- the item of a span

-- One of the items is an extent of this range.
record HasItem (lo hi : ℕ) (items : List Item) (s : Span) : Type 0 where
  before : List Item
  item : Item
  behind : List Item
  is : items ≡ before ++ (item ∷ behind)
  plugin : item.plugin ≡ 5
  from : rank item.key ≡ s.lo
  to : next_key hi behind ≡ s.hi
  left : Lie lo (rank item.key) before
  sound : IsSoundItem item
  right : Lie (item_end item) hi behind

find_item : (lo hi : ℕ) (items : List Item) (s : Span) → Lie lo hi items → Contains (spans_in hi items) s
    → HasItem lo hi items s
unfolding spans_in
find_item lo hi [] s lie at = absurd (not_in_none s at)
find_item lo hi (x ∷ xs) s lie at = elim (Contains-append_cases (if is_extent x then
    (record { lo = rank x.key; hi = next_key hi xs } ∷ []) else []) (spans_in hi xs) s at) [
      | inl mine ↦ by_test (is_extent x) refl mine
      | inr more ↦
          let r = find_item (item_end x) hi xs s lie.2 more in
          record {
            before = x ∷ r.before;
            item = r.item;
            behind = r.behind;
            is = ap (λ ys. x ∷ ys) r.is;
            plugin = r.plugin;
            from = r.from;
            to = r.to;
            left = (lie.0, lie.1, r.left);
            sound = r.sound;
            right = r.right;
          }
    ]
  where
    by_test : (b : Bool) → is_extent x ≡ b → Contains (if b then (record { lo = rank x.key; hi = next_key hi xs }
        ∷ []) else []) s → HasItem lo hi (x ∷ xs) s
    by_test false e none = absurd (not_in_none s none)
    by_test true e mine = elim (first_or_later (record { lo = rank x.key; hi = next_key hi xs }) [] s mine) [
      | inr none ↦ absurd (not_in_none s none)
      | inl is ↦ record {
        before = [];
        item = x;
        behind = xs;
        is = refl;
        plugin = eqb-true x.plugin 5 e;
        from = ap (λ (y : Span). y.lo) is;
        to = ap (λ (y : Span). y.hi) is;
        left = lie.0;
        sound = lie.1;
        right = lie.2;
      }
    ]

pieces_join : (xs ys : List Item) → pieces_in (xs ++ ys) ≡ pieces_in xs ++ pieces_in ys
pieces_join [] ys = refl
pieces_join (x ∷ xs) ys = ap (λ ps. item_pieces x ++ ps) (pieces_join xs ys)
    ∙ sym (append_assoc (item_pieces x) (pieces_in xs) (pieces_in ys))

pub follow_within : (from to : ℕ) (ps : List TwigPiece) (p : TwigPiece) → Follow from to ps → Contains ps p
    → (from ≤ rank p.key) × (piece_end p ≤ to)
follow_within from to [] p f at = absurd (not_in_none p at)
follow_within from to (q ∷ ps) p f at = elim (first_or_later q ps p at) [
  | inl is ↦
      let low = f.0 in
      let end = (follow_end (piece_end q) to ps f.2).0 in
      let most = (follow_end (piece_end q) to ps f.2).1 in
      let key : rank q.key ≡ rank p.key = ap (λ (x : TwigPiece). rank x.key) is in
      let same : piece_end q ≡ piece_end p = ap (λ (x : TwigPiece). piece_end x) is in
      (omega (arith, low, key), omega (arith, end, most, same))
  | inr more ↦
      let r = follow_within (piece_end q) to ps p f.2 more in
      let low = f.0 in
      let e = has_end q f.1 in
      (omega (arith, r, low, e), r.1)
]

unit_key : (k : Key) (n : ℕ) (us : List ExtentUnit) (p : TwigPiece) → Contains (unit_pieces k n us) p → (m : ℕ)
    × (rank p.key ≡ rank k + 4096 * m)
unit_key k n [] p at = absurd (not_in_none p at)
unit_key k n (u ∷ us) p at = elim (first_or_later (record { key = later k (4096 * n); part = Blocks u })
    (unit_pieces k (n + u.width) us) p at) [
      | inl is ↦
          let e = rank_later k (4096 * n) in
          let same : rank (later k (4096 * n)) ≡ rank p.key = ap (λ (x : TwigPiece). rank x.key) is in
          (n, omega (arith, e, same))
      | inr more ↦ unit_key k (n + u.width) us p more
    ]

module _ (twig : CellSeen) (s : Span) (from to : ℕ) (is : AreOfSpan twig s from to) where
  abbrev items : List Item
  items = items_of twig.block

  found : HasItem (rank twig.lo) (rank twig.hi) items s
  found = find_item (rank twig.lo) (rank twig.hi) items s
      (stand_lie (rank twig.lo) (rank twig.hi) twig.block (stands twig is.sound is.level))
      (subst (λ xs. Contains xs s) (spans_are twig 1 is.level) is.span)

  pieces_are : twig_pieces twig ≡ pieces_in found.before ++ (item_pieces found.item ++ pieces_in found.behind)
  pieces_are = ap pieces_in found.is ∙ pieces_join found.before (found.item ∷ found.behind)

  behind_follow : Follow s.hi (rank twig.hi) (pieces_in found.behind)
  behind_follow =
      let first = next_of_items (item_end found.item) (rank twig.hi) found.behind found.right (rank twig.hi)
      ∙ found.to in
      follow_from (item_end found.item) s.hi (rank twig.hi) (pieces_in found.behind) (omega (arith, first))
      (follow_items (item_end found.item) (rank twig.hi) found.behind found.right)

  item_ends : item_end found.item ≤ s.hi
  item_ends = by_behind found.behind found.to found.right
    where
      by_behind : (xs : List Item) → next_key (rank twig.hi) xs ≡ s.hi → Lie (item_end found.item) (rank twig.hi) xs
          → item_end found.item ≤ s.hi
      by_behind [] e lie = omega (arith, e, lie)
      by_behind (x ∷ xs) e lie = let low = lie.0 in omega (arith, e, low)

  border : (k : ℕ) → s.lo ≤ k → k ≤ s.hi → IsSpanBorder s k → IsBorder k (twig_pieces twig)
  border k low high at p in_p below above =
      elim (Contains-append_cases (pieces_in found.before) (item_pieces found.item ++ pieces_in found.behind) p
      (subst (λ ps. Contains ps p) pieces_are in_p)) [
        | inl left ↦
            let w = follow_within (rank twig.lo) (rank found.item.key) (pieces_in found.before) p (follow_items
            (rank twig.lo) (rank found.item.key) found.before found.left) left in
            let e = found.from in
            absurd (omega (arith, w, e, low, above))
        | inr more ↦ elim (Contains-append_cases (item_pieces found.item) (pieces_in found.behind) p more) [
          | inr right ↦
              let w = follow_within s.hi (rank twig.hi) (pieces_in found.behind) p behind_follow right in
              absurd (omega (arith, w, high, below))
          | inl mine ↦
              let w = follow_within (rank found.item.key) (item_end found.item) (item_pieces found.item) p
              (follow_item found.item found.sound) mine in
              let ends = item_ends in
              let key = unit_key found.item.key 0 (units_of_body found.item.body) p (subst (λ ps. Contains ps p)
              (extent_pieces found.item found.plugin) mine) in
              let m = key.1 in
              let e = found.from in
              elim at [
                | inl end ↦ absurd (omega (arith, end, w, ends, above))
                | inr whole ↦ let n = whole.1 in (whole.0 - key.0, omega (arith, n, m, e, below))
              ]
        ]
      ]

  leaf_clear : (n : Name) → Contains (node_of twig).names n → n.level ≡ 1 → (n.hi ≤ from) ⊎ (to ≤ n.lo)
  leaf_clear n named leaf =
      let low = is.low in
      let some = is.some in
      let high = is.high in
      let data_leaf : IsData n → ⊥ = λ block. omega (arith, block, leaf) in
      elim (cases_lt from n.hi) [
        | inr before ↦ inl before
        | inl ends ↦ elim (cases_lt n.lo to) [
          | inr behind ↦ inr behind
          | inl begins ↦ elim (cases_lt n.lo from) [
            | inl earlier ↦ absurd (data_leaf (is.node.spans_apart n s from named is.span (
              omega
                  (arith, earlier),
              ends,
            ) (low, omega (arith, some, high))))
            | inr later_is ↦ let wide = is.node.name_nonempty n named in
                absurd (data_leaf (is.node.spans_apart n s n.lo named is.span (omega arith, wide) (
                  omega
                      (arith, low, later_is),
                  omega (arith, begins, high),
                )))
          ]
        ]
      ]

  first_border : IsBorder from (twig_pieces twig)
  first_border = let low = is.low in let some = is.some in let high = is.high in
      border from low (omega (arith, some, high)) is.first

  second_border : IsBorder to (twig_pieces twig)
  second_border = let low = is.low in let some = is.some in let high = is.high in
      border to (omega (arith, low, some)) high is.second

  starts : rank twig.lo ≤ from
  starts = let l = is.node.span_from s is.span in let e = lo_is twig in let low = is.low in omega (arith, l, e, low)

  ends_in : to ≤ rank twig.hi
  ends_in = let h = is.node.span_to s is.span in let e = hi_is twig in let high = is.high in omega (arith, h, e, high)

  pub span_blocks : AreWholeBlocks twig from to
  span_blocks = record {
    first_border = first_border;
    second_border = second_border;
    clear = leaf_clear;
    whole = whole_blocks twig (sound_pieces twig is.sound is.level) from to starts is.some ends_in first_border
        second_border;
  }

  -- where no data block has one of the keys, there are holes
  pub span_holes : ((n : Name) → Contains (node_of twig).names n → IsData n → (n.hi ≤ from) ⊎ (to ≤ n.lo))
      → AreHoles twig from to
  span_holes none = record {
    low = starts;
    some = is.some;
    high = ends_in;
    first_border = first_border;
    second_border = second_border;
    clear = λ n named. elim (is.node.below n named) [
      | inl leaf ↦ leaf_clear n named (let up = leaf.1 in let l = level_of_twig in omega (arith, up, l))
      | inr block ↦ none n named block.1
    ];
  }
    where
      level_of_twig : (node_of twig).level ≡ 2
      level_of_twig = level_is twig ∙ is.level
