-- Pieces change of a twig of which blocks go.
use Rattle.std.proofs.Common.{◌≡◌, ◌⊎◌, inl, inr, ℕ, ◌+◌, ◌-◌, ◌*◌, ◌<◌, ◌≤◌, Bool, true, false, List, [], ◌∷◌, ◌++◌, refl, sym, ap, subst, ◌∙◌, arith}
use Rattle.std.specs.Prelude.{◌||◌, ◌&&◌, Contains, Some, not, nat_lt}
use Rattle.std.specs.List.{list_any}
use Rattle.std.proofs.lemmas.Bool.{and_parts, cases_lt, lt-ltb, ltb-true}
use Rattle.std.proofs.lemmas.List.Elements.{Contains-append_cases, Contains-append_left, Contains-append_right}
use Rattle.r4_base.specs.Key.{later as key_later, rank}
use Rattle.r4_base.specs.Node.{items_of}
use Rattle.r4_base.specs.Tree.{Name, Span}
use Rattle.r4_base.specs.declared.key.Key.{Key}
use Rattle.r4_base.specs.declared.things.NodeId.{NodeId}
use Rattle.r4_extent_build.specs.r4_branch.Pieces.{Follow, IsSound, names_of, next_of, part_end, part_names, piece_end, pieces_in}
use Rattle.r4_extent_build.specs.r4_branch.declared.piece.TwigPart.{TwigPart}
use Rattle.r4_extent_build.specs.r4_branch.declared.piece.TwigPart.TheVariants.{Blocks, Pointer}
use Rattle.r4_extent_build.specs.r4_branch.declared.piece.TwigPiece.{TwigPiece}
use Rattle.r4_extent_build.specs.r4_cell.Seen.{CellSeen, node_of}
use Rattle.r4_content.specs.Bodies.{larger, smaller}
use Rattle.r4_content.specs.Edited.{Edits, is_between}
use Rattle.r4_extent_build.specs.r4_edit.CutBlocks.{BeginsAt}
use Rattle.r4_extent_build.proofs.r4_edit.CutParts.{border_again}
use Rattle.r4_extent_build.specs.Growing.{end_after, end_before}
use Rattle.r4_extent_build.proofs.r4_extent_demands.Changes.{changes_is}
use Rattle.r4_extent_build.proofs.r4_extent_demands.PutsInto.{any_there, there_any}
use Rattle.r4_extent_build.specs.r4_extent_demands.Changing.{changes_units, comes_in, goes_from, is_changed, is_other, is_refilled}
use Rattle.r4_extent_build.specs.r4_graft.Splices.{IsBorder, blocks_past, first_blocks, parted, parted_piece}
use Rattle.r4_extent_build.proofs.r4_graft.Halves.{later_rank}
use Rattle.r4_extent_build.proofs.r4_graft.Parted.{halved_or_not, parted_follow}
use Rattle.r4_extent_build.proofs.r4_graft.Placed.{follow_above, has_end}
use Rattle.r4_extent_build.proofs.r4_measure.Kept.{block_is}
use Rattle.r4_extent_build.proofs.r4_patch.Members.{cases, here, later, none}
use Rattle.r4_extent_build.specs.r4_path.TwigPieces.{ArePiecesOf, twig_pieces}
use Rattle.r4_extent_build.specs.r4_reach.Needs.{changes_pieces, goes_in, is_hole_part, put_among}
use Rattle.r4_extent_build.specs.r4_reach.Touched.{Body, coming, going}
use Rattle.r4_extent_loss.specs.Losing.{IsLosing, IsLossOf, Loss, gone_from, gone_to}
use Rattle.r4_extent_loss.proofs.Calm.{calm_piece, coming_is, going_is}
use Rattle.r4_extent_loss.proofs.Clipped.{follow_order, larger_high, larger_low, smaller_high, smaller_low}
use Rattle.r4_extent_loss.proofs.LostPieces.{hi, lo, ms, parts, pp, ps, xs, ys}

-- ---- a piece of those that were parted lies within one of those before

record IsWithin (p q : TwigPiece) : Type 0 where
  low : rank p.key ≤ rank q.key
  high : piece_end q ≤ piece_end p
  pointer : (to : NodeId) → p.part ≡ Pointer to → p ≡ q

as_within : (p : TwigPiece) → IsWithin p p
as_within p = record { low = omega arith; high = omega arith; pointer = λ to is. refl }

within_both : (p q m : TwigPiece) → IsWithin p q → IsWithin q m → IsWithin p m
within_both p q m one two = record {
  low = let a = one.low in let z = two.low in omega (arith, a, z);
  high = let a = one.high in let z = two.high in omega (arith, a, z);
  pointer = λ to is. let same = one.pointer to is in same ∙ two.pointer to (ap (λ (y : TwigPiece). y.part) (sym same) ∙ is);
}

module _ (k : ℕ) (p : TwigPiece) (sound : IsSound p) (border : rank p.key < k → k < piece_end p → (n : ℕ) × (k ≡ rank p.key + 4096 * n)) where
  in_piece : (q : TwigPiece) → Contains (parted_piece k p) q → IsWithin p q
  in_piece q at = elim (halved_or_not k p sound border) [
    | inl h ↦
        let one : TwigPiece = record p { part = first_blocks h.n p.part } in
        let two : TwigPiece = record { key = key_later p.key (4096 * h.n); part = blocks_past h.n p.part } in
        let w : piece_end p ≡ rank p.key + 4096 * h.unit.width = ap (part_end (rank p.key)) h.is in
        let inside = h.inside in
        elim (cases one q (two ∷ []) (subst (λ ps. Contains ps q) h.parts at)) [
          | inl is ↦
              let e : piece_end one ≡ rank p.key + 4096 * h.n = ap (λ t. part_end (rank p.key) (first_blocks h.n t)) h.is in
              let key : rank q.key ≡ rank p.key = ap (λ (y : TwigPiece). rank y.key) is in
              let end : piece_end q ≡ piece_end one = ap (λ (y : TwigPiece). piece_end y) is in
              record {
                low = omega (arith, key);
                high = omega (arith, e, end, w, inside);
                pointer = λ to is_pointer. absurd (let bad : Blocks h.unit ≡ Pointer to = sym h.is ∙ is_pointer in cc);
              }
          | inr more ↦ elim (cases two q [] more) [
            | inl is ↦
                let c : rank two.key ≡ rank p.key + 4096 * h.n = later_rank p.key (4096 * h.n) in
                let e : piece_end two ≡ rank two.key + 4096 * (h.unit.width - h.n) = ap (λ t. part_end (rank two.key) (blocks_past h.n t)) h.is in
                let key : rank q.key ≡ rank two.key = ap (λ (y : TwigPiece). rank y.key) is in
                let end : piece_end q ≡ piece_end two = ap (λ (y : TwigPiece). piece_end y) is in
                record {
                  low = omega (arith, key, c);
                  high = omega (arith, e, end, w, c, inside);
                  pointer = λ to is_pointer. absurd (let bad : Blocks h.unit ≡ Pointer to = sym h.is ∙ is_pointer in cc);
                }
            | inr nil ↦ absurd (none q nil)
          ]
        ]
    | inr whole ↦ elim (cases p q [] (subst (λ ps. Contains ps q) whole.0 at)) [
      | inl is ↦ subst (IsWithin p) (sym is) (as_within p)
      | inr nil ↦ absurd (none q nil)
    ]
  ]

in_pieces : (k from to : ℕ) (ps : List TwigPiece) → Follow from to ps → IsBorder k ps → (q : TwigPiece) → Contains (parted k ps) q → (p : TwigPiece) × Contains ps p × IsWithin p q
in_pieces k from to [] f b q at = absurd (none q at)
in_pieces k from to (p ∷ ps) f b q at = elim (Contains-append_cases (parted_piece k p) (parted k ps) q at) [
  | inl mine ↦ (p, here p ps, in_piece k p f.1 (b p (here p ps)) q mine)
  | inr more ↦ let (r, m, within) = in_pieces k (piece_end p) to ps f.2 (λ y in_ps. b y (later p y ps in_ps)) q more in (r, later p r ps m, within)
]

-- ---- what a pointer names

pointer_named : (h : ℕ) (ps : List TwigPiece) (p : TwigPiece) (to : NodeId) → Contains ps p → p.part ≡ Pointer to → (n : Name) × Contains (names_of h ps) n × (n.level ≡ 1) × (n.lo ≡ rank p.key)
unfolding names_of
pointer_named h [] p to at is = absurd (none p at)
pointer_named h (q ∷ ps) p to at is = elim (cases q p ps at) [
  | inl same ↦
      let n : Name = record { id = to.0; level = 1; lo = rank q.key; hi = next_of h ps } in
      let part : q.part ≡ Pointer to = ap (λ (y : TwigPiece). y.part) (sym same) ∙ is in
      (n, Contains-append_left (part_names (rank q.key) (next_of h ps) q.part) (names_of h ps) n (subst (λ (t : TwigPart). Contains (part_names (rank q.key) (next_of h ps) t) n) (sym part) (here n [])), refl, ap (λ (y : TwigPiece). rank y.key) (sym same))
  | inr more ↦ let (n, m, level, lo) = pointer_named h ps p to more is in (n, Contains-append_right (part_names (rank q.key) (next_of h ps) q.part) (names_of h ps) n m, level, lo)
]

-- ---- the test

third : (p q r s : Bool) → r ≡ true → (p || (q || (r || s))) ≡ true
third true q r s h = refl
third false true r s h = refl
third false false true s h = refl
third false false false s h = absurd cc

pub larger_less : (a b k : ℕ) → a ≤ k → b ≤ k → larger a b ≤ k
larger_less a b k one two = elim (cases_lt a b) [
  | inl lt ↦ let e = larger_high a b lt in omega (arith, e, two)
  | inr le ↦ let e = larger_low a b le in omega (arith, e, one)
]

pub smaller_more : (a b k : ℕ) → k < a → k < b → k < smaller a b
smaller_more a b k one two = elim (cases_lt a b) [
  | inl lt ↦ let e = smaller_low a b lt in omega (arith, e, one)
  | inr le ↦ let e = smaller_high a b le in omega (arith, e, two)
]

-- what goes of a twig is of the body's blocks that go
pub gone_after : (b : Body) (twig : CellSeen) → end_after b ≤ gone_from b twig
gone_after b twig = elim (cases_lt (rank twig.lo) (end_after b)) [
  | inl lt ↦ let e = larger_high (rank twig.lo) (end_after b) lt in omega (arith, e)
  | inr le ↦ let e = larger_low (rank twig.lo) (end_after b) le in omega (arith, e, le)
]

pub gone_before : (b : Body) (twig : CellSeen) → gone_to b twig ≤ end_before b
gone_before b twig = elim (cases_lt (rank twig.hi) (end_before b)) [
  | inl lt ↦ let e = smaller_low (rank twig.hi) (end_before b) lt in omega (arith, e, lt)
  | inr le ↦ let e = smaller_high (rank twig.hi) (end_before b) le in omega (arith, e)
]

module _ (b : Body) (first : Key) (e : Edits) (g : IsLosing b first e) (x : Loss) (c : IsLossOf b x) where
  abbrev from : ℕ
  from = gone_from b x.twig

  abbrev to : ℕ
  to = gone_to b x.twig

  -- the first piece that goes, and the one within which it lies
  gone_piece : (p : TwigPiece) × Contains (twig_pieces x.twig) p × ((m : TwigPiece) × (rank m.key ≡ from) × (from < piece_end m) × IsWithin p m)
  gone_piece = by_pieces (ms b x c) refl c.begins (parts b x c).mid
    where
      by_pieces : (qs : List TwigPiece) → ms b x c ≡ qs → BeginsAt from qs → Follow from to qs → (p : TwigPiece) × Contains (twig_pieces x.twig) p × ((m : TwigPiece) × (rank m.key ≡ from) × (from < piece_end m) × IsWithin p m)
      by_pieces [] is begins f = absurd begins
      by_pieces (m ∷ more) is begins f =
          let in_ms : Contains (ms b x c) m = subst (λ qs. Contains qs m) (sym is) (here m more) in
          let in_all : Contains (pp b x c) m = subst (λ qs. Contains qs m) (sym (parts b x c).is) (Contains-append_right (xs b x c) (ms b x c ++ ys b x c) m (Contains-append_left (ms b x c) (ys b x c) m in_ms)) in
          let follow = c.pieces.pieces.follow in
          let some = c.some in
          let (q, in_once, inner) = in_pieces to (lo b x c) (hi b x c) (parted from (ps b x c)) (parted_follow from (lo b x c) (hi b x c) (ps b x c) follow c.first_border)
          (border_again from to some (lo b x c) (hi b x c) (ps b x c) follow c.first_border c.last_border) m in_all in
          let (p, in_ps, outer) = in_pieces from (lo b x c) (hi b x c) (ps b x c) follow c.first_border q in_once in
          let end = has_end m f.1 in
          (p, in_ps, (m, begins, omega (arith, end, begins), within_both p q m outer inner))

  pub pieces_change : changes_pieces (Some b) e (node_of x.twig) ≡ true
  pieces_change =
      let (p, at, (m, begins, ends, within)) = gone_piece in
      third _ _ (list_any (λ (y : TwigPiece). goes_in (going b) y y.part) (pieces_in (items_of (node_of x.twig).block))) _
      (any_there (λ (y : TwigPiece). goes_in (going b) y y.part) (pieces_in (items_of (node_of x.twig).block)) p
      (subst (λ bytes. Contains (pieces_in (items_of bytes)) p) (sym (block_is x.twig)) at) (by_part p at m begins ends within p.part refl))
    where
      by_part : (p : TwigPiece) → Contains (twig_pieces x.twig) p → (m : TwigPiece) → rank m.key ≡ from → from < piece_end m → IsWithin p m → (t : TwigPart) → p.part ≡ t → goes_in (going b) p t ≡ true
      by_part p at m begins ends within (Pointer id) is =
          let same : rank p.key ≡ rank m.key = ap (λ (y : TwigPiece). rank y.key) (within.pointer id is) in
          let (n, named, level, first_is) = pointer_named (rank x.twig.hi) (twig_pieces x.twig) p id at is in
          let in_names : Contains (node_of x.twig).names n = subst (λ ns. Contains ns n) c.pieces.names named in
          let some = c.node.name_nonempty n in_names in
          let goes = c.some in
          absurd (elim (c.clear n in_names level) [
            | inl below ↦ omega (arith, below, some, first_is, same, begins)
            | inr behind ↦ omega (arith, behind, first_is, same, begins, goes)
          ])
      by_part p at m begins ends within (Blocks u) is =
          let low = within.low in
          let high = within.high in
          let end : piece_end p ≡ rank p.key + 4096 * u.width = ap (part_end (rank p.key)) is in
          let after = gone_after b x.twig in
          let before = gone_before b x.twig in
          let goes = c.some in
          let one = larger_less (rank p.key) (end_after b) from (omega (arith, low, begins)) (omega (arith, after)) in
          let two = smaller_more (rank p.key + 4096 * u.width) (end_before b) from (omega (arith, ends, high, end)) (omega (arith, goes, before)) in
          ap (λ (r : ℕ × ℕ). nat_lt (larger (rank p.key) r.0) (smaller (rank p.key + 4096 * u.width) r.1)) (going_is b first e g)
          ∙ lt-ltb (larger (rank p.key) (end_after b)) (smaller (rank p.key + 4096 * u.width) (end_before b)) (omega (arith, one, two))

-- ---- and back: where no value comes among the extents, pieces change of no other twig

either_of : (t u : Bool) → (t || u) ≡ true → (t ≡ true) ⊎ (u ≡ true)
either_of true u h = inl refl
either_of false u h = inr h

larger_over : (a b : ℕ) → (a ≤ larger a b) × (b ≤ larger a b)
larger_over a b = elim (cases_lt a b) [
  | inl lt ↦ let e = larger_high a b lt in (omega (arith, e, lt), omega (arith, e))
  | inr le ↦ let e = larger_low a b le in (omega (arith, e), omega (arith, e, le))
]

smaller_under : (a b : ℕ) → (smaller a b ≤ a) × (smaller a b ≤ b)
smaller_under a b = elim (cases_lt a b) [
  | inl lt ↦ let e = smaller_low a b lt in (omega (arith, e), omega (arith, e, lt))
  | inr le ↦ let e = smaller_high a b le in (omega (arith, e, le), omega (arith, e))
]

end_in : (from to : ℕ) (ps : List TwigPiece) → Follow from to ps → (p : TwigPiece) → Contains ps p → piece_end p ≤ to
end_in from to [] f p at = absurd (none p at)
end_in from to (q ∷ ps) f p at = elim (cases q p ps at) [
  | inl is ↦ subst (λ (y : TwigPiece). piece_end y ≤ to) (sym is) (follow_order (piece_end q) to ps f.2)
  | inr more ↦ end_in (piece_end q) to ps f.2 p more
]

sound_in : (from to : ℕ) (ps : List TwigPiece) → Follow from to ps → (p : TwigPiece) → Contains ps p → IsSound p
sound_in from to [] f p at = absurd (none p at)
sound_in from to (q ∷ ps) f p at = elim (cases q p ps at) [
  | inl is ↦ subst IsSound (sym is) f.1
  | inr more ↦ sound_in (piece_end q) to ps f.2 p more
]

not_both : (t : Bool) → (t && not t) ≡ true → ⊥
not_both true h = cc
not_both false h = cc

module _ (b : Body) (first : Key) (e : Edits) (g : IsLosing b first e) (c : CellSeen) (are : ArePiecesOf c (twig_pieces c)) where
  goes_of : (p : TwigPiece) → Contains (twig_pieces c) p → goes_from (going b) p ≡ true → gone_from b c < gone_to b c
  goes_of p at h = by_part p.part refl h
    where
      by_part : (t : TwigPart) → p.part ≡ t → goes_in (going b) p t ≡ true → gone_from b c < gone_to b c
      by_part (Pointer id) is on = absurd cc
      by_part (Blocks u) is on =
          let follow = are.pieces.follow in
          let low = follow_above (rank c.lo) (rank c.hi) (twig_pieces c) follow p at in
          let end : piece_end p ≡ rank p.key + 4096 * u.width = ap (part_end (rank p.key)) is in
          let high = end_in (rank c.lo) (rank c.hi) (twig_pieces c) follow p at in
          let met = ltb-true (larger (rank p.key) (end_after b)) (smaller (rank p.key + 4096 * u.width) (end_before b))
          (ap (λ (r : ℕ × ℕ). nat_lt (larger (rank p.key) r.0) (smaller (rank p.key + 4096 * u.width) r.1)) (sym (going_is b first e g)) ∙ on) in
          let over = larger_over (rank p.key) (end_after b) in
          let under = smaller_under (rank p.key + 4096 * u.width) (end_before b) in
          let one = larger_less (rank c.lo) (end_after b) (larger (rank p.key) (end_after b)) (omega (arith, low, over)) over.1 in
          let two = smaller_more (rank c.hi) (end_before b) (larger (rank p.key) (end_after b)) (omega (arith, met, under, high, end)) (omega (arith, met, under)) in
          omega (arith, one, two)

  none_comes : (s : Span) → comes_in b s ≡ true → ⊥
  none_comes s on =
      let (inside, some) = and_parts (is_between s.lo s.hi (coming b).0) (nat_lt (coming b).0 (coming b).1) on in
      let less = ltb-true (end_before b) (end_after b) (ap (λ (r : ℕ × ℕ). nat_lt r.0 r.1) (sym (coming_is b first e g)) ∙ some) in
      let shorter = g.shorter in
      omega (arith, less, shorter)

  none_refilled : (p : TwigPiece) → Contains (twig_pieces c) p → is_refilled b e p ≡ true → ⊥
  none_refilled p at on = not_both (is_hole_part p.part) (ap (is_other p) (sym (calm_piece b first e g p (sound_in (rank c.lo) (rank c.hi) (twig_pieces c) are.pieces.follow p at))) ∙ on)

  pub loses_blocks : put_among (Some b) e (node_of c) ≡ 0 → changes_pieces (Some b) e (node_of c) ≡ true → gone_from b c < gone_to b c
  loses_blocks nothing on = elim (either_of (nat_lt 0 (put_among (Some b) e (node_of c))) (changes_units (Some b) e (node_of c)) (sym (changes_is b e (node_of c)) ∙ on)) [
    | inl put ↦ let some = ltb-true 0 (put_among (Some b) e (node_of c)) put in absurd (omega (arith, some, nothing))
    | inr units ↦ elim (either_of (list_any (comes_in b) (node_of c).spans) (list_any (is_changed b e) (pieces_in (items_of (node_of c).block))) units) [
      | inl come ↦ let (s, at, comes) = there_any (comes_in b) (node_of c).spans come in absurd (none_comes s comes)
      | inr piece ↦
          let (p, m, changed) = there_any (is_changed b e) (pieces_in (items_of (node_of c).block)) piece in
          let at : Contains (twig_pieces c) p = subst (λ bytes. Contains (pieces_in (items_of bytes)) p) (block_is c) m in
          elim (either_of (goes_from (going b) p) (is_refilled b e p) changed) [
            | inl goes ↦ goes_of p at goes
            | inr filled_up ↦ absurd (none_refilled p at filled_up)
          ]
    ]
  ]
