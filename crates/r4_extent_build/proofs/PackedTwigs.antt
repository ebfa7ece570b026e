-- The pieces of a twig of a body that grows may be packed, with numbers.
use Rattle.std.proofs.Common.{◌≡◌, inl, inr, ℕ, ◌+◌, ◌-◌, ◌*◌, ◌/◌, ◌^◌, ◌≤◌, Bool, true, false, cond, List, [], ◌∷◌, length, refl, sym, ap, subst, ◌∙◌, arith}
use Rattle.std.specs.Prelude.{Contains, None, Some}
use Rattle.std.specs.List.{flat_map}
use Rattle.std.proofs.lemmas.Bool.{cases_lt}
use Rattle.std.proofs.lemmas.List.{take-append-drop}
use Rattle.r4_base.specs.Key.{IsKey, later, offset_of, rank}
use Rattle.r4_base.specs.Node.{items_of}
use Rattle.r4_base.specs.Volume.{blocks_for}
use Rattle.r4_base.specs.declared.key.Key.{Key}
use Rattle.r4_extent_demands.specs.r4_branch.Pieces.{Follow, next_of, pieces_in}
use Rattle.r4_extent_demands.specs.r4_branch.declared.piece.TwigPiece.{TwigPiece}
use Rattle.r4_extent_demands.specs.r4_cell.Seen.{CellSeen, node_of}
use Rattle.r4_content.specs.Edited.{Edits, is_between}
use Rattle.r4_extent_demands.specs.r4_graft.Splices.{place, spliced}
use Rattle.r4_extent_demands.proofs.r4_graft.Halves.{later_key, later_rank}
use Rattle.r4_twig_turns.proofs.r4_measure.Kept.{block_is}
use Rattle.r4_extent_demands.specs.r4_path.TwigPieces.{twig_pieces}
use Rattle.r4_extent_demands.proofs.r4_path.Rising.{hi_is, lo_is}
use Rattle.r4_extent_demands.specs.r4_reach.Needs.{cut_pieces, filled, gets_bytes, pieces_after, runs, with_coming, without_gone}
use Rattle.r4_extent_demands.specs.r4_reach.Touched.{Body, coming, first_byte, going}
use Rattle.r4_extent_build.specs.Growing.{IsClearFor, IsGrowing, MayBePacked, end_after, end_before}
use Rattle.r4_extent_build.specs.Numbering.{with_numbers}
use Rattle.r4_extent_build.proofs.FilledHoles.{AreFilled, are_filled}
use Rattle.r4_extent_build.proofs.GrownTwigs.{are_grown, spliced_is}
use Rattle.r4_extent_build.proofs.Numbers.{names_count, numbers_bytes, numbers_follow, numbers_next}
use Rattle.r4_extent_build.proofs.UncutTwigs.{none_gone, nothing_goes}

module _ (b : Body) (first : Key) (e : Edits) (twig : CellSeen) (g : IsGrowing b first) (c : IsClearFor b twig) where
  abbrev ps : List TwigPiece
  ps = twig_pieces twig

  abbrev lo : ℕ
  lo = rank twig.lo

  abbrev hi : ℕ
  hi = rank twig.hi

  pub all : Follow lo hi ps
  all = c.pieces.pieces.follow

  abbrev pub qs : List TwigPiece
  qs = pieces_after (Some b) e (node_of twig) []

  filled_all : AreFilled ps lo hi all b e lo hi ps (flat_map (filled b e) ps)
  filled_all = are_filled ps lo hi all b e lo hi ps all (λ p m. m)

  -- ---- where blocks come

  -- blocks come from where those before ended: without bytes the body had none
  comes_from : cond b.in_extents (end_before b) (first_byte b) ≡ end_before b
  comes_from = elim g.stood [
    | inl stood ↦ ap (λ (t : Bool). cond t (end_before b) (first_byte b)) stood
    | inr empty ↦ by_kind b.in_extents (let none : blocks_for b.was ≡ 0 = ap blocks_for empty in omega (arith, none))
  ]
    where
      by_kind : (t : Bool) → first_byte b ≡ end_before b → cond t (end_before b) (first_byte b) ≡ end_before b
      by_kind true h = refl
      by_kind false h = h

  coming_is : coming b ≡ (end_before b, end_after b)
  coming_is =
      ap (λ (t : Bool). cond t (cond b.in_extents (end_before b) (first_byte b), end_after b) (0, 0)) g.spread
      ∙ ap (λ (k : ℕ). (k, end_after b)) comes_from

  pub key : Key
  key = later first (4096 * blocks_for b.was)

  pub key_at : rank key ≡ end_before b
  unfolding key
  key_at = let r = later_rank first (4096 * blocks_for b.was) in let f = g.key.at in omega (arith, r, f)

  pub key_is : IsKey key
  unfolding key
  key_is = let o = g.key.begins in let w = g.sized.was in later_key first (4096 * blocks_for b.was) g.key.key (omega (arith, o, w))

  abbrev pub count : ℕ
  count = (end_after b - end_before b) / 4096

  pub count_is : end_after b ≡ end_before b + 4096 * count
  count_is = let l = g.longer in omega (arith, l)

  pub key_fits : offset_of key + 4096 * count ≤ 2 ^ 64
  unfolding key
  key_fits =
      let o : offset_of (later first (4096 * blocks_for b.was)) ≡ offset_of first + 4096 * blocks_for b.was = refl in
      let z = g.key.begins in
      let n = g.sized.now in
      let w = g.sized.was in
      omega (arith, o, z, n, w)

  -- ---- what the pieces become

  left_is : cut_pieces (going b) (node_of twig) (without_gone [] (pieces_in (items_of (node_of twig).block))) ≡ ps
  left_is =
      ap (λ bytes. cut_pieces (going b) (node_of twig) (without_gone [] (pieces_in (items_of bytes)))) (block_is twig)
      ∙ (ap (cut_pieces (going b) (node_of twig)) (none_gone ps)
      ∙ none_cut b.in_extents)
    where
      none_cut : (t : Bool) → cut_pieces (cond t (end_after b, end_before b) (0, 0)) (node_of twig) ps ≡ ps
      none_cut true = nothing_goes (node_of twig) lo hi ps all (end_before b) (end_after b) g.longer c.clear
      none_cut false = nothing_goes (node_of twig) lo hi ps all 0 0 (omega arith) (λ p m. inr (omega arith))

  pub qs_is : qs ≡ with_coming b e (node_of twig) (flat_map (filled b e) ps)
  qs_is = ap (λ xs. with_coming b e (node_of twig) (flat_map (filled b e) xs)) left_is

  abbrev pub put_in : List TwigPiece → List TwigPiece
  put_in xs = spliced (place (end_before b) xs) (place (end_before b) xs) (runs (gets_bytes b e) (end_before b) ((end_after b - end_before b) / 4096)) xs

  pub coming_at : (xs : List TwigPiece) → with_coming b e (node_of twig) xs ≡ cond (is_between lo hi (end_before b)) (put_in xs) xs
  coming_at xs =
      (λ i. cond (is_between (lo_is twig i) (hi_is twig i) ((coming_is i).0)) (spliced (place ((coming_is i).0) xs) (place ((coming_is i).0) xs) (runs (gets_bytes b e) ((coming_is i).0) (((coming_is i).1 - (coming_is i).0) / 4096)) xs) xs)

  pub none_put : (xs : List TwigPiece) → count ≡ 0 → put_in xs ≡ xs
  none_put xs zero_is =
      (λ i. spliced (place (end_before b) xs) (place (end_before b) xs) (runs (gets_bytes b e) (end_before b) (zero_is i)) xs)
      ∙ take-append-drop (place (end_before b) xs) xs

  packed : AreFilled ps lo hi all b e lo hi ps qs
  packed = subst (AreFilled ps lo hi all b e lo hi ps) (sym (qs_is ∙ coming_at (flat_map (filled b e) ps))) (by_test (is_between lo hi (end_before b)) refl)
    where
      by_test : (t : Bool) → is_between lo hi (end_before b) ≡ t → AreFilled ps lo hi all b e lo hi ps (cond t (put_in (flat_map (filled b e) ps)) (flat_map (filled b e) ps))
      by_test false h = filled_all
      by_test true h = elim (cases_lt (end_before b) (end_after b)) [
        | inl more ↦
            let some : 1 ≤ (end_after b - end_before b) / 4096 = let n = count_is in omega (arith, more, n) in
            let gap = c.gap h more in
            subst (AreFilled ps lo hi all b e lo hi ps) (sym (spliced_is ps lo hi (end_before b) (end_after b) all gap b e key key_is key_at count count_is key_fits some))
            (are_grown ps lo hi (end_before b) (end_after b) all gap b e key key_is key_at count count_is key_fits some)
        | inr same ↦
            let zero_is : (end_after b - end_before b) / 4096 ≡ 0 = omega (arith, same) in
            subst (AreFilled ps lo hi all b e lo hi ps) (sym (none_put (flat_map (filled b e) ps) zero_is)) filled_all
      ]

  some_of : (xs : List TwigPiece) → 1 ≤ length xs → (ys : List TwigPiece) → ((h : ℕ) → next_of h ys ≡ next_of h xs) → 1 ≤ length ys
  some_of [] some ys same = absurd (omega (arith, some))
  some_of (x ∷ xs) some [] same = let h : rank x.key + 1 ≡ rank x.key = same (rank x.key + 1) in absurd (omega (arith, h))
  some_of (x ∷ xs) some (y ∷ ys) same = omega arith

  pub may_be_packed : (n : ℕ) → 2 ^ 63 ≤ n → MayBePacked twig n qs
  may_be_packed n high =
      let p = packed in
      let next = λ (h : ℕ). numbers_next ps n h qs ∙ p.next h in
      record {
        pieces = record {
          some = some_of ps c.pieces.pieces.some (with_numbers ps n qs) next;
          first = next hi ∙ c.pieces.pieces.first;
          follow = numbers_follow ps n lo hi qs high p.follow;
        };
        bytes = numbers_bytes ps n None qs;
        names = λ m.
            let h = p.names n hi (omega (arith, high)) m in (
              λ x. elim (h.0 x) [ inl was ↦ inl (subst (λ ns. Contains ns m) c.pieces.names was) | inr new ↦ inr new ],
              λ x. h.1 (elim x [ inl was ↦ inl (subst (λ ns. Contains ns m) (sym c.pieces.names) was) | inr new ↦ inr new ]),
            );
        numbers = (names_count ps n qs).0;
        count = (names_count ps n qs).1;
      }
