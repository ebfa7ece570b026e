-- Bytes that are put lie in no leaf, and need none; and the bytes that a leaf needs, as the calls say that measure them.
use Rattle.std.proofs.Common.{◌≡◌, ℕ, ◌+◌, ◌-◌, ◌^◌, ◌<◌, true, List, [], ◌∷◌, ◌++◌, refl, sym, ap, ◌∙◌, arith}
use Rattle.std.specs.Prelude.{◌&&◌, None, min, nat_le, replicate}
use Rattle.std.specs.List.{filter, flat_map, list_all}
use Rattle.std.proofs.lemmas.Grind.{common_steps}
use Rattle.std.proofs.lemmas.List.Folds.{list_all-append}
use Rattle.r4_base.specs.Cell.{units_in}
use Rattle.r4_base.specs.Key.{rank}
use Rattle.r4_base.specs.Node.{Item}
use Rattle.r4_extent_change.proofs.r4_build.MetKeys.{met_key}
use Rattle.r4_content.specs.Edited.{Edits, Pairs, changed}
use Rattle.r4_content.specs.Held.{fill_pairs, run_pairs}
use Rattle.r4_content.specs.Listed.{list_edited}
use Rattle.r4_content.specs.Objects.{byte_pairs}
use Rattle.r4_content.specs.declared.edits.ByteRun.{ByteRun}
use Rattle.r4_content.specs.declared.edits.FilledInterval.{FilledInterval}
use Rattle.r4_twig_asks.specs.r4_leaf_edits.Made.{MakesEdits}
use Rattle.r4_extent_change.proofs.r4_measure.r4_path.Rising.{hi_is, lo_is}
use Rattle.r4_extent_change.specs.r4_measure.r4_cell.Seen.{CellSeen, node_of}
use Rattle.r4_extent_change.specs.r4_measure.r4_leaf.Remade.{cut_all, put_all}
use Rattle.r4_extent_change.specs.r4_measure.r4_leaf.Units.{LeafUnit, is_between, leaf_bytes}
use Rattle.r4_extent_change.specs.r4_measure.r4_leaf.declared.remaking.Given.{Given}
use Rattle.r4_extent_change.specs.r4_measure.r4_leaf.declared.remaking.KeyRange.{KeyRange}
use Rattle.r4_extent_change.specs.r4_measure.r4_reach.Needs.{is_met, units_after}
use Rattle.r4_extent_growth.specs.Lying.{put_lies}

-- ---- bytes

module _ (cells : List CellSeen) where
  bytes_lie : (k : ℕ) (xs : List ℕ) → list_all (put_lies cells) (byte_pairs k xs) ≡ true
  bytes_lie k [] = refl
  bytes_lie k (x ∷ xs) = bytes_lie (k + 1) xs

  fills_lie : (fs : List FilledInterval) → list_all (put_lies cells) (flat_map fill_pairs fs) ≡ true
  fills_lie [] = refl
  fills_lie (f ∷ fs) = list_all-append (put_lies cells) (fill_pairs f) (flat_map fill_pairs fs)
      ∙ (λ i. bytes_lie (rank f.from) (replicate (rank f.to - rank f.from) f.byte) i && fills_lie fs i)

  runs_lie : (rs : List ByteRun) → list_all (put_lies cells) (flat_map run_pairs rs) ≡ true
  runs_lie [] = refl
  runs_lie (r ∷ rs) = list_all-append (put_lies cells) (run_pairs r) (flat_map run_pairs rs)
      ∙ (λ i. bytes_lie (rank r.from) r.bytes i && runs_lie rs i)

  pub values_lie : (fs : List FilledInterval) (rs : List ByteRun) (vs : Pairs)
      → list_all (put_lies cells) (flat_map fill_pairs fs ++ (flat_map run_pairs rs ++ vs)) ≡ list_all (put_lies cells) vs
  values_lie fs rs vs =
      list_all-append (put_lies cells) (flat_map fill_pairs fs) (flat_map run_pairs rs ++ vs)
      ∙ ((λ i. fills_lie fs i && list_all-append (put_lies cells) (flat_map run_pairs rs) vs i)
      ∙ (λ i. runs_lie rs i && list_all (put_lies cells) vs))

-- ---- the room of a leaf

pub some_keys : (e : Edits) (lo hi : ℕ) → is_met (changed e) lo hi ≡ true → lo < hi
some_keys e lo hi h = let (k, on, low, high) = met_key (changed e) lo hi h in omega (arith, low, high)

least_fits : (m n : ℕ) → n ≡ min m (2 ^ 64 - 1) → nat_le n 4068 ≡ nat_le m 4068
least_fits m n e = grind (arith, common_steps, e)

pub same_room : (e : Edits) (leaf : CellSeen) (cuts : List KeyRange) (gs : List Given) (items : List Item) (n : ℕ) → units_in items ≡ (node_of leaf).units
    → MakesEdits (rank leaf.lo) (rank leaf.hi) e cuts gs (node_of leaf).units → n ≡ min (leaf_bytes (put_all gs (cut_all cuts (units_in items)))) (2 ^ 64 - 1)
    → nat_le n 4068 ≡ nat_le (leaf_bytes (units_after None e (node_of leaf))) 4068
same_room e leaf cuts gs items n same makes is =
    let all : put_all gs (cut_all cuts (units_in items)) ≡ units_after None e (node_of leaf) =
    ap (λ (us : List LeafUnit). put_all gs (cut_all cuts us)) same ∙ makes.units
    ∙ (λ i. filter (λ (u : LeafUnit). is_between (sym (lo_is leaf) i) (sym (hi_is leaf) i) u.0) (list_edited e (node_of leaf).units)) in
    least_fits (leaf_bytes (units_after None e (node_of leaf))) n (is ∙ ap (λ (us : List LeafUnit). min (leaf_bytes us) (2 ^ 64 - 1)) all)
