-- What may be grown of cells, as the tests of them say.
use Rattle.std.proofs.Common.{◌≡◌, inl, inr, ℕ, suc, ◌+◌, ◌-◌, ◌≤◌, Bool, true, false, List, [], ◌∷◌, ◌++◌, length, map, refl, sym, ap, ◌∙◌, arith}
use Rattle.std.specs.Prelude.{◌&&◌, ◌==◌, ◌^◌, Contains, None, Some, if◌then◌else◌, nat_le, nat_lt, not}
use Rattle.std.specs.List.{filter, list_all, list_any}
use Rattle.std.proofs.lemmas.Bool.{and_parts, eq-eqb, eqb-true, leb-true, ltb-true}
use Rattle.std.proofs.lemmas.List.Folds.{Any-from_list_any}
use Rattle.r4_base.specs.Key.{offset_of, rank}
use Rattle.r4_base.specs.Tree.{Root, Store}
use Rattle.r4_base.specs.Value.{Value}
use Rattle.r4_extent_change.specs.r4_build.Building.{LiesInLeaf}
use Rattle.r4_content.proofs.EditLaws.{in_append}
use Rattle.r4_content.specs.Edited.{Edits, Intervals, Pairs, changed, is_between, is_in, put_keys}
use Rattle.r4_twig_asks.specs.r4_leaf_edits.Suiting.{is_byte}
use Rattle.r4_extent_change.proofs.r4_measure.r4_patch.Members.{cases}
use Rattle.r4_extent_change.proofs.r4_measure.r4_work.Remade.{or_true}
use Rattle.r4_extent_change.specs.r4_measure.Budget.{AreUnplaced, Budget}
use Rattle.r4_extent_change.specs.r4_measure.Grafting.{IsQuietBelow}
use Rattle.r4_extent_change.specs.r4_measure.r4_cell.Patch.{HaveNames}
use Rattle.r4_extent_change.specs.r4_measure.r4_cell.Seen.{CellSeen, node_of}
use Rattle.r4_extent_change.specs.r4_measure.r4_cell.declared.change.Fresh.{Fresh}
use Rattle.r4_extent_change.specs.r4_measure.r4_leaf.Units.{leaf_bytes}
use Rattle.r4_extent_change.specs.r4_measure.r4_path.TwigPieces.{ArePiecesOf, twig_pieces}
use Rattle.r4_extent_change.specs.r4_measure.r4_reach.Needs.{changes_pieces, is_met, units_after}
use Rattle.r4_extent_change.specs.r4_measure.r4_reach.Reach.{is_body}
use Rattle.r4_extent_change.specs.r4_measure.r4_reach.Touched.{Body}
use Rattle.r4_base.specs.declared.key.Key.{Key}
use Rattle.r4_extent_change.specs.r4_extent_build.Growing.{IsGrowing}
use Rattle.r4_extent_change.proofs.Chosen.{picked}
use Rattle.r4_extent_change.specs.Beside.{is_turning, turning_among, without_bytes}
use Rattle.r4_extent_change.specs.Changing.{AreMeasured, CanGrow, numbers_needed}
use Rattle.r4_extent_growth.specs.Coming.{SufficesFor, coming_beside, twigs_coming}
use Rattle.r4_extent_change.specs.r4_measure.r4_work.Working.{AreCellsIn}
use Rattle.r4_extent_growth.specs.Growth.{MayGrow}
use Rattle.r4_extent_growth.specs.Lying.{cut_lies, has_all, has_one, has_room, have_room, is_whole, lie_in_leaves, put_lies}
use Rattle.r4_extent_growth.specs.Turning.{may_turn, may_turn_all}
use Rattle.r4_extent_growth.proofs.Turns.{each, has_turn, off, second}

-- one of which a test holds
pub some_of : {A : Type 0} (p : A → Bool) (xs : List A) → list_any p xs ≡ true → (x : A) × Contains xs x × (p x ≡ true)
some_of p xs h = let (k, x, lt, is, on) = Any-from_list_any p xs h in (x, (k, lt, is), on)

-- ---- where edits lie

module _ (cells : List CellSeen) (k : ℕ) where
  one_leaf : (j : ℕ) → list_any (has_one j) cells ≡ true → j ≡ k → LiesInLeaf cells k
  one_leaf j h is =
      let (c, at, on) = some_of (has_one j) cells h in
      let (level, inside) = and_parts (c.level == 1) (is_between (rank c.lo) (rank c.hi) j) on in
      let (low, high) = and_parts (nat_le (rank c.lo) j) (nat_lt j (rank c.hi)) inside in
      let from = leb-true (rank c.lo) j low in
      let to = ltb-true j (rank c.hi) high in
      (c, at, eqb-true c.level 1 level, (omega (arith, from, is), omega (arith, to, is)))

  all_leaf : (r : ℕ × ℕ) → list_any (has_all r) cells ≡ true → r.0 ≤ k → suc k ≤ r.1 → LiesInLeaf cells k
  all_leaf r h low high =
      let (c, at, on) = some_of (has_all r) cells h in
      let (level, inside) = and_parts (c.level == 1) (nat_le (rank c.lo) r.0 && nat_le r.1 (rank c.hi)) on in
      let (begins, ends) = and_parts (nat_le (rank c.lo) r.0) (nat_le r.1 (rank c.hi)) inside in
      let from = leb-true (rank c.lo) r.0 begins in
      let to = leb-true r.1 (rank c.hi) ends in
      (c, at, eqb-true c.level 1 level, (omega (arith, from, low), omega (arith, to, high)))

  put_found : (p : ℕ × Value) → is_byte p.1 ≡ false → put_lies cells p ≡ true → is_between p.0 (p.0 + 1) k ≡ true → LiesInLeaf cells k
  put_found p other h inside =
      let (low, high) = and_parts (nat_le p.0 k) (nat_lt k (p.0 + 1)) inside in
      let from = leb-true p.0 k low in
      let to = ltb-true k (p.0 + 1) high in
      one_leaf p.0 (second (is_byte p.1) (list_any (has_one p.0) cells) other h) (omega (arith, from, to))

  cut_found : (r : ℕ × ℕ) → is_body r.0 ≡ false → cut_lies cells r ≡ true → is_between r.0 r.1 k ≡ true → LiesInLeaf cells k
  cut_found r other h inside =
      let (low, high) = and_parts (nat_le r.0 k) (nat_lt k r.1) inside in
      let from = leb-true r.0 k low in
      let to = ltb-true k r.1 high in
      elim (or_true (nat_le r.1 r.0) (list_any (has_all r) cells) (second (is_body r.0) _ other h)) [
        | inl none ↦ let empty = leb-true r.1 r.0 none in absurd (omega (arith, empty, from, to))
        | inr some ↦ all_leaf r some from (omega (arith, to))
      ]

  puts_found : (ps : Pairs) → list_all (put_lies cells) ps ≡ true → is_in (put_keys (filter (λ p. not (is_byte p.1)) ps)) k ≡ true → LiesInLeaf cells k
  puts_found [] all at = absurd cc
  puts_found (p ∷ ps) all at =
      let (here, more) = and_parts (put_lies cells p) (list_all (put_lies cells) ps) all in
      by_test (is_byte p.1) refl here (λ rest. puts_found ps more rest) at
    where
      by_test : (v : Bool) → is_byte p.1 ≡ v → put_lies cells p ≡ true → (is_in (put_keys (filter (λ q. not (is_byte q.1)) ps)) k ≡ true → LiesInLeaf cells k)
          → is_in (put_keys (if not v then p ∷ filter (λ q. not (is_byte q.1)) ps else filter (λ q. not (is_byte q.1)) ps)) k ≡ true → LiesInLeaf cells k
      by_test true is here more rest = more rest
      by_test false is here more rest = elim (or_true (is_between p.0 (p.0 + 1) k) (is_in (put_keys (filter (λ q. not (is_byte q.1)) ps)) k) rest) [
        | inl mine ↦ put_found p is here mine
        | inr others ↦ more others
      ]

  cuts_found : (rs : Intervals) → list_all (cut_lies cells) rs ≡ true → is_in (filter (λ r. not (is_body r.0)) rs) k ≡ true → LiesInLeaf cells k
  cuts_found [] all at = absurd cc
  cuts_found (r ∷ rs) all at =
      let (here, more) = and_parts (cut_lies cells r) (list_all (cut_lies cells) rs) all in
      by_test (is_body r.0) refl here (λ rest. cuts_found rs more rest) at
    where
      by_test : (v : Bool) → is_body r.0 ≡ v → cut_lies cells r ≡ true → (is_in (filter (λ q. not (is_body q.0)) rs) k ≡ true → LiesInLeaf cells k)
          → is_in (if not v then r ∷ filter (λ q. not (is_body q.0)) rs else filter (λ q. not (is_body q.0)) rs) k ≡ true → LiesInLeaf cells k
      by_test true is here more rest = more rest
      by_test false is here more rest = elim (or_true (is_between r.0 r.1 k) (is_in (filter (λ q. not (is_body q.0)) rs) k) rest) [
        | inl mine ↦ cut_found r is here mine
        | inr others ↦ more others
      ]

  pub lies_found : (e : Edits) → lie_in_leaves cells e ≡ true → is_in (changed (without_bytes e)) k ≡ true → LiesInLeaf cells k
  lies_found e h at =
      let (cuts, puts) = and_parts (list_all (cut_lies cells) e.cuts) (list_all (put_lies cells) e.puts) h in
      elim (or_true _ _ (sym (in_append (put_keys (without_bytes e).puts) ((without_bytes e).zeros ++ (without_bytes e).cuts) k) ∙ at)) [
        | inl put ↦ puts_found e.puts puts put
        | inr cut ↦ cuts_found e.cuts cuts cut
      ]

-- ---- blocks and leaves

whole_block : (c : CellSeen) → is_whole c ≡ true → c.level ≡ 0 → (rank c.hi ≡ rank c.lo + 4096) × (length c.block ≡ 4096)
whole_block c h level =
    let told = second (not (c.level == 0)) _ (off (c.level == 0) (eq-eqb c.level 0 level)) h in
    let (bytes, more) = and_parts (length c.block == 4096) (nat_lt (offset_of c.lo + 4096) (2 ^ 64) && (rank c.hi == rank c.lo + 4096)) told in
    let (near, range) = and_parts (nat_lt (offset_of c.lo + 4096) (2 ^ 64)) (rank c.hi == rank c.lo + 4096) more in
    (eqb-true (rank c.hi) (rank c.lo + 4096) range, eqb-true (length c.block) 4096 bytes)

pub leaf_room : (e : Edits) (c : CellSeen) → has_room e c ≡ true → c.level ≡ 1 → is_met (changed e) (rank c.lo) (rank c.hi) ≡ true → leaf_bytes (units_after None e (node_of c)) ≤ 4068
leaf_room e c h level met =
    let leaf = second (not (c.level == 1)) _ (off (c.level == 1) (eq-eqb c.level 1 level)) h in
    let told = second (not (is_met (changed e) (rank c.lo) (rank c.hi))) _ (off (is_met (changed e) (rank c.lo) (rank c.hi)) met) leaf in
    leb-true (leaf_bytes (units_after None e (node_of c))) 4068 told

-- ---- all of it

pub grown : (b : Body) (first : Key) → IsGrowing b first → (e : Edits) (f : Fresh) (cells : List CellSeen) → list_all is_whole cells ≡ true → lie_in_leaves cells e ≡ true
    → have_room (without_bytes e) cells ≡ true → f.next ≤ f.end → may_turn_all b e cells (f.end - f.next) ≡ true
    → ((c : CellSeen) → Contains (turning_among b e cells) c → ArePiecesOf c (twig_pieces c)) → MayGrow b e f cells
grown b first growing e f cells whole lie room order turns pieces =
    let (twigs, few) = and_parts (list_all (may_turn b e) (turning_among b e cells)) (nat_le (numbers_needed b e cells) (f.end - f.next)) turns in
    let enough = leb-true (numbers_needed b e cells) (f.end - f.next) few in
    record {
      first = first;
      growing = growing;
      blocks = λ c at. whole_block c (each is_whole cells whole c at);
      twigs = λ c at.
          let (among, on) = picked (is_turning b e) cells c at in
          let level = (and_parts (c.level == 2) (changes_pieces (Some b) e (node_of c)) on).0 in
          has_turn b first growing c (pieces c at) e (eqb-true c.level 2 level) (each (may_turn b e) (turning_among b e cells) twigs c at);
      lie = λ k at. lies_found cells k e lie at;
      room = λ c at. leaf_room (without_bytes e) c (each (has_room (without_bytes e)) cells room c at);
      numbers = omega (arith, order, enough);
    }

-- ---- with what is known of the part and of the budget

pub told_in : (b : Body) (e : Edits) (xs : List CellSeen) (c : CellSeen) → Contains xs c → Contains (map (coming_beside b e) xs) (coming_beside b e c)
told_in b e [] c (k, lt, is) = absurd (omega (arith, lt))
told_in b e (x ∷ xs) c at = elim (cases x c xs at) [
  | inl is ↦ (0, omega arith, ap (coming_beside b e) (sym is))
  | inr more ↦ let (k, lt, same) = told_in b e xs c more in (suc k, omega (arith, lt), same)
]

pub can_grow : (b : Body) (e : Edits) (u : Budget) (t : Store Value) (r : Root) (f : Fresh) (cells : List CellSeen) → MayGrow b e f cells → AreCellsIn t r f cells → HaveNames cells
    → AreMeasured t r u cells → IsQuietBelow u → AreUnplaced f → SufficesFor u (twigs_coming b e cells) → CanGrow b e u t r f cells
can_grow b e u t r f cells may in_part names measured quiet unplaced suffices = record {
  first = may.first;
  growing = may.growing;
  cells_in = in_part;
  names = names;
  measured = measured;
  quiet = quiet;
  blocks = may.blocks;
  twigs = λ c at. let turn = may.twigs c at in record {
    twig = turn.twig;
    clear = turn.clear;
    bytes = turn.bytes;
    come = suffices (coming_beside b e c) (told_in b e (turning_among b e cells) c at);
  };
  lie = may.lie;
  room = may.room;
  unplaced = unplaced;
  numbers = may.numbers;
}
