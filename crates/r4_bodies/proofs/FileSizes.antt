-- The size that stands at a stat key, before and after edits.
use Rattle.std.specs.Prelude.{◌≡◌, ℕ, ◌^◌, List, [], ◌∷◌, ◌++◌, Bool, true, false, ◌||◌, ◌==◌, cond}
use Rattle.std.specs.Prelude.{map, Option, Some, None}
use Rattle.std.proofs.Common.{arith, refl, sym, ap, ◌∙◌}
use Rattle.std.specs.FinMap.{find, put}
use Rattle.std.specs.List.{flat_map, list_any}
use Rattle.std.specs.Ordering.{nat_cmp}
use Rattle.std.proofs.lemmas.Bool.{or_parts}
use Rattle.std.proofs.lemmas.Bool.Decides.{nat_tests}
use Rattle.r4_base.specs.Key.{IsKey, rank}
use Rattle.r4_base.specs.Value.{Byte, Value}
use Rattle.r4_base.specs.Volume.{IsObject, object_of, stat_rank}
use Rattle.r4_base.specs.declared.key.Key.{Key}
use Rattle.r4_content.specs.Edited.{Edits, Intervals, Pairs, is_between, is_in, put_keys}
use Rattle.r4_content.specs.Held.{edits_of, fill_pairs, interval_of, pair_of, run_pairs}
use Rattle.r4_content.specs.Listed.{list_edited, list_put}
use Rattle.r4_content.specs.Seen.{Rises}
use Rattle.r4_content.specs.declared.edits.Edits.{Edits as HeldEdits}
use Rattle.r4_content.specs.declared.edits.Interval.{Interval}
use Rattle.r4_content.proofs.EditLaws.{last_put, put_off}
use Rattle.r4_leaf_demands.specs.r4_leaf_edits.Making.{bytes_of}
use Rattle.r4_leaf_demands.specs.r4_leaf_edits.Suiting.{SuitLeaves, zero_pairs}
use Rattle.r4_leaf_demands.proofs.r4_leaf_edits.Lookups.{edited_rises, found}
use Rattle.r4_leaf_demands.proofs.r4_leaf_edits.Meant.{bytes_before}
use Rattle.r4_leaf_demands.proofs.r4_leaf_edits.Puts.{in_both, last_of_both}
use Rattle.r4_leaf_demands.proofs.r4_leaf_edits.Whole.{bodies_only, zeros_keys}
use Rattle.r4_leaf_demands.specs.r4_reach.Reach.{is_body}
use Rattle.r4_leaf_demands.specs.r4_reach.Touched.{size_in}
use Rattle.r4_leaf_demands.proofs.r4_suited.Few.{stat_off}

-- ---- values are put

abbrev only_puts : Pairs → Edits
only_puts ps = record { cuts = []; zeros = []; puts = ps }

pub put_rises : (k : ℕ) (v : Value) (s : Pairs) → Rises s → Rises (put nat_cmp k v s)
put_rises k v s r = edited_rises (only_puts ((k, v) ∷ [])) s r

at_put : (k : ℕ) (v : Value) (s : Pairs) (j : ℕ) → Rises s
    → find nat_cmp j (put nat_cmp k v s) ≡ cond (j == k) (Some v) (find nat_cmp j s)
at_put k v s j r = found (only_puts ((k, v) ∷ [])) s j r

-- the size after a value is put at the key or at another one
turned : (j k : ℕ) → (j == k) ≡ (k == j)
turned j k = grind (arith, nat_tests)

pub put_size : (k : ℕ) (v : Value) (s : Pairs) (j : ℕ) (b : Bool) → Rises s → b ≡ (k == j)
    → size_in (find nat_cmp j (put nat_cmp k v s)) ≡ cond b (size_in (Some v)) (size_in (find nat_cmp j s))
put_size k v s j b r is =
    ap size_in (at_put k v s j r ∙ ap (λ (t : Bool). cond t (Some v) (find nat_cmp j s)) (turned j k ∙ sym is))
    ∙ by_test b
  where
    by_test : (t : Bool) → size_in (cond t (Some v) (find nat_cmp j s))
        ≡ cond t (size_in (Some v)) (size_in (find nat_cmp j s))
    by_test true = refl
    by_test false = refl

-- ---- all edits

pub cut_any : (is : List Interval) (k : ℕ)
    → is_in (map interval_of is) k ≡ list_any (λ i. is_between (rank i.from) (rank i.to) k) is
cut_any [] k = refl
cut_any (i ∷ is) k = ap (λ (b : Bool). is_between (rank i.from) (rank i.to) k || b) (cut_any is k)

module _ (e : HeldEdits) (suit : SuitLeaves (2 ^ 64) (edits_of e)) (k : ℕ) (off : is_body k ≡ false) where
  abbrev zs : Pairs
  zs = flat_map zero_pairs (map interval_of e.zeros.items)

  abbrev fs : Pairs
  fs = flat_map fill_pairs e.fills.items

  abbrev rs : Pairs
  rs = flat_map run_pairs e.runs.items

  abbrev vs : Pairs
  vs = map pair_of e.puts.items

  no_byte : is_in (put_keys (zs ++ (fs ++ rs))) k ≡ false
  no_byte = bodies_only (2 ^ 64) (bytes_of e) k (bytes_before e (2 ^ 64) suit) off

  no_zero : is_in (put_keys zs) k ≡ false
  no_zero =
      (or_parts (is_in (put_keys zs) k) (is_in (put_keys (fs ++ rs)) k) (sym (in_both zs (fs ++ rs) k) ∙ no_byte)).0

  no_others : (is_in (put_keys fs) k || is_in (put_keys rs) k) ≡ false
  no_others = sym (in_both fs rs k)
      ∙ (or_parts (is_in (put_keys zs) k) (is_in (put_keys (fs ++ rs)) k) (sym (in_both zs (fs ++ rs) k) ∙ no_byte)).1

  values_alone : (o : Option Value) → last_put (fs ++ (rs ++ vs)) k o ≡ last_put vs k o
  values_alone o =
      let others = or_parts (is_in (put_keys fs) k) (is_in (put_keys rs) k) no_others in
      last_of_both fs (rs ++ vs) k o
      ∙ ap (last_put (rs ++ vs) k) (put_off fs k o others.0)
      ∙ last_of_both rs vs k o
      ∙ ap (last_put vs k) (put_off rs k o others.1)

  -- no interval of zeros has it
  zero_off : is_in (map interval_of e.zeros.items) k ≡ false
  zero_off = sym (zeros_keys (map interval_of e.zeros.items) k) ∙ no_zero

  -- what is left before values are put
  abbrev cuts : Intervals
  cuts = map interval_of e.cuts.items

  abbrev pub emptied : Pairs → Pairs
  emptied s = list_edited (record { cuts = cuts; zeros = map interval_of e.zeros.items; puts = [] }) s

  pub emptied_rises : (s : Pairs) → Rises s → Rises (emptied s)
  emptied_rises s r = edited_rises (record { cuts = cuts; zeros = map interval_of e.zeros.items; puts = [] }) s r

  pub emptied_size : (s : Pairs) (b : Bool) → Rises s → b ≡ is_in cuts k
      → size_in (find nat_cmp k (emptied s)) ≡ cond b 0 (size_in (find nat_cmp k s))
  emptied_size s b r is =
      ap size_in
      (found (record { cuts = cuts; zeros = map interval_of e.zeros.items; puts = [] }) s k r
      ∙ ap (λ (t : Bool). cond t (Some (Byte 0)) (cond (is_in cuts k) None (find nat_cmp k s))) zero_off
      ∙ ap (λ (t : Bool). cond t None (find nat_cmp k s)) (sym is))
      ∙ by_test b
    where
      by_test : (t : Bool) → size_in (cond t None (find nat_cmp k s)) ≡ cond t 0 (size_in (find nat_cmp k s))
      by_test true = refl
      by_test false = refl

  -- the bytes of fills and runs do not matter to it
  pub found_after : (s : Pairs) → Rises s
      → find nat_cmp k (list_edited (edits_of e) s) ≡ find nat_cmp k (list_put vs (emptied s))
  found_after s r =
      let rises = emptied_rises s r in
      found (only_puts (fs ++ (rs ++ vs))) (emptied s) k rises
      ∙ values_alone (find nat_cmp k (emptied s))
      ∙ sym (found (only_puts vs) (emptied s) k rises)

-- ---- the stat key of a body's key

pub object_fits : (k : Key) → IsKey k → IsObject (object_of k)
object_fits k is =
    let first = is.small 0 in
    (omega (arith, first), is.small 1, is.small 2)

pub stat_is_none : (k : Key) → IsKey k → is_body (stat_rank (object_of k)) ≡ false
stat_is_none k is = stat_off (object_of k) (object_fits k is)
