-- A body whose keys lie in leaves stands in tails.
use Rattle.std.specs.Prelude.{◌≡◌, ℕ, zero, suc, ◌+◌, ◌-◌, ◌*◌, ◌/◌, ◌%◌, ◌^◌, ◌<◌, ◌≤◌, [], ◌∷◌, Bool, true, false}
use Rattle.std.specs.Prelude.{not, ◌&&◌, ◌||◌, nat_lt, Option, Some, None, option_map, if◌then◌else◌}
use Rattle.std.proofs.Common.{arith, inl, inr, refl, sym, ap, subst, ◌∙◌}
use Rattle.std.specs.FinMap.{find}
use Rattle.std.specs.Ordering.{nat_cmp}
use Rattle.std.proofs.lemmas.Bool.{and_parts, eq-eqb, eqb-true, ltb-true, or_left, or_right}
use Rattle.std.proofs.lemmas.Grind.{common_steps}
use Rattle.std.proofs.lemmas.Option.{same_Some}
use Rattle.r4_base.specs.Key.{key_of_rank, least, rank, top}
use Rattle.r4_base.specs.Tree.{Holds, InNode, Node, Store}
use Rattle.r4_base.specs.Value.{Value}
use Rattle.r4_base.specs.Volume.{byte_rank, object_of, stat_rank}
use Rattle.r4_content.specs.Edited.{Edits, Intervals, Pairs, changed, is_between, is_in}
use Rattle.r4_content.proofs.EditLaws.{one_key}
use Rattle.r4_leaf_demands.proofs.r4_reach.FirstKeys.{first_is}
use Rattle.r4_leaf_demands.specs.r4_reach.Reach.{is_body}
use Rattle.r4_leaf_demands.specs.r4_reach.Leaves.{LieInLeaves}
use Rattle.r4_leaf_demands.specs.r4_reach.Touched.{Body, IsKindIn, body_key, body_of, grows, has_unit, kind_reads, last_byte, shown_at}
use Rattle.r4_leaf_demands.specs.r4_reach.Touched.{size_in}
use Rattle.r4_bodies.specs.Told.{AreOfTree}

-- ---- keys of a tree

module _ (q b c : ℕ) (lb : b < 2 ^ 64) (lc : c < 2 ^ 64) where
  low_number : 657 * 2 ^ 192 + 42 * 2 ^ 64 ≤ (q * 16 + 1) * 2 ^ 192 + (b * 2 ^ 128 + (c * 2 ^ 64 + 0))
      → 657 ≤ q * 16 + 1
  low_number le = omega (arith, le, lb, lc)

  high_number : (q * 16 + 1) * 2 ^ 192 + (b * 2 ^ 128 + (c * 2 ^ 64 + 0)) < 2 ^ 256 - 1 → q < 2 ^ 60
  high_number lt = omega (arith, lt, lb, lc)

  byte_low : (n : ℕ) → 657 ≤ q * 16 + 1
      → 657 * 2 ^ 192 + 42 * 2 ^ 64 ≤ (q * 16 + 4) * 2 ^ 192 + (b * 2 ^ 128 + (c * 2 ^ 64 + n))
  byte_low n le = omega (arith, le)

  byte_high : (n : ℕ) → n < 2 ^ 64 → q < 2 ^ 60
      → (q * 16 + 4) * 2 ^ 192 + (b * 2 ^ 128 + (c * 2 ^ 64 + n)) < 2 ^ 256 - 1
  byte_high n ln lt = omega (arith, lt, lb, lc, ln)

key_low : (k q : ℕ) → k / 2 ^ 192 ≡ q * 16 + 4 → 657 ≤ q * 16 + 1 → 657 * 2 ^ 192 + 42 * 2 ^ 64 ≤ k
key_low k q is le = omega (arith, is, le)

key_high : (k q : ℕ) → k / 2 ^ 192 ≡ q * 16 + 4 → q < 2 ^ 60 → k < 2 ^ 256 - 1
key_high k q is lt = omega (arith, is, lt)

module _ (k : ℕ) (body : is_body k ≡ true) where
  head : k / 2 ^ 192 ≡ k / 2 ^ 192 / 16 * 16 + 4
  unfolding key_of_rank
  head = let four = eqb-true (k / 2 ^ 192 % 16) 4 body in omega (arith, four)

  -- where the stat key of its file is a tree's, it is one, and so are the bytes of the file
  module _ (from : least ≤ stat_rank (object_of (key_of_rank k))) (below : stat_rank (object_of (key_of_rank k)) < top)
    where
      low : 657 ≤ k / 2 ^ 192 / 16 * 16 + 1
      unfolding least rank key_of_rank
      low = low_number (k / 2 ^ 192 / 16) (k / 2 ^ 128 % 2 ^ 64) (k / 2 ^ 64 % 2 ^ 64) (omega arith) (omega arith) from

      high : k / 2 ^ 192 / 16 < 2 ^ 60
      unfolding top rank key_of_rank
      high = high_number (k / 2 ^ 192 / 16) (k / 2 ^ 128 % 2 ^ 64) (k / 2 ^ 64 % 2 ^ 64) (omega arith)
          (omega arith) below

      pub key_from : least ≤ k
      unfolding least
      key_from = key_low k (k / 2 ^ 192 / 16) head low

      pub key_below : k < top
      unfolding top
      key_below = key_high k (k / 2 ^ 192 / 16) head high

      pub byte_from : (n : ℕ) → least ≤ byte_rank (object_of (key_of_rank k)) n
      unfolding least rank key_of_rank
      byte_from n = byte_low (k / 2 ^ 192 / 16) (k / 2 ^ 128 % 2 ^ 64) (k / 2 ^ 64 % 2 ^ 64) (omega arith)
          (omega arith) n
          low

      pub byte_below : (n : ℕ) → n < 2 ^ 64 → byte_rank (object_of (key_of_rank k)) n < top
      unfolding top rank key_of_rank
      byte_below n lt = byte_high (k / 2 ^ 192 / 16) (k / 2 ^ 128 % 2 ^ 64) (k / 2 ^ 64 % 2 ^ 64) (omega arith)
          (omega arith) n lt high

-- ---- where the body stands

sized_some : (o : Option Value) (n : ℕ) → size_in o ≡ suc n → (v : Value) × (o ≡ Some v)
sized_some None n e = absurd (omega (arith, e))
sized_some (Some v) n e = (v, refl)

one_in : (k : ℕ) → is_in ((k, k + 1) ∷ []) k ≡ true
one_in k = or_left (is_between k (k + 1) k) false (one_key k k ∙ eq-eqb k k refl)

module _ (e : Edits) (s : Pairs) (t : Store Value) (k : ℕ) (found : body_key (changed e) ≡ Some k) where
  abbrev b : Body
  b = body_of e s false k

  -- a leaf has the key that tells it
  abbrev IsLeafWith : ℕ → Type 0
  IsLeafWith j = (i : ℕ) × (c : Node Value) × (t i ≡ Some c) × (c.level ≡ 1) × InNode c j

  in_leaf : (j : ℕ) → shown_at b ≡ j → IsLeafWith j → IsKindIn t (Some b)
  in_leaf j is (i, c, at, level, within) = inr (
    i,
    c,
    at,
    subst (Holds c) (sym is) (inl (omega (arith, level), within)),
    sym (ap (λ (x : Bool). not x && has_unit c (shown_at b)) (eq-eqb c.level 1 level)),
  )

  pub in_tails : b.was < 2 ^ 64 → AreOfTree s → LieInLeaves t (is_in (kind_reads (Some b))) → LieInLeaves t (is_in (changed e))
      → IsKindIn t (Some b)
  in_tails small of_tree reads changes = by_size b.was refl
    where
      first : (is_in (changed e) k ≡ true) × (is_body k ≡ true)
      first = first_is (changed e) k found

      by_growth : (g : Bool) → grows b ≡ g → least ≤ stat_rank b.file → stat_rank b.file < top → IsKindIn t (Some b)
      by_growth false g low high =
          in_leaf k (ap (λ (x : Bool). if x then last_byte b else k) g)
          (changes k first.0 (key_from k first.1 low high) (key_below k first.1 low high))
      by_growth true g low high =
          let read : kind_reads (Some b) ≡ (last_byte b, last_byte b + 1) ∷ [] = ap
          (λ (x : Bool). if x then (last_byte b, last_byte b + 1) ∷ [] else []) g in
          in_leaf (last_byte b) (ap (λ (x : Bool). if x then last_byte b else k) g)
          (reads (last_byte b) (ap (λ (rs : Intervals). is_in rs (last_byte b)) read ∙ one_in (last_byte b))
          (byte_from k first.1 low high (b.was - 1)) (byte_below k first.1 low high (b.was - 1)
          (omega (arith, small))))

      by_size : (n : ℕ) → b.was ≡ n → IsKindIn t (Some b)
      by_size zero is = inl (is, refl)
      by_size (suc n) is =
          let (v, at) = sized_some (find nat_cmp (stat_rank b.file) s) n is in
          let (low, high) = of_tree (stat_rank b.file) v at in
          by_growth (grows b) refl low high

-- the body that the edits change
pub told_in_tails : (e : Edits) (s : Pairs) (t : Store Value) (b : Body)
    → Some b ≡ option_map (body_of e s false) (body_key (changed e)) → b.was < 2 ^ 64 → AreOfTree s
    → LieInLeaves t (is_in (kind_reads (Some b))) → LieInLeaves t (is_in (changed e))
    → IsKindIn t (option_map (body_of e s false) (body_key (changed e)))
told_in_tails e s t b told small of_tree reads changes = by_key (body_key (changed e)) refl
  where
    by_key : (o : Option ℕ) → body_key (changed e) ≡ o
        → IsKindIn t (option_map (body_of e s false) (body_key (changed e)))
    by_key None found = subst (λ (o : Option ℕ). IsKindIn t (option_map (body_of e s false) o)) (sym found) tt
    by_key (Some k) found =
        let same = same_Some b (body_of e s false k) (told ∙ ap (option_map (body_of e s false)) found) in
        subst (λ (o : Option ℕ). IsKindIn t (option_map (body_of e s false) o)) (sym found)
        (in_tails e s t k found (subst (λ (x : Body). x.was < 2 ^ 64) same small) of_tree
        (subst (λ (x : Body). LieInLeaves t (is_in (kind_reads (Some x)))) same reads) changes)
