-- Bytes at one key after another, as pairs.
use Rattle.std.specs.Prelude.{◌≡◌, ℕ, suc, ◌+◌, ◌<◌, List, [], ◌∷◌, length, Bool, true, false, ◌&&◌, ◌||◌, ◌==◌, cond, Option, Some, None, T}
use Rattle.std.proofs.Common.{arith, Less, refl, sym, ap, subst, ◌∙◌}
use Rattle.std.proofs.lemmas.Bool.{eqb-true}
use Rattle.std.proofs.lemmas.Grind.{common_steps}
use Rattle.std.specs.Cmp.{nat_cmp_is, unsigned_tied}
use Rattle.std.specs.FinMap.{entries, entries-from_sorted, find, is_sorted, retain_keys}
use Rattle.std.specs.FinMap.Entries.{below_all}
use Rattle.std.specs.Ordering.{is_lt, nat_cmp}
use Rattle.r4_base.specs.Value.{Value, Byte, Content, at_key}
use Rattle.r4_content.specs.Bodies.{bytes_in}
use Rattle.r4_content.specs.Edited.{is_between, is_in, pairs_between, put_keys}
use Rattle.r4_content.specs.Objects.{byte_pairs}
use Rattle.r4_content.specs.Seen.{Rises}
use Rattle.r4_content.proofs.EditLaws.{at_retain, last_put, same_content}
use Rattle.r4_content.proofs.EditParts.{true_not_false}
use Rattle.r4_content.proofs.SeenLaws.{at_content, content_of}

one_more_key : (from n k : ℕ) → (is_between from (from + 1) k || is_between (from + 1) (from + 1 + n) k) ≡ is_between from (from + suc n) k
one_more_key from n k = grind (arith, common_steps)

no_key : (from k : ℕ) → false ≡ is_between from (from + 0) k
no_key from k = grind (arith, common_steps)

-- their keys
pub keys_in : (from : ℕ) (xs : List ℕ) (k : ℕ) → is_in (put_keys (byte_pairs from xs)) k ≡ is_between from (from + length xs) k
keys_in from [] k = no_key from k
keys_in from (x ∷ xs) k = ap (λ (b : Bool). is_between from (from + 1) k || b) (keys_in (from + 1) xs k) ∙ one_more_key from (length xs) k

first_of_them : (from n k : ℕ) → k ≡ from → (is_between (from + 1) (from + 1 + n) k ≡ false) × (is_between from (from + suc n) k ≡ true)
first_of_them from n k e = (grind (arith, common_steps), grind (arith, common_steps))

not_first : (from n k : ℕ) → (k == from) ≡ false → is_between (from + 1) (from + 1 + n) k ≡ is_between from (from + suc n) k
not_first from n k e = grind (arith, common_steps)

-- what is put is what is found
pub put_found : (from : ℕ) (xs : List ℕ) (k : ℕ) (v : Option Value) → last_put (byte_pairs from xs) k v ≡ cond (is_between from (from + length xs) k) (find nat_cmp k (byte_pairs from xs)) v
put_found from [] k v = ap (λ (b : Bool). cond b None v) (no_key from k)
put_found from (x ∷ xs) k v =
    by_first (k == from) refl (put_found (from + 1) xs k) ∙ ap (λ (b : Bool). cond (is_between from (from + suc (length xs)) k) (cond b (Some (Byte x)) (find nat_cmp k (byte_pairs (from + 1) xs))) v) (sym (unsigned_tied k from))
  where
    by_first : (b : Bool) → (k == from) ≡ b → ((w : Option Value) → last_put (byte_pairs (from + 1) xs) k w ≡ cond (is_between (from + 1) (from + 1 + length xs) k) (find nat_cmp k (byte_pairs (from + 1) xs)) w)
        → last_put (byte_pairs (from + 1) xs) k (cond b (Some (Byte x)) v) ≡ cond (is_between from (from + suc (length xs)) k) (cond b (Some (Byte x)) (find nat_cmp k (byte_pairs (from + 1) xs))) v
    by_first true e rest =
        let at = first_of_them from (length xs) k (eqb-true k from e) in
        rest (Some (Byte x)) ∙ ap (λ (b : Bool). cond b (find nat_cmp k (byte_pairs (from + 1) xs)) (Some (Byte x))) at.0 ∙ sym (ap (λ (b : Bool). cond b (Some (Byte x)) v) at.1)
    by_first false e rest = rest v ∙ ap (λ (b : Bool). cond b (find nat_cmp k (byte_pairs (from + 1) xs)) v) (not_first from (length xs) k e)

-- and there is nothing else
pub none_found : (from : ℕ) (xs : List ℕ) (k : ℕ) → is_between from (from + length xs) k ≡ false → find nat_cmp k (byte_pairs from xs) ≡ None
none_found from [] k e = refl
none_found from (x ∷ xs) k e = ap (λ (b : Bool). cond b (Some (Byte x)) (find nat_cmp k (byte_pairs (from + 1) xs))) (unsigned_tied k from) ∙ by_first (k == from) refl (none_found (from + 1) xs k)
  where
    by_first : (b : Bool) → (k == from) ≡ b → (is_between (from + 1) (from + 1 + length xs) k ≡ false → find nat_cmp k (byte_pairs (from + 1) xs) ≡ None)
        → cond b (Some (Byte x)) (find nat_cmp k (byte_pairs (from + 1) xs)) ≡ None
    by_first true h rest = absurd (true_not_false (sym (first_of_them from (length xs) k (eqb-true k from h)).1 ∙ e))
    by_first false h rest = rest (not_first from (length xs) k h ∙ e)

below_pairs : (j from : ℕ) (xs : List ℕ) → j < from → T (below_all nat_cmp j (byte_pairs from xs))
below_pairs j from [] lt = tt
below_pairs j from (x ∷ xs) lt = subst (λ (b : Bool). T (b && below_all nat_cmp j (byte_pairs (from + 1) xs))) (ap is_lt (nat_cmp_is j from Less lt)) (below_pairs j (from + 1) xs (omega arith))

pub pairs_rise : (from : ℕ) (xs : List ℕ) → Rises (byte_pairs from xs)
pairs_rise from [] = tt
pairs_rise from (x ∷ xs) = both_hold (below_all nat_cmp from (byte_pairs (from + 1) xs)) (is_sorted nat_cmp (byte_pairs (from + 1) xs)) (below_pairs from (from + 1) xs (omega arith)) (pairs_rise (from + 1) xs)
  where
    both_hold : (a b : Bool) → T a → T b → T (a && b)
    both_hold true b h g = g
    both_hold false b h g = h

pub bytes_of_pairs : (from : ℕ) (xs : List ℕ) → bytes_in (byte_pairs from xs) ≡ xs
bytes_of_pairs from [] = refl
bytes_of_pairs from (x ∷ xs) = ap (λ (ys : List ℕ). x ∷ ys) (bytes_of_pairs (from + 1) xs)

-- where a content has them, they are what stands there
pub read_pairs : (m : Content) (from : ℕ) (xs : List ℕ) → ((k : ℕ) → is_between from (from + length xs) k ≡ true → at_key m k ≡ find nat_cmp k (byte_pairs from xs)) → pairs_between m from (from + length xs) ≡ byte_pairs from xs
unfolding content_of
read_pairs m from xs h =
    ap entries (same_content (retain_keys m (is_between from (from + length xs))) (content_of (byte_pairs from xs)) (λ k.
    at_retain m (is_between from (from + length xs)) k ∙ inside k (is_between from (from + length xs) k) refl ∙ sym (at_content (byte_pairs from xs) k (pairs_rise from xs))))
    ∙ entries-from_sorted nat_cmp (byte_pairs from xs) (pairs_rise from xs)
  where
    inside : (k : ℕ) (b : Bool) → is_between from (from + length xs) k ≡ b → cond b (at_key m k) None ≡ find nat_cmp k (byte_pairs from xs)
    inside k true e = h k e
    inside k false e = sym (none_found from xs k e)
