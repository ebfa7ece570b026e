-- What is found at a key of what was seen.
use Rattle.std.proofs.Common.{◌≡◌, ◌≢◌, ◌+◌, ℕ, Bool, true, false, cond, List, [], ◌∷◌, ◌++◌, refl, sym, ◌∙◌, ap, subst, arith}
use Rattle.std.specs.Prelude.{◌==◌, Option, Some, None}
use Rattle.std.specs.List.{flat_map}
use Rattle.std.specs.FinMap.{find, is_sorted}
use Rattle.std.specs.FinMap.Entries.{below_all}
use Rattle.std.specs.Ordering.{nat_cmp}
use Rattle.std.proofs.lemmas.List.Concat.{flat_map-cons}
use Rattle.r4_base.specs.Key.{rank}
use Rattle.r4_base.specs.Value.{Value, Stat, Entry, Byte, value_of}
use Rattle.r4_content.specs.Edited.{Pairs}
use Rattle.r4_content.specs.Held.{part_pairs, run_pairs}
use Rattle.r4_content.specs.Objects.{byte_pairs}
use Rattle.r4_content.specs.Seen.{Rises}
use Rattle.r4_content.specs.Walk.{attr_in}
use Rattle.r4_content.specs.Ways.{entry_in}
use Rattle.r4_content.specs.declared.seen.SeenPart.{SeenPart}
use Rattle.r4_content.specs.declared.seen.SeenPart.TheVariants.{One, Run}
use Rattle.r4_dir.specs.Finding.{IsNoneOrByte, one_at}
use Rattle.std.specs.Cmp.{unsigned_tied}
use Rattle.std.proofs.lemmas.Bool.{ne_eqb}
use Rattle.std.proofs.lemmas.Bool.Decides.{nat_tests}
use Rattle.r4_content.proofs.Counting.{first_holds, none_below, second_holds}

not_none : (v : Value) → None ≡ Some v → ⊥
not_none v e = cc

-- keys before the one that is looked for are passed
skip : (es fs : Pairs) (k : ℕ) (v : Value) → Rises (es ++ fs) → find nat_cmp k fs ≡ Some v → find nat_cmp k (es ++ fs) ≡ Some v
skip [] fs k v r is = is
skip (e ∷ es) fs k v r is =
    let rest = skip es fs k v (second_holds (below_all nat_cmp e.0 (es ++ fs)) (is_sorted nat_cmp (es ++ fs)) r) is in
    let other : k ≢ e.0 = λ same. not_none v (sym (none_below k e.0 (es ++ fs) (omega (arith, same)) (first_holds (below_all nat_cmp e.0 (es ++ fs)) (is_sorted nat_cmp (es ++ fs)) r)) ∙ rest) in
    ap (λ (b : Bool). cond b (Some e.1) (find nat_cmp k (es ++ fs))) (unsigned_tied k e.0 ∙ ne_eqb k e.0 other) ∙ rest

pairs_are : (p : SeenPart) (parts : List SeenPart) → flat_map part_pairs (p ∷ parts) ≡ part_pairs p ++ flat_map part_pairs parts
pairs_are p parts = flat_map-cons part_pairs p parts

tied : (j k : ℕ) → (j == k) ≡ (k == j)
tied j k = grind (arith, nat_tests)

one_pair : (k j : ℕ) (u : Value) (es : Pairs) → find nat_cmp k ((j, u) ∷ es) ≡ cond (j == k) (Some u) (find nat_cmp k es)
one_pair k j u es = ap (λ (b : Bool). cond b (Some u) (find nat_cmp k es)) (unsigned_tied k j ∙ tied k j)

rest_rises : (es fs : Pairs) → Rises (es ++ fs) → Rises fs
rest_rises [] fs r = r
rest_rises (e ∷ es) fs r = rest_rises es fs (second_holds (below_all nat_cmp e.0 (es ++ fs)) (is_sorted nat_cmp (es ++ fs)) r)

-- where one was seen at a key, that is found
pub one_found : (parts : List SeenPart) (k : ℕ) (v : Value) → Rises (flat_map part_pairs parts) → one_at parts k ≡ Some v → find nat_cmp k (flat_map part_pairs parts) ≡ Some v
one_found [] k v r is = absurd (not_none v is)
one_found (One key u ∷ parts) k v r is =
    let all = pairs_are (One key u) parts in
    let rises = subst Rises all r in
    ap (find nat_cmp k) all ∙ one_pair k (rank key) (value_of u) (flat_map part_pairs parts)
    ∙ by_test (rank key == k) is (one_found parts k v (rest_rises ((rank key, value_of u) ∷ []) (flat_map part_pairs parts) rises))
  where
    by_test : (b : Bool) → cond b (Some (value_of u)) (one_at parts k) ≡ Some v → (one_at parts k ≡ Some v → find nat_cmp k (flat_map part_pairs parts) ≡ Some v) → cond b (Some (value_of u)) (find nat_cmp k (flat_map part_pairs parts)) ≡ Some v
    by_test true e go = e
    by_test false e go = go e
one_found (Run run ∷ parts) k v r is =
    let all = pairs_are (Run run) parts in
    let rises = subst Rises all r in
    ap (find nat_cmp k) all ∙ skip (run_pairs run) (flat_map part_pairs parts) k v rises (one_found parts k v (rest_rises (run_pairs run) (flat_map part_pairs parts) rises) is)

-- in a run there are bytes alone
bytes_found : (from : ℕ) (xs : List ℕ) (k : ℕ) (es : Pairs) → IsNoneOrByte (find nat_cmp k es) → IsNoneOrByte (find nat_cmp k (byte_pairs from xs ++ es))
bytes_found from [] k es none = none
bytes_found from (x ∷ xs) k es none = subst IsNoneOrByte (sym (one_pair k from (Byte x) (byte_pairs (from + 1) xs ++ es))) (by_test (from == k) (bytes_found (from + 1) xs k es none))
  where
    by_test : (b : Bool) → IsNoneOrByte (find nat_cmp k (byte_pairs (from + 1) xs ++ es)) → IsNoneOrByte (cond b (Some (Byte x)) (find nat_cmp k (byte_pairs (from + 1) xs ++ es)))
    by_test true rest = tt
    by_test false rest = rest

-- where none was seen at a key, a byte of a run may be found
pub none_found : (parts : List SeenPart) (k : ℕ) → one_at parts k ≡ None → IsNoneOrByte (find nat_cmp k (flat_map part_pairs parts))
none_found [] k is = tt
none_found (One key u ∷ parts) k is =
    subst (λ (es : Pairs). IsNoneOrByte (find nat_cmp k es)) (sym (pairs_are (One key u) parts)) (subst IsNoneOrByte (sym (one_pair k (rank key) (value_of u) (flat_map part_pairs parts))) (by_test (rank key == k) is (none_found parts k)))
  where
    by_test : (b : Bool) → cond b (Some (value_of u)) (one_at parts k) ≡ None → (one_at parts k ≡ None → IsNoneOrByte (find nat_cmp k (flat_map part_pairs parts))) → IsNoneOrByte (cond b (Some (value_of u)) (find nat_cmp k (flat_map part_pairs parts)))
    by_test true e go = absurd (not_none (value_of u) (sym e))
    by_test false e go = go e
none_found (Run run ∷ parts) k is =
    subst (λ (es : Pairs). IsNoneOrByte (find nat_cmp k es)) (sym (pairs_are (Run run) parts)) (bytes_found (rank run.from) run.bytes k (flat_map part_pairs parts) (none_found parts k is))

-- ---- as attributes and as entries

pub no_attr : (o : Option Value) → IsNoneOrByte o → attr_in o ≡ None
no_attr None h = refl
no_attr (Some (Stat a)) h = absurd h
no_attr (Some (Entry n t)) h = absurd h
no_attr (Some (Byte x)) h = refl

pub no_entry : (o : Option Value) → IsNoneOrByte o → entry_in o ≡ None
no_entry None h = refl
no_entry (Some (Stat a)) h = absurd h
no_entry (Some (Entry n t)) h = absurd h
no_entry (Some (Byte x)) h = refl
