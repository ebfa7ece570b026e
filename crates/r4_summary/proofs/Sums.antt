-- The sums over the parts that are kept.
use Rattle.std.specs.Prelude.{◌≡◌, ℕ, ◌+◌, ◌^◌, ◌≤◌, ◌<◌, List, [], ◌∷◌, All, cond, drop, length, sum_by}
use Rattle.std.proofs.Common.{arith, refl, sym, ap, ◌∙◌}
use Rattle.std.proofs.lemmas.List.Concat.{flat_map-cons}
use Rattle.std.proofs.lemmas.List.Elements.{All-head, All-tail}
use Rattle.std.proofs.lemmas.Grind.{common_steps}
use Rattle.std.proofs.lemmas.List.{drop_all}
use Rattle.std.proofs.lemmas.List.Sums.{sum_by-cons}
use Rattle.r4_base.specs.Key.{rank}
use Rattle.r4_base.specs.declared.key.Key.{Key}
use Rattle.r4_base.specs.declared.values.Value.{Value as HeldValue}
use Rattle.std.specs.FinMap.{entries}
use Rattle.r4_base.specs.Value.{Value, Stat, Entry, Byte, Content, value_of}
use Rattle.r4_base.specs.Volume.{is_stat_value, objects_in}
use Rattle.r4_content.specs.Edited.{Pairs}
use Rattle.r4_content.specs.Held.{part_pairs}
use Rattle.r4_content.specs.declared.seen.SeenPart.{SeenPart}
use Rattle.r4_content.specs.declared.seen.SeenPart.TheVariants.{One, Run}
use Rattle.r4_summary.specs.Kept.{IsOne, Keeps, pairs_in, without_bytes}
use Rattle.r4_summary.specs.Totals.{bytes_in, counted, file_size, refused_one, size_in, stats_in}
use Rattle.r4_trace.specs.declared.entry.Entry.{Entry as TraceEntry}
use Rattle.r4_trace.specs.declared.entry.Entry.TheVariants.{Begin, Fuse, Done, Refused, Ended, Sealed, Committed, Acked, Broken}

abbrev objects_among : Pairs → ℕ
objects_among s = sum_by (λ u. cond (is_stat_value u.1) 1 0) s

abbrev bytes_among : Pairs → ℕ
bytes_among s = sum_by (λ u. file_size u.1) s

-- a sum to which bytes add nothing
without : (f : Value → ℕ) (s : Pairs) → ((x : ℕ) → f (Byte x) ≡ 0) → sum_by (λ u. f u.1) (without_bytes s) ≡ sum_by (λ u. f u.1) s
without f [] h = refl
without f ((k, Stat a) ∷ s) h = sum_by-cons (λ u. f u.1) (k, Stat a) (without_bytes s) ∙ ap (λ n. f (Stat a) + n) (without f s h) ∙ sym (sum_by-cons (λ u. f u.1) (k, Stat a) s)
without f ((k, Entry n o) ∷ s) h = sum_by-cons (λ u. f u.1) (k, Entry n o) (without_bytes s) ∙ ap (λ q. f (Entry n o) + q) (without f s h) ∙ sym (sum_by-cons (λ u. f u.1) (k, Entry n o) s)
without f ((k, Byte x) ∷ s) h =
    let rest = without f s h in
    let first = sum_by-cons (λ (u : ℕ × Value). f u.1) (k, Byte x) s in
    let nothing = h x in
    omega (arith, rest, first, nothing)

-- a sum over parts
of_parts : (f : Value → ℕ) (g : SeenPart → ℕ) → ((k : Key) (v : HeldValue) → g (One k v) ≡ f (value_of v)) → (ps : List SeenPart) → All IsOne ps → sum_by g ps ≡ sum_by (λ u. f u.1) (pairs_in ps)
of_parts f g h [] ones = refl
of_parts f g h (One k v ∷ ps) ones =
    sum_by-cons g (One k v) ps ∙ ap (λ n. n + sum_by g ps) (h k v) ∙ ap (λ n. f (value_of v) + n) (of_parts f g h ps (All-tail IsOne (One k v) ps ones))
    ∙ sym (ap (sum_by (λ u. f u.1)) (flat_map-cons part_pairs (One k v) ps) ∙ sum_by-cons (λ u. f u.1) (rank k, value_of v) (pairs_in ps))
of_parts f g h (Run r ∷ ps) ones = absurd (All-head IsOne (Run r) ps ones)

pub objects_summed : (ps : List SeenPart) (m : Content) → Keeps ps m → sum_by stats_in ps ≡ objects_in m
objects_summed ps m h =
    of_parts (λ v. cond (is_stat_value v) 1 0) stats_in (λ k v. refl) ps h.kept.ones ∙ ap objects_among h.pairs
    ∙ without (λ v. cond (is_stat_value v) 1 0) (entries m) (λ x. refl)

pub bytes_summed : (ps : List SeenPart) (m : Content) → Keeps ps m → sum_by size_in ps ≡ bytes_in m
bytes_summed ps m h = of_parts file_size size_in (λ k v. refl) ps h.kept.ones ∙ ap bytes_among h.pairs ∙ without file_size (entries m) (λ x. refl)

-- a count that does not stand still yet is the whole
at_most : (b : ℕ) → b < 2 ^ 64 → counted (b + 0) ≡ b
at_most b lt = grind (arith, common_steps)

pub all_counted : {A : Type 0} (f : A → ℕ) (xs : List A) (i b : ℕ) → length xs ≤ i → b < 2 ^ 64 → counted (b + sum_by f (drop i xs)) ≡ counted (sum_by f xs) → b ≡ counted (sum_by f xs)
all_counted f xs i b le lt e = sym (ap (λ ys. counted (b + sum_by f ys)) (drop_all i xs le) ∙ at_most b lt) ∙ e

pub one_at_most : (e : TraceEntry) → refused_one e ≤ 1
one_at_most (Begin txn script) = omega arith
one_at_most (Fuse kept gone node) = omega arith
one_at_most (Done txn script index command reply) = omega arith
one_at_most (Refused txn script index reply) = omega arith
one_at_most (Ended txn) = omega arith
one_at_most (Sealed atom) = omega arith
one_at_most (Committed atom clock) = omega arith
one_at_most (Acked script txn clock) = omega arith
one_at_most (Broken clock faults) = omega arith
