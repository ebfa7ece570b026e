-- Single keys that rise, as pairs.
use Rattle.std.proofs.Common.{◌≡◌, ◌<◌, Less, ℕ, Bool, true, false, List, [], ◌∷◌, refl, subst, sym, ap, arith}
use Rattle.std.proofs.lemmas.Grind.{common_steps}
use Rattle.std.specs.Prelude.{◌&&◌, T, nat_lt}
use Rattle.std.specs.List.{flat_map, list_all}
use Rattle.std.specs.FinMap.{is_sorted}
use Rattle.std.specs.FinMap.Entries.{below_all}
use Rattle.std.specs.Ordering.{is_lt, nat_cmp}
use Rattle.std.specs.Cmp.{nat_cmp_is}
use Rattle.r4_content.specs.Edited.{Pairs}
use Rattle.std.proofs.lemmas.List.Concat.{flat_map-cons}
use Rattle.r4_base.specs.Key.{rank}
use Rattle.r4_content.specs.Held.{part_pairs}
use Rattle.r4_content.specs.Seen.{Rises}
use Rattle.r4_content.specs.declared.seen.SeenPart.{SeenPart}
use Rattle.r4_content.specs.declared.seen.SeenPart.TheVariants.{One, Run}
use Rattle.r4_content.proofs.Counting.{first_holds, second_holds}
use Rattle.r4_command_tests.specs.Rising.{is_behind, is_rising}

both : (a b : Bool) → T a → T b → T (a && b)
both true b h g = g
both false b h g = absurd h

holds : (b : Bool) → T b → b ≡ true
holds true h = refl
holds false h = absurd h

is_less : (j k : ℕ) → nat_lt j k ≡ true → j < k
is_less j k h = grind (arith, common_steps)

below : (j k : ℕ) → T (nat_lt j k) → T (is_lt (nat_cmp j k))
below j k h = subst T (ap is_lt (nat_cmp_is j k Less (is_less j k (holds (nat_lt j k) h)))) tt

none_before : (k : ℕ) (parts : List SeenPart) → T (list_all (is_behind k) parts) → T (below_all nat_cmp k (flat_map part_pairs parts))
none_before k [] h = tt
none_before k (One key v ∷ parts) h = subst (λ (es : Pairs). T (below_all nat_cmp k es)) (sym (flat_map-cons part_pairs (One key v) parts))
    (both (is_lt (nat_cmp k (rank key))) (below_all nat_cmp k (flat_map part_pairs parts)) (below k (rank key) (first_holds (nat_lt k (rank key)) (list_all (is_behind k) parts) h)) (none_before k parts (second_holds (nat_lt k (rank key)) (list_all (is_behind k) parts) h)))
none_before k (Run r ∷ parts) h = absurd h

pub parts_rise : (parts : List SeenPart) → T (is_rising parts) → Rises (flat_map part_pairs parts)
parts_rise [] h = tt
parts_rise (One key v ∷ parts) h = subst Rises (sym (flat_map-cons part_pairs (One key v) parts))
    (both (below_all nat_cmp (rank key) (flat_map part_pairs parts)) (is_sorted nat_cmp (flat_map part_pairs parts))
    (none_before (rank key) parts (first_holds (list_all (is_behind (rank key)) parts) (is_rising parts) h))
    (parts_rise parts (second_holds (list_all (is_behind (rank key)) parts) (is_rising parts) h)))
parts_rise (Run r ∷ parts) h = absurd h
