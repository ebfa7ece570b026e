-- A list whose numbers are of their fields' widths.
use Rattle.std.specs.Prelude.{◌≡◌, ◌^◌, ◌<◌, ℕ, [], ◌∷◌, Bool, true, false, ◌&&◌, nat_lt, Some, T, cond}
use Rattle.std.proofs.Common.{arith, refl, sym, subst, ◌∙◌}
use Rattle.std.proofs.lemmas.Grind.{common_steps}
use Rattle.std.proofs.lemmas.Option.{same_Some}
use Rattle.std.specs.FinMap.{find, from_sorted}
use Rattle.std.specs.Ordering.{eq_by_cmp, nat_cmp}
use Rattle.r4_base.specs.Key.{rank}
use Rattle.r4_base.specs.Name.{key_of_name, packed}
use Rattle.r4_base.specs.Value.{Byte, Entry, Stat, Value}
use Rattle.r4_base.specs.Volume.{stat_rank}
use Rattle.r4_content.specs.Edited.{Pairs}
use Rattle.r4_content.specs.Fields.{HasNumbers}
use Rattle.r4_content.specs.Seen.{Rises}
use Rattle.r4_content.proofs.Counting.{first_holds, second_holds}
use Rattle.r4_content.proofs.SeenLaws.{at_content, content_of}
use Rattle.r4_content_rows.specs.Conditions.{own_entry}

abbrev pub is_small : Value → Bool
is_small (Stat a) = nat_lt a.size (2 ^ 64)
is_small (Entry n t) = nat_lt t.ordering (2 ^ 64)
is_small (Byte x) = true

abbrev IsSmall : Value → Type 0
IsSmall (Stat a) = a.size < 2 ^ 64
IsSmall (Entry n t) = t.ordering < 2 ^ 64
IsSmall (Byte x) = Unit {0}

abbrev pub are_small : Pairs → Bool
are_small [] = true
are_small (e ∷ s) = is_small e.1 && are_small s

holds : (b : Bool) → T b → b ≡ true
holds true h = refl
holds false h = absurd h

is_less : (j k : ℕ) → nat_lt j k ≡ true → j < k
is_less j k h = grind (arith, common_steps)

small : (v : Value) → T (is_small v) → IsSmall v
small (Stat a) h = is_less a.size (2 ^ 64) (holds (nat_lt a.size (2 ^ 64)) h)
small (Entry n t) h = is_less t.ordering (2 ^ 64) (holds (nat_lt t.ordering (2 ^ 64)) h)
small (Byte x) h = tt

found_small : (s : Pairs) (k : ℕ) (v : Value) → T (are_small s) → find nat_cmp k s ≡ Some v → IsSmall v
found_small [] k v h e = absurd cc
found_small (p ∷ s) k v h e = split (eq_by_cmp nat_cmp k p.0)
    (found_small s k v (second_holds (is_small p.1) (are_small s) h)) e
  where
    split : (b : Bool) → (find nat_cmp k s ≡ Some v → IsSmall v) → cond b (Some p.1) (find nat_cmp k s) ≡ Some v
        → IsSmall v
    split true rest is = subst IsSmall (same_Some p.1 v is) (small p.1 (first_holds (is_small p.1) (are_small s) h))
    split false rest is = rest is

pub small_numbers : (s : Pairs) → Rises s → T (are_small s) → HasNumbers (content_of s)
small_numbers s r h = record {
  orderings = λ k n o at. found_small s k (Entry n o) h (sym (at_content s k r) ∙ at);
  sizes = λ o a there. found_small s (stat_rank o) (Stat a) h (sym (at_content s (stat_rank o) r) ∙ there.1);
}

pub own_numbers : HasNumbers (from_sorted own_entry)
unfolding content_of rank key_of_name packed
own_numbers = small_numbers own_entry tt tt
