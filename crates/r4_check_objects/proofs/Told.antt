-- The faults of ids, one after the other.
use Rattle.std.proofs.Common.{◌≡◌, ℕ, ◌+◌, ◌^◌, ◌<◌, ◌≤◌, ◌==◌, Bool, true, false, cond, ◌&&◌, List, [], ◌∷◌, ◌++◌, length, map, sym, ap, ◌∙◌, append_assoc, arith}
use Rattle.std.specs.Prelude.{nat_le, sum_by}
use Rattle.std.specs.List.{flat_map}
use Rattle.std.proofs.lemmas.Bool.{eq-eqb}
use Rattle.std.proofs.lemmas.List.{map-append}
use Rattle.std.proofs.lemmas.List.Sums.{sum_by-cons}
use Rattle.r4_check_objects.specs.Faults.{fault_at}
use Rattle.r4_check_objects.specs.Held.{counted, id_of}
use Rattle.r4_check_objects.specs.Objects.{body_fits, names_one, once, share_under, size_fits, sum_of, what_if}
use Rattle.r4_check_objects.specs.declared.fault.Fault.{Fault}
use Rattle.r4_check_objects.specs.declared.fault.What.{What}
use Rattle.r4_check_objects.specs.declared.held.Facts.{Facts}
use Rattle.r4_check_objects.specs.declared.held.Held.{Held}
use Rattle.r4_check_objects.specs.declared.sums.Part.TheVariants.{Entries, Past, Tails, Blocks}

pub four_more : (g : What → Fault) (a b c d : List What) (v w x y z : List Fault) → w ≡ v ++ map g a → x ≡ w ++ map g b → y ≡ x ++ map g c → z ≡ y ++ map g d → z ≡ v ++ map g (a ++ (b ++ (c ++ d)))
four_more g a b c d v w x y z first second third fourth =
    fourth ∙ ap (λ (l : List Fault). l ++ map g d) (third ∙ ap (λ (l : List Fault). l ++ map g c) (second ∙ ap (λ (l : List Fault). l ++ map g b) first))
    ∙ append_assoc ((v ++ map g a) ++ map g b) (map g c) (map g d) ∙ append_assoc (v ++ map g a) (map g b) (map g c ++ map g d) ∙ append_assoc v (map g a) (map g b ++ (map g c ++ map g d))
    ∙ sym (ap (λ (l : List Fault). v ++ l) (map-append g a (b ++ (c ++ d)) ∙ ap (λ (l : List Fault). map g a ++ l) (map-append g b (c ++ d) ∙ ap (λ (l : List Fault). map g b ++ l) (map-append g c d))))

-- where the block and what is wrong are told by equations
pub one_told : (b c : ℕ) (w v : Bool) (what : What) (x y : List Fault) → y ≡ x ++ map (fault_at b) (what_if w what) → b ≡ c → w ≡ v → y ≡ x ++ map (fault_at c) (what_if v what)
one_told b c w v what x y is block wrong = is ∙ ap (λ (n : ℕ). x ++ map (fault_at n) (what_if w what)) block ∙ ap (λ (t : Bool). x ++ map (fault_at c) (what_if t what)) wrong

-- an id more is told
pub id_told : (f : ℕ → List Fault) (old new all : List Fault) (id : ℕ) (ids rest : List ℕ) → ids ≡ id ∷ rest → old ++ flat_map f ids ≡ all → new ≡ old ++ f id → new ++ flat_map f rest ≡ all
id_told f old new all id ids rest is so_far told = ap (λ (l : List Fault). l ++ flat_map f rest) told ∙ append_assoc old (f id) (flat_map f rest) ∙ ap (λ (l : List ℕ). old ++ flat_map f l) (sym is) ∙ so_far

-- ---- counts are at most as many as the things

sum_small : (f : Held → ℕ) → ((h : Held) → f h ≤ 1) → (xs : List Held) → sum_by f xs ≤ length xs
sum_small f small [] = omega arith
sum_small f small (x ∷ xs) = omega (arith, sum_by-cons f x xs, small x, sum_small f small xs)

one_at_most : (t b : Bool) → cond t (once b) 0 ≤ 1
one_at_most true true = omega arith
one_at_most true false = omega arith
one_at_most false b = omega arith

pub few_entries : (found : List Held) (q : ℕ) → length found < 2 ^ 64 → counted (sum_of Entries found q) ≡ sum_of Entries found q
unfolding sum_of
few_entries found q few = let small = sum_small (share_under Entries found q) (λ h. one_at_most (id_of h == q) (names_one (λ t. true) h)) found in omega (arith, few, small)

pub directory_size : (found : List Held) (q : ℕ) (f : Facts) → f.bytes ≡ f.size → f.directory ≡ true → size_fits found q f ≡ (f.size == sum_of Entries found q)
directory_size found q f same directory =
    ap (λ (t : Bool). t && cond f.directory (f.size == sum_of Entries found q) (nat_le f.size 1073741824 && sum_of Past found q == 0 && body_fits f.size (sum_of Tails found q) (sum_of Blocks found q))) (eq-eqb f.bytes f.size same)
    ∙ ap (λ (t : Bool). cond t (f.size == sum_of Entries found q) (nat_le f.size 1073741824 && sum_of Past found q == 0 && body_fits f.size (sum_of Tails found q) (sum_of Blocks found q))) directory
