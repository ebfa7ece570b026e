-- Sums under ids, one more thing at a time.
use Rattle.std.proofs.Common.{◌≡◌, ◌⊎◌, inl, inr, ℕ, ◌+◌, ◌==◌, Bool, true, false, cond, List, [], ◌∷◌, ◌++◌, refl, sym, ap, ◌∙◌, arith}
use Rattle.std.specs.Prelude.{sum_by}
use Rattle.std.proofs.lemmas.Bool.{cases_eq, eq-eqb}
use Rattle.std.proofs.lemmas.Bool.Decides.{nat_tests}
use Rattle.std.proofs.lemmas.List.Sums.{sum_by_push}
use Rattle.r4_check_objects.specs.Held.{counted}
use Rattle.r4_check_objects.specs.Known.{AddsUnder, AreSums, AreSumsOf}
use Rattle.r4_check_objects.specs.Objects.{place_of, share_of, share_under, sum_of}
use Rattle.r4_check_objects.specs.declared.held.Held.{Held}
use Rattle.r4_check_objects.specs.declared.sums.Part.{Part}
use Rattle.r4_check_objects.specs.Table.{value_at}
use Rattle.r4_check_objects.specs.declared.table.Table.{Table}

pub no_sums : (part : Part) (found : List Held) (sums : Table ℕ) → ((q : ℕ) → value_at sums q ≡ 0) → AreSumsOf part found [] sums
no_sums _ found sums none = record { each = none }

pub sums_at_end : (part : Part) (found : List Held) (sums : Table ℕ) → AreSumsOf part found found sums → AreSums part found sums
unfolding sum_of
sums_at_end _ found sums s = record { each = s.each }

-- ---- a number is added

if_not : (t : Bool) (w o : ℕ) → t ≡ false → cond t w o ≡ o
if_not t w o is = ap (λ (x : Bool). cond x w o) is

if_so : (t : Bool) (w o : ℕ) → t ≡ true → cond t w o ≡ w
if_so t w o is = ap (λ (x : Bool). cond x w o) is

pub adds_under : (id more sum : ℕ) (old new : Table ℕ) → sum ≡ counted (value_at old id + more)
    → ((q : ℕ) → value_at new q ≡ cond (id == q) sum (value_at old q)) → AddsUnder id more old new
adds_under id more sum old new is u = record {
  here = u id ∙ if_so (id == id) sum (value_at old id) (eq-eqb id id refl) ∙ is;
  others = λ q other. let no_more : (id == q) ≡ false = grind (arith, nat_tests) in u q ∙ if_not (id == q) sum (value_at old q) no_more;
}

-- ---- one thing more

counts_on : (n more : ℕ) → counted (counted n + more) ≡ counted (n + more)
counts_on n more = omega arith

module _ (part : Part) (found before : List Held) (h : Held) (now : Table ℕ) (so_far : AreSumsOf part found before now) where
  step : (q : ℕ) → sum_by (share_under part found q) (before ++ h ∷ []) ≡ sum_by (share_under part found q) before + share_under part found q h
  step q = sum_by_push (share_under part found q) before h

  here_is : (q : ℕ) (t : Bool) → (place_of part h == q) ≡ t → share_under part found q h ≡ cond t (share_of part found h) 0
  here_is q t is = ap (λ (b : Bool). cond b (share_of part found h) 0) is

  pub summed_more : (id more : ℕ) (new : Table ℕ) → id ≡ place_of part h → more ≡ share_of part found h → AddsUnder id more now new → AreSumsOf part found (before ++ h ∷ []) new
  summed_more id more new place share a = record { each = λ q. each q (cases_eq q id) }
    where
      each : (q : ℕ) → (q ≡ id) ⊎ (q ≡ id → ⊥) → value_at new q ≡ counted (sum_by (share_under part found q) (before ++ h ∷ []))
      each q (inl here) =
          let mine : (place_of part h == q) ≡ true = eq-eqb _ _ (sym (here ∙ place)) in
          ap (value_at new) here ∙ a.here ∙ ap (λ (x : ℕ). counted (value_at now x + more)) (sym here) ∙ ap (λ (x : ℕ). counted (x + more)) (so_far.each q) ∙ counts_on (sum_by (share_under part found q) before) more
          ∙ ap (λ (x : ℕ). counted (sum_by (share_under part found q) before + x)) (share ∙ sym (here_is q true mine)) ∙ ap counted (sym (step q))
      each q (inr other) =
          let theirs : (place_of part h == q) ≡ false = let o = other in let p = place in grind (arith, nat_tests) in
          let e : sum_by (share_under part found q) before ≡ sum_by (share_under part found q) (before ++ h ∷ []) = omega (arith, step q, here_is q false theirs) in
          a.others q other ∙ so_far.each q ∙ ap counted e
