-- A content with the values of another at some keys.
use Rattle.std.specs.Prelude.{◌≡◌, ℕ, List, [], ◌∷◌, ◌++◌, Bool, true, false, not, cond, Option, Some, None}
use Rattle.std.specs.Ordering.{eq_by_cmp, nat_cmp}
use Rattle.std.proofs.Common.{refl, sym, ap, ◌∙◌}
use Rattle.std.specs.FinMap.{entries, from_entries, get-entries, get-from_entries, retain_keys}
use Rattle.std.specs.FinMap.Entries.{find}
use Rattle.std.proofs.lemmas.Cmp.{nat_cmp_total}
use Rattle.r4_base.specs.Value.{Value, Content, at_key}
use Rattle.r4_content.specs.Edited.{Intervals, is_in}
use Rattle.r4_content.proofs.EditLaws.{at_retain}

-- the new values in the intervals, the old ones elsewhere
abbrev pub mixed : Intervals → (new old : Content) → Content
mixed rs new old =
    from_entries (entries (retain_keys new (is_in rs)) ++ entries (retain_keys old (λ k. not (is_in rs k))))

either : Option Value → Option Value → Option Value
either None y = y
either (Some x) y = Some x

find_both : (k : ℕ) (xs ys : List (ℕ × Value)) → find nat_cmp k (xs ++ ys)
    ≡ either (find nat_cmp k xs) (find nat_cmp k ys)
unfolding either
find_both k [] ys = refl
find_both k (e ∷ xs) ys = step (eq_by_cmp nat_cmp k e.0) (find_both k xs ys)
  where
    step : (b : Bool) → find nat_cmp k (xs ++ ys) ≡ either (find nat_cmp k xs) (find nat_cmp k ys)
        → cond b (Some e.1) (find nat_cmp k (xs ++ ys))
        ≡ either (cond b (Some e.1) (find nat_cmp k xs)) (find nat_cmp k ys)
    step true h = refl
    step false h = h

parted : (b : Bool) (x y : Option Value) → either (cond b x None) (cond (not b) y None) ≡ cond b x y
unfolding either
parted true None y = refl
parted true (Some x) y = refl
parted false x y = refl

pub at_mixed : (rs : Intervals) (new old : Content) (k : ℕ) → at_key (mixed rs new old) k
    ≡ cond (is_in rs k) (at_key new k) (at_key old k)
unfolding either
at_mixed rs new old k =
    let xs = retain_keys new (is_in rs) in
    let ys = retain_keys old (λ q. not (is_in rs q)) in
    get-from_entries nat_cmp_total (entries xs ++ entries ys) k
    ∙ find_both k (entries xs) (entries ys)
    ∙ ap (λ o. either o (find nat_cmp k (entries ys))) (sym (get-entries xs k) ∙ at_retain new (is_in rs) k)
    ∙ ap (either (cond (is_in rs k) (at_key new k) None)) (sym (get-entries ys k)
    ∙ at_retain old (λ q. not (is_in rs q)) k)
    ∙ parted (is_in rs k) (at_key new k) (at_key old k)
