-- Which entries are swept.
use Rattle.std.proofs.Common.{◌≡◌, ℕ, Bool, true, false, ◌||◌, cond, List, [], ◌∷◌, refl, sym, ap, ◌∙◌}
use Rattle.std.specs.Prelude.{Option, Some, None, is_some, filter, nat_eq, ◌==◌}
use Rattle.std.specs.Cmp.{nat_eq_equiv}
use Rattle.std.specs.List.{list_any, IsDistinct}
use Rattle.std.specs.Map.{keys_of}
use Rattle.std.proofs.lemmas.Bool.{eq-eqb, eqb-true}
use Rattle.std.proofs.lemmas.Map.Entries.{lookup-filter-values, option_filter}
use Rattle.std.proofs.lemmas.Map.Made.{is_some-lookup}
use Rattle.r4_buffer.specs.Seen.{BufferSeen, EntrySeen, buffered, is_loose}
use Rattle.r4_buffer.specs.Changed.{dropped, in_turn, swept}

same_test : (k i : ℕ) → (k == i) ≡ nat_eq i k
same_test k i = by_test (k == i) (i == k) refl refl
  where
    by_test : (t u : Bool) → (k == i) ≡ t → (i == k) ≡ u → t ≡ u
    by_test true true a b = refl
    by_test false false a b = refl
    by_test true false a b = sym (eq-eqb i k (sym (eqb-true _ _ a))) ∙ b
    by_test false true a b = sym a ∙ eq-eqb k i (sym (eqb-true _ _ b))

abbrev nothing : Option EntrySeen
nothing = None

none_stays : (ids : List ℕ) (i : ℕ) → in_turn dropped ids i nothing ≡ nothing
none_stays [] i = refl
none_stays (k ∷ ids) i = ap (λ (o : Option EntrySeen). in_turn dropped ids i o) (one (k == i)) ∙ none_stays ids i
  where
    one : (t : Bool) → cond t nothing nothing ≡ nothing
    one true = refl
    one false = refl

dropped_is : (ids : List ℕ) (i : ℕ) (o : Option EntrySeen) → in_turn dropped ids i o ≡ cond (list_any (nat_eq i) ids) None o
dropped_is [] i o = refl
dropped_is (k ∷ ids) i o = ap (λ (t : Bool). in_turn dropped ids i (cond t None o)) (same_test k i) ∙ one (nat_eq i k) (dropped_is ids i o)
  where
    one : (t : Bool) → in_turn dropped ids i o ≡ cond (list_any (nat_eq i) ids) None o → in_turn dropped ids i (cond t None o) ≡ cond (t || list_any (nat_eq i) ids) None o
    one true rest = none_stays ids i
    one false rest = rest

pub swept_is : (b : BufferSeen) → IsDistinct nat_eq (keys_of b.entries) → (i : ℕ) → in_turn dropped (keys_of (filter (λ e. is_loose b e.1) b.entries)) i (buffered b i) ≡ swept b (buffered b i)
swept_is b unique i =
    let fs = filter (λ (e : ℕ × EntrySeen). is_loose b e.1) b.entries in
    dropped_is (keys_of fs) i (buffered b i)
    ∙ ap (λ (t : Bool). cond t None (buffered b i)) (sym (is_some-lookup (nat_eq i) fs) ∙ ap (λ (o : Option EntrySeen). is_some o) (lookup-filter-values nat_eq_equiv (is_loose b) i b.entries unique))
    ∙ by_entry (buffered b i)
  where
    by_loose : (e : EntrySeen) (t : Bool) → is_loose b e ≡ t → cond (is_some (cond t (Some e) None)) None (Some e) ≡ cond t None (Some e)
    by_loose e true is = refl
    by_loose e false is = refl

    by_entry : (o : Option EntrySeen) → cond (is_some (option_filter (is_loose b) o)) None o ≡ swept b o
    by_entry None = refl
    by_entry (Some e) = by_loose e (is_loose b e) refl
