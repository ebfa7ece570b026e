-- Edits without bytes are such as leaves can take.
use Rattle.std.proofs.Common.{◌≡◌, ℕ, ◌+◌, ◌-◌, Bool, true, false, List, [], ◌∷◌, ◌++◌, refl, sym, subst, ◌∙◌}
use Rattle.std.specs.Prelude.{All, not, if◌then◌else◌, replicate}
use Rattle.std.specs.List.{filter, flat_map}
use Rattle.std.proofs.lemmas.List.Elements.{All-filter, All-nil, filter-append}
use Rattle.r4_base.specs.Key.{rank}
use Rattle.r4_content.specs.Edited.{Edits, Pairs}
use Rattle.r4_content.specs.Held.{fill_pairs, run_pairs}
use Rattle.r4_content.specs.Objects.{byte_pairs}
use Rattle.r4_content.specs.declared.edits.ByteRun.{ByteRun}
use Rattle.r4_content.specs.declared.edits.FilledInterval.{FilledInterval}
use Rattle.r4_build.specs.r4_leaf_edits.Suiting.{AreOnce, IsBefore, IsLawfulPut, SuitLeaves, bytes_set, is_byte}
use Rattle.r4_base.specs.Value.{Value}
use Rattle.r4_extent_change.specs.Beside.{without_bytes}

-- ---- no byte is left of fills and runs

bytes_gone : (k : ℕ) (xs : List ℕ) → filter (λ (p : ℕ × Value). not (is_byte p.1)) (byte_pairs k xs) ≡ []
bytes_gone k [] = refl
bytes_gone k (x ∷ xs) = bytes_gone (k + 1) xs

fills_gone : (fs : List FilledInterval) → filter (λ (p : ℕ × Value). not (is_byte p.1)) (flat_map fill_pairs fs) ≡ []
fills_gone [] = refl
fills_gone (f ∷ fs) = filter-append (λ (p : ℕ × Value). not (is_byte p.1)) (fill_pairs f) (flat_map fill_pairs fs) ∙ (λ i. bytes_gone (rank f.from) (replicate (rank f.to - rank f.from) f.byte) i ++ fills_gone fs i)

runs_gone : (rs : List ByteRun) → filter (λ (p : ℕ × Value). not (is_byte p.1)) (flat_map run_pairs rs) ≡ []
runs_gone [] = refl
runs_gone (r ∷ rs) = filter-append (λ (p : ℕ × Value). not (is_byte p.1)) (run_pairs r) (flat_map run_pairs rs) ∙ (λ i. bytes_gone (rank r.from) r.bytes i ++ runs_gone rs i)

pub values_left : (fs : List FilledInterval) (rs : List ByteRun) (vs : Pairs)
    → filter (λ (p : ℕ × Value). not (is_byte p.1)) (flat_map fill_pairs fs ++ (flat_map run_pairs rs ++ vs)) ≡ filter (λ (p : ℕ × Value). not (is_byte p.1)) vs
values_left fs rs vs =
    filter-append (λ (p : ℕ × Value). not (is_byte p.1)) (flat_map fill_pairs fs) (flat_map run_pairs rs ++ vs)
    ∙ ((λ i. fills_gone fs i ++ filter-append (λ (p : ℕ × Value). not (is_byte p.1)) (flat_map run_pairs rs) vs i)
    ∙ (λ i. runs_gone rs i ++ filter (λ (p : ℕ × Value). not (is_byte p.1)) vs))

-- ---- they suit leaves

-- none that passes a test fails it
drop_one : {A : Type 0} (v : Bool) (p : A → Bool) (x : A) (xs : List A) → p x ≡ v → filter p xs ≡ [] → filter p (if not v then x ∷ xs else xs) ≡ []
drop_one true p x xs is rest = rest
drop_one false p x xs is rest = off (p x) is ∙ rest
  where
    off : (v : Bool) → v ≡ false → (if v then x ∷ filter p xs else filter p xs) ≡ filter p xs
    off true h = absurd cc
    off false h = refl

none_left : {A : Type 0} (p : A → Bool) (xs : List A) → filter p (filter (λ x. not (p x)) xs) ≡ []
none_left p [] = refl
none_left p (x ∷ xs) = drop_one (p x) p x (filter (λ y. not (p y)) xs) refl (none_left p xs)

none_are : (e : Edits) → bytes_set (without_bytes e) ≡ []
none_are e = none_left (λ (p : ℕ × Value). is_byte p.1) e.puts

pub suit_leaves : (end : ℕ) (e : Edits) → SuitLeaves end e → SuitLeaves 16384 (without_bytes e)
suit_leaves end e s = record {
  once = subst AreOnce (sym (none_are e)) tt;
  bytes = subst (All (IsBefore 16384)) (sym (none_are e)) (All-nil (IsBefore 16384));
  values = All-filter (λ (p : ℕ × Value). not (is_byte p.1)) IsLawfulPut e.puts s.values;
}
