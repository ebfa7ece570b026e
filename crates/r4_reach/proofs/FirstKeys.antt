-- The first key of a body among intervals is one of theirs, and is a body's.
use Rattle.std.proofs.Common.{◌≡◌, ℕ, ◌<◌, Bool, true, false, [], ◌∷◌, Option, Some, None, refl, sym, ap, ◌∙◌, arith}
use Rattle.std.specs.Prelude.{nat_lt, ◌&&◌, ◌||◌, if◌then◌else◌}
use Rattle.std.proofs.lemmas.Bool.{and_parts, le-leb, lt-ltb, ltb-true, or_left, or_right}
use Rattle.std.proofs.lemmas.Option.{same_Some}
use Rattle.r4_content.specs.Edited.{Intervals, is_between, is_in}
use Rattle.r4_reach.specs.Reach.{is_body}
use Rattle.r4_reach.specs.Touched.{body_key}

starts : (a b : ℕ) → a < b → is_between a b a ≡ true
starts a b lt = rw (le-leb a a (omega arith), lt-ltb a b lt) refl

pub first_is : (rs : Intervals) (k : ℕ) → body_key rs ≡ Some k → (is_in rs k ≡ true) × (is_body k ≡ true)
first_is [] k e = absurd cc
first_is (r ∷ rs) k e = by_test (nat_lt r.0 r.1 && is_body r.0) refl e (first_is rs k)
  where
    by_test : (b : Bool) → (nat_lt r.0 r.1 && is_body r.0) ≡ b → (if b then Some r.0 else body_key rs) ≡ Some k
        → (body_key rs ≡ Some k → (is_in rs k ≡ true) × (is_body k ≡ true))
        → ((is_between r.0 r.1 k || is_in rs k) ≡ true) × (is_body k ≡ true)
    by_test true is found rest =
        let both = and_parts (nat_lt r.0 r.1) (is_body r.0) is in
        let same = same_Some r.0 k found in
        let at = starts r.0 r.1 (ltb-true r.0 r.1 both.0) in (
          or_left (is_between r.0 r.1 k) (is_in rs k) (ap (is_between r.0 r.1) (sym same) ∙ at),
          ap is_body (sym same) ∙ both.1,
        )
    by_test false is found rest =
        let (at, body) = rest found in
        (or_right (is_between r.0 r.1 k) (is_in rs k) at, body)
