-- The numbers of nodes in the place of a row.
use Rattle.std.proofs.Common.{◌≡◌, ◌∙◌, ℕ, zero, suc, ◌+◌, ◌<◌, ◌≤◌, List, [], ◌∷◌, ◌++◌, length, min, take, refl, sym, ap, subst, arith}
use Rattle.std.proofs.lemmas.List.{append-nil, append_assoc, length-append, length-take}
use Rattle.r4_cell.specs.declared.change.Fresh.{Fresh}
use Rattle.r4_path.specs.Steps.{CountUp}
use Rattle.r4_row_edit.specs.Numbers.{AddsFresh, TakesNumbers}

pub none_added : (count : ℕ) (f : Fresh) (had : List ℕ) → count ≤ length had → AddsFresh count f f had had
none_added count f had le = record {
  more = [];
  are = sym (append-nil had);
  many = omega (arith, le);
  counts = tt;
  left = let same : f.next ≡ f.next + 0 = omega arith in ap (λ n. record f { next = n }) same;
}

pub one_added : (count x : ℕ) (before mid after : Fresh) (had ids : List ℕ) → length had < count → x ≡ before.next
    → mid ≡ record before { next = before.next + 1 } → AddsFresh count mid after (had ++ x ∷ []) ids
    → AddsFresh count before after had ids
one_added count x before mid after had ids lt is next a =
    let long = length-append had (x ∷ []) in
    let many = a.many in
    record {
      more = x ∷ a.more;
      are = a.are ∙ append_assoc had (x ∷ []) a.more;
      many = omega (arith, many, long, lt);
      counts = (is, subst (λ (f : Fresh). CountUp f.next a.more) next a.counts);
      left = a.left ∙ (ap (λ (f : Fresh). record f { next = f.next + length a.more }) next
          ∙ (let sum : before.next + 1 + length a.more ≡ before.next + length (x ∷ a.more) = omega arith in
          ap (λ n. record before { next = n }) sum));
    }

pub all_added : (old : List ℕ) (count : ℕ) (before after : Fresh) (had ids : List ℕ) → had ≡ take count old
    → AddsFresh count before after had ids → TakesNumbers old count before after ids
all_added old count before after had ids is a =
    let many = a.many in
    let sum = ap length a.are in
    let both = length-append had a.more in
    let front = ap length is in
    let taken = length-take count old in
    let least = low count (length old) in
    record {
      taken = a.more;
      are = a.are ∙ ap (λ xs. xs ++ a.more) is;
      many = omega (arith, many, sum, both, front, taken, least);
      counts = a.counts;
      left = a.left;
    }
  where
    low : (a b : ℕ) → min a b ≤ a
    low a b = grind (arith)

taken_whole : (n : ℕ) (xs : List ℕ) → length xs ≤ n → take n xs ≡ xs
taken_whole zero [] le = refl
taken_whole zero (x ∷ xs) le = absurd (omega (arith, le))
taken_whole (suc n) [] le = refl
taken_whole (suc n) (x ∷ xs) le = ap (λ ys. x ∷ ys) (taken_whole n xs (omega (arith, le)))

-- so many numbers are there, the old ones first
pub all_taken : (old : List ℕ) (n : ℕ) (before after : Fresh) (ids : List ℕ) → TakesNumbers old n before after ids
    → take n ids ≡ ids
all_taken old n before after ids t = let many = t.many in taken_whole n ids (omega (arith, many))
