-- The first key of a body in intervals, one list behind another.
use Rattle.std.specs.Prelude.{◌≡◌, ℕ, ◌+◌, ◌-◌, ◌≤◌, List, [], ◌∷◌, ◌++◌, length, Bool, true, false}
use Rattle.std.specs.Prelude.{◌&&◌, ◌==◌}
use Rattle.std.specs.Prelude.{nat_lt, replicate, All, Option, Some, None, if◌then◌else◌}
use Rattle.std.proofs.Common.{arith, refl, sym, ap, ◌∙◌}
use Rattle.std.proofs.lemmas.Bool.{ltb-true}
use Rattle.std.proofs.lemmas.Bool.Decides.{nat_tests}
use Rattle.std.proofs.lemmas.List.{length-replicate}
use Rattle.std.proofs.lemmas.List.Elements.{All-head}
use Rattle.r4_base.specs.Key.{rank}
use Rattle.r4_base.specs.Value.{Byte}
use Rattle.r4_content.specs.Edited.{Intervals, Pairs, put_keys}
use Rattle.r4_content.specs.Held.{fill_pairs, run_pairs}
use Rattle.r4_content.specs.Objects.{byte_pairs}
use Rattle.r4_content.specs.declared.edits.ByteRun.{ByteRun}
use Rattle.r4_content.specs.declared.edits.FilledInterval.{FilledInterval}
use Rattle.r4_leaf_demands.specs.r4_leaf_edits.Suiting.{IsBefore}
use Rattle.r4_leaf_demands.proofs.r4_leaf_edits.Puts.{put_keys_append}
use Rattle.r4_leaf_demands.specs.r4_reach.Reach.{is_body}
use Rattle.r4_leaf_demands.specs.r4_reach.Touched.{body_key}
use Rattle.r4_leaf_demands.proofs.r4_suited.Suits.{first_body}

-- ---- lists of intervals

key_left : (rs ss : Intervals) (k : ℕ) → body_key rs ≡ Some k → body_key (rs ++ ss) ≡ Some k
key_left [] ss k e = absurd cc
key_left (r ∷ rs) ss k e = by_test (nat_lt r.0 r.1 && is_body r.0) e (key_left rs ss k)
  where
    by_test : (b : Bool) → (if b then Some r.0 else body_key rs) ≡ Some k
        → (body_key rs ≡ Some k → body_key (rs ++ ss) ≡ Some k)
        → (if b then Some r.0 else body_key (rs ++ ss)) ≡ Some k
    by_test true is rest = is
    by_test false is rest = rest is

key_right : (rs ss : Intervals) → body_key rs ≡ None → body_key (rs ++ ss) ≡ body_key ss
key_right [] ss e = refl
key_right (r ∷ rs) ss e = by_test (nat_lt r.0 r.1 && is_body r.0) e (key_right rs ss)
  where
    by_test : (b : Bool) → (if b then Some r.0 else body_key rs) ≡ None
        → (body_key rs ≡ None → body_key (rs ++ ss) ≡ body_key ss)
        → (if b then Some r.0 else body_key (rs ++ ss)) ≡ body_key ss
    by_test true is rest = absurd cc
    by_test false is rest = rest is

-- it is in the first list
pub here : (rs ss all : Intervals) (k : ℕ) → all ≡ rs ++ ss → body_key rs ≡ Some k → Some k ≡ body_key all
here rs ss all k is e = sym (ap body_key is ∙ key_left rs ss k e)

-- or, where the first has none, in the second
pub behind : (rs ss all : Intervals) (o : Option ℕ) → all ≡ rs ++ ss → body_key rs ≡ None → o ≡ body_key ss
    → o ≡ body_key all
behind rs ss all o is e next = next ∙ sym (ap body_key is ∙ key_right rs ss e)

pub keys_both : (ps qs all : Pairs) → all ≡ ps ++ qs → put_keys all ≡ put_keys ps ++ put_keys qs
keys_both ps qs all is = ap put_keys is ∙ put_keys_append ps qs

-- ---- bytes

bytes_first : (end a : ℕ) (xs : List ℕ) → All (IsBefore end) (byte_pairs a xs) → 1 ≤ length xs
    → body_key (put_keys (byte_pairs a xs)) ≡ Some a
bytes_first end a [] all lt = absurd (omega (arith, lt))
bytes_first end a (x ∷ xs) all lt =
    first_body a (a + 1) (put_keys (byte_pairs (a + 1) xs)) (omega arith)
    (All-head (IsBefore end) (a, Byte x) (byte_pairs (a + 1) xs) all).0

pub fill_first : (end : ℕ) (f : FilledInterval) → All (IsBefore end) (fill_pairs f)
    → nat_lt (rank f.from) (rank f.to) ≡ true → body_key (put_keys (fill_pairs f)) ≡ Some (rank f.from)
fill_first end f all e =
    let lt = ltb-true (rank f.from) (rank f.to) e in
    let many = length-replicate (rank f.to - rank f.from) f.byte in
    bytes_first end (rank f.from) (replicate (rank f.to - rank f.from) f.byte) all (omega (arith, lt, many))

pub run_first : (end : ℕ) (r : ByteRun) → All (IsBefore end) (run_pairs r) → 1 ≤ length r.bytes
    → body_key (put_keys (run_pairs r)) ≡ Some (rank r.from)
run_first end r all some = bytes_first end (rank r.from) r.bytes all some

pub some_bytes : (n : ℕ) → (n == 0) ≡ false → 1 ≤ n
some_bytes n e = grind (arith, nat_tests)
