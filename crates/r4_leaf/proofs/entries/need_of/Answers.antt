use Rattle.std.proofs.Common.{◌≡◌, ℕ, ◌≤◌, Bool, true, false, List, length, ap, arith}
use Rattle.std.specs.Prelude.{Some, None, if◌then◌else◌}
use Rattle.std.proofs.lemmas.Option.{same_Some}
use Rattle.r4_base.specs.Name.{is_long_name}
use Rattle.r4_base.proofs.Names.{is_name}
use Rattle.r4_leaf.specs.Filling.{long_of}
use Rattle.r4_leaf.proofs.entries.need_of.Goals as goal

few_bytes : (s bs : List ℕ) → length s ≤ 255 → Some bs ≡ long_of s → length bs ≤ 255
few_bytes s bs few is = by_test (is_long_name s) is
  where
    by_test : (t : Bool) → Some bs ≡ (if t then Some s else None) → length bs ≤ 255
    by_test true e = let same = ap length (same_Some bs s e) in omega (arith, same, few)
    by_test false e = absurd cc

pub overflow_cast-result : goal.overflow_cast-result
overflow_cast-result c = let h = few_bytes _ c.in-Some.bytes.now (is_name _ c.requires.legal).few c.in-Some.ensures.long in omega (arith, h)

pub overflow_add-result-in-Some-2 : goal.overflow_add-result-in-Some-2
overflow_add-result-in-Some-2 c = let h = few_bytes _ c.in-Some.bytes.now (is_name _ c.requires.legal).few c.in-Some.ensures.long in let s = c.count_need-count.ensures.small in omega (arith, h, s)

pub overflow_add-result-in-Some-3 : goal.overflow_add-result-in-Some-3
overflow_add-result-in-Some-3 c = let h = few_bytes _ c.in-Some.bytes.now (is_name _ c.requires.legal).few c.in-Some.ensures.long in let s = c.count_need-count.ensures.small in omega (arith, h, s)

pub returns-in-Some-clause-small : goal.returns-in-Some-clause-small
returns-in-Some-clause-small c = let h = few_bytes _ c.in-Some.bytes.now (is_name _ c.requires.legal).few c.in-Some.ensures.long in let s = c.count_need-count.ensures.small in omega (arith, h, s)
