-- What is left of a command's edits in leaves where its body stands in extents afterwards: few.
use Rattle.std.specs.Prelude.{◌≡◌, ℕ, ◌+◌, ◌^◌, ◌≤◌, List, [], ◌∷◌, ◌++◌, length, Bool, true, false, not, ◌==◌}
use Rattle.std.specs.Prelude.{nat_lt, cond, All}
use Rattle.std.proofs.Common.{arith, inl, inr, refl, sym, ap, subst, ◌∙◌}
use Rattle.std.specs.List.{filter}
use Rattle.std.proofs.lemmas.List.Elements.{All-filter, filter-append}
use Rattle.r4_base.specs.Value.{Byte}
use Rattle.r4_base.specs.Volume.{IsObject, byte_rank}
use Rattle.r4_base.specs.declared.items.Target.{Target}
use Rattle.r4_content.specs.Bodies.{larger}
use Rattle.r4_content.specs.Edited.{Edits, Intervals, Pairs, and_also}
use Rattle.r4_content.specs.Objects.{Object, byte_pairs, set_body}
use Rattle.r4_content.proofs.Ranks.{byte_after}
use Rattle.r4_leaf_edits.specs.r4_reach.Reach.{is_body}
use Rattle.r4_suited.proofs.Few.{AreFew, IsHere, IsValue}
use Rattle.r4_suited.proofs.Runs.{byte_body, gap_on, gap_puts, size_on, sized_by}
use Rattle.r4_suited.proofs.Suits.{size_few}
use Rattle.r4_suited.proofs.Walked.{AreMade}

-- the keys of a body go, and what is put at a body's key does not come
abbrev pub without_body : ℕ × ℕ → Edits → Edits
without_body keys e = record { cuts = keys ∷ e.cuts; zeros = []; puts = filter (λ p. not (is_body p.0)) e.puts }

filter_shorter : (ps : Pairs) → length (filter (λ p. not (is_body p.0)) ps) ≤ length ps
filter_shorter [] = omega arith
filter_shorter (p ∷ ps) = by_test (not (is_body p.0)) (filter_shorter ps)
  where
    by_test : (t : Bool) → length (filter (λ q. not (is_body q.0)) ps) ≤ length ps
        → length (cond t (p ∷ filter (λ q. not (is_body q.0)) ps) (filter (λ q. not (is_body q.0)) ps)) ≤ length
        (p ∷ ps)
    by_test true h = omega (arith, h)
    by_test false h = omega (arith, h)

few_left : (n m : ℕ) (keys : ℕ × ℕ) (e : Edits) → AreFew n m e → AreFew n (m + 1) (without_body keys e)
few_left n m keys e h =
    let p = h.puts in
    let q = h.cuts in
    let shorter = filter_shorter e.puts in
    record {
      zeros = refl;
      values = All-filter (λ p. not (is_body p.0)) IsValue e.puts h.values;
      puts = omega (arith, p, shorter);
      cuts = omega (arith, q);
    }

-- no byte of a run is left
run_left : (o : Target) (x : ℕ) (xs : List ℕ) → IsObject o → x + length xs ≤ 2 ^ 64
    → filter (λ p. not (is_body p.0)) (byte_pairs (byte_rank o x) xs) ≡ []
run_left o x [] is fits = refl
run_left o x (b ∷ xs) is fits =
    let rest = filter (λ p. not (is_body p.0)) (byte_pairs (byte_rank o x + 1) xs) in
    ap (λ (t : Bool). cond (not t) ((byte_rank o x, Byte b) ∷ rest) rest) (byte_body o x is (omega (arith, fits)))
    ∙ ap (λ (k : ℕ). filter (λ p. not (is_body p.0)) (byte_pairs k xs)) (sym (byte_after o x 1))
    ∙ run_left o (x + 1) xs is (omega (arith, fits))

-- so of bytes and a size only the size is
size_left : (s : Pairs) (o : Object) (n m : ℕ) (c : Bool) (keys : ℕ × ℕ) (e : Edits) → IsHere s o
    → filter (λ p. not (is_body p.0)) e.puts ≡ filter (λ p. not (is_body p.0)) (size_on o n c).puts
    → length e.cuts ≤ m → AreFew 1 (m + 1) (without_body keys e)
size_left s o n m c keys e h same cuts =
    let few = size_few s o n c h in
    let one = few.puts in
    let shorter = filter_shorter (size_on o n c).puts in
    let long = ap (λ (ps : Pairs). length ps) same in
    record {
      zeros = refl;
      values = subst (λ (ps : Pairs). All IsValue ps) (sym same)
          (All-filter (λ p. not (is_body p.0)) IsValue (size_on o n c).puts few.values);
      puts = omega (arith, one, shorter, long);
      cuts = omega (arith, cuts);
    }

size_cuts : (o : Object) (n : ℕ) (c : Bool) → (size_on o n c).cuts ≡ []
size_cuts o n true = refl
size_cuts o n false = refl

gap_cuts : (o : Object) (to : ℕ) (b : Bool) → (gap_on o to b).cuts ≡ []
gap_cuts o to true = refl
gap_cuts o to false = refl

written_left : (s : Pairs) (o : Object) (from n : ℕ) (xs : List ℕ) (b c : Bool) (keys : ℕ × ℕ) → IsHere s o
    → from + length xs ≤ 2 ^ 64
    → AreFew 1 1 (without_body keys (and_also (gap_on o from b) (and_also (set_body o from xs) (size_on o n c))))
written_left s o from n xs b c keys h fits =
    size_left s o n 0 c keys (and_also (gap_on o from b) (and_also (set_body o from xs) (size_on o n c))) h puts cuts
  where
    puts : filter (λ p. not (is_body p.0)) ((gap_on o from b).puts
        ++ (byte_pairs (byte_rank o.target from) xs ++ (size_on o n c).puts))
        ≡ filter (λ p. not (is_body p.0)) (size_on o n c).puts
    puts =
        ap (λ (ps : Pairs). filter (λ p. not (is_body p.0)) (ps ++ (byte_pairs (byte_rank o.target from) xs
        ++ (size_on o n c).puts))) (gap_puts o from b)
        ∙ filter-append (λ p. not (is_body p.0)) (byte_pairs (byte_rank o.target from) xs) (size_on o n c).puts
        ∙ ap (λ (ps : Pairs). ps ++ filter (λ p. not (is_body p.0)) (size_on o n c).puts)
        (run_left o.target from xs h.object fits)

    cuts : length ((gap_on o from b).cuts ++ ([] ++ (size_on o n c).cuts)) ≤ 0
    cuts =
        let first = ap (λ (rs : Intervals). length (rs ++ (size_on o n c).cuts)) (gap_cuts o from b) in
        let second = ap (λ (rs : Intervals). length rs) (size_cuts o n c) in
        omega (arith, first, second)

sized_left : (s : Pairs) (o : Object) (n : ℕ) (shrinks grows same : Bool) (keys : ℕ × ℕ) → IsHere s o
    → AreFew 1 2 (without_body keys (sized_by o n shrinks grows same))
sized_left s o n true grows same keys h = size_left s o n 1 same keys (sized_by o n true grows same) h refl
    (let second = ap (λ (rs : Intervals). length rs) (size_cuts o n same) in omega (arith, second))
sized_left s o n false grows same keys h = size_left s o n 1 same keys (sized_by o n false grows same) h
    (ap (λ (ps : Pairs). filter (λ p. not (is_body p.0)) (ps ++ (size_on o n same).puts)) (gap_puts o n grows))
    (let first = ap (λ (rs : Intervals). length (rs ++ (size_on o n same).cuts)) (gap_cuts o n grows) in
    let second = ap (λ (rs : Intervals). length rs) (size_cuts o n same) in
    omega (arith, first, second))

pub made_left : (s : Pairs) (keys : ℕ × ℕ) (e : Edits) → AreMade s e
    → (n : ℕ) × (m : ℕ) × (n ≤ 4) × (m ≤ 4) × AreFew n m (without_body keys e)
made_left s keys e (inl few) = (4, 4, omega arith, omega arith, few_left 4 3 keys e few)
made_left s keys e (inr (inl w)) =
    let o = w.file in
    let n = larger o.attr.size (w.from + length w.bytes) in
    let fits = w.fits in (
      1,
      1,
      omega arith,
      omega arith,
      subst (λ (x : Edits). AreFew 1 1 (without_body keys x)) (sym w.is)
          (written_left s o w.from n w.bytes (nat_lt o.attr.size w.from) (o.attr.size == n) keys w.here
          (omega (arith, fits))),
    )
made_left s keys e (inr (inr w)) =
    let o = w.file in (
      1,
      2,
      omega arith,
      omega arith,
      subst (λ (x : Edits). AreFew 1 2 (without_body keys x)) (sym w.is)
          (sized_left s o w.size (nat_lt w.size o.attr.size) (nat_lt o.attr.size w.size)
          (o.attr.size == w.size) keys w.here),
    )
