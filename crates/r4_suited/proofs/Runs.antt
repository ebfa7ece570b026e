-- Bytes that are set one behind the other, in one file.
use Rattle.std.specs.Prelude.{◌≡◌, ℕ, suc, ◌+◌, ◌-◌, ◌*◌, ◌%◌, ◌^◌, ◌<◌, ◌≤◌, List, [], ◌∷◌, ◌++◌, length, replicate}
use Rattle.std.specs.Prelude.{Bool, true, false, ◌==◌, nat_lt, All, cond, if◌then◌else◌}
use Rattle.std.proofs.Common.{arith, refl, sym, ap, subst, ◌∙◌}
use Rattle.std.specs.List.{filter, flat_map}
use Rattle.std.proofs.lemmas.Bool.{ltb-true}
use Rattle.std.proofs.lemmas.Grind.{common_steps}
use Rattle.std.proofs.lemmas.List.{append-nil, length-append, length-replicate}
use Rattle.std.proofs.lemmas.List.Elements.{All-cons, All-head, All-nil, All-tail, All-weaker, filter-append}
use Rattle.r4_base.specs.Key.{minor_of, offset_of}
use Rattle.r4_base.specs.Value.{Byte, Value}
use Rattle.r4_base.specs.Volume.{IsObject, byte_rank}
use Rattle.r4_base.specs.declared.items.Target.{Target}
use Rattle.r4_base.proofs.Visible.{byte_back}
use Rattle.r4_content.specs.Bodies.{larger, written}
use Rattle.r4_content.specs.Edited.{Edits, Pairs, and_also, is_between, no_edits}
use Rattle.r4_content.specs.Objects.{Object, byte_pairs, cut_body, set_attr, set_body, sized, zero_body}
use Rattle.r4_content.proofs.BytePairs.{keys_in}
use Rattle.r4_content.proofs.Ranks.{byte_after}
use Rattle.r4_leaf_edits.specs.Suiting.{AreOnce, IsBefore, IsLawfulPut, SuitLeaves, bytes_set, is_byte, zero_pairs}
use Rattle.r4_leaf_edits.specs.r4_reach.Reach.{is_body}
use Rattle.r4_suited.proofs.Few.{AreFew, IsValue}

-- ---- a run

behind_first : (k n : ℕ) → is_between (k + 1) (k + 1 + n) k ≡ false
behind_first k n = grind (arith, common_steps)

pub run_once : (k : ℕ) (xs : List ℕ) → AreOnce (byte_pairs k xs)
run_once k [] = tt
run_once k (x ∷ xs) = (keys_in (k + 1) xs k ∙ behind_first k (length xs), run_once (k + 1) xs)

body_minor : (l : ℕ) → ((l * 16 + 4) % 16 == 4) ≡ true
body_minor l = let four : (l * 16 + 4) % 16 ≡ 4 = omega arith in ap (λ (x : ℕ). x == 4) four

pub byte_body : (o : Target) (x : ℕ) → IsObject o → x < 2 ^ 64 → is_body (byte_rank o x) ≡ true
byte_body o x is lt = ap (λ k. minor_of k == 4) (byte_back o x is lt) ∙ body_minor o.locality

byte_before : (end : ℕ) (o : Target) (x : ℕ) (v : Value) → IsObject o → x < 2 ^ 64 → x < end
    → IsBefore end (byte_rank o x, v)
byte_before end o x v is lt below = (
  byte_body o x is lt,
  subst (λ k. offset_of k < end)
      (sym (byte_back o x is lt)) below,
)

pub run_before : (end : ℕ) (o : Target) (x : ℕ) (xs : List ℕ) → IsObject o → x + length xs ≤ end → end ≤ 2 ^ 64
    → All (IsBefore end) (byte_pairs (byte_rank o x) xs)
run_before end o x [] is fits le = All-nil (IsBefore end)
run_before end o x (b ∷ xs) is fits le = All-cons (IsBefore end) (byte_rank o x, Byte b)
    (byte_pairs (byte_rank o x + 1) xs) (byte_before end o x (Byte b) is (omega (arith, fits, le))
    (omega (arith, fits)))
    (subst (λ (k : ℕ). All (IsBefore end) (byte_pairs k xs)) (byte_after o x 1)
    (run_before end o (x + 1) xs is (omega (arith, fits)) le))

pub run_join : (k : ℕ) (xs ys : List ℕ) → byte_pairs k xs ++ byte_pairs (k + length xs) ys ≡ byte_pairs k (xs ++ ys)
run_join k [] ys = ap (λ (j : ℕ). byte_pairs j ys) (omega arith)
run_join k (x ∷ xs) ys =
    let next : k + suc (length xs) ≡ k + 1 + length xs = omega arith in
    ap (λ (j : ℕ). (k, Byte x) ∷ (byte_pairs (k + 1) xs ++ byte_pairs j ys)) next
    ∙ ap (λ (ps : Pairs). (k, Byte x) ∷ ps) (run_join (k + 1) xs ys)

run_bytes : (k : ℕ) (xs : List ℕ) → filter (λ p. is_byte p.1) (byte_pairs k xs) ≡ byte_pairs k xs
run_bytes k [] = refl
run_bytes k (x ∷ xs) = ap (λ (ps : Pairs). (k, Byte x) ∷ ps) (run_bytes (k + 1) xs)

pub run_lawful : (k : ℕ) (xs : List ℕ) → All IsLawfulPut (byte_pairs k xs)
run_lawful k [] = All-nil IsLawfulPut
run_lawful k (x ∷ xs) = All-cons IsLawfulPut (k, Byte x) (byte_pairs (k + 1) xs) tt (run_lawful (k + 1) xs)

-- ---- edits that set no byte

pub no_bytes_in : (ps : Pairs) → All IsValue ps → filter (λ p. is_byte p.1) ps ≡ []
no_bytes_in [] all = refl
no_bytes_in (p ∷ ps) all =
    ap (λ (b : Bool). cond b (p ∷ filter (λ q. is_byte q.1) ps) (filter (λ q. is_byte q.1) ps))
    (All-head IsValue p ps all).1
    ∙ no_bytes_in ps (All-tail IsValue p ps all)

pub few_set : (n m : ℕ) (e : Edits) → AreFew n m e → bytes_set e ≡ []
few_set n m e h = ap (λ rs. flat_map zero_pairs rs ++ filter (λ p. is_byte p.1) e.puts) h.zeros
    ∙ no_bytes_in e.puts h.values

pub few_lawful : (n m : ℕ) (e : Edits) → AreFew n m e → All IsLawfulPut e.puts
few_lawful n m e h = All-weaker IsValue IsLawfulPut (λ p v. v.0) e.puts h.values

-- ---- edits that set one run

-- The edits set these bytes of a file, the last of them before this offset.
pub record IsRun (o : Target) (end : ℕ) (e : Edits) : Type 0 where
  pub start : ℕ
  pub bytes : List ℕ
  pub is : bytes_set e ≡ byte_pairs (byte_rank o start) bytes
  pub fits : start + length bytes ≤ end

pub run_suits : (o : Target) (x end : ℕ) (e : Edits) → IsObject o → IsRun o x e → x ≤ end → end ≤ 2 ^ 64
    → All IsLawfulPut e.puts → SuitLeaves end e
run_suits o x end e is run le most values =
    let fits = run.fits in
    record {
      once = subst AreOnce (sym run.is) (run_once (byte_rank o run.start) run.bytes);
      bytes = subst (λ (ps : Pairs). All (IsBefore end) ps) (sym run.is)
          (run_before end o run.start run.bytes is (omega (arith, fits, le)) most);
      values = values;
    }

-- the zeros from a size on
gap_pairs : (o : Target) (from to : ℕ) → flat_map zero_pairs ((byte_rank o from, byte_rank o to) ∷ [])
    ≡ byte_pairs (byte_rank o from) (replicate (to - from) 0)
gap_pairs o from to =
    append-nil (byte_pairs (byte_rank o from) (replicate (byte_rank o to - byte_rank o from) 0))
    ∙ ap (λ (n : ℕ). byte_pairs (byte_rank o from) (replicate n 0)) long
  where
    long : byte_rank o to - byte_rank o from ≡ to - from
    long =
        let a : byte_rank o (0 + from) ≡ byte_rank o 0 + from = byte_after o 0 from in
        let b : byte_rank o (0 + to) ≡ byte_rank o 0 + to = byte_after o 0 to in
        let c : byte_rank o (0 + from) ≡ byte_rank o from = ap (byte_rank o) (omega arith) in
        let d : byte_rank o (0 + to) ≡ byte_rank o to = ap (byte_rank o) (omega arith) in
        omega (arith, a, b, c, d)

abbrev pub gap_on : Object → (to : ℕ) → Bool → Edits
gap_on o to b = if b then zero_body o o.attr.size to else no_edits

abbrev pub size_on : Object → (size : ℕ) → Bool → Edits
size_on o n b = if b then no_edits else set_attr o (sized o.attr n)

nothing : (n : ℕ) → replicate {A = ℕ} (n - n) 0 ≡ []
nothing n = let none : n - n ≡ 0 = omega arith in ap (λ (k : ℕ). replicate {A = ℕ} k 0) none

-- the bytes of a gap, and of what follows it
gap_then : (o : Object) (to : ℕ) (xs : List ℕ) (b : Bool) → nat_lt o.attr.size to ≡ b
    → flat_map zero_pairs (gap_on o to b).zeros ++ byte_pairs (byte_rank o.target to) xs
    ≡ byte_pairs (byte_rank o.target (if b then o.attr.size else to))
    (replicate (to - (if b then o.attr.size else to)) 0 ++ xs)
gap_then o to xs true e =
    let size = o.attr.size in
    let lt = ltb-true size to e in
    let long = length-replicate {A = ℕ} (to - size) 0 in
    let at : byte_rank o.target to ≡ byte_rank o.target size + length (replicate (to - size) 0) =
    ap (byte_rank o.target) (let sum : to ≡ size + length (replicate (to - size) 0) = omega (arith, lt, long) in sum)
    ∙ byte_after o.target size (length (replicate (to - size) 0)) in
    ap (λ (ps : Pairs). ps ++ byte_pairs (byte_rank o.target to) xs) (gap_pairs o.target size to)
    ∙ ap (λ (k : ℕ). byte_pairs (byte_rank o.target size) (replicate (to - size) 0) ++ byte_pairs k xs) at
    ∙ run_join (byte_rank o.target size) (replicate (to - size) 0) xs
gap_then o to xs false e = ap (λ (ys : List ℕ). byte_pairs (byte_rank o.target to) (ys ++ xs)) (sym (nothing to))

gap_fits : (o : Object) (to : ℕ) (xs : List ℕ) (b : Bool) → nat_lt o.attr.size to ≡ b
    → (if b then o.attr.size else to) + length
    (replicate (to - (if b then o.attr.size else to)) 0 ++ xs) ≤ to + length xs
gap_fits o to xs true e =
    let lt = ltb-true o.attr.size to e in
    let long = length-replicate {A = ℕ} (to - o.attr.size) 0 in
    let sum = length-append (replicate (to - o.attr.size) 0) xs in
    omega (arith, lt, long, sum)
gap_fits o to xs false e = let sum = ap (λ (ys : List ℕ). length (ys ++ xs)) (nothing to) in omega (arith, sum)

-- what a change of the size puts is no byte
pub size_bytes : (o : Object) (n : ℕ) (b : Bool) → filter (λ p. is_byte p.1) (size_on o n b).puts ≡ []
size_bytes o n true = refl
size_bytes o n false = refl

pub size_zeros : (o : Object) (n : ℕ) (b : Bool) → (size_on o n b).zeros ≡ []
size_zeros o n true = refl
size_zeros o n false = refl

pub gap_puts : (o : Object) (to : ℕ) (b : Bool) → (gap_on o to b).puts ≡ []
gap_puts o to true = refl
gap_puts o to false = refl

written_zeros : (o : Object) (from n : ℕ) (xs : List ℕ) (b c : Bool)
    → (and_also (gap_on o from b) (and_also (set_body o from xs) (size_on o n c))).zeros ≡ (gap_on o from b).zeros
written_zeros o from n xs b c = ap (λ rs. (gap_on o from b).zeros ++ rs) (size_zeros o n c)
    ∙ append-nil (gap_on o from b).zeros

written_puts : (o : Object) (from n : ℕ) (xs : List ℕ) (b c : Bool)
    → filter (λ p. is_byte p.1) (and_also (gap_on o from b) (and_also (set_body o from xs) (size_on o n c))).puts
    ≡ byte_pairs (byte_rank o.target from) xs
written_puts o from n xs b c =
    ap (λ (ps : Pairs). filter (λ p. is_byte p.1)
    (ps ++ (byte_pairs (byte_rank o.target from) xs ++ (size_on o n c).puts))) (gap_puts o from b)
    ∙ filter-append (λ p. is_byte p.1) (byte_pairs (byte_rank o.target from) xs) (size_on o n c).puts
    ∙ ap (λ (ps : Pairs). filter (λ p. is_byte p.1) (byte_pairs (byte_rank o.target from) xs) ++ ps) (size_bytes o n c)
    ∙ append-nil (filter (λ p. is_byte p.1) (byte_pairs (byte_rank o.target from) xs))
    ∙ run_bytes (byte_rank o.target from) xs

writes_run : (o : Object) (from n : ℕ) (xs : List ℕ) (b c : Bool) → nat_lt o.attr.size from ≡ b
    → IsRun o.target (from + length xs) (and_also (gap_on o from b) (and_also (set_body o from xs) (size_on o n c)))
writes_run o from n xs b c e = record {
  start = if b then o.attr.size else from;
  bytes = replicate (from - (if b then o.attr.size else from)) 0 ++ xs;
  is = ap (λ rs. flat_map zero_pairs rs ++ filter (λ p. is_byte p.1)
      (and_also (gap_on o from b) (and_also (set_body o from xs) (size_on o n c))).puts) (written_zeros o from n xs b c)
      ∙ ap (λ (ps : Pairs). flat_map zero_pairs (gap_on o from b).zeros ++ ps) (written_puts o from n xs b c)
      ∙ gap_then o from xs b e;
  fits = gap_fits o from xs b e;
}

pub written_run : (o : Object) (from : ℕ) (xs : List ℕ) → IsRun o.target (from + length xs) (written o from xs)
written_run o from xs = let n = larger o.attr.size (from + length xs) in writes_run o from n xs
    (nat_lt o.attr.size from) (o.attr.size == n) refl

-- ---- a size

abbrev pub sized_by : Object → (n : ℕ) → (shrinks grows same : Bool) → Edits
sized_by o n shrinks grows same = and_also (if shrinks then cut_body o n o.attr.size else gap_on o n grows)
    (size_on o n same)

none_set : (o : Object) (n : ℕ) (e : Edits) (same : Bool) → e.zeros ≡ [] → e.puts ≡ []
    → IsRun o.target 0 (and_also e (size_on o n same))
none_set o n e same zeros puts = record {
  start = 0;
  bytes = [];
  is = ap (λ rs. flat_map zero_pairs (rs ++ (size_on o n same).zeros)
      ++ filter (λ p. is_byte p.1) (e.puts ++ (size_on o n same).puts)) zeros
      ∙ ap (λ rs. flat_map zero_pairs rs ++ filter (λ p. is_byte p.1) (e.puts ++ (size_on o n same).puts))
      (size_zeros o n same)
      ∙ ap (λ (ps : Pairs). filter (λ p. is_byte p.1) (ps ++ (size_on o n same).puts)) puts
      ∙ size_bytes o n same;
  fits = omega arith;
}

-- the bytes that come end at the size where the file grows, and there are none where it does not
abbrev pub grown_end : ℕ → (grows : Bool) → ℕ
grown_end n grows = if grows then n else 0

pub sized_run : (o : Object) (n : ℕ) (shrinks grows same : Bool) → nat_lt o.attr.size n ≡ grows
    → IsRun o.target (grown_end n (if shrinks then false else grows)) (sized_by o n shrinks grows same)
sized_run o n true grows same e = none_set o n (cut_body o n o.attr.size) same refl refl
sized_run o n false false same e = none_set o n no_edits same refl refl
sized_run o n false true same e = record {
  start = o.attr.size;
  bytes = replicate (n - o.attr.size) 0 ++ [];
  is = ap (λ rs. flat_map zero_pairs ((gap_on o n true).zeros ++ rs)
      ++ filter (λ p. is_byte p.1) (size_on o n same).puts) (size_zeros o n same)
      ∙ ap (λ (ps : Pairs). flat_map zero_pairs (gap_on o n true).zeros ++ ps) (size_bytes o n same)
      ∙ gap_then o n [] true e;
  fits = let h = gap_fits o n [] true e in omega (arith, h);
}
