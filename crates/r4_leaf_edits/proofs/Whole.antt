-- What goes and what comes for all of a command's edits.
use Rattle.std.specs.Prelude.{◌≡◌, ℕ, zero, suc, ◌+◌, ◌-◌, ◌*◌, ◌%◌, List, [], ◌∷◌, ◌++◌, replicate, Bool, true, false, not, ◌&&◌, ◌||◌, ◌==◌, cond, if◌then◌else◌, All, Option, Some}
use Rattle.std.proofs.Common.{arith, refl, sym, ap, ◌∙◌}
use Rattle.std.specs.List.{filter, flat_map}
use Rattle.std.proofs.lemmas.Bool.{both_ways, eqb-true}
use Rattle.std.proofs.lemmas.Grind.{common_steps}
use Rattle.std.proofs.lemmas.List.{length-replicate}
use Rattle.std.proofs.lemmas.List.Elements.{All-head, All-tail, filter-append}
use Rattle.r4_base.specs.Key.{key_of_rank, minor_of, rank}
use Rattle.r4_base.specs.Name.{dir_of_key, key_of_name}
use Rattle.r4_base.specs.Value.{Byte, Entry, Stat, Value}
use Rattle.r4_base.specs.declared.key.Key.{Key}
use Rattle.r4_content.specs.Edited.{Intervals, Pairs, is_between, is_in, put_keys}
use Rattle.r4_content.specs.Held.{fill_pairs, run_pairs}
use Rattle.r4_content.specs.Objects.{byte_pairs}
use Rattle.r4_content.specs.declared.edits.ByteRun.{ByteRun}
use Rattle.r4_content.specs.declared.edits.FilledInterval.{FilledInterval}
use Rattle.r4_content.proofs.BytePairs.{keys_in}
use Rattle.r4_content.proofs.EditLaws.{last_put, one_key, put_on}
use Rattle.r4_content.proofs.Ranks.{first_of_name}
use Rattle.r4_reach.specs.Reach.{is_body}
use Rattle.r4_leaf_edits.specs.Making.{values_set}
use Rattle.r4_leaf_edits.specs.Suiting.{AreOnce, IsBefore, IsLawfulPut, is_byte, zero_pairs}
use Rattle.r4_leaf_edits.proofs.Puts.{in_both, last_of_both}

-- ---- zeros

first_or_rest : (k from n : ℕ) → (is_between (from + 1) (from + 1 + n) k || k == from) ≡ is_between from (from + suc n) k
first_or_rest k from n = grind (arith, common_steps)

no_key : (from k : ℕ) → false ≡ is_between from (from + 0) k
no_key from k = grind (arith, common_steps)

to_end : (from to k : ℕ) → is_between from (from + (to - from)) k ≡ is_between from to k
to_end from to k = grind (arith, common_steps)

set_step : (a b : Bool) (v w : Option Value) → cond b v (cond a v w) ≡ cond (a || b) v w
set_step true true v w = refl
set_step true false v w = refl
set_step false b v w = refl

turn_step : (a b : Bool) (v w : Option Value) → cond a v (cond b v w) ≡ cond (a || b) v w
turn_step true b v w = refl
turn_step false b v w = refl

zero_last : (from n k : ℕ) (v : Option Value) → last_put (byte_pairs from (replicate n 0)) k v ≡ cond (is_between from (from + n) k) (Some (Byte 0)) v
zero_last from zero k v = ap (λ (b : Bool). cond b (Some (Byte 0)) v) (no_key from k)
zero_last from (suc n) k v =
    zero_last (from + 1) n k (cond (k == from) (Some (Byte 0)) v)
    ∙ turn_step (is_between (from + 1) (from + 1 + n) k) (k == from) (Some (Byte 0)) v
    ∙ ap (λ (b : Bool). cond b (Some (Byte 0)) v) (first_or_rest k from n)

pub zeros_last : (rs : Intervals) (k : ℕ) (v : Option Value) → last_put (flat_map zero_pairs rs) k v ≡ cond (is_in rs k) (Some (Byte 0)) v
zeros_last [] k v = refl
zeros_last (r ∷ rs) k v =
    last_of_both (zero_pairs r) (flat_map zero_pairs rs) k v
    ∙ zeros_last rs k (last_put (zero_pairs r) k v)
    ∙ ap (cond (is_in rs k) (Some (Byte 0))) (zero_last r.0 (r.1 - r.0) k v ∙ ap (λ (b : Bool). cond b (Some (Byte 0)) v) (to_end r.0 r.1 k))
    ∙ set_step (is_between r.0 r.1 k) (is_in rs k) (Some (Byte 0)) v

pub zeros_keys : (rs : Intervals) (k : ℕ) → is_in (put_keys (flat_map zero_pairs rs)) k ≡ is_in rs k
zeros_keys [] k = refl
zeros_keys (r ∷ rs) k =
    in_both (zero_pairs r) (flat_map zero_pairs rs) k
    ∙ ap (λ (b : Bool). b || is_in (put_keys (flat_map zero_pairs rs)) k) (keys_in r.0 (replicate (r.1 - r.0) 0) k ∙ ap (λ (n : ℕ). is_between r.0 (r.0 + n) k) (length-replicate (r.1 - r.0) 0) ∙ to_end r.0 r.1 k)
    ∙ ap (λ (b : Bool). is_between r.0 r.1 k || b) (zeros_keys rs k)

-- ---- the last of the values of each key

module _ (bytes : Bool) where
  abbrev pub kept_key : ℕ → Bool
  kept_key k = bytes || not (is_body k)

  pub values_keys : (ps : Pairs) (k : ℕ) → is_in (put_keys (values_set bytes ps)) k ≡ (kept_key k && is_in (put_keys ps) k)
  values_keys [] k = none (kept_key k)
    where
      none : (b : Bool) → false ≡ (b && false)
      none true = refl
      none false = refl
  values_keys (p ∷ ps) k =
      by_tests (k == p.0) (kept_key p.0) (is_in (put_keys ps) p.0) refl refl refl (values_keys ps k) ∙ ap (λ (b : Bool). kept_key k && (b || is_in (put_keys ps) k)) (sym (one_key k p.0))
    where
      vs : Pairs
      vs = values_set bytes ps

      by_tests : (e b i : Bool) → (k == p.0) ≡ e → kept_key p.0 ≡ b → is_in (put_keys ps) p.0 ≡ i → is_in (put_keys vs) k ≡ (kept_key k && is_in (put_keys ps) k)
          → is_in (put_keys (if b && not i then p ∷ vs else vs)) k ≡ (kept_key k && (e || is_in (put_keys ps) k))
      by_tests false true false he hb hi rec = ap (λ (t : Bool). t || is_in (put_keys vs) k) (one_key k p.0 ∙ he) ∙ rec
      by_tests false true true he hb hi rec = rec
      by_tests false false i he hb hi rec = rec
      by_tests true true false he hb hi rec =
          ap (λ (t : Bool). t || is_in (put_keys vs) k) (one_key k p.0 ∙ he) ∙ sym (ap (λ (t : Bool). t && true) (ap kept_key (eqb-true k p.0 he) ∙ hb))
      by_tests true true true he hb hi rec =
          let kb = ap kept_key (eqb-true k p.0 he) ∙ hb in
          let ki = ap (is_in (put_keys ps)) (eqb-true k p.0 he) ∙ hi in
          rec ∙ ap (λ (t : Bool). kept_key k && t) ki
      by_tests true false i he hb hi rec =
          let kb = ap kept_key (eqb-true k p.0 he) ∙ hb in
          rec ∙ ap (λ (t : Bool). t && is_in (put_keys ps) k) kb ∙ sym (ap (λ (t : Bool). t && true) kb)

  pub values_last : (ps : Pairs) (k : ℕ) (v : Option Value) → last_put (values_set bytes ps) k v ≡ cond (kept_key k) (last_put ps k v) v
  values_last [] k v = same (kept_key k)
    where
      same : (b : Bool) → v ≡ cond b v v
      same true = refl
      same false = refl
  values_last (p ∷ ps) k v = by_tests (k == p.0) (kept_key p.0) (is_in (put_keys ps) p.0) refl refl refl (values_last ps k)
    where
      vs : Pairs
      vs = values_set bytes ps

      by_tests : (e b i : Bool) → (k == p.0) ≡ e → kept_key p.0 ≡ b → is_in (put_keys ps) p.0 ≡ i → ((w : Option Value) → last_put vs k w ≡ cond (kept_key k) (last_put ps k w) w)
          → last_put (if b && not i then p ∷ vs else vs) k v ≡ cond (kept_key k) (last_put ps k (cond e (Some p.1) v)) v
      by_tests false true false he hb hi rec = ap (λ (t : Bool). last_put vs k (cond t (Some p.1) v)) he ∙ rec v
      by_tests false true true he hb hi rec = rec v
      by_tests false false i he hb hi rec = rec v
      by_tests true true false he hb hi rec =
          let kb = ap kept_key (eqb-true k p.0 he) ∙ hb in
          ap (λ (t : Bool). last_put vs k (cond t (Some p.1) v)) he ∙ rec (Some p.1)
          ∙ ap (λ (t : Bool). cond t (last_put ps k (Some p.1)) (Some p.1)) kb ∙ sym (ap (λ (t : Bool). cond t (last_put ps k (Some p.1)) v) kb)
      by_tests true true true he hb hi rec =
          let ki = ap (is_in (put_keys ps)) (eqb-true k p.0 he) ∙ hi in
          rec v ∙ ap (λ (w : Option Value). cond (kept_key k) w v) (put_on ps k v (Some p.1) ki)
      by_tests true false i he hb hi rec =
          let kb = ap kept_key (eqb-true k p.0 he) ∙ hb in
          rec v ∙ ap (λ (t : Bool). cond t (last_put ps k v) v) kb ∙ sym (ap (λ (t : Bool). cond t (last_put ps k (Some p.1)) v) kb)

  pub values_once : (ps : Pairs) → AreOnce (values_set bytes ps)
  values_once [] = tt
  values_once (p ∷ ps) = by_tests (kept_key p.0) (is_in (put_keys ps) p.0) refl (values_once ps)
    where
      none : (b : Bool) → (b && false) ≡ false
      none true = refl
      none false = refl

      by_tests : (b i : Bool) → is_in (put_keys ps) p.0 ≡ i → AreOnce (values_set bytes ps) → AreOnce (if b && not i then p ∷ values_set bytes ps else values_set bytes ps)
      by_tests true false hi rec = (values_keys ps p.0 ∙ ap (λ (t : Bool). kept_key p.0 && t) hi ∙ none (kept_key p.0), rec)
      by_tests true true hi rec = rec
      by_tests false i hi rec = rec

-- ---- bytes, and keys of bodies

byte_filter : (k : ℕ) (xs : List ℕ) → filter (λ p. is_byte p.1) (byte_pairs k xs) ≡ byte_pairs k xs
byte_filter k [] = refl
byte_filter k (x ∷ xs) = ap (λ (ps : Pairs). (k, Byte x) ∷ ps) (byte_filter (k + 1) xs)

pub fills_filter : (fs : List FilledInterval) → filter (λ p. is_byte p.1) (flat_map fill_pairs fs) ≡ flat_map fill_pairs fs
fills_filter [] = refl
fills_filter (f ∷ fs) = filter-append (λ p. is_byte p.1) (fill_pairs f) (flat_map fill_pairs fs) ∙ (λ i. byte_filter (rank f.from) (replicate (rank f.to - rank f.from) f.byte) i ++ fills_filter fs i)

pub runs_filter : (rs : List ByteRun) → filter (λ p. is_byte p.1) (flat_map run_pairs rs) ≡ flat_map run_pairs rs
runs_filter [] = refl
runs_filter (r ∷ rs) = filter-append (λ p. is_byte p.1) (run_pairs r) (flat_map run_pairs rs) ∙ (λ i. byte_filter (rank r.from) r.bytes i ++ runs_filter rs i)

-- no key that is no body's is theirs
pub bodies_only : (end : ℕ) (ps : Pairs) (k : ℕ) → All (IsBefore end) ps → is_body k ≡ false → is_in (put_keys ps) k ≡ false
bodies_only end [] k all h = refl
bodies_only end (p ∷ ps) k all h =
    by_first (k == p.0) refl (All-head (IsBefore end) p ps all).0 (bodies_only end ps k (All-tail (IsBefore end) p ps all) h)
  where
    by_first : (b : Bool) → (k == p.0) ≡ b → is_body p.0 ≡ true → is_in (put_keys ps) k ≡ false → (is_between p.0 (p.0 + 1) k || is_in (put_keys ps) k) ≡ false
    by_first true e first rest = absurd (both_ways _ h (ap is_body (eqb-true k p.0 e) ∙ first))
    by_first false e first rest = ap (λ (b : Bool). b || is_in (put_keys ps) k) (one_key k p.0 ∙ e) ∙ rest

zero_minor : (d : ℕ) → ((d * 16) % 16 == 4) ≡ false
zero_minor d = ap (λ (n : ℕ). n == 4) (let e : (d * 16) % 16 ≡ 0 = omega arith in e)

-- the key of an entry is no body's
entry_no_body : (k : ℕ) (n : List ℕ) (d : ℕ) → key_of_name d n ≡ key_of_rank k → is_body k ≡ false
entry_no_body k n d e = ap (λ (j : Key). minor_of j == 4) (sym e) ∙ ap (λ (x : ℕ). x % 16 == 4) (first_of_name d n) ∙ zero_minor d

-- what stands at a body's key is a byte
pub bodies_are_bytes : (ps : Pairs) (k : ℕ) → All IsLawfulPut ps → is_body k ≡ true → is_in (put_keys (filter (λ p. is_byte p.1) ps)) k ≡ is_in (put_keys ps) k
bodies_are_bytes [] k all h = refl
bodies_are_bytes ((j, v) ∷ ps) k all h = by_value v (All-head IsLawfulPut (j, v) ps all) (bodies_are_bytes ps k (All-tail IsLawfulPut (j, v) ps all) h)
  where
    off : is_body j ≡ false → (k == j) ≡ false
    off none = by_test (k == j) refl
      where
        by_test : (b : Bool) → (k == j) ≡ b → b ≡ false
        by_test false e = refl
        by_test true e = absurd (both_ways _ none (sym (ap is_body (eqb-true k j e)) ∙ h))

    skip : is_body j ≡ false → is_in (put_keys (filter (λ p. is_byte p.1) ps)) k ≡ is_in (put_keys ps) k → is_in (put_keys (filter (λ p. is_byte p.1) ps)) k ≡ (is_between j (j + 1) k || is_in (put_keys ps) k)
    skip none rest = rest ∙ sym (ap (λ (b : Bool). b || is_in (put_keys ps) k) (one_key k j ∙ off none))

    by_value : (w : Value) → IsLawfulPut (j, w) → is_in (put_keys (filter (λ p. is_byte p.1) ps)) k ≡ is_in (put_keys ps) k
        → is_in (put_keys (filter (λ p. is_byte p.1) ((j, w) ∷ ps))) k ≡ (is_between j (j + 1) k || is_in (put_keys ps) k)
    by_value (Byte x) lawful rest = ap (λ (b : Bool). is_between j (j + 1) k || b) rest
    by_value (Stat a) lawful rest = skip lawful.1 rest
    by_value (Entry n t) lawful rest = skip (entry_no_body j n (dir_of_key (key_of_rank j)) lawful.key) rest
