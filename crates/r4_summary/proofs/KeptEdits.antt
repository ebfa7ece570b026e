-- Edits of a content, where the bytes of files are left out.
use Rattle.std.proofs.Common.{replicate, drop, slice_index_or, ◌<◌}
use Rattle.std.specs.Prelude.{◌≡◌, ℕ, zero, suc, ◌+◌, ◌-◌, List, [], ◌∷◌, ◌++◌, Bool, true, false, cond, not, ◌&&◌, ◌==◌, length, Option, Some, None, if◌then◌else◌}
use Rattle.std.proofs.Common.{arith, refl, sym, ap, ◌∙◌}
use Rattle.std.proofs.lemmas.Grind.{common_steps}
use Rattle.std.proofs.lemmas.Cmp.{nat_cmp_total}
use Rattle.std.specs.Cmp.{unsigned_tied}
use Rattle.std.specs.FinMap.{entries, entries-from_sorted, find, from_sorted, get-from_sorted, put}
use Rattle.std.specs.FinMap.Entries.{find-put, find-where_key, is_sorted-put}
use Rattle.std.specs.FinMap.{nat_cmp-IsAntisymmetric}
use Rattle.std.specs.List.{filter, flat_map}
use Rattle.std.proofs.lemmas.List.Concat.{flat_map-cons}
use Rattle.r4_base.specs.Key.{rank}
use Rattle.r4_content.specs.Held.{fill_pairs, run_pairs}
use Rattle.r4_content.specs.declared.edits.ByteRun.{ByteRun}
use Rattle.r4_content.specs.declared.edits.FilledInterval.{FilledInterval}
use Rattle.std.specs.Ordering.{nat_cmp}
use Rattle.r4_base.specs.Value.{Value, Byte}
use Rattle.r4_content.proofs.EditLaws.{same_content}
use Rattle.r4_content.specs.Edited.{Edits, Intervals, Pairs, is_between}
use Rattle.r4_content.specs.Listed.{list_cut, list_edited, list_put, list_zero, list_zero_from}
use Rattle.r4_content.specs.Objects.{byte_pairs}
use Rattle.r4_content.specs.Seen.{Rises}
use Rattle.r4_summary.proofs.Blind.{filter_rises, filters_commute, find_kept}
use Rattle.r4_summary.specs.Kept.{is_byte, kept_edited, kept_put, kept_puts, no_byte, without_bytes}

abbrev pub off : (from to : ℕ) → ℕ × Value → Bool
off from to e = not (is_between from to e.0)

-- lists that rise are the same where the same is found in them
same_list : (s t : Pairs) → Rises s → Rises t → ((k : ℕ) → find nat_cmp k s ≡ find nat_cmp k t) → s ≡ t
same_list s t rs rt h =
    sym (entries-from_sorted nat_cmp s rs)
    ∙ ap entries (same_content (from_sorted s) (from_sorted t) (λ k. get-from_sorted nat_cmp s k rs ∙ h k ∙ sym (get-from_sorted nat_cmp t k rt)))
    ∙ entries-from_sorted nat_cmp t rt

pub put_rises : (k : ℕ) (v : Value) (s : Pairs) → Rises s → Rises (put nat_cmp k v s)
put_rises k v s r = is_sorted-put nat_cmp nat_cmp_total k v s r

pub kept_rises : (s : Pairs) → Rises s → Rises (without_bytes s)
kept_rises s r = filter_rises (λ e. not (is_byte e.1)) s r

put_at : (q k : ℕ) (v : Value) (s : Pairs) → find nat_cmp q (put nat_cmp k v s) ≡ cond (q == k) (Some v) (find nat_cmp q s)
put_at q k v s = find-put nat_cmp nat_cmp_total q k v s ∙ ap (λ (b : Bool). cond b (Some v) (find nat_cmp q s)) (unsigned_tied q k)

off_at : (from to k : ℕ) (s : Pairs) → find nat_cmp k (filter (off from to) s) ≡ cond (not (is_between from to k)) (find nat_cmp k s) None
off_at from to k s = find-where_key nat_cmp (λ q. not (is_between from to q)) k (λ x e. ap (λ q. not (is_between from to q)) (sym (nat_cmp-IsAntisymmetric k x e))) s

one_key : (q k : ℕ) → is_between k (k + 1) q ≡ (q == k)
one_key q k = grind (arith, common_steps)

-- a byte that is set
put_byte : (k x : ℕ) (s : Pairs) → Rises s → without_bytes (put nat_cmp k (Byte x) s) ≡ filter (off k (k + 1)) (without_bytes s)
put_byte k x s r = same_list _ _ (kept_rises (put nat_cmp k (Byte x) s) (put_rises k (Byte x) s r)) (filter_rises (off k (k + 1)) (without_bytes s) (kept_rises s r)) (λ q.
    find_kept (put nat_cmp k (Byte x) s) q (put_rises k (Byte x) s r) ∙ ap no_byte (put_at q k (Byte x) s) ∙ by_key (q == k) (find nat_cmp q s)
    ∙ sym (off_at k (k + 1) q (without_bytes s) ∙ ap (λ b. cond (not b) (find nat_cmp q (without_bytes s)) None) (one_key q k)
    ∙ ap (λ v. cond (not (q == k)) v None) (find_kept s q r)))
  where
    by_key : (b : Bool) (v : Option Value) → no_byte (cond b (Some (Byte x)) v) ≡ cond (not b) (no_byte v) None
    by_key true v = refl
    by_key false v = refl

-- another value that is set
put_value : (k : ℕ) (v : Value) (s : Pairs) → Rises s → is_byte v ≡ false → without_bytes (put nat_cmp k v s) ≡ put nat_cmp k v (without_bytes s)
put_value k v s r other = same_list _ _ (kept_rises (put nat_cmp k v s) (put_rises k v s r)) (put_rises k v (without_bytes s) (kept_rises s r)) (λ q.
    find_kept (put nat_cmp k v s) q (put_rises k v s r) ∙ ap no_byte (put_at q k v s) ∙ by_key (q == k) (find nat_cmp q s)
    ∙ sym (put_at q k v (without_bytes s) ∙ ap (cond (q == k) (Some v)) (find_kept s q r)))
  where
    by_key : (b : Bool) (w : Option Value) → no_byte (cond b (Some v) w) ≡ cond b (Some v) (no_byte w)
    by_key true w = ap (λ (c : Bool). if c then None else Some v) other
    by_key false w = refl

put_kept : (e : ℕ × Value) (s : Pairs) → Rises s → without_bytes (put nat_cmp e.0 e.1 s) ≡ kept_put e (without_bytes s)
put_kept e s r = by_value (is_byte e.1) refl
  where
    a_byte : (v : Value) → is_byte v ≡ true → without_bytes (put nat_cmp e.0 v s) ≡ filter (off e.0 (e.0 + 1)) (without_bytes s)
    a_byte (Byte x) h = put_byte e.0 x s r
    a_byte v h = cc

    by_value : (b : Bool) → is_byte e.1 ≡ b → without_bytes (put nat_cmp e.0 e.1 s) ≡ (if b then list_cut ((e.0, e.0 + 1) ∷ []) (without_bytes s) else put nat_cmp e.0 e.1 (without_bytes s))
    by_value true h = a_byte e.1 h
    by_value false h = put_value e.0 e.1 s r h

puts_kept : (es s : Pairs) → Rises s → (without_bytes (list_put es s) ≡ kept_puts es (without_bytes s)) × Rises (list_put es s)
puts_kept [] s r = (refl, r)
puts_kept (e ∷ es) s r =
    let rest = puts_kept es (put nat_cmp e.0 e.1 s) (put_rises e.0 e.1 s r) in
    (rest.0 ∙ ap (kept_puts es) (put_kept e s r), rest.1)

-- intervals that are taken away
cuts_kept : (rs : Intervals) (s : Pairs) → Rises s → (without_bytes (list_cut rs s) ≡ list_cut rs (without_bytes s)) × Rises (list_cut rs s)
cuts_kept [] s r = (refl, r)
cuts_kept (x ∷ rs) s r =
    let rest = cuts_kept rs (filter (off x.0 x.1) s) (filter_rises (off x.0 x.1) s r) in
    (rest.0 ∙ ap (list_cut rs) (filters_commute (λ e. not (is_byte e.1)) (off x.0 x.1) s), rest.1)

-- two tests, one after the other
twice : (p q t : ℕ × Value → Bool) (s : Pairs) → ((e : ℕ × Value) → (q e && p e) ≡ t e) → filter p (filter q s) ≡ filter t s
twice p q t [] h = refl
twice p q t (e ∷ es) h = by_tests (q e) (p e) refl refl (twice p q t es h)
  where
    by_tests : (a b : Bool) → q e ≡ a → p e ≡ b → filter p (filter q es) ≡ filter t es
        → filter p (cond a (e ∷ filter q es) (filter q es)) ≡ cond (t e) (e ∷ filter t es) (filter t es)
    by_tests true true qe pe rest =
        ap (λ (c : Bool). cond c (e ∷ filter p (filter q es)) (filter p (filter q es))) pe ∙ ap (λ u. e ∷ u) rest
        ∙ ap (λ (c : Bool). cond c (e ∷ filter t es) (filter t es)) (sym (ap (λ (c : Bool). c && p e) qe ∙ pe) ∙ h e)
    by_tests true false qe pe rest =
        ap (λ (c : Bool). cond c (e ∷ filter p (filter q es)) (filter p (filter q es))) pe ∙ rest
        ∙ ap (λ (c : Bool). cond c (e ∷ filter t es) (filter t es)) (sym (ap (λ (c : Bool). c && p e) qe ∙ pe) ∙ h e)
    by_tests false b qe pe rest = rest ∙ ap (λ (c : Bool). cond c (e ∷ filter t es) (filter t es)) (sym (ap (λ (c : Bool). c && p e) qe) ∙ h e)

first_and_rest : (k n x : ℕ) → (not (is_between k (k + 1) x) && not (is_between (k + 1) (k + 1 + n) x)) ≡ not (is_between k (k + suc n) x)
first_and_rest k n x = grind (arith, common_steps)

rest_and_first : (k n x : ℕ) → (not (is_between (k + 1) (k + 1 + n) x) && not (is_between k (k + 1) x)) ≡ not (is_between k (k + suc n) x)
rest_and_first k n x = grind (arith, common_steps)

nothing_off : (k : ℕ) (s : Pairs) → filter (off k (k + 0)) s ≡ s
nothing_off k [] = refl
nothing_off k (e ∷ es) = ap (λ (c : Bool). cond c (e ∷ filter (off k (k + 0)) es) (filter (off k (k + 0)) es)) stays ∙ ap (λ u. e ∷ u) (nothing_off k es)
  where
    stays : not (is_between k (k + 0) e.0) ≡ true
    stays = grind (arith, common_steps)

-- bytes 0 that are set
zero_from_kept : (from n : ℕ) (s : Pairs) → Rises s
    → (without_bytes (list_zero_from from n s) ≡ filter (off from (from + n)) (without_bytes s)) × Rises (list_zero_from from n s)
zero_from_kept from zero s r = (sym (nothing_off from (without_bytes s)), r)
zero_from_kept from (suc n) s r =
    let rest = zero_from_kept (from + 1) n s r in (
      put_byte from 0 (list_zero_from (from + 1) n s) rest.1 ∙ ap (filter (off from (from + 1))) rest.0
          ∙ twice (off from (from + 1)) (off (from + 1) (from + 1 + n)) (off from (from + suc n)) (without_bytes s) (λ e. rest_and_first from n e.0),
      put_rises from (Byte 0) (list_zero_from (from + 1) n s) rest.1,
    )

same_off : (p q : ℕ × Value → Bool) (s : Pairs) → ((e : ℕ × Value) → p e ≡ q e) → filter p s ≡ filter q s
same_off p q [] h = refl
same_off p q (e ∷ es) h = ap (λ (c : Bool). cond c (e ∷ filter p es) (filter p es)) (h e) ∙ ap (λ u. cond (q e) (e ∷ u) u) (same_off p q es h)

to_the_end : (from to k : ℕ) → not (is_between from (from + (to - from)) k) ≡ not (is_between from to k)
to_the_end from to k = grind (arith, common_steps)

zeros_kept : (rs : Intervals) (s : Pairs) → Rises s → (without_bytes (list_zero rs s) ≡ list_cut rs (without_bytes s)) × Rises (list_zero rs s)
zeros_kept [] s r = (refl, r)
zeros_kept (x ∷ rs) s r =
    let first = zero_from_kept x.0 (x.1 - x.0) s r in
    let rest = zeros_kept rs (list_zero_from x.0 (x.1 - x.0) s) first.1 in
    (rest.0 ∙ ap (list_cut rs) (first.0 ∙ same_off (off x.0 (x.0 + (x.1 - x.0))) (off x.0 x.1) (without_bytes s) (λ e. to_the_end x.0 x.1 e.0)), rest.1)

pub edits_kept : (e : Edits) (s : Pairs) → Rises s → without_bytes (list_edited e s) ≡ kept_edited e (without_bytes s)
edits_kept e s r =
    let a = cuts_kept e.cuts s r in
    let b = zeros_kept e.zeros (list_cut e.cuts s) a.1 in
    let c = puts_kept e.puts (list_zero e.zeros (list_cut e.cuts s)) b.1 in
    c.0 ∙ ap (kept_puts e.puts) (b.0 ∙ ap (list_cut e.zeros) a.0)

-- bytes that are set at one key after another
pub bytes_kept : (k : ℕ) (xs : List ℕ) (s : Pairs) → kept_puts (byte_pairs k xs) s ≡ list_cut ((k, k + length xs) ∷ []) s
bytes_kept k [] s = sym (nothing_off k s)
bytes_kept k (x ∷ xs) s =
    bytes_kept (k + 1) xs (filter (off k (k + 1)) s)
    ∙ twice (off (k + 1) (k + 1 + length xs)) (off k (k + 1)) (off k (k + suc (length xs))) s (λ e. first_and_rest k (length xs) e.0)

pub puts_append : (es fs s : Pairs) → kept_puts (es ++ fs) s ≡ kept_puts fs (kept_puts es s)
puts_append [] fs s = refl
puts_append (e ∷ es) fs s = puts_append es fs (kept_put e s)

replicated : (n x : ℕ) → length (replicate n x) ≡ n
replicated zero x = refl
replicated (suc n) x = let e = replicated n x in omega (arith, e)

-- an interval that is filled with a byte
fill_kept : (f : FilledInterval) (s : Pairs) → kept_puts (fill_pairs f) s ≡ list_cut ((rank f.from, rank f.to) ∷ []) s
fill_kept f s =
    bytes_kept (rank f.from) (replicate (rank f.to - rank f.from) f.byte) s
    ∙ ap (λ n. filter (off (rank f.from) (rank f.from + n)) s) (replicated (rank f.to - rank f.from) f.byte)
    ∙ same_off (off (rank f.from) (rank f.from + (rank f.to - rank f.from))) (off (rank f.from) (rank f.to)) s (λ e. to_the_end (rank f.from) (rank f.to) e.0)

-- intervals that are filled, from a place of a list on
pub fills_from : (fs : List FilledInterval) (i : ℕ) (d : FilledInterval) (s : Pairs) → i < length fs
    → kept_puts (flat_map fill_pairs (drop i fs)) s
    ≡ kept_puts (flat_map fill_pairs (drop (i + 1) fs)) (list_cut ((rank (slice_index_or fs i d).from, rank (slice_index_or fs i d).to) ∷ []) s)
fills_from [] i d s lt = absurd (omega (arith, lt))
fills_from (f ∷ fs) zero d s lt =
    ap (λ es. kept_puts es s) (flat_map-cons fill_pairs f fs) ∙ puts_append (fill_pairs f) (flat_map fill_pairs fs) s
    ∙ ap (kept_puts (flat_map fill_pairs fs)) (fill_kept f s)
fills_from (f ∷ fs) (suc i) d s lt =
    let e : suc (i + 1) ≡ suc i + 1 = omega arith in
    fills_from fs i d s (omega (arith, lt))
    ∙ ap (λ n. kept_puts (flat_map fill_pairs (drop n (f ∷ fs))) (list_cut ((rank (slice_index_or fs i d).from, rank (slice_index_or fs i d).to) ∷ []) s)) e

-- a run of n bytes before others
pub runs_cons : (r : ByteRun) (rest : List ByteRun) (s : Pairs) (n : ℕ) → n ≡ length r.bytes
    → kept_puts (flat_map run_pairs rest) (list_cut ((rank r.from, rank r.from + n) ∷ []) s) ≡ kept_puts (flat_map run_pairs (r ∷ rest)) s
runs_cons r rest s n e =
    ap (λ q. kept_puts (flat_map run_pairs rest) (list_cut ((rank r.from, rank r.from + q) ∷ []) s)) e
    ∙ sym (ap (λ es. kept_puts es s) (flat_map-cons run_pairs r rest) ∙ puts_append (run_pairs r) (flat_map run_pairs rest) s
    ∙ ap (kept_puts (flat_map run_pairs rest)) (bytes_kept (rank r.from) r.bytes s))
