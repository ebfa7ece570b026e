-- Edits of keys that are no body's, and of one file's bytes and sizes.
use Rattle.std.specs.Prelude.{◌≡◌, ◌⊎◌, ℕ, ◌+◌, ◌-◌, ◌*◌, ◌%◌, ◌^◌, ◌<◌, ◌≤◌, List, [], ◌∷◌, ◌++◌, All, Bool, true}
use Rattle.std.specs.Prelude.{false, cond, ◌==◌, nat_le, nat_lt, length, Option, None, Some, if◌then◌else◌}
use Rattle.std.proofs.Common.{arith, inl, inr, refl, sym, ap, subst, ◌∙◌}
use Rattle.std.specs.FinMap.{find}
use Rattle.std.specs.Ordering.{nat_cmp}
use Rattle.std.proofs.lemmas.Bool.{ltb-false, ltb-true}
use Rattle.std.proofs.lemmas.List.Elements.{All-append, All-cons, All-head, All-nil, All-tail}
use Rattle.r4_base.specs.Key.{minor_of}
use Rattle.r4_base.specs.Value.{Byte, Entry, Stat, Value}
use Rattle.r4_base.specs.Volume.{IsObject, byte_rank, stat_rank}
use Rattle.r4_base.specs.declared.items.Attr.{Attr}
use Rattle.r4_base.specs.declared.items.Target.{Target}
use Rattle.r4_base.proofs.Visible.{byte_back}
use Rattle.r4_content.specs.Bodies.{fill_gap, larger, resize, truncated, written}
use Rattle.r4_content.specs.Edited.{Edits, Intervals, Pairs, and_also, changed, no_edits, put_keys}
use Rattle.r4_content.specs.Meaning.{greatest_size}
use Rattle.r4_content.specs.Objects.{Object, byte_pairs, cut_body, cut_key, entry_less, entry_more, entry_rank, is_dir}
use Rattle.r4_content.specs.Objects.{is_same, link_less, one_more, set_attr, set_body, set_entry, sized, unnamed, zero_body}
use Rattle.r4_content.specs.Entries.{moved, set_parents}
use Rattle.r4_content.proofs.Ranks.{byte_after}
use Rattle.r4_content.proofs.Shapes.{entry_dir}
use Rattle.r4_suited.specs.r4_reach.Reach.{is_body}
use Rattle.r4_suited.specs.r4_reach.Touched.{size_in}
use Rattle.r4_suited.proofs.Few.{stat_off}

-- The key is no body's.
abbrev pub IsOff : ℕ × ℕ → Type 0
IsOff r = is_body r.0 ≡ false

-- It is so, or the interval is of the bytes of this file.
abbrev pub IsOwn : Target → ℕ × ℕ → Type 0
IsOwn f r = (is_body r.0 ≡ false)
    ⊎ ((x : ℕ) × (y : ℕ) × (y ≤ 2 ^ 64) × (r.0 ≡ byte_rank f x) × (r.1 ≡ byte_rank f y))

-- Attributes that come give no more bytes than a file may have to an object that had no more.
abbrev pub KeepsSize : Pairs → ℕ × Value → Type 0
KeepsSize s (k, Stat a) = size_in (find nat_cmp k s) ≤ greatest_size → a.size ≤ greatest_size
KeepsSize s (k, Entry n t) = Unit {0}
KeepsSize s (k, Byte x) = Unit {0}

-- All intervals are of the kind, and all values of the other.
pub record AreAll (I : ℕ × ℕ → Type 0) (V : ℕ × Value → Type 0) (e : Edits) : Type 0 where
  pub keys : All I (put_keys e.puts)
  pub zeros : All I e.zeros
  pub cuts : All I e.cuts
  pub values : All V e.puts

-- any value
abbrev pub Any : ℕ × Value → Type 0
Any p = Unit {0}

pub byte_on : (f : Target) (x : ℕ) → IsObject f → x < 2 ^ 64 → is_body (byte_rank f x) ≡ true
byte_on f x is lt =
    let four : (f.locality * 16 + 4) % 16 ≡ 4 = omega arith in
    ap (λ k. minor_of k == 4) (byte_back f x is lt) ∙ ap (λ (x : ℕ). x == 4) four

pub entry_off : (d : Target) (n : List ℕ) → d.oid.0 < 2 ^ 60 → All (λ x. x < 256) n → is_body (entry_rank d n) ≡ false
entry_off d n small bytes = ap (λ (x : ℕ). x == 4) (entry_dir d n small bytes).1

module _ (I : ℕ × ℕ → Type 0) (V : ℕ × Value → Type 0) where
  pub none : AreAll I V no_edits
  none = record { keys = All-nil I; zeros = All-nil I; cuts = All-nil I; values = All-nil V }

  put_both : (a b : Pairs) → All I (put_keys a) → All I (put_keys b) → All I (put_keys (a ++ b))
  put_both [] b h g = g
  put_both (e ∷ a) b h g =
      All-cons I (e.0, e.0 + 1) (put_keys (a ++ b)) (All-head I (e.0, e.0 + 1) (put_keys a) h)
      (put_both a b (All-tail I (e.0, e.0 + 1) (put_keys a) h) g)

  pub both : (e g : Edits) → AreAll I V e → AreAll I V g → AreAll I V (and_also e g)
  both e g h i = record {
    keys = put_both e.puts g.puts h.keys i.keys;
    zeros = All-append I e.zeros g.zeros h.zeros i.zeros;
    cuts = All-append I e.cuts g.cuts h.cuts i.cuts;
    values = All-append V e.puts g.puts h.values i.values;
  }

  pub if_both : (b : Bool) (e g : Edits) → AreAll I V e → AreAll I V g → AreAll I V (if b then e else g)
  if_both true e g h i = h
  if_both false e g h i = i

  pub one_value : (k : ℕ) (v : Value) → I (k, k + 1) → V (k, v)
      → AreAll I V (record { cuts = []; zeros = []; puts = (k, v) ∷ [] })
  one_value k v i h = record {
    keys = All-cons I (k, k + 1) [] i (All-nil I);
    zeros = All-nil I;
    cuts = All-nil I;
    values = All-cons V (k, v) [] h (All-nil V);
  }

  pub one_key : (k : ℕ) → I (k, k + 1) → AreAll I V (cut_key k)
  one_key k i = record {
    keys = All-nil I;
    zeros = All-nil I;
    cuts = All-cons I (k, k + 1) [] i (All-nil I);
    values = All-nil V;
  }

  pub cut_range : (o : Object) (from to : ℕ) → I (byte_rank o.target from, byte_rank o.target to)
      → AreAll I V (cut_body o from to)
  cut_range o from to i = record {
    keys = All-nil I;
    zeros = All-nil I;
    cuts = All-cons I (byte_rank o.target from, byte_rank o.target to) [] i (All-nil I);
    values = All-nil V;
  }

  pub zero_range : (o : Object) (from to : ℕ) → I (byte_rank o.target from, byte_rank o.target to)
      → AreAll I V (zero_body o from to)
  zero_range o from to i = record {
    keys = All-nil I;
    zeros = All-cons I (byte_rank o.target from, byte_rank o.target to) [] i (All-nil I);
    cuts = All-nil I;
    values = All-nil V;
  }

-- ---- sizes

pub less_size : (d : Bool) (a : Attr) → (entry_less d a).size ≡ a.size - 1
less_size true a = refl
less_size false a = refl

pub more_size : (d : Bool) (a : Attr) → (entry_more d a).size ≡ one_more (2 ^ 64 - 1) a.size
more_size true a = refl
more_size false a = refl

pub one_more_size : (n m : ℕ) → n ≤ m → one_more (2 ^ 64 - 1) n ≤ m + 1
one_more_size n m le = by_test (nat_lt n (2 ^ 64 - 1))
  where
    by_test : (b : Bool) → (if b then n + 1 else n) ≤ m + 1
    by_test true = omega (arith, le)
    by_test false = omega (arith, le)

pub larger_fits : (a b m : ℕ) → a ≤ m → b ≤ m → larger a b ≤ m
larger_fits a b m x y = by_test (nat_lt a b)
  where
    by_test : (t : Bool) → (if t then b else a) ≤ m
    by_test true = y
    by_test false = x

-- ---- of one object

-- the attributes of an object that stands there, with a size that fits where the old one does
pub keeps_size : (s : Pairs) (o : Object) (a : Attr) → find nat_cmp (stat_rank o.target) s ≡ Some (Stat o.attr)
    → (o.attr.size ≤ greatest_size → a.size ≤ greatest_size) → KeepsSize s (stat_rank o.target, Stat a)
keeps_size s o a found h le = h (subst (λ v. size_in v ≤ greatest_size) found le)

pub entry_value : (I : ℕ × ℕ → Type 0) (s : Pairs) (dir : Object) (n : List ℕ) (t : Target)
    → I (entry_rank dir.target n, entry_rank dir.target n + 1) → AreAll I (KeepsSize s) (set_entry dir n t)
entry_value I s dir n t i = one_value I (KeepsSize s) (entry_rank dir.target n) (Entry n t) i tt

-- ---- bytes of a file

module _ (s : Pairs) (o : Object) where
  abbrev pub Mine : Edits → Type 0
  Mine e = AreAll (IsOwn o.target) (KeepsSize s) e

  pub span : (from to : ℕ) → to ≤ 2 ^ 64 → IsOwn o.target (byte_rank o.target from, byte_rank o.target to)
  span from to le = inr (from, to, le, refl, refl)

  run_keys : (xs : List ℕ) (from : ℕ) → from + length xs ≤ 2 ^ 64
      → All (IsOwn o.target) (put_keys (byte_pairs (byte_rank o.target from) xs))
  run_keys [] from le = All-nil (IsOwn o.target)
  run_keys (x ∷ xs) from le =
      let next = byte_after o.target from 1 in
      All-cons (IsOwn o.target) (byte_rank o.target from, byte_rank o.target from + 1)
      (put_keys (byte_pairs (byte_rank o.target from + 1) xs))
      (inr (from, from + 1, omega (arith, le), refl, sym next))
      (subst (λ (k : ℕ). All (IsOwn o.target) (put_keys (byte_pairs k xs))) next (run_keys xs (from + 1) (omega
      (arith, le))))

  run_values : (xs : List ℕ) (k : ℕ) → All (KeepsSize s) (byte_pairs k xs)
  run_values [] k = All-nil (KeepsSize s)
  run_values (x ∷ xs) k = All-cons (KeepsSize s) (k, Byte x) (byte_pairs (k + 1) xs) tt (run_values xs (k + 1))

  pub bytes_set : (from : ℕ) (xs : List ℕ) → from + length xs ≤ 2 ^ 64 → Mine (set_body o from xs)
  bytes_set from xs le = record {
    keys = run_keys xs from le;
    zeros = All-nil (IsOwn o.target);
    cuts = All-nil (IsOwn o.target);
    values = run_values xs (byte_rank o.target from);
  }

  module _ (is : IsObject o.target) (found : find nat_cmp (stat_rank o.target) s ≡ Some (Stat o.attr)) where
    pub attr_set : (a : Attr) → (o.attr.size ≤ greatest_size → a.size ≤ greatest_size) → Mine (set_attr o a)
    attr_set a le = one_value (IsOwn o.target) (KeepsSize s) (stat_rank o.target) (Stat a)
        (inl (stat_off o.target is)) (keeps_size s o a found le)

    size_set : (n : ℕ) → (o.attr.size ≤ greatest_size → n ≤ greatest_size) → Mine (resize o n)
    size_set n le = if_both (IsOwn o.target) (KeepsSize s) (o.attr.size == n) no_edits (set_attr o (sized o.attr n))
        (none (IsOwn o.target) (KeepsSize s)) (attr_set (sized o.attr n) le)

    gap_set : (n : ℕ) → n ≤ 2 ^ 64 → Mine (fill_gap o n)
    gap_set n le = if_both (IsOwn o.target) (KeepsSize s) (nat_lt o.attr.size n) (zero_body o o.attr.size n) no_edits
        (zero_range (IsOwn o.target) (KeepsSize s) o o.attr.size n (span o.attr.size n le))
        (none (IsOwn o.target) (KeepsSize s))

    pub written_own : (from : ℕ) (xs : List ℕ) → from + length xs ≤ greatest_size → Mine (written o from xs)
    written_own from xs fits =
        let n = larger o.attr.size (from + length xs) in
        both (IsOwn o.target) (KeepsSize s) (fill_gap o from) (and_also (set_body o from xs) (resize o n))
        (gap_set from (omega (arith, fits)))
        (both (IsOwn o.target) (KeepsSize s) (set_body o from xs) (resize o n)
        (bytes_set from xs (omega (arith, fits)))
        (size_set n (λ le. larger_fits o.attr.size (from + length xs) greatest_size le fits)))

    pub truncated_own : (n : ℕ) → n ≤ greatest_size → o.attr.size ≤ 2 ^ 64 → Mine (truncated o n)
    truncated_own n fits size =
        both (IsOwn o.target) (KeepsSize s) (if nat_lt n o.attr.size then cut_body o n o.attr.size else fill_gap o n)
        (resize o n)
        (if_both (IsOwn o.target) (KeepsSize s) (nat_lt n o.attr.size) (cut_body o n o.attr.size) (fill_gap o n)
        (cut_range (IsOwn o.target) (KeepsSize s) o n o.attr.size (span n o.attr.size size))
        (gap_set n (omega (arith, fits))))
        (size_set n (λ le. fits))

    pub unnamed_own : o.attr.size ≤ 2 ^ 64 → Mine (unnamed o)
    unnamed_own size =
        let key = one_key (IsOwn o.target) (KeepsSize s) (stat_rank o.target) (inl (stat_off o.target is)) in
        if_both (IsOwn o.target) (KeepsSize s) (is_dir o) (cut_key (stat_rank o.target)) _ key
        (if_both (IsOwn o.target) (KeepsSize s) (nat_le o.attr.nlink 1) _ (set_attr o (link_less o.attr))
        (both (IsOwn o.target) (KeepsSize s) (cut_key (stat_rank o.target)) (cut_body o 0 o.attr.size) key
        (cut_range (IsOwn o.target) (KeepsSize s) o 0 o.attr.size (span 0 o.attr.size size)))
        (attr_set (link_less o.attr) (λ le. le)))
