-- Edits of contents (docs/commands.md, "Edits"). Keys stand by their ranks, so that the key behind
-- one is the next number.
use Rattle.std.specs.Prelude.{ℕ, zero, suc, ◌+◌, ◌-◌, List, [], ◌∷◌, ◌++◌, Bool, false, not, ◌&&◌}
use Rattle.std.specs.Prelude.{◌||◌, nat_le, nat_lt}
use Rattle.std.specs.FinMap.{insert, retain_keys, entries}
use Rattle.r4_base.specs.Value.{Value, Byte, Content}

-- keys with what stands there
abbrev pub Pairs : Type 0
Pairs = List (ℕ × Value)

-- each from its first key on, and without its second
abbrev pub Intervals : Type 0
Intervals = List (ℕ × ℕ)

abbrev pub is_between : (from to : ℕ) → ℕ → Bool
is_between from to k = nat_le from k && nat_lt k to

-- the key lies in one of the intervals
abbrev pub is_in : Intervals → ℕ → Bool
is_in [] k = false
is_in (r ∷ rs) k = is_between r.0 r.1 k || is_in rs k

-- what stands in an interval, rising by key
abbrev pub pairs_between : Content → (from to : ℕ) → Pairs
pairs_between m from to = entries (retain_keys m (is_between from to))

-- First the keys of `cuts` are taken away, then each key of `zeros` gets the byte 0, then the
-- pairs of `puts` are set, one after another.
pub record Edits : Type 0 where
  pub cuts : Intervals
  pub zeros : Intervals
  pub puts : Pairs

abbrev pub no_edits : Edits
no_edits = record { cuts = []; zeros = []; puts = [] }

abbrev pub and_also : Edits → Edits → Edits
and_also e f = record {
  cuts = e.cuts ++ f.cuts;
  zeros = e.zeros ++ f.zeros;
  puts = e.puts
      ++ f.puts;
}

abbrev pub cut_all : Intervals → Content → Content
cut_all [] m = m
cut_all (r ∷ rs) m = cut_all rs (retain_keys m (λ k. not (is_between r.0 r.1 k)))

-- n bytes 0 from a key on
abbrev pub zero_from : (from n : ℕ) → Content → Content
zero_from from zero m = m
zero_from from (suc n) m = insert (zero_from (from + 1) n m) from (Byte 0)

abbrev pub zero_all : Intervals → Content → Content
zero_all [] m = m
zero_all (r ∷ rs) m = zero_all rs (zero_from r.0 (r.1 - r.0) m)

abbrev pub put_all : Pairs → Content → Content
put_all [] m = m
put_all (e ∷ es) m = put_all es (insert m e.0 e.1)

-- the content with the edits made
abbrev pub edited : Edits → Content → Content
edited e m = put_all e.puts (zero_all e.zeros (cut_all e.cuts m))

abbrev pub put_keys : Pairs → Intervals
put_keys [] = []
put_keys (e ∷ es) = (e.0, e.0 + 1) ∷ put_keys es

-- the keys that edits set or take away, also where what stands there stays as it was
abbrev pub changed : Edits → Intervals
changed e = put_keys e.puts ++ (e.zeros ++ e.cuts)
