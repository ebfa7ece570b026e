-- Edits that are made of others: what stands at a key is what the part says that changes it.
use Rattle.std.specs.Prelude.{◌≡◌, ℕ, ◌+◌, [], ◌∷◌, ◌++◌, Bool, true, false, ◌||◌, cond, Option, Some, None}
use Rattle.std.proofs.Common.{refl, sym, ap, ◌∙◌}
use Rattle.std.proofs.lemmas.Bool.{or_from, or_parts}
use Rattle.r4_base.specs.Value.{Value, Byte, Content, at_key}
use Rattle.r4_content.specs.Edited.{Pairs, Intervals, Edits, and_also, changed, edited, is_in, put_keys}
use Rattle.r4_content.proofs.EditLaws.{at_edited, in_append, in_changed, last_put, put_off, put_on}

pub true_not_false : true ≡ false → ⊥
true_not_false e = cc

-- a key that edits do not change
pub record IsOff (e : Edits) (k : ℕ) : Type 0 where
  pub puts : is_in (put_keys e.puts) k ≡ false
  pub zeros : is_in e.zeros k ≡ false
  pub cuts : is_in e.cuts k ≡ false

pub off_is : (e : Edits) (k : ℕ) → is_in (changed e) k ≡ false → IsOff e k
off_is e k h =
    let all = or_parts (is_in (put_keys e.puts) k) (is_in e.zeros k || is_in e.cuts k) (sym (in_changed e k) ∙ h) in
    let rest = or_parts (is_in e.zeros k) (is_in e.cuts k) all.1 in
    record { puts = all.0; zeros = rest.0; cuts = rest.1 }

pub is_off : (e : Edits) (k : ℕ) → IsOff e k → is_in (changed e) k ≡ false
is_off e k h = in_changed e k ∙ or_from _ _ h.puts (or_from _ _ h.zeros h.cuts)

put_keys_append : (xs ys : Pairs) → put_keys (xs ++ ys) ≡ put_keys xs ++ put_keys ys
put_keys_append [] ys = refl
put_keys_append (x ∷ xs) ys = ap (λ (rs : Intervals). (x.0, x.0 + 1) ∷ rs) (put_keys_append xs ys)

pub off_both : (e f : Edits) (k : ℕ) → IsOff e k → IsOff f k → IsOff (and_also e f) k
off_both e f k h g = record {
  puts = ap (λ (rs : Intervals). is_in rs k) (put_keys_append e.puts f.puts) ∙ in_append (put_keys e.puts) (put_keys f.puts) k ∙ or_from _ _ h.puts g.puts;
  zeros = in_append e.zeros f.zeros k ∙ or_from _ _ h.zeros g.zeros;
  cuts = in_append e.cuts f.cuts k ∙ or_from _ _ h.cuts g.cuts;
}

pub off_left : (e f : Edits) (k : ℕ) → IsOff (and_also e f) k → IsOff e k
off_left e f k h = record {
  puts = (or_parts _ _ (sym (ap (λ (rs : Intervals). is_in rs k) (put_keys_append e.puts f.puts) ∙ in_append (put_keys e.puts) (put_keys f.puts) k) ∙ h.puts)).0;
  zeros = (or_parts _ _ (sym (in_append e.zeros f.zeros k) ∙ h.zeros)).0;
  cuts = (or_parts _ _ (sym (in_append e.cuts f.cuts k) ∙ h.cuts)).0;
}

last_put_append : (xs ys : Pairs) (k : ℕ) (v : Option Value) → last_put (xs ++ ys) k v ≡ last_put ys k (last_put xs k v)
last_put_append [] ys k v = refl
last_put_append (x ∷ xs) ys k v = last_put_append xs ys k _

false_or : (a b : Bool) → a ≡ false → (a || b) ≡ b
false_or false b e = refl
false_or true b e = absurd cc

or_nothing : (a b : Bool) → b ≡ false → (a || b) ≡ a
or_nothing false b e = e
or_nothing true b e = refl

-- what stands at a key before the puts
abbrev below_puts : Edits → Content → ℕ → Option Value
below_puts e m k = cond (is_in e.zeros k) (Some (Byte 0)) (cond (is_in e.cuts k) None (at_key m k))

both_puts : (e f : Edits) (m : Content) (k : ℕ) → at_key (edited (and_also e f) m) k ≡ last_put f.puts k (last_put e.puts k (below_puts (and_also e f) m k))
both_puts e f m k = at_edited (and_also e f) m k ∙ last_put_append e.puts f.puts k (below_puts (and_also e f) m k)

-- the second part alone changes it
pub edited_second : (e f : Edits) (m : Content) (k : ℕ) → IsOff e k → at_key (edited (and_also e f) m) k ≡ at_key (edited f m) k
edited_second e f m k h =
    both_puts e f m k ∙ ap (last_put f.puts k) (put_off e.puts k (below_puts (and_also e f) m k) h.puts
    ∙ ap (λ (b : Bool). cond b (Some (Byte 0)) (cond (is_in (e.cuts ++ f.cuts) k) None (at_key m k))) (in_append e.zeros f.zeros k ∙ false_or _ _ h.zeros)
    ∙ ap (λ (b : Bool). cond (is_in f.zeros k) (Some (Byte 0)) (cond b None (at_key m k))) (in_append e.cuts f.cuts k ∙ false_or _ _ h.cuts))
    ∙ sym (at_edited f m k)

-- the first part alone changes it
pub edited_first : (e f : Edits) (m : Content) (k : ℕ) → IsOff f k → at_key (edited (and_also e f) m) k ≡ at_key (edited e m) k
edited_first e f m k h =
    both_puts e f m k ∙ put_off f.puts k _ h.puts
    ∙ ap (last_put e.puts k) (ap (λ (b : Bool). cond b (Some (Byte 0)) (cond (is_in (e.cuts ++ f.cuts) k) None (at_key m k))) (in_append e.zeros f.zeros k ∙ or_nothing _ _ h.zeros)
    ∙ ap (λ (b : Bool). cond (is_in e.zeros k) (Some (Byte 0)) (cond b None (at_key m k))) (in_append e.cuts f.cuts k ∙ or_nothing _ _ h.cuts))
    ∙ sym (at_edited e m k)

-- what the second part puts stands, whatever the first one does
pub edited_over : (e f : Edits) (m : Content) (k : ℕ) → is_in (put_keys f.puts) k ≡ true → at_key (edited (and_also e f) m) k ≡ at_key (edited f m) k
edited_over e f m k h = both_puts e f m k ∙ put_on f.puts k _ _ h ∙ sym (at_edited f m k)

-- what the first part puts, both put
pub put_first : (e f : Edits) (k : ℕ) → is_in (put_keys e.puts) k ≡ true → is_in (put_keys (and_also e f).puts) k ≡ true
put_first e f k h = ap (λ (rs : Intervals). is_in rs k) (put_keys_append e.puts f.puts) ∙ in_append (put_keys e.puts) (put_keys f.puts) k ∙ or_first (is_in (put_keys e.puts) k) h
  where
    or_first : (a : Bool) → a ≡ true → (a || is_in (put_keys f.puts) k) ≡ true
    or_first true g = refl
    or_first false g = absurd cc
