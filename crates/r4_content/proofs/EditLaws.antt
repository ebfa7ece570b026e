-- What stands at a key after edits.
use Rattle.std.specs.Prelude.{Option, Some, None, ◌≡◌, ℕ, zero, suc, ◌+◌, ◌-◌, [], ◌∷◌, ◌++◌, Bool, true, false, not, ◌||◌, ◌==◌, cond}
use Rattle.std.proofs.Common.{arith, refl, sym, ap, ◌∙◌}
use Rattle.std.proofs.lemmas.Grind.{common_steps}
use Rattle.std.specs.Cmp.{unsigned_tied}
use Rattle.std.specs.FinMap.{get-insert, get-retain_keys, insert, retain_keys, entries, same_map, nat_cmp-IsAntisymmetric}
use Rattle.std.proofs.lemmas.Cmp.{nat_cmp_total}
use Rattle.r4_base.specs.Value.{Value, Byte, Content, at_key}
use Rattle.r4_content.specs.Edited.{Pairs, Intervals, Edits, is_between, is_in, pairs_between, cut_all, zero_from, zero_all, put_all, put_keys, edited, changed}

pub at_insert : (m : Content) (k : ℕ) (v : Value) (q : ℕ) → at_key (insert m k v) q ≡ cond (q == k) (Some v) (at_key m q)
at_insert m k v q = get-insert nat_cmp_total m k v q ∙ ap (λ b. cond b (Some v) (at_key m q)) (unsigned_tied q k)

pub at_retain : (m : Content) (p : ℕ → Bool) (k : ℕ) → at_key (retain_keys m p) k ≡ cond (p k) (at_key m k) None
at_retain m p k = get-retain_keys m p k (λ x e. ap p (sym (nat_cmp-IsAntisymmetric k x e)))

cut_step : (a b : Bool) (v : Option Value) → cond b None (cond (not a) v None) ≡ cond (a || b) None v
cut_step true true v = refl
cut_step true false v = refl
cut_step false b v = refl

pub at_cut : (rs : Intervals) (m : Content) (k : ℕ) → at_key (cut_all rs m) k ≡ cond (is_in rs k) None (at_key m k)
at_cut [] m k = refl
at_cut (r ∷ rs) m k = at_cut rs _ k ∙ ap (cond (is_in rs k) None) (at_retain m (λ q. not (is_between r.0 r.1 q)) k) ∙ cut_step (is_between r.0 r.1 k) (is_in rs k) (at_key m k)

set_step : (a b : Bool) (v w : Option Value) → cond b v (cond a v w) ≡ cond (a || b) v w
set_step true true v w = refl
set_step true false v w = refl
set_step false b v w = refl

first_or_rest : (k from n : ℕ) → (is_between (from + 1) (from + 1 + n) k || k == from) ≡ is_between from (from + suc n) k
first_or_rest k from n = grind (arith, common_steps)

pub at_zero_from : (from n : ℕ) (m : Content) (k : ℕ) → at_key (zero_from from n m) k ≡ cond (is_between from (from + n) k) (Some (Byte 0)) (at_key m k)
at_zero_from from zero m k = grind (arith, common_steps)
at_zero_from from (suc n) m k =
    at_insert (zero_from (from + 1) n m) from (Byte 0) k
    ∙ ap (cond (k == from) (Some (Byte 0))) (at_zero_from (from + 1) n m k)
    ∙ set_step (is_between (from + 1) (from + 1 + n) k) (k == from) (Some (Byte 0)) (at_key m k)
    ∙ ap (λ b. cond b (Some (Byte 0)) (at_key m k)) (first_or_rest k from n)

to_end : (from to k : ℕ) → is_between from (from + (to - from)) k ≡ is_between from to k
to_end from to k = grind (arith, common_steps)

pub at_zero : (rs : Intervals) (m : Content) (k : ℕ) → at_key (zero_all rs m) k ≡ cond (is_in rs k) (Some (Byte 0)) (at_key m k)
at_zero [] m k = refl
at_zero (r ∷ rs) m k =
    at_zero rs _ k
    ∙ ap (cond (is_in rs k) (Some (Byte 0))) (at_zero_from r.0 (r.1 - r.0) m k ∙ ap (λ b. cond b (Some (Byte 0)) (at_key m k)) (to_end r.0 r.1 k))
    ∙ set_step (is_between r.0 r.1 k) (is_in rs k) (Some (Byte 0)) (at_key m k)

-- the value of the last put at a key
abbrev pub last_put : Pairs → ℕ → Option Value → Option Value
last_put [] k v = v
last_put (e ∷ es) k v = last_put es k (cond (k == e.0) (Some e.1) v)

pub at_put : (es : Pairs) (m : Content) (k : ℕ) → at_key (put_all es m) k ≡ last_put es k (at_key m k)
at_put [] m k = refl
at_put (e ∷ es) m k = at_put es _ k ∙ ap (last_put es k) (at_insert m e.0 e.1 k)

pub one_key : (k a : ℕ) → is_between a (a + 1) k ≡ (k == a)
one_key k a = grind (arith, common_steps)

pub put_off : (es : Pairs) (k : ℕ) (v : Option Value) → is_in (put_keys es) k ≡ false → last_put es k v ≡ v
put_off [] k v h = refl
put_off (e ∷ es) k v h = split (k == e.0) (put_off es k v) (ap (λ b. b || is_in (put_keys es) k) (sym (one_key k e.0)) ∙ h)
  where
    split : (b : Bool) → (is_in (put_keys es) k ≡ false → last_put es k v ≡ v) → (b || is_in (put_keys es) k) ≡ false → last_put es k (cond b (Some e.1) v) ≡ v
    split true f g = grind (arith, g)
    split false f g = f g

pub put_on : (es : Pairs) (k : ℕ) (v w : Option Value) → is_in (put_keys es) k ≡ true → last_put es k v ≡ last_put es k w
put_on [] k v w h = grind (arith, h)
put_on (e ∷ es) k v w h = split (k == e.0) (put_on es k v w) (ap (λ b. b || is_in (put_keys es) k) (sym (one_key k e.0)) ∙ h)
  where
    split : (b : Bool) → (is_in (put_keys es) k ≡ true → last_put es k v ≡ last_put es k w) → (b || is_in (put_keys es) k) ≡ true → last_put es k (cond b (Some e.1) v) ≡ last_put es k (cond b (Some e.1) w)
    split true f g = refl
    split false f g = f g

pub in_append : (a b : Intervals) (k : ℕ) → is_in (a ++ b) k ≡ (is_in a k || is_in b k)
in_append [] b k = refl
in_append (r ∷ a) b k = ap (λ x. is_between r.0 r.1 k || x) (in_append a b k) ∙ assoc (is_between r.0 r.1 k) (is_in a k) (is_in b k)
  where
    assoc : (x y z : Bool) → (x || (y || z)) ≡ ((x || y) || z)
    assoc true y z = refl
    assoc false y z = refl

pub in_changed : (e : Edits) (k : ℕ) → is_in (changed e) k ≡ (is_in (put_keys e.puts) k || (is_in e.zeros k || is_in e.cuts k))
in_changed e k = in_append (put_keys e.puts) (e.zeros ++ e.cuts) k ∙ ap (λ b. is_in (put_keys e.puts) k || b) (in_append e.zeros e.cuts k)

pub at_edited : (e : Edits) (m : Content) (k : ℕ) → at_key (edited e m) k ≡ last_put e.puts k (cond (is_in e.zeros k) (Some (Byte 0)) (cond (is_in e.cuts k) None (at_key m k)))
at_edited e m k = at_put e.puts _ k ∙ ap (last_put e.puts k) (at_zero e.zeros _ k ∙ ap (cond (is_in e.zeros k) (Some (Byte 0))) (at_cut e.cuts m k))

-- edits leave the keys that they do not name
pub edited_off : (e : Edits) (m : Content) (k : ℕ) → is_in (changed e) k ≡ false → at_key (edited e m) k ≡ at_key m k
edited_off e m k h = at_edited e m k ∙ parts (is_in (put_keys e.puts) k) refl (is_in e.zeros k) (is_in e.cuts k) (sym (in_changed e k) ∙ h)
  where
    parts : (a : Bool) → is_in (put_keys e.puts) k ≡ a → (b c : Bool) → (a || (b || c)) ≡ false → last_put e.puts k (cond b (Some (Byte 0)) (cond c None (at_key m k))) ≡ at_key m k
    parts false p false false g = put_off e.puts k _ p
    parts false p false true g = grind (arith, g)
    parts false p true c g = grind (arith, g)
    parts true p b c g = grind (arith, g)

-- and set those that they name, whatever stood there
pub edited_on : (e : Edits) (m n : Content) (k : ℕ) → is_in (changed e) k ≡ true → at_key (edited e m) k ≡ at_key (edited e n) k
edited_on e m n k h = at_edited e m k ∙ parts (is_in (put_keys e.puts) k) refl (is_in e.zeros k) (is_in e.cuts k) (sym (in_changed e k) ∙ h) ∙ sym (at_edited e n k)
  where
    parts : (a : Bool) → is_in (put_keys e.puts) k ≡ a → (b c : Bool) → (a || (b || c)) ≡ true
        → last_put e.puts k (cond b (Some (Byte 0)) (cond c None (at_key m k))) ≡ last_put e.puts k (cond b (Some (Byte 0)) (cond c None (at_key n k)))
    parts true p b c g = put_on e.puts k _ _ p
    parts false p true c g = refl
    parts false p false true g = refl
    parts false p false false g = grind (arith, g)

pub same_content : (m n : Content) → ((k : ℕ) → at_key m k ≡ at_key n k) → m ≡ n
same_content m n h = same_map nat_cmp_total nat_cmp-IsAntisymmetric m n h

-- contents that agree on an interval have the same pairs there
pub same_pairs : (m n : Content) (from to : ℕ) → ((k : ℕ) → is_between from to k ≡ true → at_key m k ≡ at_key n k) → pairs_between m from to ≡ pairs_between n from to
same_pairs m n from to h = ap entries (same_content _ _ (λ k. at_retain m (is_between from to) k ∙ inside k (is_between from to k) refl ∙ sym (at_retain n (is_between from to) k)))
  where
    inside : (k : ℕ) (b : Bool) → is_between from to k ≡ b → cond b (at_key m k) None ≡ cond b (at_key n k) None
    inside k true e = h k e
    inside k false e = refl
