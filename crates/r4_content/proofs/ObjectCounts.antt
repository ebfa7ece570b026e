-- How many objects there are after a command.
use Rattle.std.specs.Prelude.{◌≡◌, ◌≢◌, ◌⊎◌, ℕ, suc, ◌+◌, ◌≤◌, List, [], ◌∷◌, Bool, true, false, ◌==◌, cond, length, Contains, Option, Some, None, if◌then◌else◌}
use Rattle.std.proofs.Common.{arith, inl, inr, refl, sym, ap, ◌∙◌}
use Rattle.std.specs.Cmp.{unsigned_tied}
use Rattle.std.specs.FinMap.{entries, find, get-entries, insert}
use Rattle.std.specs.List.{filter}
use Rattle.std.specs.Ordering.{nat_cmp}
use Rattle.std.proofs.lemmas.Bool.{eq-eqb, eqb-true, ne_eqb}
use Rattle.std.proofs.lemmas.List.Sums.{length-filter}
use Rattle.std.proofs.lemmas.Option.{same_Some}
use Rattle.r4_base.proofs.Members.{member_here, member_later}
use Rattle.r4_base.specs.Key.{key_of_rank, minor_of}
use Rattle.r4_base.specs.Value.{Value, Stat, Entry, Byte, Content, at_key}
use Rattle.r4_base.specs.Volume.{is_stat_value, objects_in}
use Rattle.r4_content.specs.Edited.{Edits, Pairs, edited, is_in}
use Rattle.r4_content.specs.Lawful.{HasBodies}
use Rattle.r4_content.proofs.Counting.{at_cut_key, cut_at, here, one_count, pick}
use Rattle.r4_content.proofs.EditLaws.{at_edited, at_insert, last_put}
use Rattle.r4_content.proofs.EditParts.{true_not_false}
use Rattle.r4_content.proofs.VolumeWidths.{counted_few}
use Rattle.r4_content.proofs.Widths.{EachStat, each_edited}

abbrev is_object : ℕ × Value → Bool
is_object u = is_stat_value u.1

-- ---- contents with stat data at the same keys have as many objects

keys_of : Pairs → List ℕ
keys_of [] = []
keys_of (e ∷ es) = e.0 ∷ keys_of es

keys_length : (es : Pairs) → length (keys_of es) ≡ length es
unfolding keys_of
keys_length [] = refl
keys_length (e ∷ es) = ap suc (keys_length es)

key_in : (p : ℕ × Value → Bool) (es : Pairs) (k : ℕ) (v : Value) → find nat_cmp k es ≡ Some v → p (k, v) ≡ true → Contains (keys_of (filter p es)) k
unfolding keys_of
key_in p [] k v at e = absurd (no_value at)
  where
    no_value : None ≡ Some v → ⊥
    no_value f = cc
key_in p (x ∷ es) k v at e = by_key (k == x.0) refl (sym (ap (λ (b : Bool). cond b (Some x.1) (find nat_cmp k es)) (unsigned_tied k x.0)) ∙ at) (key_in p es k v)
  where
    later : (b : Bool) → Contains (keys_of (filter p es)) k → Contains (keys_of (cond b (x ∷ filter p es) (filter p es))) k
    later true h = member_later x.0 (keys_of (filter p es)) k h
    later false h = h

    first : (b : Bool) → p x ≡ b → k ≡ x.0 → v ≡ x.1 → Contains (keys_of (cond b (x ∷ filter p es) (filter p es))) k
    first true f same is = member_here x.0 (keys_of (filter p es)) k same
    first false f same is = absurd (true_not_false (sym e ∙ ap (λ (q : ℕ). p (q, v)) same ∙ ap (λ (w : Value). p (x.0, w)) is ∙ f))

    by_key : (b : Bool) → (k == x.0) ≡ b → cond b (Some x.1) (find nat_cmp k es) ≡ Some v → (find nat_cmp k es ≡ Some v → p (k, v) ≡ true → Contains (keys_of (filter p es)) k)
        → Contains (keys_of (filter p (x ∷ es))) k
    by_key true is f rest = first (p x) refl (eqb-true k x.0 is) (sym (same_Some x.1 v f))
    by_key false is f rest = later (p x) (rest f e)

-- stat data stand at the key
abbrev pub has_stat : Option Value → Bool
has_stat None = false
has_stat (Some v) = is_stat_value v

some_value : (o : Option Value) → has_stat o ≡ true → (v : Value) × (o ≡ Some v) × (is_stat_value v ≡ true)
some_value None e = absurd (true_not_false (sym e))
some_value (Some v) e = (v, refl, e)

no_more : (m n : Content) → ((k : ℕ) → has_stat (at_key m k) ≡ true → has_stat (at_key n k) ≡ true) → objects_in m ≤ objects_in n
no_more m n h =
    let few = counted_few is_object (keys_of (filter is_object (entries n))) m (λ k v at e.
    let (w, there, is) = some_value (at_key n k) (h k (ap has_stat at ∙ e)) in
    key_in is_object (entries n) k w (sym (get-entries n k) ∙ there) is) in
    let all = keys_length (filter is_object (entries n)) in
    let many = length-filter is_object (entries n) in
    omega (arith, few, all, many)

same_objects : (m n : Content) → ((k : ℕ) → has_stat (at_key m k) ≡ has_stat (at_key n k)) → objects_in m ≡ objects_in n
same_objects m n h =
    let one = no_more m n (λ k e. sym (h k) ∙ e) in
    let two = no_more n m (λ k e. h k ∙ e) in
    omega (arith, one, two)

abbrev pub stat_here : Content → ℕ → ℕ
stat_here m k = if has_stat (at_key m k) then 1 else 0

here_is : (k : ℕ) (o : Option Value) → here is_object k o ≡ (if has_stat o then 1 else 0)
here_is k None = refl
here_is k (Some (Stat a)) = refl
here_is k (Some (Entry s t)) = refl
here_is k (Some (Byte x)) = refl

-- the content with what another one has at a key
with_key : Content → ℕ → Option Value → Content
with_key m k None = cut_at m k
with_key m k (Some v) = insert m k v

at_with : (m : Content) (k : ℕ) (o : Option Value) (q : ℕ) → at_key (with_key m k o) q ≡ cond (q == k) o (at_key m q)
unfolding with_key
at_with m k None q = at_cut_key m k q
at_with m k (Some v) q = at_insert m k v q

-- where stat data stand at the same keys but for one
pub one_more_or_less : (m n : Content) (s : ℕ) → ((k : ℕ) → k ≢ s → has_stat (at_key m k) ≡ has_stat (at_key n k)) → objects_in n + stat_here m s ≡ objects_in m + stat_here n s
one_more_or_less m n s h =
    let same = same_objects (with_key n s (at_key m s)) m (λ k. ap has_stat (at_with n s (at_key m s) k) ∙ by_key k (k == s) refl) in
    let all = one_count is_object is_object (with_key n s (at_key m s)) n s (λ k ne. ap (pick is_object k) (at_with n s (at_key m s) k ∙ ap (λ (b : Bool). cond b (at_key m s) (at_key n k)) (ne_eqb k s ne))) in
    let there = ap (here is_object s) (at_with n s (at_key m s) s ∙ ap (λ (b : Bool). cond b (at_key m s) (at_key n s)) (eq-eqb s s refl)) ∙ here_is s (at_key m s) in
    let here_n = here_is s (at_key n s) in
    omega (arith, same, all, there, here_n)
  where
    by_key : (k : ℕ) (b : Bool) → (k == s) ≡ b → has_stat (cond b (at_key m s) (at_key n k)) ≡ has_stat (at_key m k)
    by_key k true e = ap (λ (x : ℕ). has_stat (at_key m x)) (sym (eqb-true k s e))
    by_key k false e = sym (h k (λ same. true_not_false (sym (eq-eqb k s same) ∙ e)))

-- ---- edits that make or take away one object at most, at the key s

pub record KeepsStats (m : Content) (s : ℕ) (e : Edits) : Type 0 where
  pub puts : EachStat (λ k a. (k ≡ s) ⊎ (has_stat (at_key m k) ≡ true)) e.puts
  pub cuts : (k : ℕ) → is_in e.cuts k ≡ true → minor_of (key_of_rank k) ≡ 1 → k ≡ s

put_some : (es : Pairs) (k : ℕ) (v : Value) → (w : Value) × (last_put es k (Some v) ≡ Some w)
put_some [] k v = (v, refl)
put_some (e ∷ es) k v = by_key (k == e.0) (put_some es k e.1) (put_some es k v)
  where
    by_key : (b : Bool) → (w : Value) × (last_put es k (Some e.1) ≡ Some w) → (w : Value) × (last_put es k (Some v) ≡ Some w) → (w : Value) × (last_put es k (cond b (Some e.1) (Some v)) ≡ Some w)
    by_key true one two = one
    by_key false one two = two

pub stat_minor : (limit : ℕ) (m : Content) (k : ℕ) → HasBodies limit m → has_stat (at_key m k) ≡ true → minor_of (key_of_rank k) ≡ 1
stat_minor limit m k bodies e = by_value (at_key m k) refl e
  where
    by_value : (o : Option Value) → at_key m k ≡ o → has_stat o ≡ true → minor_of (key_of_rank k) ≡ 1
    by_value None at f = absurd (true_not_false (sym f))
    by_value (Some (Stat a)) at f = (bodies.keys k (Stat a) at).0
    by_value (Some (Entry n t)) at f = absurd (true_not_false (sym f))
    by_value (Some (Byte x)) at f = absurd (true_not_false (sym f))

fits_stat : (limit : ℕ) (m : Content) (k : ℕ) (v : Value) → HasBodies limit m → minor_of (key_of_rank k) ≡ 1 → at_key m k ≡ Some v → has_stat (at_key m k) ≡ true
fits_stat limit m k (Stat a) bodies one at = ap has_stat at
fits_stat limit m k (Entry n t) bodies one at = let zero = bodies.keys k (Entry n t) at in absurd (omega (arith, one, zero))
fits_stat limit m k (Byte x) bodies one at = let four = (bodies.keys k (Byte x) at).0 in absurd (omega (arith, one, four))

module _ (limit : ℕ) (m : Content) (s : ℕ) (e : Edits) (bodies : HasBodies limit m) (after : HasBodies limit (edited e m)) (h : KeepsStats m s e) where
  was_there : (k : ℕ) → k ≢ s → has_stat (at_key (edited e m) k) ≡ true → has_stat (at_key m k) ≡ true
  was_there k ne is = by_value (at_key (edited e m) k) refl is
    where
      not_s : (k ≡ s) ⊎ (has_stat (at_key m k) ≡ true) → has_stat (at_key m k) ≡ true
      not_s (inl same) = absurd (ne same)
      not_s (inr f) = f

      by_value : (o : Option Value) → at_key (edited e m) k ≡ o → has_stat o ≡ true → has_stat (at_key m k) ≡ true
      by_value None at f = absurd (true_not_false (sym f))
      by_value (Some (Stat a)) at f = not_s (each_edited (λ q b. (q ≡ s) ⊎ (has_stat (at_key m q) ≡ true)) e m k a h.puts (λ b old. inr (ap has_stat old)) at)
      by_value (Some (Entry n t)) at f = absurd (true_not_false (sym f))
      by_value (Some (Byte x)) at f = absurd (true_not_false (sym f))

  stays_there : (k : ℕ) → k ≢ s → has_stat (at_key m k) ≡ true → has_stat (at_key (edited e m) k) ≡ true
  stays_there k ne is =
      let one = stat_minor limit m k bodies is in
      let (v, at, stat) = some_value (at_key m k) is in
      by_cut (is_in e.cuts k) refl one v at
    where
      under : ℕ → (z : Bool) (v : Value) → (u : Value) × (cond z (Some (Byte 0)) (Some v) ≡ Some u)
      under k true v = (Byte 0, refl)
      under k false v = (v, refl)

      by_cut : (b : Bool) → is_in e.cuts k ≡ b → minor_of (key_of_rank k) ≡ 1 → (v : Value) → at_key m k ≡ Some v → has_stat (at_key (edited e m) k) ≡ true
      by_cut true f one v at = absurd (ne (h.cuts k f one))
      by_cut false f one v at =
          let (u, below) = under k (is_in e.zeros k) v in
          let (w, last) = put_some e.puts k u in
          let now = at_edited e m k ∙ ap (last_put e.puts k) (ap (λ (b : Bool). cond (is_in e.zeros k) (Some (Byte 0)) (cond b None (at_key m k))) f ∙ ap (λ (o : Option Value). cond (is_in e.zeros k) (Some (Byte 0)) o) at ∙ below) ∙ last in
          fits_stat limit (edited e m) k w after one now

  pub keeps_all : objects_in (edited e m) + stat_here m s ≡ objects_in m + stat_here (edited e m) s
  keeps_all = one_more_or_less m (edited e m) s (λ k ne. by_both k (has_stat (at_key m k)) (has_stat (at_key (edited e m) k)) refl refl (was_there k ne) (stays_there k ne))
    where
      by_both : (k : ℕ) (p q : Bool) → has_stat (at_key m k) ≡ p → has_stat (at_key (edited e m) k) ≡ q → (q ≡ true → p ≡ true) → (p ≡ true → q ≡ true) → p ≡ q
      by_both k true true a b f g = refl
      by_both k false false a b f g = refl
      by_both k true false a b f g = absurd (true_not_false (sym (g refl)))
      by_both k false true a b f g = absurd (true_not_false (sym (f refl)))
