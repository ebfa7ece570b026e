-- What stands at a key of a list that rises, and after edits of it.
use Rattle.std.specs.Prelude.{◌≡◌, ℕ, zero, suc, ◌+◌, List, [], ◌∷◌, Bool, true, false, ◌||◌, ◌==◌, cond, map, Contains, Option, Some, None}
use Rattle.std.proofs.Common.{arith, refl, sym, ap, subst, ◌∙◌}
use Rattle.std.specs.Cmp.{unsigned_tied}
use Rattle.std.specs.List.{filter}
use Rattle.std.specs.FinMap.{entries, entries-from_sorted, find, nat_cmp-IsAntisymmetric}
use Rattle.std.specs.FinMap.Entries.{find-where_key, is_sorted-where_key}
use Rattle.std.specs.Ordering.{nat_cmp}
use Rattle.std.specs.Option.{is_some}
use Rattle.std.proofs.lemmas.Bool.{eq-eqb}
use Rattle.r4_base.specs.Value.{Value, Byte, Content, at_key}
use Rattle.r4_content.specs.Edited.{Edits, Intervals, Pairs, is_between, is_in, put_keys}
use Rattle.r4_content.specs.Listed.{list_cut, list_edited}
use Rattle.r4_content.specs.Seen.{Rises}
use Rattle.r4_content.proofs.EditLaws.{at_edited, last_put, one_key, same_content}
use Rattle.r4_content.proofs.SeenLaws.{at_content, content_of, edited_list}
use Rattle.r4_reach.specs.r4_leaf.Remade.{cut_all}
use Rattle.r4_reach.specs.r4_leaf.Units.{LeafUnit, cut_units}
use Rattle.r4_reach.specs.r4_leaf.declared.remaking.KeyRange.{KeyRange}
use Rattle.r4_base.specs.Key.{rank}
use Rattle.r4_leaf_edits.specs.Making.{range_of}

pub found : (e : Edits) (s : Pairs) (k : ℕ) → Rises s
    → find nat_cmp k (list_edited e s) ≡ last_put e.puts k (cond (is_in e.zeros k) (Some (Byte 0)) (cond (is_in e.cuts k) None (find nat_cmp k s)))
found e s k r =
    let made = edited_list e s r in
    sym (at_content (list_edited e s) k made.1)
    ∙ ap (λ (m : Content). at_key m k) (sym made.0)
    ∙ at_edited e (content_of s) k
    ∙ ap (λ (v : Option Value). last_put e.puts k (cond (is_in e.zeros k) (Some (Byte 0)) (cond (is_in e.cuts k) None v))) (at_content s k r)

pub edited_rises : (e : Edits) (s : Pairs) → Rises s → Rises (list_edited e s)
edited_rises e s r = (edited_list e s r).1

-- two that have the same at each key are the same
pub same_rising : (s t : Pairs) → Rises s → Rises t → ((k : ℕ) → find nat_cmp k s ≡ find nat_cmp k t) → s ≡ t
unfolding content_of
same_rising s t rs rt h =
    let e : content_of s ≡ content_of t = same_content _ _ (λ k. at_content s k rs ∙ h k ∙ sym (at_content t k rt)) in
    sym (entries-from_sorted nat_cmp s rs) ∙ ap entries e ∙ entries-from_sorted nat_cmp t rt

pub kept_rises : (p : ℕ → Bool) (s : Pairs) → Rises s → Rises (filter (λ e. p e.0) s)
kept_rises p s r = is_sorted-where_key nat_cmp p s r

pub kept_found : (p : ℕ → Bool) (s : Pairs) (k : ℕ) → find nat_cmp k (filter (λ e. p e.0) s) ≡ cond (p k) (find nat_cmp k s) None
kept_found p s k = find-where_key nat_cmp p k (λ x e. ap p (sym (nat_cmp-IsAntisymmetric k x e))) s

-- ---- which keys are there

pub tied : (k x : ℕ) → is_between x (x + 1) k ≡ (k == x)
tied k x = one_key k x

some_or : (t : Bool) (v : Value) (rest : Option Value) (r : Bool) → r ≡ is_some rest → (t || r) ≡ is_some (cond t (Some v) rest)
some_or true v rest r e = refl
some_or false v rest r e = e

pub in_is_found : (s : Pairs) (k : ℕ) → is_in (put_keys s) k ≡ is_some (find nat_cmp k s)
in_is_found [] k = refl
in_is_found (x ∷ s) k =
    ap (λ (b : Bool). b || is_in (put_keys s) k) (one_key k x.0 ∙ sym (unsigned_tied k x.0))
    ∙ some_or _ x.1 (find nat_cmp k s) (is_in (put_keys s) k) (in_is_found s k)

no_value : (o : Option Value) → is_some o ≡ false → o ≡ None
no_value None e = refl
no_value (Some v) e = absurd cc

pub none_there : (s : Pairs) (k : ℕ) → is_in (put_keys s) k ≡ false → find nat_cmp k s ≡ None
none_there s k h = no_value _ (sym (in_is_found s k) ∙ h)

pub none_in : (s : Pairs) (k : ℕ) → find nat_cmp k s ≡ None → is_in (put_keys s) k ≡ false
none_in s k h = in_is_found s k ∙ ap is_some h

pub here : (u : ℕ × Value) → is_between u.0 (u.0 + 1) u.0 ≡ true
here u = one_key u.0 u.0 ∙ eq-eqb u.0 u.0 refl

pub contains_in : (s : Pairs) (k : ℕ) (v : Value) → Contains s (k, v) → is_in (put_keys s) k ≡ true
contains_in [] k v (i, lt, is) = absurd (omega arith)
contains_in (x ∷ s) k v (zero, lt, is) =
    let e : x.0 ≡ k = ap (λ (u : ℕ × Value). u.0) is in
    ap (λ (b : Bool). b || is_in (put_keys s) k) (one_key k x.0 ∙ eq-eqb k x.0 (sym e))
contains_in (x ∷ s) k v (suc i, lt, is) = or_true (is_between x.0 (x.0 + 1) k) (contains_in s k v (i, omega arith, is))
  where
    or_true : (b : Bool) → is_in (put_keys s) k ≡ true → (b || is_in (put_keys s) k) ≡ true
    or_true true e = refl
    or_true false e = e

-- ---- ranges that are cut out

pub cuts_are : (cs : List KeyRange) (us : List LeafUnit) → cut_all cs us ≡ list_cut (map range_of cs) us
cuts_are [] us = refl
cuts_are (c ∷ cs) us = cuts_are cs (cut_units (rank c.from) (rank c.to) us)

abbrev only_cuts : Intervals → Edits
only_cuts rs = record { cuts = rs; zeros = []; puts = [] }

pub left_rises : (cs : List KeyRange) (us : Pairs) → Rises us → Rises (cut_all cs us)
left_rises cs us r = subst Rises (sym (cuts_are cs us)) (edited_rises (only_cuts (map range_of cs)) us r)

pub left_found : (cs : List KeyRange) (us : Pairs) (k : ℕ) → Rises us → find nat_cmp k (cut_all cs us) ≡ cond (is_in (map range_of cs) k) None (find nat_cmp k us)
left_found cs us k r = ap (λ (s : Pairs). find nat_cmp k s) (cuts_are cs us) ∙ found (only_cuts (map range_of cs)) us k r
