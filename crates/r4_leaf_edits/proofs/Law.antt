-- What a leaf gets makes of its units what the edits make of them, as far as that lies in its range.
use Rattle.std.specs.Prelude.{◌≡◌, ℕ, ◌+◌, List, [], ◌∷◌, Bool, true, false, ◌&&◌, ◌||◌, ◌==◌, cond, map, All, Option, Some, None}
use Rattle.std.proofs.Common.{refl, sym, ap, subst, ◌∙◌}
use Rattle.std.specs.FinMap.{find}
use Rattle.std.specs.List.{filter}
use Rattle.std.specs.Ordering.{nat_cmp}
use Rattle.std.proofs.lemmas.Bool.{and_parts, both_ways, eqb-true}
use Rattle.std.proofs.lemmas.List.Elements.{All-head, All-tail}
use Rattle.r4_base.specs.Cell.{units_in}
use Rattle.r4_base.specs.Value.{Byte, Value}
use Rattle.r4_content.specs.Edited.{Edits, Intervals, Pairs, changed, is_between, is_in, put_keys}
use Rattle.r4_content.specs.Listed.{list_edited}
use Rattle.r4_content.specs.Seen.{Rises}
use Rattle.r4_content.proofs.EditLaws.{in_changed, last_put, one_key, put_on}
use Rattle.r4_reach.specs.r4_leaf.Remade.{cut_all, item_of, put_all}
use Rattle.r4_reach.specs.r4_leaf.Units.{LeafUnit}
use Rattle.r4_reach.specs.r4_leaf.declared.remaking.Given.{Given}
use Rattle.r4_reach.specs.r4_leaf.declared.remaking.KeyRange.{KeyRange}
use Rattle.r4_leaf_edits.specs.Made.{AreOfLeaf, MakesEdits}
use Rattle.r4_leaf_edits.specs.Making.{range_of}
use Rattle.r4_leaf_edits.specs.Suiting.{AreOnce}
use Rattle.r4_leaf_edits.proofs.Lookups.{edited_rises, found, kept_found, kept_rises, left_found, left_rises, none_in, none_there, same_rising}
use Rattle.r4_leaf_edits.proofs.Puts.{MayAll, Off, items_put}

-- ---- of a list, what passes a test on its keys

pub kept_keys : (p : ℕ → Bool) (ps : Pairs) (k : ℕ) → is_in (put_keys (filter (λ e. p e.0) ps)) k ≡ (p k && is_in (put_keys ps) k)
kept_keys p [] k = by_test (p k)
  where
    by_test : (b : Bool) → false ≡ (b && false)
    by_test true = refl
    by_test false = refl
kept_keys p (x ∷ ps) k =
    by_tests (p x.0) (k == x.0) refl refl (kept_keys p ps k) ∙ ap (λ (b : Bool). p k && (b || is_in (put_keys ps) k)) (sym (one_key k x.0))
  where
    rest : Pairs
    rest = filter (λ e. p e.0) ps

    by_tests : (t b : Bool) → p x.0 ≡ t → (k == x.0) ≡ b → is_in (put_keys rest) k ≡ (p k && is_in (put_keys ps) k)
        → is_in (put_keys (cond t (x ∷ rest) rest)) k ≡ (p k && (b || is_in (put_keys ps) k))
    by_tests t true e h r = at_key t e
      where
        same : p k ≡ p x.0
        same = ap p (eqb-true k x.0 h)

        at_key : (t : Bool) → p x.0 ≡ t → is_in (put_keys (cond t (x ∷ rest) rest)) k ≡ (p k && (true || is_in (put_keys ps) k))
        at_key true e = ap (λ (b : Bool). b || is_in (put_keys rest) k) (one_key k x.0 ∙ h) ∙ sym (ap (λ (b : Bool). b && (true || is_in (put_keys ps) k)) (same ∙ e))
        at_key false e = r ∙ ap (λ (b : Bool). b && is_in (put_keys ps) k) (same ∙ e) ∙ sym (ap (λ (b : Bool). b && (true || is_in (put_keys ps) k)) (same ∙ e))
    by_tests true false e h r = ap (λ (b : Bool). b || is_in (put_keys rest) k) (one_key k x.0 ∙ h) ∙ r
    by_tests false false e h r = r

pub kept_last : (p : ℕ → Bool) (ps : Pairs) (k : ℕ) (v : Option Value) → last_put (filter (λ e. p e.0) ps) k v ≡ cond (p k) (last_put ps k v) v
kept_last p [] k v = by_test (p k)
  where
    by_test : (b : Bool) → v ≡ cond b v v
    by_test true = refl
    by_test false = refl
kept_last p (x ∷ ps) k v = by_tests (p x.0) (k == x.0) refl refl (kept_last p ps k)
  where
    rest : Pairs
    rest = filter (λ e. p e.0) ps

    by_tests : (t b : Bool) → p x.0 ≡ t → (k == x.0) ≡ b → ((w : Option Value) → last_put rest k w ≡ cond (p k) (last_put ps k w) w)
        → last_put (cond t (x ∷ rest) rest) k v ≡ cond (p k) (last_put ps k (cond b (Some x.1) v)) v
    by_tests true true e h r =
        ap (λ (b : Bool). last_put rest k (cond b (Some x.1) v)) h ∙ r (Some x.1)
        ∙ ap (λ (b : Bool). cond b (last_put ps k (Some x.1)) (Some x.1)) (ap p (eqb-true k x.0 h) ∙ e)
        ∙ sym (ap (λ (b : Bool). cond b (last_put ps k (Some x.1)) v) (ap p (eqb-true k x.0 h) ∙ e))
    by_tests true false e h r = ap (λ (b : Bool). last_put rest k (cond b (Some x.1) v)) h ∙ r v
    by_tests false true e h r =
        r v ∙ ap (λ (b : Bool). cond b (last_put ps k v) v) (ap p (eqb-true k x.0 h) ∙ e)
        ∙ sym (ap (λ (b : Bool). cond b (last_put ps k (Some x.1)) v) (ap p (eqb-true k x.0 h) ∙ e))
    by_tests false false e h r = r v

pub kept_once : (p : ℕ → Bool) (ps : Pairs) → AreOnce ps → AreOnce (filter (λ e. p e.0) ps)
kept_once p [] h = tt
kept_once p (x ∷ ps) h = by_test (p x.0) (kept_once p ps h.1)
  where
    and_no : (b : Bool) → (b && false) ≡ false
    and_no true = refl
    and_no false = refl

    by_test : (t : Bool) → AreOnce (filter (λ e. p e.0) ps) → AreOnce (cond t (x ∷ filter (λ e. p e.0) ps) (filter (λ e. p e.0) ps))
    by_test true rest = (kept_keys p ps x.0 ∙ ap (λ (b : Bool). p x.0 && b) h.0 ∙ and_no (p x.0), rest)
    by_test false rest = rest

-- ---- units of a range

outside : (lo hi : ℕ) (us : Pairs) (k : ℕ) → All (λ (u : LeafUnit). is_between lo hi u.0 ≡ true) us → is_between lo hi k ≡ false → is_in (put_keys us) k ≡ false
outside lo hi [] k all h = refl
outside lo hi (u ∷ us) k all h =
    by_first (k == u.0) refl (All-head (λ (w : LeafUnit). is_between lo hi w.0 ≡ true) u us all) (outside lo hi us k (All-tail (λ (w : LeafUnit). is_between lo hi w.0 ≡ true) u us all) h)
  where
    by_first : (b : Bool) → (k == u.0) ≡ b → is_between lo hi u.0 ≡ true → is_in (put_keys us) k ≡ false → (is_between u.0 (u.0 + 1) k || is_in (put_keys us) k) ≡ false
    by_first true e first rest = absurd (both_ways _ h (ap (is_between lo hi) (eqb-true k u.0 e) ∙ first))
    by_first false e first rest = ap (λ (b : Bool). b || is_in (put_keys us) k) (one_key k u.0 ∙ e) ∙ rest

-- ---- the law

-- What goes and what comes for edits, wherever it lies: each key that they change goes, and each value that they set comes.
pub record AreOfEdits (e : Edits) (rs : Intervals) (ps : Pairs) : Type 0 where
  pub once : AreOnce ps
  pub keys : (k : ℕ) → is_in rs k ≡ is_in (changed e) k
  pub set : (k : ℕ) → is_in (put_keys ps) k ≡ true → is_in rs k ≡ true
  pub puts : (k : ℕ) (v : Option Value) → last_put ps k v ≡ last_put e.puts k (cond (is_in e.zeros k) (Some (Byte 0)) v)

module _ (lo hi : ℕ) (e : Edits) (rs : Intervals) (ps : Pairs) (cuts : List KeyRange) (gs : List Given) (us : Pairs) (of : AreOfEdits e rs ps) (leaf : AreOfLeaf lo hi us)
    (cut : (k : ℕ) → is_in (map range_of cuts) k ≡ (is_between lo hi k && is_in rs k)) (units : units_in (map item_of gs) ≡ filter (λ p. is_between lo hi p.0) ps) (may : MayAll gs) where
  abbrev left : Pairs
  left = cut_all cuts us

  left_rise : Rises left
  left_rise = left_rises cuts us leaf.rises

  abbrev come : Pairs
  come = filter (λ p. is_between lo hi p.0) ps

  come_off : Off come left
  come_off k h =
      let (within, at) = and_parts (is_between lo hi k) (is_in (put_keys ps) k) (sym (kept_keys (is_between lo hi) ps k) ∙ h) in
      let gone : is_in (map range_of cuts) k ≡ true = cut k ∙ ap (λ (b : Bool). b && is_in rs k) within ∙ of.set k at in
      none_in left k (left_found cuts us k leaf.rises ∙ ap (λ (b : Bool). cond b None (find nat_cmp k us)) gone)

  module _ (k : ℕ) where
    abbrev was : Option Value
    was = find nat_cmp k us

    -- what the edits make of what stands at the key
    abbrev after : Option Value → Option Value
    after v = last_put e.puts k (cond (is_in e.zeros k) (Some (Byte 0)) v)

    same_after : (t : Bool) → is_in (changed e) k ≡ t → after (cond t None was) ≡ after (cond (is_in e.cuts k) None was)
    same_after t is = by_puts (is_in (put_keys e.puts) k) refl (is_in e.zeros k) (is_in e.cuts k) t (sym is ∙ in_changed e k)
      where
        by_puts : (a : Bool) → is_in (put_keys e.puts) k ≡ a → (b c t : Bool) → t ≡ (a || (b || c))
            → last_put e.puts k (cond b (Some (Byte 0)) (cond t None was)) ≡ last_put e.puts k (cond b (Some (Byte 0)) (cond c None was))
        by_puts true at b c t h = put_on e.puts k _ _ at
        by_puts false at true c t h = refl
        by_puts false at false c t h = ap (λ (d : Bool). last_put e.puts k (cond d None was)) h

    finds : (b : Bool) → is_between lo hi k ≡ b → last_put come k (cond (b && is_in rs k) None was) ≡ cond b (after (cond (is_in e.cuts k) None was)) None
    finds true within =
        kept_last (is_between lo hi) ps k _ ∙ ap (λ (b : Bool). cond b (last_put ps k (cond (is_in rs k) None was)) (cond (is_in rs k) None was)) within
        ∙ of.puts k _ ∙ ap (λ (b : Bool). after (cond b None was)) (of.keys k) ∙ same_after (is_in (changed e) k) refl
    finds false within =
        kept_last (is_between lo hi) ps k _ ∙ ap (λ (b : Bool). cond b (last_put ps k was) was) within
        ∙ none_there us k (outside lo hi us k leaf.within within)

  pub makes : MakesEdits lo hi e cuts gs us
  makes =
      let once : AreOnce (units_in (map item_of gs)) = subst AreOnce (sym units) (kept_once (is_between lo hi) ps of.once) in
      let off : Off (units_in (map item_of gs)) left = subst (λ (s : Pairs). Off s left) (sym units) come_off in
      let made = items_put gs left may once off left_rise in
      record {
        can = made.can;
        units = same_rising (put_all gs left) _ made.rises (kept_rises (is_between lo hi) (list_edited e us) (edited_rises e us leaf.rises)) (λ k.
            made.finds k
            ∙ ap (λ (s : Pairs). last_put s k (find nat_cmp k left)) units
            ∙ ap (last_put come k) (left_found cuts us k leaf.rises ∙ ap (λ (b : Bool). cond b None (find nat_cmp k us)) (cut k))
            ∙ finds k (is_between lo hi k) refl
            ∙ ap (λ (v : Option Value). cond (is_between lo hi k) v None) (sym (found e us k leaf.rises))
            ∙ sym (kept_found (is_between lo hi) (list_edited e us) k));
      }
