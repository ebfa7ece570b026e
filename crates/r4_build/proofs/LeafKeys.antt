-- The keys that a leaf's edits change, and what stands there then.
use Rattle.std.proofs.Common.{◌≡◌, inl, inr, ℕ, ◌<◌, ◌≤◌, Bool, true, false, cond, List, [], ◌∷◌, refl, sym, ap, subst, ◌∙◌, arith}
use Rattle.std.specs.Prelude.{◌&&◌, ◌||◌, Contains, None, Option, Some}
use Rattle.std.specs.FinMap.{find}
use Rattle.std.specs.List.{filter}
use Rattle.std.specs.Option.{is_some}
use Rattle.std.specs.Ordering.{nat_cmp}
use Rattle.std.proofs.lemmas.Grind.{common_steps}
use Rattle.std.proofs.lemmas.List.Elements.{All-cons, All-nil}
use Rattle.std.proofs.lemmas.Option.{none-some}
use Rattle.r4_base.specs.Value.{Byte, Content, Value, at_key}
use Rattle.r4_content.specs.Edited.{Edits, Pairs, changed, edited, is_between, is_in}
use Rattle.r4_content.specs.Listed.{list_edited}
use Rattle.r4_content.specs.Seen.{Rises}
use Rattle.r4_content.proofs.EditLaws.{edited_off, edited_on}
use Rattle.r4_content.proofs.SeenLaws.{at_content, content_of, edited_list}
use Rattle.r4_measure.specs.r4_leaf.Remade.{AreWithin, cut_all, put_all}
use Rattle.r4_measure.specs.r4_leaf.Units.{LeafUnit}
use Rattle.r4_measure.specs.r4_leaf.declared.remaking.Given.{Given}
use Rattle.r4_measure.specs.r4_leaf.declared.remaking.KeyRange.{KeyRange}
use Rattle.r4_leaf_edits.specs.Made.{AreOfLeaf, MakesEdits}
use Rattle.r4_leaf_edits.proofs.Lookups.{edited_rises, kept_found, kept_rises}
use Rattle.r4_measure.proofs.r4_patch.Members.{here, none}
use Rattle.r4_measure.specs.r4_work.Remaking.{CutsWithin, HaveKeys, cut_keys, item_value, remade_keys}
use Rattle.r4_measure.proofs.r4_work.Halving.{true_or_false}
use Rattle.r4_measure.proofs.r4_work.Remade.{InItems, cuts_in, from_cuts, from_items, items_in, items_value, or_true, some_of, to_cuts, to_items, value_in_items}
use Rattle.r4_build.proofs.Pairs.{found_in, rising_found}

-- ---- of pairs, what edits make of them

pub listed : (e : Edits) (s : Pairs) (k : ℕ) → Rises s → find nat_cmp k (list_edited e s) ≡ at_key (edited e (content_of s)) k
listed e s k r = let made = edited_list e s r in sym (at_content (list_edited e s) k made.1) ∙ ap (λ (m : Content). at_key m k) (sym made.0)

pub listed_off : (e : Edits) (s : Pairs) (k : ℕ) → Rises s → is_in (changed e) k ≡ false → find nat_cmp k (list_edited e s) ≡ find nat_cmp k s
listed_off e s k r off = listed e s k r ∙ (edited_off e (content_of s) k off ∙ at_content s k r)

pub listed_on : (e : Edits) (s : Pairs) (m : Content) (k : ℕ) → Rises s → is_in (changed e) k ≡ true → find nat_cmp k (list_edited e s) ≡ at_key (edited e m) k
listed_on e s m k r on = listed e s k r ∙ edited_on e (content_of s) m k on

-- ---- a leaf's edits

and_true : (a b : Bool) → a ≡ true → b ≡ true → (a && b) ≡ true
and_true true b h g = g
and_true false b h g = absurd cc

and_no : (a b : Bool) → a ≡ false → (a && b) ≡ false
and_no false b h = refl
and_no true b h = absurd cc

no_and : (a b : Bool) → b ≡ false → (a && b) ≡ false
no_and true b h = h
no_and false b h = refl

or_no : (a b : Bool) → a ≡ false → b ≡ false → (a || b) ≡ false
or_no false b h g = g
or_no true b h g = absurd cc

or_left : (a b : Bool) → a ≡ true → (a || b) ≡ true
or_left true b h = refl
or_left false b h = absurd cc

or_right : (a b : Bool) → b ≡ true → (a || b) ≡ true
or_right true b h = refl
or_right false b h = h

is_within : (lo hi k : ℕ) → lo ≤ k → k < hi → is_between lo hi k ≡ true
is_within lo hi k low high = grind (arith, common_steps, low, high)

apart : (x y : Option Value) → x ≡ Some (Byte 0) → y ≡ Some (Byte 1) → x ≡ y → ⊥
apart x y h g e = let same : Some (Byte 0) ≡ Some (Byte 1) = sym h ∙ (e ∙ g) in cc

no_true : (b : Bool) → b ≡ true → b ≡ false → ⊥
no_true true h g = absurd cc
no_true false h g = absurd cc

module _ (lo hi : ℕ) (e : Edits) (cuts : List KeyRange) (gs : List Given) (ranges : CutsWithin lo hi cuts) (within : AreWithin lo hi gs) (keys : HaveKeys gs) (makes : (us : List LeafUnit) → AreOfLeaf lo hi us → MakesEdits lo hi e cuts gs us) where
  abbrev made : List LeafUnit → List LeafUnit
  made us = put_all gs (cut_all cuts us)

  of_none : AreOfLeaf lo hi []
  of_none = record { rises = tt; within = All-nil (λ (u : LeafUnit). is_between lo hi u.0 ≡ true) }

  module _ (k : ℕ) where
    -- the leaf with one unit
    abbrev one : Value → List LeafUnit
    one v = (k, v) ∷ []

    inside : remade_keys cuts gs k ≡ true → is_between lo hi k ≡ true
    inside h = elim (or_true (cut_keys cuts k) (is_some (item_value gs k)) h) [
      | inl cut ↦ let (low, high) = cuts_in lo hi cuts k ranges cut in is_within lo hi k low high
      | inr item ↦
          let (v, is) = some_of (item_value gs k) item in
          let (low, high) = items_in lo hi gs (cut_all cuts []) k v within keys (makes [] of_none).can (value_in_items gs k v is) in
          is_within lo hi k low high
    ]

    module _ (at : is_between lo hi k ≡ true) where
      of_one : (v : Value) → AreOfLeaf lo hi (one v)
      of_one v = record { rises = tt; within = All-cons (λ (u : LeafUnit). is_between lo hi u.0 ≡ true) (k, v) [] at (All-nil (λ (u : LeafUnit). is_between lo hi u.0 ≡ true)) }

      module _ (us : List LeafUnit) (of : AreOfLeaf lo hi us) where
        kept : Pairs
        kept = filter (λ u. is_between lo hi u.0) (list_edited e us)

        found : find nat_cmp k kept ≡ find nat_cmp k (list_edited e us)
        unfolding kept
        found = kept_found (is_between lo hi) (list_edited e us) k ∙ ap (λ (b : Bool). cond b (find nat_cmp k (list_edited e us)) None) at

        made_has : (v : Value) → find nat_cmp k (list_edited e us) ≡ Some v → Contains (made us) (k, v)
        unfolding kept
        made_has v is = subst (λ (s : List LeafUnit). Contains s (k, v)) (sym (makes us of).units) (found_in k kept v (found ∙ is))

        has_made : (v : Value) → Contains (made us) (k, v) → find nat_cmp k (list_edited e us) ≡ Some v
        unfolding kept
        has_made v there =
            sym found ∙ rising_found kept k v (kept_rises (is_between lo hi) (list_edited e us) (edited_rises e us of.rises))
            (subst (λ (s : List LeafUnit). Contains s (k, v)) (makes us of).units there)

      -- an item's unit is what the edits set
      item_set : (v : Value) → InItems gs (k, v) → find nat_cmp k (list_edited e []) ≡ Some v
      item_set v item = has_made [] of_none v (to_items gs (cut_all cuts []) (k, v) (inl item))

      set_item : (v : Value) → find nat_cmp k (list_edited e []) ≡ Some v → InItems gs (k, v)
      set_item v is = elim (from_items gs (cut_all cuts []) (k, v) (made_has [] of_none v is)) [
        | inl item ↦ item
        | inr left ↦ absurd (none (k, v) (from_cuts cuts [] k v left).0)
      ]

      -- a key that does not change keeps what it has
      stays : is_in (changed e) k ≡ false → remade_keys cuts gs k ≡ false
      stays off =
          or_no (cut_keys cuts k) (is_some (item_value gs k)) uncut (by_item (item_value gs k) refl)
        where
          no_item : (v : Value) → InItems gs (k, v) → ⊥
          no_item v item = none-some v (sym (listed_off e [] k tt off) ∙ item_set v item)

          uncut : cut_keys cuts k ≡ false
          uncut = elim (from_items gs (cut_all cuts (one (Byte 0))) (k, Byte 0) (made_has (one (Byte 0)) (of_one (Byte 0)) (Byte 0) (listed_off e (one (Byte 0)) k tt off ∙ rising_found (one (Byte 0)) k (Byte 0) tt (here (k, Byte 0) [])))) [
            | inl item ↦ absurd (no_item (Byte 0) item)
            | inr left ↦ (from_cuts cuts (one (Byte 0)) k (Byte 0) left).1
          ]

          by_item : (o : Option Value) → item_value gs k ≡ o → is_some o ≡ false
          by_item None is = refl
          by_item (Some v) is = absurd (no_item v (value_in_items gs k v is))

      -- and one that changes is cut, or is an item's
      changes : is_in (changed e) k ≡ true → remade_keys cuts gs k ≡ true
      changes on = elim (true_or_false (cut_keys cuts k)) [
        | inl cut ↦ or_left (cut_keys cuts k) (is_some (item_value gs k)) cut
        | inr uncut ↦
            let zero_stays = left_of uncut (Byte 0) in
            let one_stays = left_of uncut (Byte 1) in
            absurd (apart (find nat_cmp k (list_edited e (one (Byte 0)))) (find nat_cmp k (list_edited e (one (Byte 1)))) zero_stays one_stays (same_set (Byte 0) ∙ sym (same_set (Byte 1))))
      ]
        where
          same_set : (v : Value) → find nat_cmp k (list_edited e (one v)) ≡ at_key (edited e (content_of [])) k
          same_set v = listed_on e (one v) (content_of []) k tt on

          left_of : cut_keys cuts k ≡ false → (v : Value) → find nat_cmp k (list_edited e (one v)) ≡ Some v
          left_of uncut v = has_made (one v) (of_one v) v (to_items gs (cut_all cuts (one v)) (k, v) (inr (to_cuts cuts (one v) k v (here (k, v) []) uncut)))

      -- what stands there then
      pub value_set : item_value gs k ≡ find nat_cmp k (list_edited e [])
      value_set = by_item (item_value gs k) refl
        where
          by_found : item_value gs k ≡ None → (o : Option Value) → find nat_cmp k (list_edited e []) ≡ o → None ≡ o
          by_found is None g = refl
          by_found is (Some v) g = let (x, some) = items_value gs k v (set_item v g) in absurd (none-some x (sym is ∙ some))

          by_item : (o : Option Value) → item_value gs k ≡ o → o ≡ find nat_cmp k (list_edited e [])
          by_item None is = by_found is (find nat_cmp k (list_edited e [])) refl
          by_item (Some v) is = sym (item_set v (value_in_items gs k v is))

    pub keys_are : (is_between lo hi k && is_in (changed e) k) ≡ remade_keys cuts gs k
    keys_are = elim (true_or_false (is_between lo hi k)) [
      | inr out ↦ and_no (is_between lo hi k) (is_in (changed e) k) out ∙ sym (none_out out)
      | inl at ↦ elim (true_or_false (is_in (changed e) k)) [
        | inl on ↦ and_true (is_between lo hi k) (is_in (changed e) k) at on ∙ sym (changes at on)
        | inr off ↦ no_and (is_between lo hi k) (is_in (changed e) k) off ∙ sym (stays at off)
      ]
    ]
      where
        none_out : is_between lo hi k ≡ false → remade_keys cuts gs k ≡ false
        none_out out = elim (true_or_false (remade_keys cuts gs k)) [
          | inl h ↦ absurd (no_true (is_between lo hi k) (inside h) out)
          | inr h ↦ h
        ]

    pub values_are : remade_keys cuts gs k ≡ true → item_value gs k ≡ find nat_cmp k (list_edited e [])
    values_are h = value_set (inside h)
