-- What a leaf gets, one edit after another.
use Rattle.std.specs.Prelude.{◌≡◌, ℕ, ◌≤◌, List, [], ◌∷◌, ◌++◌, Bool, true, false, ◌&&◌, ◌||◌, map, All}
use Rattle.std.proofs.Common.{refl, sym, ap, subst, ◌∙◌}
use Rattle.std.specs.List.{filter}
use Rattle.std.proofs.lemmas.List.{append-nil, append_assoc, map-append}
use Rattle.std.proofs.lemmas.List.Elements.{All-push, filter-append}
use Rattle.r4_base.specs.Cell.{item_units, units_in}
use Rattle.r4_base.specs.Key.{rank}
use Rattle.r4_base.specs.Node.{Item}
use Rattle.r4_content.specs.Edited.{Intervals, Pairs, is_between, is_in, put_keys}
use Rattle.r4_content.proofs.EditLaws.{in_append}
use Rattle.r4_reach.specs.r4_leaf.declared.remaking.KeyRange.{KeyRange}
use Rattle.r4_reach.proofs.r4_leaf.Lying.{units_cons, units_nil}
use Rattle.r4_leaf_edits.specs.Made.{CutsWithin, cuts_in, items_in}
use Rattle.r4_leaf_edits.specs.Making.{Gains, IsOfRange, Sets, range_of}
use Rattle.r4_leaf_edits.specs.declared.leaf_edits.LeafEdits.{LeafEdits}
use Rattle.r4_leaf_edits.proofs.Puts.{put_keys_append}

units_append : (xs ys : List Item) → units_in (xs ++ ys) ≡ units_in xs ++ units_in ys
units_append [] ys = ap (λ (s : Pairs). s ++ units_in ys) (sym units_nil)
units_append (x ∷ xs) ys =
    units_cons x (xs ++ ys) ∙ ap (λ (s : Pairs). item_units x ++ s) (units_append xs ys)
    ∙ sym (append_assoc (item_units x) (units_in xs) (units_in ys)) ∙ ap (λ (s : Pairs). s ++ units_in ys) (sym (units_cons x xs))

unit_of_one : (x : Item) → units_in (x ∷ []) ≡ item_units x
unit_of_one x = units_cons x [] ∙ ap (λ (s : Pairs). item_units x ++ s) units_nil ∙ append-nil (item_units x)

cuts_more : (lo hi : ℕ) (cs : List KeyRange) (c : KeyRange) → CutsWithin lo hi cs → lo ≤ rank c.from → rank c.to ≤ hi → CutsWithin lo hi (cs ++ c ∷ [])
cuts_more lo hi [] c h low high = (low, high, tt)
cuts_more lo hi (d ∷ cs) c h low high = (h.0, h.1, cuts_more lo hi cs c h.2 low high)

or_nothing : (a b : Bool) → b ≡ false → a ≡ (a || b)
or_nothing false b e = sym e
or_nothing true b e = refl

and_nothing : (a : Bool) → (a && false) ≡ false
and_nothing true = refl
and_nothing false = refl

or_again : (a b c : Bool) → ((a || b) || c) ≡ (a || (b || c))
or_again true b c = refl
or_again false b c = refl

and_or : (a b c : Bool) → ((a && b) || (a && c)) ≡ (a && (b || c))
and_or true b c = refl
and_or false b c = refl

-- what lies outside of the range changes nothing
pub gains_nothing : (lo hi : ℕ) (rs : Intervals) (ps : Pairs) (x : LeafEdits) → ((k : ℕ) → (is_between lo hi k && is_in rs k) ≡ false) → filter (λ p. is_between lo hi p.0) ps ≡ [] → Gains lo hi rs ps x x
gains_nothing lo hi rs ps x keys units = record {
  cuts = λ k. or_nothing (is_in (map range_of (cuts_in x)) k) (is_between lo hi k && is_in rs k) (keys k);
  units = sym (ap (λ (s : Pairs). units_in (items_in x) ++ s) units ∙ append-nil (units_in (items_in x)));
  sound = λ h. h;
}

pub gains_none : (lo hi : ℕ) (x : LeafEdits) → Gains lo hi [] [] x x
gains_none lo hi x = gains_nothing lo hi [] [] x (λ k. and_nothing (is_between lo hi k)) refl

pub gains_both : (lo hi : ℕ) (rs ss : Intervals) (ps qs : Pairs) (x y z : LeafEdits) → Gains lo hi rs ps x y → Gains lo hi ss qs y z → Gains lo hi (rs ++ ss) (ps ++ qs) x z
gains_both lo hi rs ss ps qs x y z a b = record {
  cuts = λ k.
      b.cuts k ∙ ap (λ (t : Bool). t || (is_between lo hi k && is_in ss k)) (a.cuts k)
      ∙ or_again (is_in (map range_of (cuts_in x)) k) (is_between lo hi k && is_in rs k) (is_between lo hi k && is_in ss k)
      ∙ ap (λ (t : Bool). is_in (map range_of (cuts_in x)) k || t) (and_or (is_between lo hi k) (is_in rs k) (is_in ss k) ∙ ap (λ (t : Bool). is_between lo hi k && t) (sym (in_append rs ss k)));
  units =
      b.units ∙ ap (λ (s : Pairs). s ++ filter (λ p. is_between lo hi p.0) qs) a.units
      ∙ append_assoc (units_in (items_in x)) (filter (λ p. is_between lo hi p.0) ps) (filter (λ p. is_between lo hi p.0) qs)
      ∙ ap (λ (s : Pairs). units_in (items_in x) ++ s) (sym (filter-append (λ p. is_between lo hi p.0) ps qs));
  sound = λ h. b.sound (a.sound h);
}

pub gains_as : (lo hi : ℕ) (rs ss : Intervals) (ps qs : Pairs) (x y : LeafEdits) → ((k : ℕ) → is_in rs k ≡ is_in ss k) → ps ≡ qs → Gains lo hi rs ps x y → Gains lo hi ss qs x y
gains_as lo hi rs ss ps qs x y keys same g = record {
  cuts = λ k. g.cuts k ∙ ap (λ (t : Bool). is_in (map range_of (cuts_in x)) k || (is_between lo hi k && t)) (keys k);
  units = g.units ∙ ap (λ (s : Pairs). units_in (items_in x) ++ filter (λ p. is_between lo hi p.0) s) same;
  sound = g.sound;
}

pub sets_both : (lo hi : ℕ) (ps qs : Pairs) (x y z : LeafEdits) → Sets lo hi ps x y → Sets lo hi qs y z → Sets lo hi (ps ++ qs) x z
sets_both lo hi ps qs x y z a b =
    gains_as lo hi (put_keys ps ++ put_keys qs) (put_keys (ps ++ qs)) (ps ++ qs) (ps ++ qs) x z (λ k. ap (λ (rs : Intervals). is_in rs k) (sym (put_keys_append ps qs))) refl
    (gains_both lo hi (put_keys ps) (put_keys qs) ps qs x y z a b)

-- ---- one range that goes, and one item

module _ (lo hi : ℕ) (rs : Intervals) (x y : LeafEdits) (c : KeyRange) (cut : cuts_in y ≡ cuts_in x ++ c ∷ []) (low : lo ≤ rank c.from) (high : rank c.to ≤ hi)
    (keys : (k : ℕ) → is_between (rank c.from) (rank c.to) k ≡ (is_between lo hi k && is_in rs k)) where
  cut_keys : (k : ℕ) → is_in (map range_of (cuts_in y)) k ≡ (is_in (map range_of (cuts_in x)) k || (is_between lo hi k && is_in rs k))
  cut_keys k =
      ap (λ (cs : List KeyRange). is_in (map range_of cs) k) cut
      ∙ ap (λ (ss : Intervals). is_in ss k) (map-append range_of (cuts_in x) (c ∷ []))
      ∙ in_append (map range_of (cuts_in x)) (range_of c ∷ []) k
      ∙ ap (λ (t : Bool). is_in (map range_of (cuts_in x)) k || t) (sym (or_nothing (is_between (rank c.from) (rank c.to) k) false refl) ∙ keys k)

  cut_within : CutsWithin lo hi (cuts_in x) → CutsWithin lo hi (cuts_in y)
  cut_within h = subst (CutsWithin lo hi) (sym cut) (cuts_more lo hi (cuts_in x) c h low high)

  pub gains_cut : items_in y ≡ items_in x → Gains lo hi rs [] x y
  gains_cut same = record {
    cuts = cut_keys;
    units = ap units_in same ∙ sym (append-nil (units_in (items_in x)));
    sound = λ h. record { cuts = cut_within h.cuts; items = subst (All (IsOfRange lo hi)) (sym same) h.items };
  }

  pub gains_item : (ps : Pairs) (it : Item) → items_in y ≡ items_in x ++ it ∷ [] → IsOfRange lo hi it → item_units it ≡ filter (λ p. is_between lo hi p.0) ps → Gains lo hi rs ps x y
  gains_item ps it more range units = record {
    cuts = cut_keys;
    units = ap units_in more ∙ units_append (items_in x) (it ∷ []) ∙ ap (λ (s : Pairs). units_in (items_in x) ++ s) (unit_of_one it ∙ units);
    sound = λ h. record {
      cuts = cut_within h.cuts;
      items = subst (All (IsOfRange lo hi)) (sym more) (All-push (IsOfRange lo hi) (items_in x) it h.items range);
    };
  }
