-- Parts that stand behind others.
use Rattle.std.proofs.Common.{◌≡◌, ◌≢◌, ℕ, ◌+◌, ◌-◌, ◌≤◌, ◌<◌, Bool, true, false, not, List, [], ◌∷◌, ◌++◌, length, take, drop, map, refl, sym, ap, subst, ◌∙◌, arith, append_assoc, append-nil}
use Rattle.std.specs.Prelude.{None, Some, Ok, Err, slice_get, slice_range, min, if◌then◌else◌, ◌==◌}
use Rattle.std.proofs.lemmas.Grind.{flat_map-append}
use Rattle.std.proofs.lemmas.List.Concat.{flat_map-cons}
use Rattle.std.proofs.lemmas.List.{drop_all, length-drop, length-take}
use Rattle.std.proofs.lemmas.List.Elements.{All-nil, All-push}
use Rattle.r4_base.specs.Cell.{bytes_from, entry_unit, fault_in, item_units, units_in}
use Rattle.r4_base.specs.Dir.{Entry}
use Rattle.r4_base.specs.Key.{rank}
use Rattle.r4_base.specs.Node.{Item}
use Rattle.r4_base.specs.Stat.{attr_of, kind_is_good, mask_is_good, stat_of}
use Rattle.r4_base.specs.Value.{Stat}
use Rattle.r4_base.specs.declared.items.Attr.{Attr}
use Rattle.r4_base.specs.declared.items.StatFault.{StatFault}
use Rattle.r4_base.specs.declared.items.StatFault.TheVariants.{Kind, Length, Mask}
use Rattle.r4_content.specs.Edited.{Pairs, is_between}
use Rattle.r4_content.specs.Held.{part_pairs}
use Rattle.r4_content.specs.Objects.{byte_pairs}
use Rattle.r4_content.specs.Seen.{pairs_in}
use Rattle.r4_content.specs.declared.seen.SeenPart.{SeenPart}
use Rattle.r4_leaf.proofs.Lying.{drop_at, units_cons, units_nil}
use Rattle.r4_sight.specs.Parts.{Adds, AreFull, all_pairs, entry_pair}
use Rattle.r4_sight.proofs.Between.{both_in, bytes_in, one_in, one_out, same_bytes}

pub adds_none : (old : List SeenPart) (ps : Pairs) → ps ≡ [] → Adds old ps old
adds_none old ps is = record { pairs_are = sym (append-nil (all_pairs old)) ∙ ap (λ (es : Pairs). all_pairs old ++ es) (sym is); full = λ h. h }

pub adds_one : (old new : List SeenPart) (p : SeenPart) (ps : Pairs) → new ≡ old ++ p ∷ [] → part_pairs p ≡ ps → ps ≢ [] → Adds old ps new
adds_one old new p ps is has some = record {
  pairs_are = ap all_pairs is ∙ (flat_map-append part_pairs old (p ∷ [])
      ∙ ap (λ (es : Pairs). all_pairs old ++ es) (flat_map-cons part_pairs p [] ∙ (append-nil (part_pairs p) ∙ has)));
  full = λ h. subst AreFull (sym is) (All-push (λ (q : SeenPart). part_pairs q ≢ []) old p h (λ none. some (sym has ∙ none)));
}

pub adds_both : (a b c : List SeenPart) (ps qs : Pairs) → Adds a ps b → Adds b qs c → Adds a (ps ++ qs) c
adds_both a b c ps qs f g = record {
  pairs_are = g.pairs_are ∙ (ap (λ (es : Pairs). es ++ qs) f.pairs_are ∙ append_assoc (all_pairs a) ps qs);
  full = λ h. g.full (f.full h);
}

pub adds_as : (old new : List SeenPart) (ps qs : Pairs) → ps ≡ qs → Adds old ps new → Adds old qs new
adds_as old new ps qs is h = subst (λ (es : Pairs). Adds old es new) is h

-- ---- so many of them

-- the entries from the i-th on are left
pub record HasAdded (a b : ℕ) (es : List Entry) (i : ℕ) (old now : List SeenPart) : Type 0 where
  pub pairs_are : all_pairs now ++ pairs_in (map entry_unit (drop i es)) a b ≡ all_pairs old ++ pairs_in (map entry_unit es) a b
  pub full : AreFull old → AreFull now

pub added_none : (a b : ℕ) (es : List Entry) (old : List SeenPart) → HasAdded a b es 0 old old
added_none a b es old = record { pairs_are = refl; full = λ h. h }

pub added_more : (a b : ℕ) (es : List Entry) (i : ℕ) (e : Entry) (old now new : List SeenPart) → slice_get es i ≡ Some e → HasAdded a b es i old now → Adds now (pairs_in (entry_pair e) a b) new → HasAdded a b es (i + 1) old new
added_more a b es i e old now new at h adds = record {
  pairs_are = ap (λ (ps : Pairs). ps ++ pairs_in (map entry_unit (drop (i + 1) es)) a b) adds.pairs_are
      ∙ (append_assoc (all_pairs now) (pairs_in (entry_pair e) a b) (pairs_in (map entry_unit (drop (i + 1) es)) a b)
      ∙ (ap (λ (ps : Pairs). all_pairs now ++ ps) (sym (both_in a b (entry_pair e) (map entry_unit (drop (i + 1) es))) ∙ ap (λ (xs : List Entry). pairs_in (map entry_unit xs) a b) (sym (drop_at i es e at))) ∙ h.pairs_are));
  full = λ f. adds.full (h.full f);
}

pub added_all : (a b : ℕ) (es : List Entry) (i : ℕ) (old now : List SeenPart) → length es ≤ i → HasAdded a b es i old now → Adds old (pairs_in (map entry_unit es) a b) now
added_all a b es i old now past h = record {
  pairs_are = sym (append-nil (all_pairs now)) ∙ (ap (λ (xs : List Entry). all_pairs now ++ pairs_in (map entry_unit xs) a b) (sym (drop_all i es past)) ∙ h.pairs_are);
  full = h.full;
}

-- the items from the i-th on are left
pub record HasRead (a b : ℕ) (items : List Item) (i : ℕ) (now : List SeenPart) : Type 0 where
  pub pairs_are : all_pairs now ++ pairs_in (units_in (drop i items)) a b ≡ pairs_in (units_in items) a b
  pub full : AreFull now

pub read_none : (a b : ℕ) (items : List Item) → HasRead a b items 0 []
read_none a b items = record { pairs_are = refl; full = All-nil _ }

pub read_more : (a b : ℕ) (items : List Item) (i : ℕ) (x : Item) (now new : List SeenPart) → slice_get items i ≡ Some x → HasRead a b items i now → Adds now (pairs_in (item_units x) a b) new → HasRead a b items (i + 1) new
read_more a b items i x now new at h adds = record {
  pairs_are = ap (λ (ps : Pairs). ps ++ pairs_in (units_in (drop (i + 1) items)) a b) adds.pairs_are
      ∙ (append_assoc (all_pairs now) (pairs_in (item_units x) a b) (pairs_in (units_in (drop (i + 1) items)) a b)
      ∙ (ap (λ (ps : Pairs). all_pairs now ++ ps) (sym (both_in a b (item_units x) (units_in (drop (i + 1) items)))
      ∙ (ap (λ (us : Pairs). pairs_in us a b) (sym (units_cons x (drop (i + 1) items))) ∙ ap (λ (xs : List Item). pairs_in (units_in xs) a b) (sym (drop_at i items x at)))) ∙ h.pairs_are));
  full = adds.full h.full;
}

pub read_all : (a b : ℕ) (items : List Item) (i : ℕ) (now : List SeenPart) → length items ≤ i → HasRead a b items i now → all_pairs now ≡ pairs_in (units_in items) a b
read_all a b items i now past h = sym (append-nil (all_pairs now)) ∙ (ap (λ (us : Pairs). all_pairs now ++ pairs_in us a b) (sym (ap units_in (drop_all i items past) ∙ units_nil)) ∙ h.pairs_are)

-- ---- what single items have

-- no byte of a tail stands there
pub tail_none : (a b k : ℕ) (xs : List ℕ) (f t : ℕ) (old : List SeenPart) → f ≡ min (length xs) (a - k) → t ≡ min (length xs) (b - k) → t ≤ f → Adds old (pairs_in (bytes_from k xs) a b) old
tail_none a b k xs f t old from to le = adds_none old (pairs_in (bytes_from k xs) a b) (bytes_in a b k xs ∙ ap (λ (n : ℕ). bytes_from (k + min (length xs) (a - k)) (take n (drop (min (length xs) (a - k)) xs))) none)
  where
    none : min (length xs) (b - k) - min (length xs) (a - k) ≡ 0
    none = omega (arith, from, to, le)

some_bytes : (k : ℕ) (xs : List ℕ) → 0 < length xs → bytes_from k xs ≢ []
some_bytes k [] lt e = absurd (omega (arith, lt))
some_bytes k (x ∷ xs) lt e = cc

-- a run of its bytes does
pub tail_some : (a b k : ℕ) (xs : List ℕ) (f t : ℕ) (old new : List SeenPart) (p : SeenPart) → f ≡ min (length xs) (a - k) → t ≡ min (length xs) (b - k) → f < t → new ≡ old ++ p ∷ [] → part_pairs p ≡ byte_pairs (k + f) (slice_range xs f t)
    → Adds old (pairs_in (bytes_from k xs) a b) new
tail_some a b k xs f t old new p from to lt is has = adds_one old new p (pairs_in (bytes_from k xs) a b) is (has ∙ (same_bytes (k + f) (slice_range xs f t) ∙ there)) some
  where
    there : bytes_from (k + f) (slice_range xs f t) ≡ pairs_in (bytes_from k xs) a b
    there = ap (λ (n : ℕ). bytes_from (k + n) (slice_range xs n t)) from ∙ (ap (λ (n : ℕ). bytes_from (k + min (length xs) (a - k)) (slice_range xs (min (length xs) (a - k)) n)) to ∙ sym (bytes_in a b k xs))

    long : 0 < length (slice_range xs f t)
    long = let first = length-take (t - f) (drop f xs) in let rest = length-drop f xs in omega (arith, first, rest, lt, from, to)

    some : pairs_in (bytes_from k xs) a b ≢ []
    some none = some_bytes (k + f) (slice_range xs f t) long (there ∙ none)

-- the attributes of stat data are those of its body
attr_is : (b : List ℕ) (a : Attr) → stat_of b ≡ Ok a → a ≡ attr_of b
unfolding stat_of
attr_is b a h = by (mask_is_good b) (length b == 44) (kind_is_good (attr_of b).mode) h
  where
    by : (m l k : Bool) → (if not m then Err Mask else if not l then Err Length else if not k then Err Kind else Ok (attr_of b)) ≡ Ok a → a ≡ attr_of b
    by true true true g = cc
    by true true false g = absurd cc
    by true false k g = absurd cc
    by false l k g = absurd cc

pub stat_some : (a b : ℕ) (it : Item) (attr : Attr) (old new : List SeenPart) (p : SeenPart) → item_units it ≡ (rank it.key, Stat (attr_of it.body)) ∷ [] → stat_of it.body ≡ Ok attr → is_between a b (rank it.key) ≡ true → new ≡ old ++ p ∷ [] → part_pairs p ≡ (rank it.key, Stat attr) ∷ []
    → Adds old (pairs_in (item_units it) a b) new
stat_some a b it attr old new p units says inside is has = adds_one old new p (pairs_in (item_units it) a b) is (has ∙ there) some
  where
    there : (rank it.key, Stat attr) ∷ [] ≡ pairs_in (item_units it) a b
    there = ap (λ (c : Attr). (rank it.key, Stat c) ∷ []) (attr_is it.body attr says) ∙ (sym (one_in a b (rank it.key, Stat (attr_of it.body)) inside) ∙ ap (λ (us : Pairs). pairs_in us a b) (sym units))

    some : pairs_in (item_units it) a b ≢ []
    some none = let e = there ∙ none in cc

pub stat_none : (a b : ℕ) (it : Item) (old : List SeenPart) → item_units it ≡ (rank it.key, Stat (attr_of it.body)) ∷ [] → is_between a b (rank it.key) ≡ false → Adds old (pairs_in (item_units it) a b) old
stat_none a b it old units out = adds_none old (pairs_in (item_units it) a b) (ap (λ (us : Pairs). pairs_in us a b) units ∙ one_out a b (rank it.key, Stat (attr_of it.body)) out)

-- stat data without a fault has attributes
pub stat_read : (b : List ℕ) (e : StatFault) → fault_in (stat_of b) ≡ None → stat_of b ≡ Err e → ⊥
stat_read b e good bad = let f = ap fault_in bad in cc
