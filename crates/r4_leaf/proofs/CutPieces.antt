-- Pieces that are kept where units are cut out.
use Rattle.std.proofs.Common.{◌≡◌, ◌⊎◌, ℕ, zero, suc, ◌+◌, ◌-◌, ◌*◌, ◌^◌, ◌<◌, ◌≤◌, List, [], ◌∷◌, ◌++◌, length, take, drop, inl, inr, refl, sym, ap, subst, ◌∙◌, arith}
use Rattle.std.specs.Prelude.{OnOk, Result, Ok, Err, reverse, slice_index}
use Rattle.std.proofs.lemmas.Bool.{cases_lt}
use Rattle.std.proofs.lemmas.List.{append_assoc, append-nil, reverse-append, length-take, length-drop, take-append-drop, drop_all, drop-drop}
use Rattle.std.proofs.lemmas.List.Elements.{filter-append}
use Rattle.r4_base.specs.Cell.{bytes_from}
use Rattle.r4_base.specs.Key.{IsKey, offset_of, rank}
use Rattle.r4_base.specs.declared.key.Key.{Key}
use Rattle.r4_leaf.specs.Pieces.{Follow, IsSound, Leads, piece_end, piece_key, piece_units, units_of}
use Rattle.r4_leaf.specs.Units.{LeafUnit, cut_units}
use Rattle.r4_leaf.specs.declared.piece.Piece.{Piece}
use Rattle.r4_leaf.specs.declared.piece.Piece.TheVariants.{Stat, Entry, Bytes}
use Rattle.r4_leaf.proofs.Following.{units_more}
use Rattle.r4_leaf.proofs.Rising.{Rise, bytes_append, bytes_rise, cut_all, cut_high, cut_low}

-- ---- parts of a list of pieces that follow one another

pub follow_lower : (from low to : ℕ) (ps : List Piece) → low ≤ from → Follow from to ps → Follow low to ps
follow_lower from low to [] le h = omega (arith, le, h)
follow_lower from low to (p ∷ ps) le h = (let g = h.0 in omega (arith, le, g), h.1, h.2)

pub record Ends (from to : ℕ) (ps : List Piece) (p : Piece) : Type 0 where
  pub before : Follow from (rank (piece_key p)) ps
  pub sound : IsSound p
  pub end : piece_end p ≤ to

pub follow_last : (from to : ℕ) (ps : List Piece) (p : Piece) → Follow from to (ps ++ p ∷ []) → Ends from to ps p
follow_last from to [] p h = record { before = h.0; sound = h.1; end = h.2 }
follow_last from to (q ∷ ps) p h = let e = follow_last (piece_end q) to ps p h.2 in record { before = (h.0, h.1, e.before); sound = e.sound; end = e.end }

pub some_units : (p : Piece) → IsSound p → rank (piece_key p) < piece_end p
some_units (Stat k body) h = omega arith
some_units (Entry e) h = omega arith
some_units (Bytes k bytes) h = let some = h.0 in omega (arith, some)

-- ---- pieces that lead others

turned : (ps : List Piece) (p : Piece) → reverse (ps ++ p ∷ []) ≡ p ∷ reverse ps
turned ps p = reverse-append ps (p ∷ [])

pub leads_one : (old : List Piece) (p : Piece) → IsSound p → Leads old (rank (piece_key p)) (piece_end p) (piece_units p) (old ++ p ∷ [])
leads_one old p sound = record {
  units = ap units_of (turned old p);
  follow = λ hi h. subst (λ ps. Follow (rank (piece_key p)) hi ps) (sym (turned old p)) (omega arith, sound, h);
}

pub leads_none : (old : List Piece) (from to : ℕ) → from ≤ to → Leads old from to [] old
leads_none old from to le = record { units = refl; follow = λ hi h. follow_lower to from hi (reverse old) le h }

pub leads_both : (old mid new : List Piece) (a b c d : ℕ) (us vs : List LeafUnit) → b ≤ c → Leads old c d vs mid → Leads mid a b us new → Leads old a d (us ++ vs) new
leads_both old mid new a b c d us vs le one two = record {
  units = two.units ∙ (ap (λ ws. us ++ ws) one.units ∙ sym (append_assoc us vs (units_of (reverse old))));
  follow = λ hi h. two.follow hi (follow_lower c b hi (reverse mid) le (one.follow hi h));
}

pub leads_as : (old new : List Piece) (from to : ℕ) (us vs : List LeafUnit) → us ≡ vs → Leads old from to us new → Leads old from to vs new
leads_as old new from to us vs e h = subst (λ ws. Leads old from to ws new) e h

-- ---- one unit

one_kept : (from to k : ℕ) (u : LeafUnit) → u.0 ≡ k → (k < from) ⊎ (to ≤ k) → cut_units from to (u ∷ []) ≡ u ∷ []
one_kept from to k u is (inl lt) = cut_low from to u.0 from (u ∷ []) (omega arith) (omega arith, omega (arith, is, lt))
one_kept from to k u is (inr le) = cut_high from to u.0 (u.0 + 1) (u ∷ []) (omega (arith, is, le)) (omega arith, omega arith)

one_gone : (from to k : ℕ) (u : LeafUnit) → u.0 ≡ k → from ≤ k → k < to → cut_units from to (u ∷ []) ≡ []
one_gone from to k u is le lt = cut_all from to u.0 (u.0 + 1) (u ∷ []) (omega (arith, is, le)) (omega (arith, is, lt)) (omega arith, omega arith)

abbrev pub IsRun : Piece → Type 0
IsRun (Bytes k bytes) = Unit {0}
IsRun (Stat k body) = ⊥
IsRun (Entry e) = ⊥

pub no_run : (p : Piece) → ((k : Key) (b : List ℕ) → p ≡ Bytes k b → ⊥) → IsRun p → ⊥
no_run (Stat k body) other h = h
no_run (Entry e) other h = h
no_run (Bytes k bytes) other h = other k bytes refl

pub unit_kept : (from to : ℕ) (p : Piece) → (IsRun p → ⊥) → (rank (piece_key p) < from) ⊎ (to ≤ rank (piece_key p)) → cut_units from to (piece_units p) ≡ piece_units p
unfolding piece_units
unit_kept from to (Stat k body) one out = one_kept from to (rank k) _ refl out
unit_kept from to (Entry e) one out = one_kept from to (rank e.key) _ refl out
unit_kept from to (Bytes k bytes) one out = absurd (one tt)

pub unit_gone : (from to : ℕ) (p : Piece) → (IsRun p → ⊥) → from ≤ rank (piece_key p) → rank (piece_key p) < to → cut_units from to (piece_units p) ≡ []
unfolding piece_units
unit_gone from to (Stat k body) one le lt = one_gone from to (rank k) _ refl le lt
unit_gone from to (Entry e) one le lt = one_gone from to (rank e.key) _ refl le lt
unit_gone from to (Bytes k bytes) one le lt = absurd (one tt)

-- ---- a run of bytes, of which the first ones are below the first key, and those from another place on are not below the second

module _ (from to k : ℕ) (bs : List ℕ) (first end : ℕ) (f : first ≤ length bs) (e : end ≤ length bs)
    (low : (j : ℕ) → j < first → k + j < from) (not_low : (j : ℕ) → first ≤ j → j < length bs → from ≤ k + j)
    (not_high : (j : ℕ) → j < end → k + j < to) (high : (j : ℕ) → end ≤ j → j < length bs → to ≤ k + j) where
  head_kept : (n : ℕ) → n ≤ first → cut_units from to (bytes_from k (take n bs)) ≡ bytes_from k (take n bs)
  head_kept zero le = refl
  head_kept (suc n) le =
      let long = length-take (suc n) bs in
      let last = low n (omega (arith, le)) in
      cut_low from to k (k + suc n) (bytes_from k (take (suc n) bs)) (omega (arith, last)) (subst (λ m. Rise k (k + m) (bytes_from k (take (suc n) bs))) (let same : length (take (suc n) bs) ≡ suc n = omega (arith, long, le, f) in same) (bytes_rise k (take (suc n) bs)))

  tail_kept : (n : ℕ) → end ≤ n → n ≤ length bs → cut_units from to (bytes_from (k + n) (drop n bs)) ≡ bytes_from (k + n) (drop n bs)
  tail_kept n le within = elim (cases_lt n (length bs)) [
    | inl lt ↦ cut_high from to (k + n) (k + n + length (drop n bs)) (bytes_from (k + n) (drop n bs)) (high n le lt) (bytes_rise (k + n) (drop n bs))
    | inr past ↦ ap (λ xs. cut_units from to (bytes_from (k + n) xs)) (drop_all n bs past) ∙ sym (ap (λ xs. bytes_from (k + n) xs) (drop_all n bs past))
  ]

  parted : (n : ℕ) → n ≤ length bs → bytes_from k bs ≡ bytes_from k (take n bs) ++ bytes_from (k + n) (drop n bs)
  parted n le =
      let long = length-take n bs in
      ap (bytes_from k) (sym (take-append-drop n bs)) ∙ (bytes_append k (take n bs) (drop n bs) ∙ ap (λ m. bytes_from k (take n bs) ++ bytes_from (k + m) (drop n bs)) (let same : length (take n bs) ≡ n = omega (arith, long, le) in same))

  pub run_kept : end ≤ first → cut_units from to (bytes_from k bs) ≡ bytes_from k bs
  run_kept le =
      ap (cut_units from to) (parted first f) ∙ (filter-append _ (bytes_from k (take first bs)) (bytes_from (k + first) (drop first bs))
      ∙ ((λ i. head_kept first (omega arith) i ++ tail_kept first le f i) ∙ sym (parted first f)))

  middle : List ℕ
  middle = take (end - first) (drop first bs)

  middle_gone : first < end → cut_units from to (bytes_from (k + first) middle) ≡ []
  unfolding middle
  middle_gone lt =
      let a = not_low first (omega arith) (omega (arith, lt, e)) in
      let b = not_high (end - 1) (omega (arith, lt)) in
      let one = length-take (end - first) (drop first bs) in
      let two = length-drop first bs in
      cut_all from to (k + first) (k + first + length (take (end - first) (drop first bs))) (bytes_from (k + first) (take (end - first) (drop first bs))) a (omega (arith, b, one, two, e, lt)) (bytes_rise (k + first) (take (end - first) (drop first bs)))

  behind_middle : first < end → drop (end - first) (drop first bs) ≡ drop end bs
  behind_middle lt = drop-drop (end - first) first bs ∙ ap (λ n. drop n bs) (omega (arith, lt))

  pub run_parted : first < end → cut_units from to (bytes_from k bs) ≡ bytes_from k (take first bs) ++ bytes_from (k + end) (drop end bs)
  unfolding middle
  run_parted lt =
      let one = length-take (end - first) (drop first bs) in
      let two = length-drop first bs in
      let split : bytes_from (k + first) (drop first bs) ≡ bytes_from (k + first) middle ++ bytes_from (k + end) (drop end bs) =
      ap (bytes_from (k + first)) (sym (take-append-drop (end - first) (drop first bs)))
      ∙ (bytes_append (k + first) middle (drop (end - first) (drop first bs))
      ∙ ((λ i. bytes_from (k + first) middle ++ bytes_from (k + first + length middle) (behind_middle lt i))
      ∙ ap (λ n. bytes_from (k + first) middle ++ bytes_from n (drop end bs)) (let same : k + first + length middle ≡ k + end = omega (arith, one, two, lt, e) in same))) in
      ap (cut_units from to) (parted first f ∙ ap (λ us. bytes_from k (take first bs) ++ us) split)
      ∙ (filter-append _ (bytes_from k (take first bs)) (bytes_from (k + first) middle ++ bytes_from (k + end) (drop end bs))
      ∙ (λ i. head_kept first (omega arith) i ++ (filter-append _ (bytes_from (k + first) middle) (bytes_from (k + end) (drop end bs)) ∙ (λ j. middle_gone lt j ++ tail_kept end (omega arith) e j)) i))

-- ---- how far a key is from another of the same file

pub upper : Key → ℕ
upper k = slice_index k.el 0 * 2 ^ 128 + (slice_index k.el 1 * 2 ^ 64 + slice_index k.el 2)

pub rank_is : (k : Key) → rank k ≡ upper k * 2 ^ 64 + offset_of k
unfolding rank upper
rank_is k = omega arith

near : (x y e k n : ℕ) → x * 2 ^ 64 + k < y * 2 ^ 64 + e → y * 2 ^ 64 + e < x * 2 ^ 64 + k + n → k + n ≤ 16384 → e < 2 ^ 64 → x ≡ y
near x y e k n a b c d = omega arith

pub apart_by : (key end : Key) (n : ℕ) → IsKey end → rank key < rank end → rank end < rank key + n → offset_of key + n ≤ 16384 → (offset_of key ≤ offset_of end) × (rank end + offset_of key ≡ rank key + offset_of end)
apart_by key end n is low high short =
    let a = rank_is key in
    let b = rank_is end in
    let small = is.small 3 in
    let same = near (upper key) (upper end) (offset_of end) (offset_of key) n (omega (arith, a, b, low)) (omega (arith, a, b, high)) short small in
    let up : upper key * 2 ^ 64 ≡ upper end * 2 ^ 64 = ap (λ x. x * 2 ^ 64) same in
    (omega (arith, a, b, up, low), omega (arith, a, b, up))

-- ---- all pieces

-- What is left of those behind these, of the first pieces.
pub record IsCutTo (from to : ℕ) (first ps left : List Piece) : Type 0 where
  pub units : cut_units from to (units_of ps) ++ units_of (reverse left) ≡ cut_units from to (units_of first)
  pub follow : (lo hi : ℕ) → Follow lo hi first → (mid : ℕ) × Follow lo mid ps × Follow mid hi (reverse left)

pub cut_begins : (from to : ℕ) (ps : List Piece) → IsCutTo from to ps ps []
cut_begins from to ps = record { units = append-nil (cut_units from to (units_of ps)); follow = λ lo hi h. (hi, h, omega arith) }

pub cut_more : (from to : ℕ) (first ps qs left new : List Piece) (p : Piece) → ps ≡ qs ++ p ∷ [] → Leads left (rank (piece_key p)) (piece_end p) (cut_units from to (piece_units p)) new → IsCutTo from to first ps left → IsCutTo from to first qs new
cut_more from to first ps qs left new p is leads c = record {
  units = ap (λ us. cut_units from to (units_of qs) ++ us) leads.units
      ∙ (sym (append_assoc (cut_units from to (units_of qs)) (cut_units from to (piece_units p)) (units_of (reverse left)))
      ∙ (ap (λ us. us ++ units_of (reverse left)) (sym (filter-append _ (units_of qs) (piece_units p)) ∙ ap (cut_units from to) (sym (units_more qs p) ∙ ap units_of (sym is))) ∙ c.units));
  follow = λ lo hi h.
      let f = c.follow lo hi h in
      let e = follow_last lo f.0 qs p (subst (λ xs. Follow lo f.0 xs) is f.1) in
      (rank (piece_key p), e.before, leads.follow hi (follow_lower f.0 (piece_end p) hi (reverse left) e.end f.2));
}

pub cut_ended : (from to : ℕ) (first ps left : List Piece) → ps ≡ [] → IsCutTo from to first ps left → (units_of (reverse left) ≡ cut_units from to (units_of first)) × ((lo hi : ℕ) → Follow lo hi first → Follow lo hi (reverse left))
cut_ended from to first ps left none c = (
  ap (λ xs. cut_units from to (units_of xs) ++ units_of (reverse left)) (sym none) ∙ c.units,
  λ lo hi h. let f = c.follow lo hi h in follow_lower f.0 lo hi (reverse left) (subst (λ xs. Follow lo f.0 xs) none f.1) f.2,
)

pub no_pieces : (ps : List Piece) → length ps ≡ 0 → ps ≡ []
no_pieces [] e = refl
no_pieces (p ∷ ps) e = absurd (omega (arith, e))

-- what follows where a call goes well
pub on_ok : {T E : Type 0} (r : Result T E) (P Q : Type 0) → (P → Q) → OnOk r P → OnOk r Q
on_ok (Ok v) P Q f p = f p
on_ok (Err e) P Q f p = p

pub leads_empty : (old : List Piece) (k : ℕ) (bs : List ℕ) → length bs ≡ 0 → Leads old k (k + length bs) (bytes_from k bs) old
leads_empty old k [] none = leads_none old k (k + 0) (omega arith)
leads_empty old k (b ∷ bs) none = absurd (omega (arith, none))

-- ---- the parts of a run

module _ (key : Key) (bytes : List ℕ) (count from to first end : ℕ) (long_is : count ≡ length bytes) (f : first ≤ count) (e : end ≤ count)
    (low : (j : ℕ) → j < first → rank key + j < from) (not_low_of : (j : ℕ) → first ≤ j → j < count → from ≤ rank key + j)
    (not_high : (j : ℕ) → j < end → rank key + j < to) (high_of : (j : ℕ) → end ≤ j → j < count → to ≤ rank key + j) where
  first_within : first ≤ length bytes
  first_within = subst (λ n. first ≤ n) long_is f

  end_within : end ≤ length bytes
  end_within = subst (λ n. end ≤ n) long_is e

  not_low : (j : ℕ) → first ≤ j → j < length bytes → from ≤ rank key + j
  not_low j le lt = not_low_of j le (subst (λ n. j < n) (sym long_is) lt)

  high : (j : ℕ) → end ≤ j → j < length bytes → to ≤ rank key + j
  high j le lt = high_of j le (subst (λ n. j < n) (sym long_is) lt)

  pub whole_run : end ≤ first → bytes_from (rank key) bytes ≡ cut_units from to (piece_units (Bytes key bytes))
  unfolding piece_units
  whole_run le = sym (run_kept from to (rank key) bytes first end first_within end_within low not_low not_high high le)

  pub two_runs : (old mid new : List Piece) (next : Key) (rest_of head_of : List ℕ) → first < end → rank next ≡ rank key + end
      → rest_of ≡ drop end bytes → head_of ≡ take first bytes
      → Leads old (rank next) (rank next + length rest_of) (bytes_from (rank next) rest_of) mid
      → Leads mid (rank key) (rank key + length head_of) (bytes_from (rank key) head_of) new
      → Leads old (rank key) (rank key + length bytes) (cut_units from to (piece_units (Bytes key bytes))) new
  unfolding piece_units
  two_runs old mid new next rest_of head_of lt is rest_is head_is one head =
      let behind : Leads old (rank next) (rank next + length (drop end bytes)) (bytes_from (rank next) (drop end bytes)) mid = subst (λ (xs : List ℕ). Leads old (rank next) (rank next + length xs) (bytes_from (rank next) xs) mid) rest_is one in
      let two : Leads mid (rank key) (rank key + length (take first bytes)) (bytes_from (rank key) (take first bytes)) new = subst (λ (xs : List ℕ). Leads mid (rank key) (rank key + length xs) (bytes_from (rank key) xs) new) head_is head in
      let long = length-take first bytes in
      let rest = length-drop end bytes in
      let both = leads_both old mid new (rank key) (rank key + length (take first bytes)) (rank next) (rank next + length (drop end bytes)) (bytes_from (rank key) (take first bytes)) (bytes_from (rank next) (drop end bytes)) (let w = end_within in omega (arith, long, is, lt, w)) behind two in
      let units : bytes_from (rank key) (take first bytes) ++ bytes_from (rank next) (drop end bytes) ≡ cut_units from to (bytes_from (rank key) bytes) =
      ap (λ k. bytes_from (rank key) (take first bytes) ++ bytes_from k (drop end bytes)) is ∙ sym (run_parted from to (rank key) bytes first end first_within end_within low not_low not_high high lt) in
      subst (λ us. Leads old (rank key) (rank key + length bytes) us new) units
      (subst (λ t. Leads old (rank key) t (bytes_from (rank key) (take first bytes) ++ bytes_from (rank next) (drop end bytes)) new) (let w = end_within in omega (arith, rest, is, w)) both)
