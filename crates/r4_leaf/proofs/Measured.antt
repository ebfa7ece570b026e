-- How many bytes a piece takes up behind others, and what may continue it.
use Rattle.std.proofs.Common.{◌≡◌, ℕ, ◌+◌, ◌/◌, ◌^◌, Bool, true, false, List, [], ◌∷◌, ◌++◌, ◌<◌, ◌-◌, zero, suc, length, take, get_or, refl, sym, ap, subst, ◌∙◌, arith, Bor}
use Rattle.std.specs.Prelude.{min, slice_index, Option, None, ◌==◌, if◌then◌else◌}
use Rattle.std.proofs.Math.Seq.{take-suc}
use Rattle.std.proofs.lemmas.List.{append-nil}
use Rattle.r4_base.specs.Cell.{entry_unit}
use Rattle.r4_base.specs.Key.{rank}
use Rattle.r4_base.specs.Stat.{attr_of}
use Rattle.r4_base.specs.Value.{Stat as StatValue}
use Rattle.r4_base.specs.declared.key.Key.{Key}
use Rattle.r4_cde.specs.Shown.{entry_shown}
use Rattle.r4_cde.specs.declared.view.EntryRef.{EntryRef}
use Rattle.r4_leaf.specs.Filling.{entry_need}
use Rattle.r4_leaf.specs.Measure.{IsTip, last_or}
use Rattle.r4_leaf.specs.Pieces.{Follow, IsSound, piece_end, piece_units, units_of}
use Rattle.r4_leaf.specs.Units.{LeafUnit, bytes_behind, continues_entries, continues_tail, unit_bytes}
use Rattle.r4_leaf.specs.declared.measuring.Tip.{Tip}
use Rattle.r4_leaf.specs.declared.measuring.Tip.TheVariants.{Alone, Directory, Tail}
use Rattle.r4_leaf.specs.declared.piece.Piece.{Piece}
use Rattle.r4_leaf.specs.declared.piece.Piece.TheVariants.{Stat, Entry, Bytes}
use Rattle.r4_leaf.proofs.Following.{units_append}
use Rattle.r4_leaf.proofs.SoundItems.{stat_long}
use Rattle.r4_leaf.proofs.Weighed.{behind_append, behind_one, first_number, last_append, last_byte, run_cost, stat_cost}

-- ---- what may continue a piece

pub stat_tip : (p : Piece) (k : Key) (body : Bor (List ℕ)) → p ≡ Stat k body → (before : Option LeafUnit)
    → IsTip Alone (last_or before (piece_units p))
unfolding piece_units
stat_tip p k body is before = subst (λ (x : Piece). IsTip Alone (last_or before (piece_units x))) (sym is)
    (record { entries = λ j. refl; bytes = λ j. refl })

pub entry_tip : (p : Piece) (e : EntryRef) → p ≡ Entry e → IsSound p → (before : Option LeafUnit)
    → IsTip (Directory (slice_index e.key.el 0)) (last_or before (piece_units p))
unfolding piece_units
entry_tip p e is sound before =
    let own : IsSound (Entry e) = subst IsSound is sound in
    let number = first_number e.key own.1 in
    subst (λ (x : Piece). IsTip (Directory (slice_index e.key.el 0)) (last_or before (piece_units x))) (sym is)
    (record { entries = λ j. ap (λ n. n == j / 2 ^ 192) number; bytes = λ j. refl })

pub bytes_tip : (p : Piece) (k : Key) (bytes : List ℕ) (next : Key) → p ≡ Bytes k bytes → IsSound p → rank next ≡ rank k + length bytes
    → (before : Option LeafUnit) → IsTip (Tail next) (last_or before (piece_units p))
unfolding piece_units
bytes_tip p k bytes next is sound at before =
    let own : IsSound (Bytes k bytes) = subst IsSound is sound in
    let (j, x, end, last) = last_byte before (rank k) bytes own.0 in
    let ends : j + 1 ≡ rank next = end ∙ sym at in
    subst (λ (y : Piece). IsTip (Tail next) (last_or before (piece_units y))) (sym is)
    (subst (λ (u : Option LeafUnit). IsTip (Tail next) u) (sym last)
    (record { entries = λ i. refl; bytes = λ i. ap (λ n. n == i) ends }))

-- ---- how many bytes it takes up

pub stat_weighs : (p : Piece) (k : Key) (body : Bor (List ℕ)) (n : ℕ) → p ≡ Stat k body → IsSound p → n ≡ 38 + length body.now
    → (before : Option LeafUnit) → n ≡ bytes_behind before (piece_units p)
unfolding piece_units
stat_weighs p k body n is sound e before =
    let own : IsSound (Stat k body) = subst IsSound is sound in
    let long = stat_long body.now own in
    let cost = behind_one before (rank k, StatValue (attr_of body.now)) ∙ stat_cost before (rank k) (attr_of body.now) in
    subst (λ (x : Piece). n ≡ bytes_behind before (piece_units x)) (sym is) (omega (arith, e, long, cost))

pub entry_header : Bool → ℕ
entry_header b = if b then 0 else 38 + 2

pub entry_cost : (e : EntryRef) (before : Option LeafUnit)
    → bytes_behind before (entry_unit (entry_shown e) ∷ []) ≡ entry_need 1 (entry_shown e) + entry_header (continues_entries before (rank e.key))
unfolding entry_header unit_bytes
entry_cost e before = let one = behind_one before (entry_unit (entry_shown e)) in omega (arith, one)

pub entry_behind : (p : Piece) (e : EntryRef) (n : ℕ) (b : Bool) → p ≡ Entry e → n ≡ entry_need 1 (entry_shown e) + entry_header b
    → (before : Option LeafUnit) → b ≡ continues_entries before (rank e.key) → n ≡ bytes_behind before (piece_units p)
unfolding piece_units
entry_behind p e n b is sum before same =
    subst (λ (x : Piece). n ≡ bytes_behind before (piece_units x)) (sym is)
    (sum ∙ (ap (λ t. entry_need 1 (entry_shown e) + entry_header t) same ∙ sym (entry_cost e before)))

pub no_header : (n : ℕ) → n ≡ n + entry_header true
unfolding entry_header
no_header n = omega arith

pub with_header : (n : ℕ) → n + 38 + 2 ≡ n + entry_header false
unfolding entry_header
with_header n = omega arith

-- the header of a run
abbrev pub byte_header : Bool → ℕ
byte_header b = if b then 0 else 38

pub bytes_then : (p : Piece) (k : Key) (bytes : List ℕ) (n : ℕ) → p ≡ Bytes k bytes → IsSound p → n ≡ length bytes
    → (before : Option LeafUnit) → true ≡ continues_tail before (rank k) → n ≡ bytes_behind before (piece_units p)
unfolding piece_units
bytes_then p k bytes n is sound e before same =
    let own : IsSound (Bytes k bytes) = subst IsSound is sound in
    let cost = run_cost before (rank k) bytes own.0 in
    let zero = ap byte_header same in
    subst (λ (x : Piece). n ≡ bytes_behind before (piece_units x)) (sym is) (omega (arith, e, cost, zero))

pub bytes_else : (p : Piece) (k : Key) (bytes : List ℕ) (n : ℕ) → p ≡ Bytes k bytes → IsSound p → n ≡ length bytes + 38
    → (before : Option LeafUnit) → false ≡ continues_tail before (rank k) → n ≡ bytes_behind before (piece_units p)
unfolding piece_units
bytes_else p k bytes n is sound e before same =
    let own : IsSound (Bytes k bytes) = subst IsSound is sound in
    let cost = run_cost before (rank k) bytes own.0 in
    let header = ap byte_header same in
    subst (λ (x : Piece). n ≡ bytes_behind before (piece_units x)) (sym is) (omega (arith, e, cost, header))

-- ---- one piece more

pub sound_at : (from to : ℕ) (ps : List Piece) (i : ℕ) (d : Piece) → Follow from to ps → i < length ps → IsSound (get_or ps i d)
sound_at from to [] i d h l = absurd (omega (arith, l))
sound_at from to (p ∷ ps) zero d h l = h.1
sound_at from to (p ∷ ps) (suc i) d h l = sound_at (piece_end p) to ps i d h.2 (omega (arith, l))

pub units_more : (ps : List Piece) (i : ℕ) (d : Piece) → i < length ps → units_of (take (i + 1) ps) ≡ units_of (take i ps) ++ piece_units (get_or ps i d)
units_more ps i d l =
    let next : i + 1 ≡ suc i = omega arith in
    ap (λ n. units_of (take n ps)) next
    ∙ (ap units_of (take-suc ps i d l)
    ∙ (units_append (take i ps) (get_or ps i d ∷ []) ∙ ap (λ us. units_of (take i ps) ++ us) (append-nil (piece_units (get_or ps i d)))))

pub capped : (x w m : ℕ) → min (min x m + w) m ≡ min (x + w) m
capped x w m = omega arith

-- what is counted of the first pieces, and what may continue them
pub record Counts (ps : List Piece) (i total : ℕ) (tip : Tip) : Type 0 where
  pub tip_is : IsTip tip (last_or None (units_of (take i ps)))
  pub total_is : total ≡ min (bytes_behind None (units_of (take i ps))) (2 ^ 64 - 1)

pub counts_more : (ps : List Piece) (i total w now : ℕ) (tip after : Tip) (p : Piece) → i < length ps → p ≡ get_or ps i p
    → Counts ps i total tip → ((before : Option LeafUnit) → IsTip tip before → w ≡ bytes_behind before (piece_units p))
    → ((before : Option LeafUnit) → IsTip after (last_or before (piece_units p))) → now ≡ min (total + w) (2 ^ 64 - 1)
    → Counts ps (i + 1) now after
counts_more ps i total w now tip after p l is c weighs ends sum =
    let us = units_of (take i ps) in
    let units : units_of (take (i + 1) ps) ≡ units_of (take i ps) ++ piece_units p =
    units_more ps i p l ∙ ap (λ (x : Piece). units_of (take i ps) ++ piece_units x) (sym is) in
    record {
      tip_is = subst (λ (vs : List LeafUnit). IsTip after (last_or None vs)) (sym units)
          (subst (λ (u : Option LeafUnit). IsTip after u) (sym (last_append None (units_of (take i ps)) (piece_units p))) (ends (last_or None (units_of (take i ps)))));
      total_is =
          sum ∙ (ap (λ n. min (n + w) (2 ^ 64 - 1)) c.total_is
          ∙ (capped (bytes_behind None (units_of (take i ps))) w (2 ^ 64 - 1)
          ∙ ap (λ n. min n (2 ^ 64 - 1))
          (ap (λ n. bytes_behind None (units_of (take i ps)) + n) (weighs (last_or None (units_of (take i ps))) c.tip_is)
          ∙ (sym (behind_append None (units_of (take i ps)) (piece_units p)) ∙ ap (bytes_behind None) (sym units)))));
    }

pub counts_none : (ps : List Piece) → Counts ps 0 0 Alone
unfolding bytes_behind
counts_none ps = record { tip_is = record { entries = λ k. refl; bytes = λ k. refl }; total_is = refl }
