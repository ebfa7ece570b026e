-- A piece that is put in, and what is left of it.
use Rattle.std.proofs.Common.{◌≡◌, ℕ, zero, suc, ◌+◌, ◌<◌, ◌≤◌, List, [], ◌∷◌, ◌++◌, length, take, drop, refl, sym, ap, subst, ◌∙◌, arith}
use Rattle.std.specs.Prelude.{slice_index}
use Rattle.std.specs.Borrow.{Bor}
use Rattle.std.proofs.lemmas.List.{length-drop, length-take, take_all, take-append-drop}
use Rattle.r4_base.specs.Cell.{bytes_from, entry_unit}
use Rattle.r4_base.specs.Key.{offset_of, rank}
use Rattle.r4_base.specs.Stat.{attr_of}
use Rattle.r4_base.specs.Value.{Byte, Stat as StatValue}
use Rattle.r4_base.specs.declared.key.Key.{Key}
use Rattle.r4_cde.specs.Shown.{entry_shown}
use Rattle.r4_cde.specs.declared.view.EntryRef.{EntryRef}
use Rattle.r4_leaf.specs.Filling.{IsFullFor, Puts}
use Rattle.r4_leaf.specs.Packing.{IsLeft}
use Rattle.r4_leaf.specs.Pieces.{IsSound, piece_end, piece_key, piece_units}
use Rattle.r4_leaf.specs.Units.{LeafUnit}
use Rattle.r4_leaf.specs.declared.piece.Piece.{Piece}
use Rattle.r4_leaf.specs.declared.piece.Piece.TheVariants.{Stat, Entry, Bytes}
use Rattle.r4_leaf.proofs.Rising.{bytes_append}
use Rattle.r4_leaf.proofs.TailFilled.{puts_none}

puts_nothing : (from : ℕ) (b c : List ℕ) → c ≡ b → Puts from from [] b c
puts_nothing from b c same = subst (λ x. Puts from from [] b x) (sym same) (subst (λ t. Puts from t [] b b) (let e : from + 0 ≡ from = omega arith in e) (puts_none from b))

left_whole : (p : Piece) (u : LeafUnit) (b c : List ℕ) → piece_units p ≡ u ∷ [] → u.0 ≡ rank (piece_key p) → IsSound p → c ≡ b → IsFullFor u c → IsLeft p p b c
left_whole p u b c one key sound same full = record {
  done = [];
  next = u;
  more = [];
  units = refl;
  first = one;
  key = key;
  sound = sound;
  end = refl;
  low = omega arith;
  puts = puts_nothing (rank (piece_key p)) b c same;
  full = full;
}

pub left_stat : (p : Piece) (k : Key) (body : Bor (List ℕ)) (b c : List ℕ) → p ≡ Stat k body → IsSound p → c ≡ b → IsFullFor (rank k, StatValue (attr_of body.now)) c → IsLeft p (Stat k body) b c
unfolding piece_units
left_stat p k body b c is sound same full = subst (λ (x : Piece). IsLeft x (Stat k body) b c) (sym is) (left_whole (Stat k body) (rank k, StatValue (attr_of body.now)) b c refl refl (subst IsSound is sound) same full)

pub left_entry : (p : Piece) (e : EntryRef) (b c : List ℕ) → p ≡ Entry e → IsSound p → c ≡ b → IsFullFor (entry_unit (entry_shown e)) c → IsLeft p (Entry e) b c
unfolding piece_units
left_entry p e b c is sound same full = subst (λ (x : Piece). IsLeft x (Entry e) b c) (sym is) (left_whole (Entry e) (entry_unit (entry_shown e)) b c refl refl (subst IsSound is sound) same full)

first_byte : (k : ℕ) (bs : List ℕ) → 1 ≤ length bs → (more : List LeafUnit) × (bytes_from k bs ≡ (k, Byte (slice_index bs 0)) ∷ more)
first_byte k [] some = absurd (omega (arith, some))
first_byte k (b ∷ bs) some = (bytes_from (k + 1) bs, refl)

index_drop : (n : ℕ) (bs : List ℕ) → slice_index (drop n bs) 0 ≡ slice_index bs n
index_drop zero bs = refl
index_drop (suc n) [] = refl
index_drop (suc n) (b ∷ bs) = index_drop n bs

module _ (p : Piece) (k : Key) (bytes : List ℕ) (b c : List ℕ) (is : p ≡ Bytes k bytes) (sound : IsSound p) (n : ℕ) (within : n ≤ length bytes)
    (puts : Puts (rank k) (rank k + n) (bytes_from (rank k) (take n bytes)) b c) where
  own : IsSound (Bytes k bytes)
  own = subst IsSound is sound

  pub all_bytes : n ≡ length bytes → Puts (rank (piece_key p)) (piece_end p) (piece_units p) b c
  unfolding piece_units
  all_bytes all =
      subst (λ (x : Piece). Puts (rank (piece_key x)) (piece_end x) (piece_units x) b c) (sym is)
      (subst (λ m. Puts (rank k) (rank k + m) (bytes_from (rank k) bytes) b c) all
      (subst (λ bs. Puts (rank k) (rank k + n) (bytes_from (rank k) bs) b c) (take_all n bytes (omega (arith, all))) puts))

  pub left_bytes : (next : Key) (rest : List ℕ) → n < length bytes → rest ≡ drop n bytes → rank next ≡ rank k + n → offset_of next ≡ offset_of k + n
      → IsFullFor (rank k + n, Byte (slice_index bytes n)) c → IsLeft p (Bytes next rest) b c
  unfolding piece_units
  left_bytes next rest lt now rank_is offset_is full =
      let dropped = length-drop n bytes in
      let taken = length-take n bytes in
      let long = ap length now in
      let first = first_byte (rank next) rest (omega (arith, long, dropped, lt)) in
      let short = own.1 in
      let split : bytes_from (rank k) bytes ≡ bytes_from (rank k) (take n bytes) ++ bytes_from (rank next) rest =
      ap (bytes_from (rank k)) (sym (take-append-drop n bytes)) ∙ (bytes_append (rank k) (take n bytes) (drop n bytes)
      ∙ (λ i. bytes_from (rank k) (take n bytes) ++ bytes_from (let e : rank k + length (take n bytes) ≡ rank next = omega (arith, taken, rank_is, within) in e i) (sym now i))) in
      let head : slice_index rest 0 ≡ slice_index bytes n = ap (λ bs. slice_index bs 0) now ∙ index_drop n bytes in
      subst (λ (x : Piece). IsLeft x (Bytes next rest) b c) (sym is) (record {
        done = bytes_from (rank k) (take n bytes);
        next = (rank next, Byte (slice_index rest 0));
        more = first.0;
        units = split;
        first = first.1;
        key = refl;
        sound = (omega (arith, long, dropped, lt), omega (arith, long, dropped, offset_is, short, within));
        end = omega (arith, long, dropped, rank_is, within);
        low = omega (arith, rank_is);
        puts = subst (λ t. Puts (rank k) t (bytes_from (rank k) (take n bytes)) b c) (sym rank_is) puts;
        full = subst (λ (u : LeafUnit). IsFullFor u c) (λ i. (sym rank_is i, Byte (sym head i))) full;
      })
