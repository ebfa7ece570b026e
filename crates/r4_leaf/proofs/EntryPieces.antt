-- Entries of a directory item as pieces.
use Rattle.std.proofs.Common.{◌≡◌, ℕ, ◌+◌, ◌-◌, ◌<◌, ◌≤◌, List, [], ◌∷◌, ◌++◌, length, map, take, refl, sym, ap, subst, ◌∙◌, arith}
use Rattle.std.specs.Prelude.{slice_get, Some, None}
use Rattle.std.proofs.lemmas.List.{append_assoc, append-nil, take_all}
use Rattle.r4_base.specs.Cell.{entry_unit, item_end, item_units}
use Rattle.r4_base.specs.Dir.{dir_fault, entries_of, entry_at, entry_count, entry_key_at}
use Rattle.r4_base.specs.Key.{IsKey, rank}
use Rattle.r4_base.specs.Node.{Item}
use Rattle.r4_base.specs.declared.key.Key.{Key}
use Rattle.r4_base.proofs.Dirs.{accepted, entry_key_fits, keys_apart, keys_rise, length-entries_of}
use Rattle.r4_base.proofs.EntryLists.{entries_lawful, entry_of}
use Rattle.r4_base.proofs.Numbers.{AreBytes}
use Rattle.r4_cde.specs.Shown.{entry_shown}
use Rattle.r4_cde.specs.declared.view.EntryRef.{EntryRef}
use Rattle.r4_leaf.specs.Items.{IsSoundItem}
use Rattle.r4_leaf.specs.Pieces.{Adds, Follow, IsSound, piece_units, units_of}
use Rattle.r4_leaf.specs.declared.piece.Piece.{Piece}
use Rattle.r4_leaf.specs.declared.piece.Piece.TheVariants.{Entry}
use Rattle.r4_leaf.proofs.Following.{follow_more, follow_wider, map_more, units_more}
use Rattle.r4_leaf.proofs.SoundItems.{entries_item}

-- so many of the entries stand behind the old pieces, up to each key that is above theirs
pub record Added (key : Key) (body : List ℕ) (i : ℕ) (old new : List Piece) : Type 0 where
  pub units : units_of new ≡ units_of old ++ map entry_unit (take i (entries_of key body))
  pub follow : (lo to : ℕ) → Follow lo (rank key) old → ((k : ℕ) → k < i → rank (entry_key_at key body k) < to) → rank key ≤ to → Follow lo to new

pub added_none : (key : Key) (body : List ℕ) (old : List Piece) → Added key body 0 old old
added_none key body old = record { units = sym (append-nil (units_of old)); follow = λ lo to h below le. follow_wider lo (rank key) to old le h }

module _ (key : Key) (body : List ℕ) (good : dir_fault key body ≡ None) (is_key : IsKey key) (bytes : AreBytes body) (i : ℕ) (e : EntryRef) (shown : slice_get (entries_of key body) i ≡ Some (entry_shown e)) where
  own_key : e.key ≡ entry_key_at key body i
  unfolding entry_at
  own_key = ap (λ x. x.key) (entry_of key body i (entry_shown e) shown).is

  pub entry_sound : IsSound (Entry e)
  entry_sound = (entries_lawful key body is_key bytes good i (entry_shown e) shown, subst IsKey (sym own_key) (entry_key_fits key body i is_key))

  within : i < entry_count body
  within = (entry_of key body i (entry_shown e) shown).within

  above : (k : ℕ) → k < i → rank (entry_key_at key body k) < rank e.key
  above k lt = let h = keys_apart key body k i (accepted key body good) lt within in let same = ap rank own_key in omega (arith, h, same)

  from_first : rank key ≤ rank e.key
  from_first =
      let a = accepted key body good in
      let first = a.first in
      let w = within in
      let h = keys_rise key body 0 i a (omega (arith, w)) in
      let zero_on : rank (entry_key_at key body (0 + i)) ≡ rank (entry_key_at key body i) = ap (λ k. rank (entry_key_at key body k)) (omega arith) in
      let same = ap rank own_key in
      omega (arith, first, h, zero_on, same)

  pub added_more : (old new : List Piece) → Added key body i old new → Added key body (i + 1) old (new ++ Entry e ∷ [])
  unfolding piece_units
  added_more old new a = record {
    units = units_more new (Entry e) ∙ (ap (λ us. us ++ entry_unit (entry_shown e) ∷ []) a.units
        ∙ (append_assoc (units_of old) (map entry_unit (take i (entries_of key body))) (entry_unit (entry_shown e) ∷ [])
        ∙ ap (λ us. units_of old ++ us) (sym (map_more entry_unit i (entries_of key body) (entry_shown e) shown))));
    follow = λ lo to h below le.
        let last = below i (omega arith) in
        let same = ap rank own_key in
        follow_more lo (rank e.key) to new (Entry e) (a.follow lo (rank e.key) h above from_first) (omega arith) entry_sound (omega (arith, last, same));
  }

module _ (key : Key) (body : List ℕ) (sound : IsSoundItem (record { key = key; plugin = 2; body = body })) where
  last_key : ℕ
  last_key = rank (entry_key_at key body (entry_count body - 1))

  below_last : (k : ℕ) → k < entry_count body → rank (entry_key_at key body k) ≤ last_key
  unfolding last_key
  below_last k lt =
      let ok = accepted key body (entries_item (record { key = key; plugin = 2; body = body }) refl sound).body in
      let h = keys_rise key body k (entry_count body - 1 - k) ok (omega (arith, lt)) in
      let e : rank (entry_key_at key body (k + (entry_count body - 1 - k))) ≡ rank (entry_key_at key body (entry_count body - 1)) = ap (λ (x : ℕ). rank (entry_key_at key body x)) (omega (arith, lt)) in
      omega (arith, h, e)

  pub added_all : (i : ℕ) (old new : List Piece) → i ≡ length (entries_of key body) → Added key body i old new
      → Adds old (rank key) (item_end (record { key = key; plugin = 2; body = body })) (item_units (record { key = key; plugin = 2; body = body })) new
  unfolding last_key
  added_all i old new all a =
      let it = entries_item (record { key = key; plugin = 2; body = body }) refl sound in
      let ok = accepted key body it.body in
      let n = length-entries_of key body in
      let end = it.end in
      let first = ok.first in
      let some = ok.some in
      let start = below_last 0 some in
      record {
        units = a.units ∙ ap (λ us. units_of old ++ us) (ap (λ es. map entry_unit es) (take_all i (entries_of key body) (omega (arith, all))) ∙ sym it.units);
        follow = λ lo h. a.follow lo _ h (λ k lt. let b = below_last k (omega (arith, lt, all, n)) in omega (arith, b, end)) (omega (arith, first, start, end));
      }

pub some_entries : (it : Item) → it.plugin ≡ 2 → IsSoundItem it → 1 ≤ length (entries_of it.key it.body)
some_entries it is s =
    let some = (accepted it.key it.body (entries_item it is s).body).some in
    let n = length-entries_of it.key it.body in
    omega (arith, some, n)
