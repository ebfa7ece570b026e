-- The unit in the middle of a leaf's one item.
use Rattle.std.proofs.Common.{◌≡◌, ℕ, zero, suc, ◌+◌, ◌/◌, ◌<◌, ◌≤◌, List, [], ◌∷◌, ◌++◌, length, map, refl, sym, ap, subst, ◌∙◌, arith}
use Rattle.std.specs.Prelude.{slice_get, slice_index, Some}
use Rattle.std.specs.Option.{option_map}
use Rattle.std.proofs.lemmas.List.{append-nil, length-map}
use Rattle.std.proofs.lemmas.Option.{same_Some, slice_get-map}
use Rattle.r4_base.specs.Cell.{bytes_from, entry_unit, item_units, units_in}
use Rattle.r4_base.specs.Dir.{Entry as DirEntry, entries_of, entry_at}
use Rattle.r4_base.specs.Key.{IsKey, offset_of, rank}
use Rattle.r4_base.specs.Node.{Item, items_of}
use Rattle.r4_base.specs.Value.{Byte, Entry}
use Rattle.r4_base.specs.declared.key.Key.{Key}
use Rattle.r4_base.proofs.Dirs.{entry_key_fits}
use Rattle.r4_base.proofs.EntryLists.{entry_of}
use Rattle.r4_leaf.specs.Items.{IsSoundItem}
use Rattle.r4_leaf.specs.Leaves.{MayStand}
use Rattle.r4_leaf.specs.Units.{IsMiddle}
use Rattle.r4_leaf.proofs.ItemPieces.{other_plugin}
use Rattle.r4_leaf.proofs.Lying.{lie_sound, units_cons, units_nil}
use Rattle.r4_leaf.proofs.SoundItems.{entries_item, stat_item, tail_item}
use Rattle.r4_leaf.proofs.Standing.{some_range}

-- the units of one item are all that there are
units_of_one : (xs : List Item) (x : Item) → length xs ≡ 1 → slice_get xs 0 ≡ Some x → units_in xs ≡ item_units x
units_of_one [] x one at = absurd cc
units_of_one (y ∷ []) x one at = units_cons y [] ∙ (ap (λ us. item_units y ++ us) units_nil ∙ (append-nil (item_units y) ∙ ap item_units (same_Some y x at)))
units_of_one (y ∷ (z ∷ zs)) x one at = absurd (omega (arith, one))

length-bytes_from : (k : ℕ) (bs : List ℕ) → length (bytes_from k bs) ≡ length bs
length-bytes_from k [] = refl
length-bytes_from k (b ∷ bs) = let rest = length-bytes_from (k + 1) bs in omega (arith, rest)

slice_get-bytes_from : (k : ℕ) (bs : List ℕ) (i : ℕ) → i < length bs → slice_get (bytes_from k bs) i ≡ Some (k + i, Byte (slice_index bs i))
slice_get-bytes_from k [] i lt = absurd (omega (arith, lt))
slice_get-bytes_from k (b ∷ bs) zero lt = ap (λ (j : ℕ). Some (j, Byte b)) (let e : k ≡ k + 0 = omega arith in e)
slice_get-bytes_from k (b ∷ bs) (suc i) lt = slice_get-bytes_from (k + 1) bs i (omega (arith, lt)) ∙ ap (λ (j : ℕ). Some (j, Byte (slice_index bs i))) (let e : k + 1 + i ≡ k + suc i = omega arith in e)

-- stat data is one unit
stat_alone : (it : Item) → IsSoundItem it → 2 ≤ length (item_units it) → it.plugin ≡ 0 → ⊥
stat_alone it s two is = let one = ap length (stat_item it is s).units in omega (arith, one, two)

tail_middle : (it : Item) (k : Key) → it.plugin ≡ 6 → IsSoundItem it → IsKey k → rank k ≡ rank it.key + length it.body / 2 → IsMiddle (item_units it) k
tail_middle it k is s key at =
    let t = tail_item it is s in
    let some = t.some in
    let long = length-bytes_from (rank it.key) it.body in
    let value = Byte (slice_index it.body (length it.body / 2)) in
    subst (λ us. IsMiddle us k) (sym t.units) (record {
      key = key;
      value = value;
      unit = ap (λ (n : ℕ). slice_get (bytes_from (rank it.key) it.body) (n / 2)) long
          ∙ (slice_get-bytes_from (rank it.key) it.body (length it.body / 2) (omega (arith, some)) ∙ ap (λ (j : ℕ). Some (j, value)) (sym at));
    })

pub entry_middle : (key : Key) (body : List ℕ) (e : DirEntry) → IsSoundItem (record { key = key; plugin = 2; body = body }) → slice_get (entries_of key body) (length (entries_of key body) / 2) ≡ Some e
    → IsMiddle (item_units (record { key = key; plugin = 2; body = body })) e.key
unfolding entry_at
entry_middle key body e s at =
    let es = entries_of key body in
    let of_body = entry_of key body (length es / 2) e at in
    subst (λ us. IsMiddle us e.key) (sym (entries_item (record { key = key; plugin = 2; body = body }) refl s).units) (record {
      key = subst IsKey (sym (ap (λ (x : DirEntry). x.key) of_body.is)) (entry_key_fits key body (length es / 2) s.key);
      value = Entry e.name e.target;
      unit = ap (λ (n : ℕ). slice_get (map entry_unit es) (n / 2)) (length-map es entry_unit) ∙ (slice_get-map entry_unit es (length es / 2) ∙ ap (option_map entry_unit) at);
    })

-- ---- the item of a leaf that has no other

pub first_sound : (lo hi : ℕ) (b : List ℕ) (x : Item) → MayStand lo hi b → slice_get (items_of b) 0 ≡ Some x → IsSoundItem x
first_sound lo hi b x stand at = let l = some_range lo hi b stand in lie_sound lo l.0 (items_of b) 0 x l.1 at

pub with_plugin : (x : Item) (plugin : ℕ) → x.plugin ≡ plugin → x ≡ record { key = x.key; plugin = plugin; body = x.body }
with_plugin x plugin is = ap (λ (p : ℕ). record { key = x.key; plugin = p; body = x.body }) is

pub middle_of_one : (xs : List Item) (x : Item) (k : Key) → length xs ≡ 1 → slice_get xs 0 ≡ Some x → IsMiddle (item_units x) k → IsMiddle (units_in xs) k
middle_of_one xs x k one at m = subst (λ us. IsMiddle us k) (sym (units_of_one xs x one at)) m

module _ (lo hi : ℕ) (b : List ℕ) (x : Item) (stand : MayStand lo hi b) (at : slice_get (items_of b) 0 ≡ Some x) (one : length (items_of b) ≡ 1) (two : 2 ≤ length (units_in (items_of b))) (other : x.plugin ≡ 2 → ⊥) where
  is_tail : x.plugin ≡ 6
  is_tail =
      let s = first_sound lo hi b x stand at in
      let all = ap length (units_of_one (items_of b) x one at) in
      other_plugin x.plugin s.plugin (stat_alone x s (omega (arith, all, two))) other

  pub half_within : offset_of x.key + length x.body / 2 ≤ 16384
  half_within = let short = (tail_item x is_tail (first_sound lo hi b x stand at)).short in omega (arith, short)

  pub middle_of_tail : (k : Key) → IsKey k → rank k ≡ rank x.key + length x.body / 2 → IsMiddle (units_in (items_of b)) k
  middle_of_tail k key half = middle_of_one (items_of b) x k one at (tail_middle x k is_tail (first_sound lo hi b x stand at) key half)
