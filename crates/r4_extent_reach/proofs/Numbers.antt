-- The numbers of objects that were seen, and the keys that a command changes then.
use Rattle.std.proofs.Common.{◌≡◌, inl, inr, ⊎_elim, ℕ, ◌+◌, ◌<◌, ◌≤◌, ◌^◌, zero, suc, List, [], ◌∷◌, ◌++◌}
use Rattle.std.proofs.Common.{refl, sym, ap, subst, ◌∙◌, arith, Bool, true, false, get_or}
use Rattle.std.proofs.lemmas.List.Elements.{All-cons, All-contains, All-nil, Contains-append_cases}
use Rattle.std.proofs.lemmas.List.Elements.{Contains-append_left, Contains-append_right}
use Rattle.std.proofs.lemmas.Bool.Decides.{nat_tests}
use Rattle.std.proofs.Math.Seq.{take-suc}
use Rattle.std.proofs.lemmas.Grind.{flat_map-append}
use Rattle.std.proofs.lemmas.List.{append-nil, take-append-drop, take_all}
use Rattle.std.specs.Prelude.{Contains, MatchBool, drop, flat_map, length, nat_lt, slice_index, take}
use Rattle.r4_base.proofs.FreshVolume.{same_attr}
use Rattle.r4_base.specs.Key.{IsKey, rank, stat_key}
use Rattle.r4_base.specs.Value.{Byte, Stat, Value}
use Rattle.r4_base.specs.Volume.{IsObject, stat_rank}
use Rattle.r4_base.specs.declared.items.Attr.{Attr}
use Rattle.r4_base.specs.declared.items.Target.{Target}
use Rattle.r4_base.specs.declared.key.Key.{Key}
use Rattle.r4_extent_asks.specs.r4_bodies.Told.{AreOfTree}
use Rattle.r4_content.specs.Edited.{Pairs}
use Rattle.r4_content.specs.Held.{part_pairs}
use Rattle.r4_content.specs.Objects.{byte_pairs}
use Rattle.r4_content.specs.declared.seen.SeenPart.{SeenPart}
use Rattle.r4_extent_reaching.proofs.r4_touching.r4_patch.Members.{here}
use Rattle.r4_content.specs.declared.command.Command.{Command}
use Rattle.r4_extent_asks.proofs.r4_leaf_edits.KeyRanks.{key_again}
use Rattle.r4_base.specs.declared.items.CellFault.TheVariants.{Range}
use Rattle.r4_extent_commands.specs.r4_cell.declared.change.Root.{Root}
use Rattle.r4_extent_asks.specs.r4_search.Pool.{PoolState}
use Rattle.r4_extent_asks.specs.r4_search.declared.pool.FetchFault.{FetchFault}
use Rattle.r4_extent_asks.specs.r4_search.declared.pool.FetchFault.TheVariants.{Damaged}
use Rattle.r4_extent_reaching.proofs.r4_touching.r4_seeing.Found.{found_in}
use Rattle.r4_extent_reaching.specs.r4_spared.Spared.{AreObjectsSeen}
use Rattle.r4_extent_reaching.specs.r4_reaching.Answers.{HaveObjectNumbers, IsSeenIn, SeesLowObject, StopsAtObject, number_in}

is_key : (o : Target) → IsObject o → IsKey (stat_key o.locality o.ordering o.oid)
is_key o (locality, ordering, oid) = record { four = refl; small = by }
  where
    by : (i : ℕ) → slice_index (stat_key o.locality o.ordering o.oid).el i < 2 ^ 64
    by zero = omega (arith, locality)
    by (suc zero) = ordering
    by (suc (suc zero)) = oid
    by (suc (suc (suc zero))) = omega arith
    by (suc (suc (suc (suc i)))) = omega arith

-- the key of an object's stat data has its number
number_of : (o : Target) → IsObject o → number_in (stat_rank o) ≡ o.oid.0
number_of o is = ap (λ (k : Key). slice_index k.el 2) (key_again (stat_key o.locality o.ordering o.oid) (is_key o is))

pub objects_seen : (c : Command) (s : Pairs) → AreOfTree s → HaveObjectNumbers s → AreObjectsSeen c s
objects_seen c s tree numbers o a is asked at =
    let has = numbers (stat_rank o) a (found_in (stat_rank o) s (Stat a) at) in
    ((tree (stat_rank o) (Stat a) at).0, subst (λ (n : ℕ). 42 ≤ n) (number_of o is) has.0, has.1)

-- ---- parts of what was seen

pub numbers_both : (x y : Pairs) → HaveObjectNumbers x → HaveObjectNumbers y → HaveObjectNumbers (x ++ y)
numbers_both x y f g k a among = ⊎_elim (f k a) (g k a) (Contains-append_cases x y (k, Stat a) among)

pub low_before : (x y : Pairs) → SeesLowObject x → SeesLowObject (x ++ y)
low_before x y h = record {
  key = h.key;
  attr = h.attr;
  among = Contains-append_left x y (h.key, Stat h.attr) h.among;
  low = h.low;
}

pub low_behind : (x y : Pairs) → SeesLowObject y → SeesLowObject (x ++ y)
low_behind x y h = record {
  key = h.key;
  attr = h.attr;
  among = Contains-append_right x y (h.key, Stat h.attr) h.among;
  low = h.low;
}

-- ---- one part

-- attributes at a key
module _ (k : Key) (a : Attr) (is : IsKey k) (size : a.size < 2 ^ 64) where
  same_number : number_in (rank k) ≡ slice_index k.el 2
  same_number = ap (λ (j : Key). slice_index j.el 2) (key_again k is)

  just : (p : ℕ × Value) → Contains ((rank k, Stat a) ∷ []) p → p ≡ (rank k, Stat a)
  just p among = All-contains (λ q. q ≡ (rank k, Stat a)) ((rank k, Stat a) ∷ []) p
      (All-cons (λ q. q ≡ (rank k, Stat a)) (rank k, Stat a) [] refl (All-nil (λ q. q ≡ (rank k, Stat a)))) among

  low : slice_index k.el 2 < 42 → SeesLowObject ((rank k, Stat a) ∷ [])
  low less = record {
    key = rank k;
    attr = a;
    among = here (rank k, Stat a) [];
    low = subst (λ (n : ℕ). n < 42) (sym same_number) less;
  }

  good : 42 ≤ slice_index k.el 2 → HaveObjectNumbers ((rank k, Stat a) ∷ [])
  good le j b among =
      let both = just (j, Stat b) among in
      let at : j ≡ rank k = ap (λ (p : ℕ × Value). p.0) both in
      let attrs : b ≡ a = same_attr b a (ap (λ (p : ℕ × Value). p.1) both) in (
        subst (λ (n : ℕ). 42 ≤ n) (sym (ap number_in at ∙ same_number)) le,
        subst (λ (x : Attr). x.size < 2 ^ 64) (sym attrs) size,
      )

  pub tells_number : MatchBool (nat_lt (slice_index k.el 2) 42) (SeesLowObject ((rank k, Stat a) ∷ []))
      (HaveObjectNumbers ((rank k, Stat a) ∷ []))
  tells_number = by_test (nat_lt (slice_index k.el 2) 42) refl
    where
      by_test : (b : Bool) → nat_lt (slice_index k.el 2) 42 ≡ b → MatchBool b (SeesLowObject ((rank k, Stat a) ∷ []))
          (HaveObjectNumbers ((rank k, Stat a) ∷ []))
      by_test true e = low (grind (arith, nat_tests, e))
      by_test false e = good (grind (arith, nat_tests, e))

-- bytes are no attributes
pub run_numbers : (k : ℕ) (bytes : List ℕ) → HaveObjectNumbers (byte_pairs k bytes)
run_numbers k [] j b among = absurd (All-contains (λ (p : ℕ × Value). ⊥) [] (j, Stat b)
    (All-nil (λ (p : ℕ × Value). ⊥)) among)
run_numbers k (x ∷ bytes) j b among =
    elim (Contains-append_cases ((k, Byte x) ∷ []) (byte_pairs (k + 1) bytes) (j, Stat b) among) [
      | inl first ↦ absurd (not_a_byte x b
          (ap (λ (p : ℕ × Value). p.1) (only (k, Byte x) (j, Stat b) first)))
      | inr later ↦ run_numbers (k + 1) bytes j b later
    ]
  where
    only : (q p : ℕ × Value) → Contains (q ∷ []) p → p ≡ q
    only q p in_one = All-contains (λ y. y ≡ q) (q ∷ []) p
        (All-cons (λ y. y ≡ q) q [] refl (All-nil (λ y. y ≡ q))) in_one

    not_a_byte : (y : ℕ) (a : Attr) → Stat a ≡ Byte y → ⊥
    not_a_byte y a e = cc

-- ---- parts one after another

module _ (xs : List SeenPart) (i : ℕ) (x : SeenPart) (less : i < length xs) (is : x ≡ get_or xs i x) where
  up_to : flat_map part_pairs (take (i + 1) xs) ≡ flat_map part_pairs (take i xs) ++ part_pairs x
  up_to =
      ap (λ (n : ℕ). flat_map part_pairs (take n xs)) next
      ∙ (ap (flat_map part_pairs) (take-suc xs i x less
      ∙ ap (λ (y : SeenPart). take i xs ++ (y ∷ [])) (sym is))
      ∙ (flat_map-append part_pairs (take i xs) (x ∷ [])
      ∙ ap (λ (l : Pairs). flat_map part_pairs (take i xs) ++ l) (append-nil (part_pairs x))))
    where
      next : i + 1 ≡ suc i
      next = omega arith

  parted : flat_map part_pairs xs
      ≡ (flat_map part_pairs (take i xs) ++ part_pairs x) ++ flat_map part_pairs (drop (i + 1) xs)
  parted =
      ap (flat_map part_pairs) (sym (take-append-drop (i + 1) xs))
      ∙ (flat_map-append part_pairs (take (i + 1) xs) (drop (i + 1) xs)
      ∙ ap (λ (l : Pairs). l ++ flat_map part_pairs (drop (i + 1) xs)) up_to)

  pub numbers_so_far : HaveObjectNumbers (flat_map part_pairs (take i xs)) → HaveObjectNumbers (part_pairs x)
      → HaveObjectNumbers (flat_map part_pairs (take (i + 1) xs))
  numbers_so_far f g = subst HaveObjectNumbers (sym up_to)
      (numbers_both (flat_map part_pairs (take i xs)) (part_pairs x) f g)

  pub low_there : SeesLowObject (part_pairs x) → SeesLowObject (flat_map part_pairs xs)
  low_there h = subst SeesLowObject (sym parted)
      (low_before (flat_map part_pairs (take i xs) ++ part_pairs x) (flat_map part_pairs (drop (i + 1) xs))
      (low_behind (flat_map part_pairs (take i xs)) (part_pairs x) h))

pub all_numbers : (xs : List SeenPart) (i : ℕ) → length xs ≤ i → HaveObjectNumbers (flat_map part_pairs (take i xs))
    → HaveObjectNumbers (flat_map part_pairs xs)
all_numbers xs i le f = subst (λ (l : List SeenPart). HaveObjectNumbers (flat_map part_pairs l)) (take_all i xs le) f

-- ---- what a look at the parts tells

pub good_numbers : (b : Bool) (s : Pairs) → b ≡ false → MatchBool b (SeesLowObject s) (HaveObjectNumbers s)
    → HaveObjectNumbers s
good_numbers true s e h = absurd cc
good_numbers false s e h = h

pub low_object : (b : Bool) (s : Pairs) → b ≡ true → MatchBool b (SeesLowObject s) (HaveObjectNumbers s)
    → SeesLowObject s
low_object true s e h = h
low_object false s e h = absurd cc

-- the object stops the command at the block of the root
pub stops_at_object : (p : PoolState) (root : Root) (c : Command) (s : Pairs) (e : FetchFault) → IsSeenIn p c s
    → SeesLowObject s → e ≡ Damaged (record { 0 = root.id.0 }) (Range 0) → StopsAtObject p root c e
stops_at_object p root c s e saw low is = record { seen = s; saw = saw; object = low; fault = is }
