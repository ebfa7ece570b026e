-- How many directories a walk opens at most: the objects are finitely many, and each directory is reached by one number of steps.
use Rattle.std.proofs.Common.{◌≡◌, inl, inr, ℕ, ◌+◌, ◌-◌, ◌*◌, ◌/◌, ◌%◌, ◌^◌, ◌<◌, ◌≤◌, Bool, true, List, [], ◌∷◌, length, Contains, Some, ap, subst, ◌∙◌, arith}
use Rattle.std.specs.FinMap.{entries}
use Rattle.std.proofs.lemmas.List.Elements.{All-head}
use Rattle.r4_base.specs.Image.{Image}
use Rattle.r4_base.specs.Key.{rank, key_of_rank, top}
use Rattle.r4_base.specs.Value.{Value, Stat, Entry, Byte, Content, at_key}
use Rattle.r4_base.specs.Volume.{HasContent, HasStat, IsObject, IsReached, KeyFits, is_directory, object_of, stat_rank}
use Rattle.r4_base.specs.declared.items.Attr.{Attr}
use Rattle.r4_base.specs.declared.items.Target.{Target}
use Rattle.r4_base.proofs.Visible.{in_cell}
use Rattle.r4_base.proofs.Choices.{nothing_in}
use Rattle.r4_content.specs.Walk.{attr_at}
use Rattle.r4_list.specs.Walking.{OpenDir, IsDirectoryAt, IsEnough, IsWalking}
use Rattle.r4_list.proofs.WalkEntries.{entry_at, entry_there, here, later, member_cases}
use Rattle.r4_list.proofs.WalkObjects.{attr_stat, one_depth, reached_raw, reached_stat, same_object, raw_at}

-- ---- the object of a stat key

id_parts : (l o i : ℕ) → o < 2 ^ 64 → i < 2 ^ 64 → ((l * 16 + 1) * 2 ^ 192 + (o * 2 ^ 128 + (i * 2 ^ 64 + 0))) / 2 ^ 64 % 2 ^ 64 ≡ i
id_parts l o i lo li = omega (arith, lo, li)

-- the id of the object whose stat data has this key
id_back : (o : Target) → IsObject o → (object_of (key_of_rank (stat_rank o))).oid.0 ≡ o.oid.0
unfolding key_of_rank rank
id_back o is = id_parts o.locality o.ordering o.oid.0 is.1 is.2

rank_parts : (k : ℕ) → k / 2 ^ 192 % 16 ≡ 1 → k % 2 ^ 64 ≡ 0 → (k / 2 ^ 192 / 16 * 16 + 1) * 2 ^ 192 + (k / 2 ^ 128 % 2 ^ 64 * 2 ^ 128 + (k / 2 ^ 64 % 2 ^ 64 * 2 ^ 64 + 0)) ≡ k
rank_parts k minor offset = omega (arith, minor, offset)

object_small : (k : ℕ) → k < 2 ^ 256 - 1 → IsObject (object_of (key_of_rank k))
unfolding key_of_rank
object_small k lt = (omega (arith, lt), omega arith, omega arith)

rank_back : (k : ℕ) (a : Attr) (r : Content) → KeyFits r (key_of_rank k) (Stat a) → stat_rank (object_of (key_of_rank k)) ≡ k
unfolding key_of_rank rank
rank_back k a r fits = rank_parts k fits.0 fits.1

below_top : (k : ℕ) → k < top → k < 2 ^ 256 - 1
unfolding top
below_top k lt = lt

-- ---- the deepest of the directories

module _ (n : ℕ) (image : Image) (m : Content) (c : HasContent n image m) where
  stat_at : (k : ℕ) (a : Attr) → at_key m k ≡ Some (Stat a) → HasStat c.raw (object_of (key_of_rank k)) a
  stat_at k a at =
      let (i, d, is, within, has, low, high) = in_cell n image m c k (Stat a) at in
      let there = raw_at n image m c k (Stat a) at in
      let key = rank_back k a c.raw (c.files.keys k (Stat a) there) in
      (object_small k (below_top k high), ap (at_key c.raw) key ∙ there)

  -- what bounds the steps to each directory whose stat data is among these
  abbrev IsBound : List (ℕ × Value) → (deep : ℕ) → Type 0
  IsBound es deep = (s : ℕ) (o : Target) (a : Attr) → HasStat c.raw o a → is_directory a ≡ true → IsReached c.raw s o → Contains es (stat_rank o, Stat a) → s ≤ deep

  one_more : (k : ℕ) (v : Value) (es : List (ℕ × Value)) (deep : ℕ) → at_key m k ≡ Some v → IsBound es deep → (more : ℕ) × IsBound ((k, v) ∷ es) (more + deep)
  one_more k (Stat b) es deep at bound =
      let h = stat_at k b at in
      let (t, r) = c.objects.reached (object_of (key_of_rank k)) b h in (
        t,
        λ s o a g dir q there. elim (member_cases (k, Stat b) (stat_rank o, Stat a) es there) [
          | inl is ↦
              let key : k ≡ stat_rank o = ap (λ (u : ℕ × Value). u.0) is in
              let id = ap (λ (j : ℕ). (object_of (key_of_rank j)).oid.0) key ∙ id_back o g.0 in
              let same = same_object n image m c (object_of (key_of_rank k)) o b a h g id in
              let depth = one_depth n image m c s t o a g dir q (subst (λ (p : Target). IsReached c.raw t p) same r) in
              omega arith
          | inr others ↦ let less = bound s o a g dir q others in omega arith
        ],
      )
  one_more k (Entry x p) es deep at bound = (
    0,
    λ s o a g dir q there. elim (member_cases (k, Entry x p) (stat_rank o, Stat a) es there) [
      | inl is ↦ let e : Entry x p ≡ Stat a = ap (λ (u : ℕ × Value). u.1) is in absurd cc
      | inr others ↦ let less = bound s o a g dir q others in omega arith
    ],
  )
  one_more k (Byte x) es deep at bound = (
    0,
    λ s o a g dir q there. elim (member_cases (k, Byte x) (stat_rank o, Stat a) es there) [
      | inl is ↦ let e : Byte x ≡ Stat a = ap (λ (u : ℕ × Value). u.1) is in absurd cc
      | inr others ↦ let less = bound s o a g dir q others in omega arith
    ],
  )

  deepest : (es : List (ℕ × Value)) → ((k : ℕ) (v : Value) → Contains es (k, v) → at_key m k ≡ Some v) → (deep : ℕ) × IsBound es deep
  deepest [] all = (0, λ s o a g dir q there. absurd (nothing_in (stat_rank o, Stat a) there))
  deepest (e ∷ es) all =
      let (deep, bound) = deepest es (λ k v there. all k v (later e (k, v) es there)) in
      let (more, is) = one_more e.0 e.1 es deep (all e.0 e.1 (here e es)) bound in
      (more + deep, is)

  pub depth : (s t : ℕ) (o : Target) (a : Attr) → attr_at m o ≡ Some a → is_directory a ≡ true → IsReached m s o → IsReached m t o → s ≡ t
  depth s t o a is dir r q =
      let raw = reached_raw n image m c s o r in
      let (b, h) = reached_stat n image m c s o raw in
      let stat = raw_at n image m c (stat_rank o) (Stat a) (attr_stat m o a is) in
      one_depth n image m c s t o a (h.0, stat) dir raw (reached_raw n image m c t o q)

  -- each directory that is reached is reached by so many steps at most
  abbrev pub IsDeepest : (deep : ℕ) → Type 0
  IsDeepest deep = (s : ℕ) (o : Target) → IsDirectoryAt m o → IsReached m s o → s ≤ deep

  pub some_deepest : (deep : ℕ) × IsDeepest deep
  some_deepest =
      let (deep, bound) = deepest (entries m) (λ k v there. entry_at m k v there) in
      (deep, λ s o (a, is, dir) r. within deep bound s o a is dir r)
    where
      within : (deep : ℕ) → IsBound (entries m) deep → (s : ℕ) (o : Target) (a : Attr) → attr_at m o ≡ Some a → is_directory a ≡ true → IsReached m s o → s ≤ deep
      within deep bound s o a is dir r =
          let q = reached_raw n image m c s o r in
          let (b, h) = reached_stat n image m c s o q in
          let stat = attr_stat m o a is in
          bound s o a (h.0, raw_at n image m c (stat_rank o) (Stat a) stat) dir q (entry_there m (stat_rank o) (Stat a) stat)

  below_deepest : (deep : ℕ) → IsDeepest deep → (start : Target) (f : OpenDir) (fs : List OpenDir) (printed : ℕ → Bool) → IsWalking m start (f ∷ fs) printed → length fs ≤ deep
  below_deepest deep bound start f fs printed w =
      let there = All-head (λ (g : OpenDir). IsDirectoryAt m g.dir) f fs w.dirs in
      let le = bound (w.steps + length fs) f.dir there w.reached.0 in
      omega arith

  pub some_enough : (deep : ℕ) × ((steps : ℕ) → deep ≤ steps → IsEnough m steps)
  some_enough =
      let (deep, bound) = some_deepest in
      (deep + 1, λ steps le start f fs printed w. let less = below_deepest deep bound start f fs printed w in omega arith)

  pub some_length : (deep : ℕ) × ((start : Target) (fs : List OpenDir) (printed : ℕ → Bool) → IsWalking m start fs printed → length fs ≤ deep)
  some_length =
      let (deep, bound) = some_deepest in (
        deep + 1,
        λ start fs printed w. elim fs as (λ (gs : List OpenDir). IsWalking m start gs printed → length gs ≤ deep + 1) [
          | [] ↦ λ w. omega arith
          | g ∷ gs ↦ λ w. let less = below_deepest deep bound start g gs printed w in omega arith
        ] w,
      )
