-- The body that a command changes, with where it stood.
use Rattle.std.proofs.Common.{◌≡◌, ◌⊎◌, inl, inr, ℕ, ◌+◌, ◌-◌, ◌^◌, ◌<◌, ◌≤◌, Bool, true, false, [], ◌∷◌, refl, sym, ap, subst}
use Rattle.std.proofs.Common.{◌∙◌, arith}
use Rattle.std.specs.Prelude.{◌||◌, nat_lt, Option, Some, None, if◌then◌else◌}
use Rattle.std.specs.Option.{option_map}
use Rattle.std.proofs.lemmas.Bool.{ltb-true}
use Rattle.std.proofs.lemmas.Bool.Decides.{nat_tests}
use Rattle.r4_base.specs.Key.{least, top}
use Rattle.r4_base.specs.Volume.{byte_rank}
use Rattle.r4_content.specs.Edited.{Edits, Intervals, Pairs, is_between, is_in}
use Rattle.r4_content.proofs.Ranks.{byte_after}
use Rattle.r4_extent_commands.specs.Bodies.{KeepsFileSize, LieInBody, LiesInBody}
use Rattle.r4_extent_asks.specs.r4_extent_demands.Sizes.{IsSized}
use Rattle.r4_extent_reaching.specs.Standing.{HasFileSizes, IsTooLong}
use Rattle.r4_extent_reaching.specs.Within.{AreOneBody}
use Rattle.r4_extent_reaching.proofs.Within.{inside, still_of_tree}
use Rattle.r4_extent_reaching.specs.r4_touching.r4_reach.Touched.{Body, body_of, grows, kind_reads, last_byte, raw_changes, shown_at}
use Rattle.r4_extent_asks.specs.r4_search.Pool.{PoolState}
use Rattle.r4_extent_asks.proofs.r4_search.Walks.{goes_same}
use Rattle.r4_extent_reach.specs.Standing.{IsStood, IsTold, MayBeShown, kind_of}
use Rattle.r4_extent_reach.specs.Standing.{stood}

-- ---- the body

pub stood_body : (e : Edits) (s : Pairs) (o : Option ℕ) (p : PoolState) (now : Option Body)
    → IsStood p (option_map (body_of e s false) o) now
    → (now ≡ option_map (body_of e s (stood now)) o) × IsTold p now
stood_body e s None p now is = (subst (λ (b : Option Body). b ≡ None) (sym is) refl, subst (IsTold p) (sym is) tt)
stood_body e s (Some k) p now (t, told, is) = (
  is ∙ ap (λ (u : Bool). Some (body_of e s u k)) (sym (ap stood is)),
  subst (IsTold p) (sym is) (elim told [
    | inl none ↦ inl none
    | inr kind ↦ inr (p, goes_same p, kind)
  ]),
)

-- a test that was not met
pub not_long : (b : Bool) → b ≡ false → b ≡ true → ⊥
not_long b off on = let both = sym on ∙ off in cc

-- ---- its sizes

pub has_sizes : (b : Option Body) → (IsTooLong b → ⊥) → KeepsFileSize b → HasFileSizes b
has_sizes None short keeps = tt
has_sizes (Some b) short keeps =
    let le : b.was ≤ 2 ^ 30 = not_more b.was short in (le, keeps le)
  where
    not_more : (n : ℕ) → (2 ^ 30 < n → ⊥) → n ≤ 2 ^ 30
    not_more n h = by (nat_lt (2 ^ 30) n) refl
      where
        by : (t : Bool) → nat_lt (2 ^ 30) n ≡ t → n ≤ 2 ^ 30
        by true on = absurd (h (ltb-true (2 ^ 30) n on))
        by false off = grind (arith, nat_tests, off)

pub is_sized : (b : Option Body) (rs : Intervals) → HasFileSizes b → LiesInBody b rs → IsSized b
is_sized None rs sizes lies = tt
is_sized (Some b) rs sizes lies = record { body = lies.first; was = sizes.0; now = sizes.1 }

-- ---- its keys

pub one_body : (b : Body) (rs : Intervals) → ((k : ℕ) → is_in rs k ≡ true → (least ≤ k) × (k < top)) → LieInBody b rs
    → AreOneBody b rs
one_body b rs keys lies = record {
  first = lies.first;
  file = lies.file;
  among = lies.among;
  keys = keys;
  within = lies.within;
}

pub changes_lawful : (b : Option Body) (rs : Intervals) → ((k : ℕ) → is_in rs k ≡ true → (least ≤ k) × (k < top))
    → HasFileSizes b → LiesInBody b rs → (k : ℕ) → is_in (raw_changes b rs) k ≡ true → (least ≤ k) × (k < top)
changes_lawful None rs keys sizes lies k on = keys k on
changes_lawful (Some b) rs keys sizes lies k on = still_of_tree b rs sizes (one_body b rs keys lies) k on

pub shown_lawful : (b : Option Body) (rs : Intervals) → ((k : ℕ) → is_in rs k ≡ true → (least ≤ k) × (k < top))
    → HasFileSizes b → LiesInBody b rs → MayBeShown b
shown_lawful None rs keys sizes lies = tt
shown_lawful (Some b) rs keys sizes lies = λ some. by (grows b)
  where
    of_last : (least ≤ last_byte b) × (last_byte b < top)
    of_last =
        let at : byte_rank b.file (0 + (b.was - 1)) ≡ byte_rank b.file 0 + (b.was - 1) = byte_after b.file 0 (b.was - 1) in
        let is : byte_rank b.file (0 + (b.was - 1)) ≡ last_byte b = ap (byte_rank b.file) (omega arith) in
        let few = sizes.0 in
        inside b rs sizes (one_body b rs keys lies) (last_byte b) (omega (arith, at, is)) (omega (arith, at, is, few))

    by : (t : Bool) → (least ≤ (if t then last_byte b else b.first)) × ((if t then last_byte b else b.first) < top)
    by true = of_last
    by false = keys b.first lies.among

-- ---- the key that tells where it stands

abbrev pub just : (from to : ℕ) → Intervals
just from to = (from, to) ∷ []

abbrev reads_by : Bool → Body → Intervals
reads_by t b = if t then (last_byte b, last_byte b + 1) ∷ [] else []

-- the key of the body that is read besides, if one is, is the one that tells where it stands
pub read_shows : (b : Body) (from to : ℕ) → just from to ≡ kind_reads (Some b) → from ≡ shown_at b
read_shows b from to is = by (grows b) is
  where
    by : (t : Bool) → just from to ≡ reads_by t b → from ≡ (if t then last_byte b else b.first)
    by true same = ap first_of same
      where
        first_of : Intervals → ℕ
        first_of [] = 0
        first_of (r ∷ rs) = r.0
    by false same = absurd (let no = same in cc)

pub none_shows : (b : Body) → kind_reads (Some b) ≡ [] → b.first ≡ shown_at b
none_shows b is = by (grows b) is
  where
    by : (t : Bool) → reads_by t b ≡ [] → b.first ≡ (if t then last_byte b else b.first)
    by true same = absurd (let no = same in cc)
    by false same = refl

-- it is read besides, or it is the first that changes
pub shown_is : (b : Body) (k : ℕ) → kind_of b k ≡ true → (is_in (kind_reads (Some b)) k ≡ true) ⊎ (k ≡ b.first)
shown_is b k on = by (grows b) on
  where
    by : (t : Bool)
        → is_between (if t then last_byte b else b.first) ((if t then last_byte b else b.first) + 1) k ≡ true
        → (is_in (reads_by t b) k ≡ true) ⊎ (k ≡ b.first)
    by true same = inl (first_only (is_between (last_byte b) (last_byte b + 1) k) same)
      where
        first_only : (u : Bool) → u ≡ true → (u || false) ≡ true
        first_only true is = refl
        first_only false is = is
    by false same = inr (grind (arith, nat_tests, same))

-- how it stood does not matter to that
pub same_reads : (b : Option Body) (p : PoolState) (now : Option Body) → IsStood p b now
    → kind_reads now ≡ kind_reads b
same_reads None p now is = ap kind_reads is
same_reads (Some b) p now (t, told, is) = ap kind_reads is
