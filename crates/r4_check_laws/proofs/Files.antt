-- Where no object has a fault, keys fit their values, and the bodies of files are whole.
use Rattle.std.proofs.Common.{◌≡◌, inl, inr, ℕ, zero, suc, ◌+◌, ◌*◌, ◌-◌, ◌^◌, ◌<◌, ◌≤◌, Bool, true, false, ◌&&◌, ◌==◌, List, [], ◌∷◌, Some, refl, sym, ap, subst, ◌∙◌, arith}
use Rattle.std.specs.Prelude.{Contains, sum_by, nat_le, nat_lt, if◌then◌else◌, option_and_then}
use Rattle.std.proofs.lemmas.Bool.{and_parts, eq-eqb, eqb-true}
use Rattle.std.proofs.lemmas.Bool.Decides.{nat_tests}
use Rattle.std.proofs.lemmas.Option.{same_Some}
use Rattle.std.proofs.Common.{mul-add}
use Rattle.std.proofs.lemmas.List.Sums.{sum_by-cons}
use Rattle.r4_check_objects.specs.Objects.{facts_in}
use Rattle.r4_base.specs.Key.{IsKey, key_of_rank, minor_of, offset_of, rank}
use Rattle.r4_base.specs.Tree.{Node}
use Rattle.r4_base.specs.Value.{Value}
use Rattle.r4_base.specs.Volume.{byte_rank, object_of}
use Rattle.r4_base.specs.declared.items.Target.{Target}
use Rattle.r4_check_objects.specs.Held.{id_of}
use Rattle.r4_check_objects.specs.Objects.{extent_blocks, is_directory_id, is_own, is_owner, once, owner_facts, owner_of, tail_bytes}
use Rattle.r4_check_objects.specs.declared.held.Held.{Held}
use Rattle.r4_check_objects.specs.declared.held.Thing.{Thing}
use Rattle.r4_check_laws.proofs.Bodies.{LiesIn}
use Rattle.r4_check_laws.proofs.Covers.{covers}
use Rattle.r4_check_laws.proofs.Keys.{body_rank_is, byte_rank_up, key_up}
use Rattle.r4_check_laws.proofs.Lists.{either_in, here, in_back, in_front, later, none_in, one_of, one_adds, some_term, sums_alike, sums_below}
use Rattle.r4_check_laws.proofs.Pairs.{all_units}
use Rattle.r4_check_laws.proofs.Rights.{IsOwner, is_owned}
use Rattle.r4_check_laws.proofs.Stores.{Cells}
use Rattle.r4_check_laws.proofs.Totals.{each_one, interval_by, lies_in, total, totals_of}

-- ---- kinds of parts

-- how many bytes a thing has of tails, and how many of extents
abbrev pub tail_long : Thing → ℕ
tail_long t = tail_bytes t

abbrev pub extent_long : Thing → ℕ
extent_long t = 4096 * extent_blocks t

-- a part of the body of an object: a tail of so many bytes, or an extent of so many blocks
pub record IsPart (found : List Held) (h : Held) (o : Target) (long : ℕ) : Type 0 where
  pub there : Contains found h
  pub key : IsKey h.key
  pub minor : minor_of h.key ≡ 4
  pub object : object_of h.key ≡ o
  pub own : is_owner found o ≡ true
  pub file : is_directory_id found o.oid.0 ≡ false
  pub id : id_of h ≡ o.oid.0
  pub is_own : is_own found h ≡ true
  pub fits : offset_of h.key + long ≤ 2 ^ 64

-- a key within a part: the object's, with an offset
pub part_key : (found : List Held) (h : Held) (o : Target) (long k : ℕ) → IsPart found h o long → LiesIn h long k → (y : ℕ) × (y < 2 ^ 64) × (offset_of h.key ≤ y) × (y < offset_of h.key + long) × (k ≡ byte_rank o y) × (minor_of (key_of_rank k) ≡ 4) × (object_of (key_of_rank k) ≡ o)
part_key found h o long k p lies =
    let fits = p.fits in
    let n : ℕ = k - rank h.key in
    let k_is : k ≡ rank h.key + n = omega (arith, lies) in
    let small : offset_of h.key + n < 2 ^ 64 = omega (arith, lies, fits) in
    let up = ap key_of_rank k_is ∙ key_up h.key n p.key small in
    let key : rank h.key ≡ byte_rank o (offset_of h.key) = body_rank_is h.key p.key p.minor ∙ ap (λ (x : Target). byte_rank x (offset_of h.key)) p.object in
    let first = byte_rank_up o (offset_of h.key) in
    let second = byte_rank_up o (offset_of h.key + n) in
    (offset_of h.key + n, small, omega arith, omega (arith, lies), omega (arith, k_is, key, first, second), ap minor_of up ∙ p.minor, ap object_of up ∙ p.object)

-- ---- units of cells

pub in_all : (cells : Cells) (i : ℕ) (c : Node Value) (u : ℕ × Value) → Contains cells (i, c) → Contains c.units u → Contains (all_units cells) u
in_all [] i c u at has = absurd (none_in (i, c) at)
in_all (x ∷ cells) i c u at has = elim (one_of x cells (i, c) at) [
  | inl e ↦ in_back (all_units cells) x.1.units u (subst (λ (p : ℕ × Node Value). Contains p.1.units u) (sym e) has)
  | inr more ↦ in_front (all_units cells) x.1.units u (in_all cells i c u more has)
]

pub of_all : (cells : Cells) (u : ℕ × Value) → Contains (all_units cells) u → (i : ℕ) × (c : Node Value) × Contains cells (i, c) × Contains c.units u
of_all [] u at = absurd (none_in u at)
of_all (x ∷ cells) u at = elim (either_in (all_units cells) x.1.units u at) [
  | inl front ↦ let (i, c, there, has) = of_all cells u front in (i, c, later x cells (i, c) there, has)
  | inr back ↦ (x.0, x.1, here x cells, back)
]

-- ---- owners

pub one_owner : (found : List Held) (o p : Target) → IsOwner found o → IsOwner found p → o.oid.0 ≡ p.oid.0 → o ≡ p
one_owner found o p v w same =
    let held : v.held ≡ w.held = same_Some v.held w.held (sym v.owner ∙ ap (owner_of found) same ∙ w.owner) in
    sym v.object ∙ ap (λ (h : Held). object_of h.key) held ∙ w.object

pub facts_by : (found : List Held) (o : Target) (w : IsOwner found o) → owner_facts found o.oid.0 ≡ Some w.facts
facts_by found o w = ap (option_and_then facts_in) w.owner ∙ w.fact

-- ---- which parts cover a body

pub scaled : {X : Type 0} (n : ℕ) (f : X → ℕ) (xs : List X) → sum_by (λ x. n * f x) xs ≡ n * sum_by f xs
scaled n f [] = omega arith
scaled n f (x ∷ xs) =
    let rest = scaled n f xs in
    let a = sum_by-cons (λ x. n * f x) x xs in
    let b = sum_by-cons f x xs in
    let c : n * sum_by f (x ∷ xs) ≡ n * (f x + sum_by f xs) = ap (λ (m : ℕ). n * m) b in
    let d : n * (f x + sum_by f xs) ≡ n * f x + n * sum_by f xs = mul-add n (f x) (sum_by f xs) in
    omega (arith, rest, a, c, d)

module _ (found : List Held) (o : Target) (w : IsOwner found o) (long : Thing → ℕ) (end : ℕ)
    (each : (h : Held) → Contains found h → 1 ≤ long h.thing → IsPart found h (object_of h.key) (long h.thing))
    (ends : (h : Held) → Contains found h → 1 ≤ long h.thing → IsPart found h o (long h.thing) → offset_of h.key + long h.thing ≤ end)
    (once_at : (k : ℕ) → sum_by (covers long k) found ≤ 1) where
  abbrev is_mine : Held → Bool
  is_mine h = id_of h == o.oid.0 && is_own found h

  abbrev share : Held → ℕ → ℕ
  share h y = if is_mine h then once (lies_in (offset_of h.key) (long h.thing) y) else 0

  -- a part under the id is a part of the object
  mine_is : (h : Held) → Contains found h → 1 ≤ long h.thing → is_mine h ≡ true → IsPart found h o (long h.thing)
  mine_is h at some mine =
      let p = each h at some in
      let id = eqb-true (id_of h) o.oid.0 (and_parts (id_of h == o.oid.0) (is_own found h) mine).0 in
      let same = one_owner found (object_of h.key) o (is_owned found (object_of h.key) p.own) w (sym p.id ∙ id) in
      subst (λ (x : Target). IsPart found h x (long h.thing)) same p

  none_long : (h : Held) (b : Bool) (n : ℕ) → long h.thing ≡ 0 → total (λ y. if b then once (lies_in (offset_of h.key) (long h.thing) y) else 0) n ≡ (if b then long h.thing else 0)
  none_long h true n none = let all = interval_by (offset_of h.key) (long h.thing) n in omega (arith, all, none)
  none_long h false n none = nothing n
    where
      nothing : (n : ℕ) → total (λ y. 0) n ≡ 0
      nothing zero = refl
      nothing (suc n) = let rest = nothing n in omega (arith, rest)

  some_long : (h : Held) (b : Bool) → offset_of h.key + long h.thing ≤ end → total (λ y. if b then once (lies_in (offset_of h.key) (long h.thing) y) else 0) end ≡ (if b then long h.thing else 0)
  some_long h true within = let all = interval_by (offset_of h.key) (long h.thing) end in omega (arith, all, within)
  some_long h false within = nothing end
    where
      nothing : (n : ℕ) → total (λ y. 0) n ≡ 0
      nothing zero = refl
      nothing (suc n) = let rest = nothing n in omega (arith, rest)

  total_share : (h : Held) → Contains found h → total (share h) end ≡ (if is_mine h then long h.thing else 0)
  total_share h at = by (long h.thing) refl (is_mine h) refl
    where
      by : (n : ℕ) → long h.thing ≡ n → (b : Bool) → is_mine h ≡ b → total (share h) end ≡ (if is_mine h then long h.thing else 0)
      by zero e b f = none_long h (is_mine h) end e
      by (suc n) e true f = some_long h (is_mine h) (ends h at (omega (arith, e)) (mine_is h at (omega (arith, e)) f))
      by (suc n) e false f = subst (λ (b : Bool). total (λ y. if b then once (lies_in (offset_of h.key) (long h.thing) y) else 0) end ≡ (if b then long h.thing else 0)) (sym f) (nothing end)
        where
          nothing : (n : ℕ) → total (λ y. 0) n ≡ 0
          nothing zero = refl
          nothing (suc n) = let rest = nothing n in omega (arith, rest)

  -- a part of the object that lies over a place has the key of that place
  covers_key : (h : Held) (y : ℕ) → IsPart found h o (long h.thing) → once (lies_in (offset_of h.key) (long h.thing) y) ≤ covers long (byte_rank o y) h
  covers_key h y p =
      let at : rank h.key ≡ byte_rank o (offset_of h.key) = body_rank_is h.key p.key p.minor ∙ ap (λ (x : Target). byte_rank x (offset_of h.key)) p.object in
      let a = byte_rank_up o (offset_of h.key) in
      let b = byte_rank_up o y in
      moved (offset_of h.key) (rank h.key) (long h.thing) y (byte_rank o y) (byte_rank o 0) (at ∙ a) b
    where
      moved : (from key n y k base : ℕ) → key ≡ base + from → k ≡ base + y → once (lies_in from n y) ≤ once (lies_in key n k)
      moved from key n y k base e f = by (nat_le from y) (nat_lt y (from + n)) (nat_le key k) (nat_lt k (key + n)) refl refl refl refl
        where
          by : (a b c d : Bool) → nat_le from y ≡ a → nat_lt y (from + n) ≡ b → nat_le key k ≡ c → nat_lt k (key + n) ≡ d → once (a && b) ≤ once (c && d)
          by true true true true p q r t = omega arith
          by true true true false p q r t = absurd (grind (arith, nat_tests))
          by true true false d p q r t = absurd (grind (arith, nat_tests))
          by true false c d p q r t = omega arith
          by false b c d p q r t = omega arith

  share_covers : (h : Held) (y : ℕ) → Contains found h → share h y ≤ covers long (byte_rank o y) h
  share_covers h y at = by (long h.thing) refl (is_mine h) refl
    where
      none : (b : Bool) (n : ℕ) → n ≡ 0 → (if b then n else 0) ≡ 0
      none true n e = e
      none false n e = refl

      empty_at : (from n y : ℕ) → n ≡ 0 → once (lies_in from n y) ≡ 0
      empty_at from n y e = by_tests (nat_le from y) (nat_lt y (from + n)) refl refl
        where
          by_tests : (a b : Bool) → nat_le from y ≡ a → nat_lt y (from + n) ≡ b → once (a && b) ≡ 0
          by_tests true true p q = absurd (grind (arith, nat_tests))
          by_tests true false p q = refl
          by_tests false b p q = refl

      mine : (b : Bool) → b ≡ true → once (lies_in (offset_of h.key) (long h.thing) y) ≤ covers long (byte_rank o y) h → (if b then once (lies_in (offset_of h.key) (long h.thing) y) else 0) ≤ covers long (byte_rank o y) h
      mine true e le = le
      mine false e le = absurd (cc)

      other : (b : Bool) → b ≡ false → (if b then once (lies_in (offset_of h.key) (long h.thing) y) else 0) ≤ covers long (byte_rank o y) h
      other true e = absurd (cc)
      other false e = omega arith

      by : (n : ℕ) → long h.thing ≡ n → (b : Bool) → is_mine h ≡ b → share h y ≤ covers long (byte_rank o y) h
      by zero e b f = let zero_there = none (is_mine h) _ (empty_at (offset_of h.key) (long h.thing) y e) in omega (arith, zero_there)
      by (suc n) e true f = mine (is_mine h) f (covers_key h y (mine_is h at (omega (arith, e)) f))
      by (suc n) e false f = other (is_mine h) f

  -- where the parts are as long as the body, each place of it lies in one
  pub covered : sum_by (λ h. if is_mine h then long h.thing else 0) found ≡ end → (y : ℕ) → y < end → (h : Held) × Contains found h × (1 ≤ long h.thing) × LiesIn h (long h.thing) (byte_rank o y)
  covered all y lt =
      let sum = totals_of share found end in
      let each_total = sums_alike (λ h. total (share h) end) (λ h. if is_mine h then long h.thing else 0) found total_share in
      let few : (z : ℕ) → z < end → sum_by (λ h. share h z) found ≤ 1 = λ z le. (let low = sums_below (λ h. share h z) (covers long (byte_rank o z)) found (λ h at. share_covers h z at) in let most = once_at (byte_rank o z) in omega (arith, low, most)) in
      let now = each_one (λ z. sum_by (λ h. share h z) found) end few (omega (arith, sum, each_total, all)) y lt in
      let (h, at, some) = some_term (λ h. share h y) found (omega (arith, now)) in
      let le = share_covers h y at in
      let there = lies (rank h.key) (long h.thing) (byte_rank o y) (omega (arith, some, le)) in
      (h, at, there.0, there.1)
    where
      lies : (from n k : ℕ) → 1 ≤ once (lies_in from n k) → (1 ≤ n) × ((from ≤ k) × (k < from + n))
      lies from n k some = by (nat_le from k) (nat_lt k (from + n)) refl refl
        where
          by : (a b : Bool) → nat_le from k ≡ a → nat_lt k (from + n) ≡ b → (1 ≤ n) × ((from ≤ k) × (k < from + n))
          by true true p q = (grind (arith, nat_tests), (grind (arith, nat_tests), grind (arith, nat_tests)))
          by true false p q = absurd (grind (arith, nat_tests))
          by false b p q = absurd (grind (arith, nat_tests))

  -- where each place of the body lies in a part, the parts are as long as the body
  pub filled : ((y : ℕ) → y < end → (h : Held) × Contains found h × IsPart found h o (long h.thing) × LiesIn h (long h.thing) (byte_rank o y)) → sum_by (λ h. if is_mine h then long h.thing else 0) found ≡ end
  filled there =
      let sum = totals_of share found end in
      let each_total = sums_alike (λ h. total (share h) end) (λ h. if is_mine h then long h.thing else 0) found total_share in
      let ones = totals_one (λ y. sum_by (λ h. share h y) found) end (λ y lt. one_there y lt) in
      omega (arith, sum, each_total, ones)
    where
      totals_one : (f : ℕ → ℕ) (n : ℕ) → ((y : ℕ) → y < n → f y ≡ 1) → total f n ≡ n
      totals_one f zero one = refl
      totals_one f (suc n) one = let rest = totals_one f n (λ y lt. one y (omega (arith, lt))) in let last = one n (omega arith) in omega (arith, rest, last)

      lies : (from n key base y k : ℕ) → key ≡ base + from → k ≡ base + y → key ≤ k → k < key + n → once (lies_in from n y) ≡ 1
      lies from n key base y k e f low high = by (nat_le from y) (nat_lt y (from + n)) refl refl
        where
          by : (a b : Bool) → nat_le from y ≡ a → nat_lt y (from + n) ≡ b → once (a && b) ≡ 1
          by true true p q = refl
          by true false p q = absurd (grind (arith, nat_tests))
          by false b p q = absurd (grind (arith, nat_tests))

      mine_one : (b : Bool) (n : ℕ) → b ≡ true → n ≡ 1 → (if b then n else 0) ≡ 1
      mine_one true n e f = f
      mine_one false n e f = absurd (cc)

      one_there : (y : ℕ) → y < end → sum_by (λ h. share h y) found ≡ 1
      one_there y lt =
          let (h, at, p, in_h) = there y lt in
          let low = sums_below (λ h. share h y) (covers long (byte_rank o y)) found (λ h at. share_covers h y at) in
          let most = once_at (byte_rank o y) in
          let key : rank h.key ≡ byte_rank o (offset_of h.key) = body_rank_is h.key p.key p.minor ∙ ap (λ (x : Target). byte_rank x (offset_of h.key)) p.object in
          let a = byte_rank_up o (offset_of h.key) in
          let b = byte_rank_up o y in
          let mine : is_mine h ≡ true = ap (λ (t : Bool). t && is_own found h) (eq-eqb (id_of h) o.oid.0 p.id) ∙ p.is_own in
          let own : share h y ≡ 1 = mine_one (is_mine h) (once (lies_in (offset_of h.key) (long h.thing) y)) mine (lies (offset_of h.key) (long h.thing) (rank h.key) (byte_rank o 0) y (byte_rank o y) (key ∙ a) b in_h.0 in_h.1) in
          let adds = one_adds (λ h. share h y) found h at in
          omega (arith, low, most, own, adds)
