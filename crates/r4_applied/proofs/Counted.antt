-- Each key that a command's edits change counts as changed.
use Rattle.std.proofs.Common.{◌≡◌, inl, inr, ℕ, ◌+◌, ◌-◌, ◌*◌, ◌/◌, ◌<◌, ◌≤◌, Bool, true, false, [], ◌∷◌, map}
use Rattle.std.proofs.Common.{Option, Some, None, refl, sym, ap, subst, ◌∙◌, arith, option_map}
use Rattle.std.specs.Prelude.{Contains, if◌then◌else◌}
use Rattle.std.proofs.lemmas.Bool.{eqb-true, le-leb, lt-ltb, or_cases, or_left, or_right}
use Rattle.r4_base.specs.Key.{key_of_rank, minor_of, offset_of}
use Rattle.r4_base.specs.Value.{Content}
use Rattle.r4_base.specs.Volume.{byte_rank, object_of}
use Rattle.r4_base.specs.declared.items.Target.{Target}
use Rattle.r4_content.specs.Edited.{Intervals, Pairs, changed, is_between, is_in}
use Rattle.r4_content.specs.Fields.{HasBytePaths, NamesUnused}
use Rattle.r4_content.specs.Lawful.{IsLawful}
use Rattle.r4_content.specs.Meaning.{greatest_size}
use Rattle.r4_content.specs.Seen.{IsSeen}
use Rattle.r4_content.specs.declared.command.Command.{Command}
use Rattle.r4_content.proofs.Keeping.{byte_key}
use Rattle.r4_content.proofs.Ranks.{between_is, byte_after}
use Rattle.r4_build.specs.r4_reach.Reach.{is_body}
use Rattle.r4_build.specs.r4_reach.Touched.{Body, body_key, body_of, changes_on, coming, edits_on, first_byte}
use Rattle.r4_build.specs.r4_reach.Touched.{is_spread, raw_changes, turns_out, whole_blocks, with_blocks}
use Rattle.r4_build.proofs.r4_reach.FirstKeys.{first_is}
use Rattle.r4_sets_told.proofs.r4_patch.Members.{cases, here, later, none}
use Rattle.r4_applied.proofs.BodyTold.{one_file}
use Rattle.r4_applied.proofs.OneBody.{IsOneBody, file_is}

-- a key that an interval has is behind the first one of its list
in_one : (rs : Intervals) (r : ℕ × ℕ) (k : ℕ) → Contains rs r → is_between r.0 r.1 k ≡ true → is_in rs k ≡ true
in_one [] r k has at = absurd (none r has)
in_one (q ∷ rs) r k has at = elim (cases q r rs has) [
  | inl is ↦ or_left (is_between q.0 q.1 k) (is_in rs k) (ap (λ (x : ℕ × ℕ). is_between x.0 x.1 k) (sym is) ∙ at)
  | inr rest ↦ or_right (is_between q.0 q.1 k) (is_in rs k) (in_one rs r k rest at)
]

module _ (rs : Intervals) (b : Body) (k : ℕ)
    (starts : (r : ℕ × ℕ) → Contains rs r → is_body r.0 ≡ true → r.0 < r.1 → first_byte b ≤ r.0) where
  covers : (r : ℕ × ℕ) → Contains rs r → is_between r.0 r.1 k ≡ true
      → is_between (with_blocks b r).0 (with_blocks b r).1 k ≡ true
  covers r has at = by (is_body r.0) refl
    where
      by : (t : Bool) → is_body r.0 ≡ t
          → is_between (if t then whole_blocks b r else r).0 (if t then whole_blocks b r else r).1 k ≡ true
      by false off = at
      by true body =
          let (low, high) = between_is r.0 r.1 k at in
          let start = starts r has body (omega (arith, low, high)) in
          rw (
            le-leb (first_byte b + (r.0 - first_byte b) / 4096 * 4096) k (omega (arith, start, low)),
            lt-ltb k (first_byte b + (r.1 - first_byte b + 4095) / 4096 * 4096) (omega (arith, start, low, high)),
          ) refl

  in_blocks : (ss : Intervals) → ((r : ℕ × ℕ) → Contains ss r → Contains rs r) → is_in ss k ≡ true
      → is_in (map (with_blocks b) ss) k ≡ true
  in_blocks [] all on = on
  in_blocks (r ∷ ss) all on = elim (or_cases (is_between r.0 r.1 k) (is_in ss k) on) [
    | inl first ↦ or_left (is_between (with_blocks b r).0 (with_blocks b r).1 k) (is_in (map (with_blocks b) ss) k)
        (covers r (all r (here r ss)) first)
    | inr rest ↦ or_right (is_between (with_blocks b r).0 (with_blocks b r).1 k) (is_in (map (with_blocks b) ss) k)
        (in_blocks ss (λ q has. all q (later r q ss has)) rest)
  ]

  still_in : is_in rs k ≡ true → is_in (raw_changes (Some b) rs) k ≡ true
  still_in on = by (is_spread b) (turns_out b)
    where
      by : (t u : Bool)
          → is_in (if t then (if u then coming b ∷ map (with_blocks b) rs else map (with_blocks b) rs) else rs) k ≡ true
      by false u = on
      by true false = in_blocks rs (λ r has. has) on
      by true true = or_right (is_between (coming b).0 (coming b).1 k) (is_in (map (with_blocks b) rs) k)
          (in_blocks rs (λ r has. has) on)

module _ (c : Command) (s : Pairs) (n : Content) (saw : IsSeen greatest_size c s n)
    (lawful : IsLawful greatest_size n) (paths : HasBytePaths c) (unused : NamesUnused n c) (ie : Bool) (k : ℕ)
    (on : is_in (changed (edits_on c s)) k ≡ true) where
  one : IsOneBody (edits_on c s)
  one = one_file c s n saw lawful paths unused

  pub counts : is_in (changes_on c s ie) k ≡ true
  counts = by (body_key (changed (edits_on c s))) refl
    where
      by : (o : Option ℕ) → body_key (changed (edits_on c s)) ≡ o
          → is_in (raw_changes (option_map (body_of (edits_on c s) s ie) o) (changed (edits_on c s))) k ≡ true
      by None none = on
      by (Some j) found =
          still_in (changed (edits_on c s)) (body_of (edits_on c s) s ie j) k (λ r has body some. starts r has body some) on
        where
          starts : (r : ℕ × ℕ) → Contains (changed (edits_on c s)) r → is_body r.0 ≡ true → r.0 < r.1
              → byte_rank (object_of (key_of_rank j)) 0 ≤ r.0
          starts r has body some =
              let at : is_between r.0 r.1 r.0 ≡ true = rw (le-leb r.0 r.0 (omega arith), lt-ltb r.0 r.1 some) refl in
              let (first_on, first_body) = first_is (changed (edits_on c s)) j found in
              let same : object_of (key_of_rank r.0) ≡ object_of (key_of_rank j) =
              file_is (edits_on c s) one r.0 (in_one (changed (edits_on c s)) r r.0 has at) body
              ∙ sym (file_is (edits_on c s) one j first_on first_body) in
              let (is, small) = byte_key r.0 (eqb-true (minor_of (key_of_rank r.0)) 4 body) in
              let own = object_of (key_of_rank r.0) in
              let x = offset_of (key_of_rank r.0) in
              let step : byte_rank own (0 + x) ≡ byte_rank own 0 + x = byte_after own 0 x in
              let zero : byte_rank own (0 + x) ≡ byte_rank own x = ap (byte_rank own) (omega arith) in
              let low : byte_rank (object_of (key_of_rank r.0)) 0 ≤ r.0 = omega (arith, is, step, zero) in
              subst (λ (o : Target). byte_rank o 0 ≤ r.0) same low
