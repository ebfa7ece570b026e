-- What pieces name where others stand in the place of some.
use Rattle.std.proofs.Common.{◌≡◌, ◌↔◌, ◌⊎◌, inl, inr, ℕ, zero, suc, ◌+◌, ◌*◌, ◌<◌, ◌≤◌, Bool, true, false, List, [], ◌∷◌, ◌++◌, sym, ap, subst, ◌∙◌, arith}
use Rattle.std.specs.Prelude.{Contains, if◌then◌else◌}
use Rattle.std.proofs.lemmas.List.Elements.{Contains-append_cases, Contains-append_left, Contains-append_right}
use Rattle.r4_base.specs.Cell.{run_names}
use Rattle.r4_base.specs.Extents.{is_hole}
use Rattle.r4_base.specs.Key.{rank}
use Rattle.r4_base.specs.Tree.{Name}
use Rattle.r4_branch.specs.Pieces.{Follow, names_of, next_of, part_end, part_names, piece_end}
use Rattle.r4_branch.specs.declared.piece.TwigPart.{TwigPart}
use Rattle.r4_branch.specs.declared.piece.TwigPart.TheVariants.{Pointer, Blocks}
use Rattle.r4_branch.specs.declared.piece.TwigPiece.{TwigPiece}
use Rattle.r4_graft.proofs.Joined.{end_of, follow_parts, names_join, next_join}
use Rattle.r4_graft.proofs.Placed.{first_or_later, follow_end, has_end, not_in_none}

-- ---- where names begin

runs_begin : (k start count : ℕ) (n : Name) → Contains (run_names k start count) n → (k ≤ n.lo) × (n.lo + 4096 ≤ k + 4096 * count)
runs_begin k start zero n at = absurd (not_in_none n at)
runs_begin k start (suc m) n at = elim (first_or_later _ _ n at) [
  | inl is ↦ let e : k ≡ n.lo = ap (λ (x : Name). x.lo) is in (omega (arith, e), omega (arith, e))
  | inr more ↦ let r = runs_begin (k + 4096) (start + 1) m n more in (omega (arith, r), omega (arith, r))
]

part_begins : (k next : ℕ) (t : TwigPart) (n : Name) → Contains (part_names k next t) n → (k ≤ n.lo) × (n.lo < part_end k t)
part_begins k next (Pointer to) n at = elim (first_or_later _ [] n at) [
  | inl is ↦ let e : k ≡ n.lo = ap (λ (x : Name). x.lo) is in (omega (arith, e), omega (arith, e))
  | inr none ↦ absurd (not_in_none n none)
]
part_begins k next (Blocks u) n at = by_hole (is_hole u) at
  where
    by_hole : (t : Bool) → Contains (if t then [] else run_names k u.start u.width) n → (k ≤ n.lo) × (n.lo < k + 4096 * u.width)
    by_hole true none = absurd (not_in_none n none)
    by_hole false here = let r = runs_begin k u.start u.width n here in (omega (arith, r), omega (arith, r))

-- What pieces name begins from the first one's key on, and before their end.
pub names_begin : (from to hi : ℕ) (ps : List TwigPiece) (n : Name) → Follow from to ps → Contains (names_of hi ps) n → (from ≤ n.lo) × (n.lo < end_of from ps)
unfolding names_of
names_begin from to hi [] n f at = absurd (not_in_none n at)
names_begin from to hi (p ∷ ps) n f at = elim (Contains-append_cases (part_names (rank p.key) (next_of hi ps) p.part) (names_of hi ps) n at) [
  | inl mine ↦
      let r = part_begins (rank p.key) (next_of hi ps) p.part n mine in
      let low = f.0 in
      let e = follow_end (piece_end p) to ps f.2 in
      (omega (arith, r, low), omega (arith, r, e))
  | inr more ↦
      let r = names_begin (piece_end p) to hi ps n f.2 more in
      let low = f.0 in
      let e = has_end p f.1 in
      (omega (arith, r, low, e), r.1)
]

-- ---- others in the place of some

module _ (hi from to : ℕ) (xs ms ns ys : List TwigPiece) (f : Follow from to (xs ++ (ms ++ ys)))
    (left : names_of (next_of (next_of hi ys) ns) xs ≡ names_of (next_of (next_of hi ys) ms) xs) where
  abbrev before : List Name
  before = names_of (next_of (next_of hi ys) ms) xs

  abbrev gone : List Name
  gone = names_of (next_of hi ys) ms

  abbrev come : List Name
  come = names_of (next_of hi ys) ns

  abbrev behind : List Name
  behind = names_of hi ys

  all_were : names_of hi (xs ++ (ms ++ ys)) ≡ before ++ (gone ++ behind)
  all_were = names_join hi xs (ms ++ ys) ∙ ((λ i. names_of (next_join hi ms ys i) xs ++ names_join hi ms ys i))

  all_are : names_of hi (xs ++ (ns ++ ys)) ≡ before ++ (come ++ behind)
  all_are = names_join hi xs (ns ++ ys) ∙ ((λ i. names_of (next_join hi ns ys i) xs ++ names_join hi ns ys i) ∙ ap (λ bs. bs ++ (come ++ behind)) left)

  -- What the pieces name, but for what those that went named, and what those that came name.
  pub spliced_names : (n : Name) → Contains (names_of hi (xs ++ (ns ++ ys))) n ↔ ((Contains (names_of hi (xs ++ (ms ++ ys))) n × (Contains (names_of (next_of hi ys) ms) n → ⊥)) ⊎ Contains (names_of (next_of hi ys) ns) n)
  spliced_names n = (to_parts, from_parts)
    where
      parts_x : Follow from (end_of from xs) xs × Follow (end_of from xs) to (ms ++ ys)
      parts_x = follow_parts from to xs (ms ++ ys) f

      parts_m : Follow (end_of from xs) (end_of (end_of from xs) ms) ms × Follow (end_of (end_of from xs) ms) to ys
      parts_m = follow_parts (end_of from xs) to ms ys parts_x.1

      kept_left : Contains before n → Contains gone n → ⊥
      kept_left a b =
          let x = names_begin from (end_of from xs) _ xs n parts_x.0 a in
          let y = names_begin (end_of from xs) (end_of (end_of from xs) ms) _ ms n parts_m.0 b in
          omega (arith, x, y)

      kept_right : Contains behind n → Contains gone n → ⊥
      kept_right a b =
          let x = names_begin (end_of (end_of from xs) ms) to hi ys n parts_m.1 a in
          let y = names_begin (end_of from xs) (end_of (end_of from xs) ms) _ ms n parts_m.0 b in
          omega (arith, x, y)

      was : Contains (before ++ (gone ++ behind)) n → Contains (names_of hi (xs ++ (ms ++ ys))) n
      was at = subst (λ ns. Contains ns n) (sym all_were) at

      to_parts : Contains (names_of hi (xs ++ (ns ++ ys))) n → (Contains (names_of hi (xs ++ (ms ++ ys))) n × (Contains gone n → ⊥)) ⊎ Contains come n
      to_parts at = elim (Contains-append_cases before (come ++ behind) n (subst (λ ns. Contains ns n) all_are at)) [
        | inl a ↦ inl (was (Contains-append_left before (gone ++ behind) n a), kept_left a)
        | inr rest ↦ elim (Contains-append_cases come behind n rest) [
          | inl new ↦ inr new
          | inr b ↦ inl (was (Contains-append_right before (gone ++ behind) n (Contains-append_right gone behind n b)), kept_right b)
        ]
      ]

      are : Contains (before ++ (come ++ behind)) n → Contains (names_of hi (xs ++ (ns ++ ys))) n
      are at = subst (λ ns. Contains ns n) (sym all_are) at

      from_parts : (Contains (names_of hi (xs ++ (ms ++ ys))) n × (Contains gone n → ⊥)) ⊎ Contains come n → Contains (names_of hi (xs ++ (ns ++ ys))) n
      from_parts (inr new) = are (Contains-append_right before (come ++ behind) n (Contains-append_left come behind n new))
      from_parts (inl kept) = elim (Contains-append_cases before (gone ++ behind) n (subst (λ ns. Contains ns n) all_were kept.0)) [
        | inl a ↦ are (Contains-append_left before (come ++ behind) n a)
        | inr rest ↦ elim (Contains-append_cases gone behind n rest) [
          | inl g ↦ absurd (kept.1 g)
          | inr b ↦ are (Contains-append_right before (come ++ behind) n (Contains-append_right come behind n b))
        ]
      ]
