-- What pieces between two keys name, and their units.
use Rattle.std.proofs.Common.{◌≡◌, ◌↔◌, ◌⊎◌, inl, inr, ℕ, zero, suc, ◌+◌, ◌*◌, ◌<◌, ◌≤◌, Bool, true, false, List, [], ◌∷◌, ◌++◌, refl, sym, ap, subst, ◌∙◌, arith}
use Rattle.std.specs.Prelude.{Contains, if◌then◌else◌}
use Rattle.std.proofs.lemmas.List.Elements.{Contains-append_cases, Contains-append_left, Contains-append_right, filter-append}
use Rattle.r4_base.specs.Cell.{run_names, zeros_from}
use Rattle.r4_base.specs.Extents.{is_hole}
use Rattle.r4_base.specs.Key.{rank}
use Rattle.r4_base.specs.Tree.{Name}
use Rattle.r4_path.proofs.r4_branch.ItemPieces.{units_append}
use Rattle.r4_path.specs.r4_branch.Pieces.{Follow, names_of, next_of, part_end, part_names, part_units, piece_end, units_of}
use Rattle.r4_path.specs.r4_branch.declared.piece.TwigPart.{TwigPart}
use Rattle.r4_path.specs.r4_branch.declared.piece.TwigPart.TheVariants.{Pointer, Blocks}
use Rattle.r4_path.specs.r4_branch.declared.piece.TwigPiece.{TwigPiece}
use Rattle.r4_path.proofs.r4_graft.FoundPlaces.{next_lower, runs_level}
use Rattle.r4_path.proofs.r4_graft.Joined.{names_join, next_join}
use Rattle.r4_path.proofs.r4_graft.Placed.{first_or_later, follow_above, follow_end, has_end, first_member, not_in_none}
use Rattle.r4_path.proofs.r4_graft.SplicedNames.{names_begin}
use Rattle.r4_path.specs.r4_leaf.Units.{cut_units}
use Rattle.r4_path.proofs.r4_leaf.Rising.{Rise, cut_all, cut_high, cut_low, rise_append, rise_lower}
use Rattle.r4_edit.proofs.CutParts.{AreSplit}

-- ---- what a part names

-- a leaf up to the next key, or a block
abbrev IsPartName : (key next : ℕ) → TwigPart → Name → Type 0
IsPartName k next t n = ((t ≡ Pointer (record { 0 = n.id })) × ((n.level ≡ 1) × ((k ≡ n.lo) × (next ≡ n.hi)))) ⊎ ((n.level ≡ 0) × (n.lo < n.hi))

runs_lie : (k start count : ℕ) (n : Name) → Contains (run_names k start count) n → n.lo < n.hi
runs_lie k start zero n at = absurd (not_in_none n at)
runs_lie k start (suc m) n at = elim (first_or_later _ _ n at) [
  | inl is ↦
      let lo : k ≡ n.lo = ap (λ (x : Name). x.lo) is in
      let hi : k + 4096 ≡ n.hi = ap (λ (x : Name). x.hi) is in
      omega (arith, lo, hi)
  | inr more ↦ runs_lie (k + 4096) (start + 1) m n more
]

part_name : (k next : ℕ) (t : TwigPart) (n : Name) → Contains (part_names k next t) n → IsPartName k next t n
part_name k next (Pointer to) n at = elim (first_or_later _ [] n at) [
  | inl is ↦ inl (ap (λ (x : Name). Pointer (record { 0 = x.id })) is, (sym (ap (λ (x : Name). x.level) is), (ap (λ (x : Name). x.lo) is, ap (λ (x : Name). x.hi) is)))
  | inr none ↦ absurd (not_in_none n none)
]
part_name k next (Blocks u) n at = inr (by_hole (is_hole u) at)
  where
    by_hole : (t : Bool) → Contains (if t then [] else run_names k u.start u.width) n → (n.level ≡ 0) × (n.lo < n.hi)
    by_hole true none = absurd (not_in_none n none)
    by_hole false here = (runs_level k u.start u.width n here, runs_lie k u.start u.width n here)

-- Each name has a key, and is a leaf's or a block's.
pub names_lie : (from to h : ℕ) (ps : List TwigPiece) (n : Name) → Follow from to ps → to ≤ h → Contains (names_of h ps) n → (n.lo < n.hi) × ((n.level ≡ 1) ⊎ (n.level ≡ 0))
unfolding names_of
names_lie from to h [] n f le at = absurd (not_in_none n at)
names_lie from to h (p ∷ ps) n f le at = elim (Contains-append_cases (part_names (rank p.key) (next_of h ps) p.part) (names_of h ps) n at) [
  | inl mine ↦ elim (part_name (rank p.key) (next_of h ps) p.part n mine) [
    | inl leaf ↦
        let e = has_end p f.1 in
        let low : piece_end p ≤ next_of h ps = next_at (piece_end p) to h ps f.2 le in
        let a = leaf.1.1.0 in
        let b = leaf.1.1.1 in
        (omega (arith, e, low, a, b), inl leaf.1.0)
    | inr block ↦ (block.1, inr block.0)
  ]
  | inr more ↦ names_lie (piece_end p) to h ps n f.2 le more
]
  where
    next_at : (a b c : ℕ) (qs : List TwigPiece) → Follow a b qs → b ≤ c → a ≤ next_of c qs
    next_at a b c [] g up = omega (arith, g, up)
    next_at a b c (q ∷ qs) g up = g.0

-- ---- a leaf that ends where other pieces begin

-- The last of the pieces points to the leaf of this name.
pub record EndsWithLeaf (xs : List TwigPiece) (n : Name) : Type 0 where
  pub before : List TwigPiece
  pub piece : TwigPiece
  pub is : xs ≡ before ++ (piece ∷ [])
  pub key : rank piece.key ≡ n.lo
  pub part : piece.part ≡ Pointer (record { 0 = n.id })

not_behind : (from to h : ℕ) (m : TwigPiece) (rest : List TwigPiece) (n : Name) → Follow from to (m ∷ rest) → to ≤ h → n.hi ≡ rank m.key → Contains (names_of h (m ∷ rest)) n → ⊥
not_behind from to h m rest n f le ends at =
    let low = (names_begin (rank m.key) to h (m ∷ rest) n (omega arith, f.1, f.2) at).0 in
    let lies = (names_lie from to h (m ∷ rest) n f le at).0 in
    omega (arith, low, lies, ends)

pub ends_with_leaf : (from to h : ℕ) (xs : List TwigPiece) (m : TwigPiece) (rest : List TwigPiece) (n : Name) → Follow from to (xs ++ (m ∷ rest)) → to ≤ h → Contains (names_of h (xs ++ (m ∷ rest))) n → n.level ≡ 1 → n.hi ≡ rank m.key → EndsWithLeaf xs n
unfolding names_of
ends_with_leaf from to h [] m rest n f le at leaf ends = absurd (not_behind from to h m rest n f le ends at)
ends_with_leaf from to h (q ∷ []) m rest n f le at leaf ends = elim (Contains-append_cases (part_names (rank q.key) (rank m.key) q.part) (names_of h (m ∷ rest)) n at) [
  | inl mine ↦ elim (part_name (rank q.key) (rank m.key) q.part n mine) [
    | inl is ↦ record { before = []; piece = q; is = refl; key = is.1.1.0; part = is.0 }
    | inr block ↦ let zero_is = block.0 in absurd (omega (arith, zero_is, leaf))
  ]
  | inr more ↦ absurd (not_behind (piece_end q) to h m rest n f.2 le ends more)
]
ends_with_leaf from to h (q ∷ (r ∷ xs)) m rest n f le at leaf ends = elim (Contains-append_cases (part_names (rank q.key) (rank r.key) q.part) (names_of h (r ∷ (xs ++ (m ∷ rest)))) n at) [
  | inl mine ↦ elim (part_name (rank q.key) (rank r.key) q.part n mine) [
    | inl is ↦
        let hi = is.1.1.1 in
        let e = has_end r f.2.1 in
        let later = follow_above (piece_end r) to (xs ++ (m ∷ rest)) f.2.2 m (Contains-append_right xs (m ∷ rest) m (first_member m rest)) in
        absurd (omega (arith, hi, e, later, ends))
    | inr block ↦ let zero_is = block.0 in absurd (omega (arith, zero_is, leaf))
  ]
  | inr more ↦
      let r_is = ends_with_leaf (piece_end q) to h (r ∷ xs) m rest n f.2 le more leaf ends in
      record { before = q ∷ r_is.before; piece = r_is.piece; is = ap (λ ps. q ∷ ps) r_is.is; key = r_is.key; part = r_is.part }
]

-- ---- the blocks between the keys

module _ (lo hi from to : ℕ) (ps xs ms ys : List TwigPiece) (s : AreSplit lo hi from to ps xs ms ys) where
  abbrev next : ℕ
  next = next_of hi ys

  all_names : names_of hi ps ≡ names_of (next_of next ms) xs ++ (names_of next ms ++ names_of hi ys)
  all_names = ap (names_of hi) s.is ∙ (names_join hi xs (ms ++ ys) ∙ (λ i. names_of (next_join hi ms ys i) xs ++ names_join hi ms ys i))

  -- Where no leaf has a key between them, what goes names the blocks that begin there.
  pub between_names : ((n : Name) → Contains (names_of hi ps) n → n.level ≡ 1 → (n.hi ≤ from) ⊎ (to ≤ n.lo)) → (n : Name)
      → Contains (names_of next ms) n ↔ (Contains (names_of hi ps) n × ((n.level ≡ 0) × ((from ≤ n.lo) × (n.lo < to))))
  between_names clear n = (there, back)
    where
      inside : Contains (names_of next ms) n → Contains (names_of hi ps) n
      inside at = subst (λ ns. Contains ns n) (sym all_names) (Contains-append_right (names_of (next_of next ms) xs) (names_of next ms ++ names_of hi ys) n (Contains-append_left (names_of next ms) (names_of hi ys) n at))

      there : Contains (names_of next ms) n → Contains (names_of hi ps) n × ((n.level ≡ 0) × ((from ≤ n.lo) × (n.lo < to)))
      there at =
          let begins = names_begin from to next ms n s.mid at in
          let ends = (follow_end from to ms s.mid).1 in
          let lies = names_lie from to next ms n s.mid (next_lower to hi ys s.right) at in
          let level : n.level ≡ 0 = elim lies.1 [
            | inl leaf ↦ let l = lies.0 in absurd (elim (clear n (inside at) leaf) [
              | inl below ↦ omega (arith, below, begins, l)
              | inr above ↦ omega (arith, above, begins, ends)
            ])
            | inr block ↦ block
          ] in
          (inside at, (level, (begins.0, omega (arith, begins, ends))))

      back : Contains (names_of hi ps) n × ((n.level ≡ 0) × ((from ≤ n.lo) × (n.lo < to))) → Contains (names_of next ms) n
      back (at, (level, (low, high))) = elim (Contains-append_cases (names_of (next_of next ms) xs) (names_of next ms ++ names_of hi ys) n (subst (λ ns. Contains ns n) all_names at)) [
        | inl left ↦
            let begins = names_begin lo from (next_of next ms) xs n s.left left in
            let ends = (follow_end lo from xs s.left).1 in
            absurd (omega (arith, begins, ends, low))
        | inr more ↦ elim (Contains-append_cases (names_of next ms) (names_of hi ys) n more) [
          | inl mine ↦ mine
          | inr behind ↦ let begins = names_begin to hi hi ys n s.right behind in absurd (omega (arith, begins, high))
        ]
      ]

-- ---- units

zeros_rise : (k count : ℕ) → Rise k (k + count) (zeros_from k count)
zeros_rise k zero = omega arith
zeros_rise k (suc n) = (omega arith, subst (λ t. Rise (k + 1) t (zeros_from (k + 1) n)) (let e : k + 1 + n ≡ k + suc n = omega arith in e) (zeros_rise (k + 1) n))

part_rise : (k : ℕ) (t : TwigPart) → Rise k (part_end k t) (part_units k t)
part_rise k (Pointer to) = omega arith
part_rise k (Blocks u) = by_hole (is_hole u)
  where
    by_hole : (b : Bool) → Rise k (k + 4096 * u.width) (if b then zeros_from k (4096 * u.width) else [])
    by_hole true = zeros_rise k (4096 * u.width)
    by_hole false = omega arith

pub units_rise : (from to : ℕ) (ps : List TwigPiece) → Follow from to ps → Rise from to (units_of ps)
unfolding units_of
units_rise from to [] f = f
units_rise from to (p ∷ ps) f =
    rise_append from (piece_end p) to (part_units (rank p.key) p.part) (units_of ps)
    (rise_lower (rank p.key) from (piece_end p) (part_units (rank p.key) p.part) f.0 (part_rise (rank p.key) p.part))
    (units_rise (piece_end p) to ps f.2)

module _ (lo hi from to : ℕ) (ps xs ms ys ns : List TwigPiece) (s : AreSplit lo hi from to ps xs ms ys) (none : units_of ns ≡ []) where
  -- The units of what stays are those of all but those between the keys.
  pub units_without : units_of (xs ++ (ns ++ ys)) ≡ cut_units from to (units_of ps)
  units_without =
      units_append xs (ns ++ ys) ∙ (ap (λ us. units_of xs ++ us) (units_append ns ys ∙ ap (λ us. us ++ units_of ys) none)
      ∙ sym (ap (cut_units from to) (ap units_of s.is ∙ (units_append xs (ms ++ ys) ∙ ap (λ us. units_of xs ++ us) (units_append ms ys)))
      ∙ (filter-append _ (units_of xs) (units_of ms ++ units_of ys)
      ∙ (ap (λ us. cut_units from to (units_of xs) ++ us) (filter-append _ (units_of ms) (units_of ys))
      ∙ (λ i. cut_low from to lo from (units_of xs) (omega arith) (units_rise lo from xs s.left) i
      ++ (cut_all from to from to (units_of ms) (omega arith) (omega arith) (units_rise from to ms s.mid) i
      ++ cut_high from to to hi (units_of ys) (omega arith) (units_rise to hi ys s.right) i))))))
