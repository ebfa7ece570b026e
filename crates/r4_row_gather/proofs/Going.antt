-- Pieces that stay, and leaves that go, or give way to others that begin later.
use Rattle.std.proofs.Common.{◌≡◌, ◌⊎◌, inl, inr, ℕ, ◌<◌, ◌≤◌, true, false, List, [], ◌∷◌, ◌++◌, refl, sym, ap, subst}
use Rattle.std.proofs.Common.{◌∙◌, arith}
use Rattle.std.specs.Prelude.{if◌then◌else◌, Bool, Contains}
use Rattle.std.proofs.lemmas.List.Elements.{Contains-append_cases, Contains-append_left, Contains-append_right}
use Rattle.r4_base.specs.Cell.{run_names}
use Rattle.r4_base.specs.Extents.{is_hole}
use Rattle.r4_base.specs.Key.{offset_of, rank}
use Rattle.r4_base.specs.Tree.{Name}
use Rattle.r4_work.specs.r4_branch.Pieces.{Follow, IsSoundPart, names_of, next_of, part_end, part_names, part_units}
use Rattle.r4_work.specs.r4_branch.Pieces.{piece_end, units_of}
use Rattle.r4_work.specs.r4_branch.declared.piece.TwigPart.{TwigPart}
use Rattle.r4_work.specs.r4_branch.declared.piece.TwigPart.TheVariants.{Pointer, Blocks}
use Rattle.r4_work.specs.r4_branch.declared.piece.TwigPiece.{TwigPiece}
use Rattle.r4_work.specs.r4_cell.Seen.{CellSeen}
use Rattle.r4_work.proofs.r4_edit.CutParts.{follow_from}
use Rattle.r4_work.proofs.r4_graft.FoundPlaces.{runs_level}
use Rattle.r4_work.proofs.r4_graft.Joined.{follow_lower}
use Rattle.r4_work.proofs.r4_graft.Placed.{has_end}
use Rattle.r4_work.proofs.r4_graft.SplicedNames.{names_begin}
use Rattle.r4_work.proofs.r4_patch.Members.{cases, here, later, none}
use Rattle.r4_work.specs.r4_path.Steps.{IsNameOf, name_of}
use Rattle.r4_row_gather.specs.Clearing.{Begins, Fate, Goes, IsLeafAt, IsShortened, MayHave, Stays, coming}
use Rattle.r4_row_gather.specs.Clearing.{going, is_pointer, staying}

-- ---- where they stand

-- a pointer is sound at any key
sound_at : (one two : ℕ) (t : TwigPart) (id : ℕ) → t ≡ Pointer (record { 0 = id }) → IsSoundPart one t → IsSoundPart two t
sound_at one two (Pointer to) id is sound = sound
sound_at one two (Blocks u) id is sound = absurd cc

pub staying_follow : (lo hi : ℕ) (ps : List TwigPiece) (fs : List Fate) → Follow lo hi ps → MayHave hi ps fs
    → Follow lo hi (staying ps fs)
staying_follow lo hi [] fs f may = f
staying_follow lo hi (p ∷ ps) [] f may = absurd may
staying_follow lo hi (p ∷ ps) (Stays ∷ fs) f may = (f.0, f.1, staying_follow (piece_end p) hi ps fs f.2 may.1)
staying_follow lo hi (p ∷ ps) (Goes c ∷ fs) f may =
    let low = f.0 in
    let high = has_end p f.1 in
    follow_lower (piece_end p) lo hi (staying ps fs) (omega (arith, low, high))
    (staying_follow (piece_end p) hi ps fs f.2 may.2)
staying_follow lo hi (p ∷ ps) (Begins c d ∷ fs) f may =
    let low = f.0 in
    let begin = may.0.begins in
    let behind = may.1.behind in
    let within = may.1.within in
    let end = may.0.ends in
    let next = may.2 in
    let one = ap (λ (t : TwigPart). part_end (rank d.lo) t) may.0.points in (
      omega (arith, low, begin, behind),
      (may.1.part.whole_key, sound_at (offset_of p.key) (offset_of d.lo) p.part c.id may.0.points f.1.1),
      follow_from (piece_end p) (part_end (rank d.lo) p.part) hi (staying ps fs) (omega (arith, one, within, end, next))
          (staying_follow (piece_end p) hi ps fs f.2 may.3),
    )

pub staying_units : (hi : ℕ) (ps : List TwigPiece) (fs : List Fate) → MayHave hi ps fs
    → units_of (staying ps fs) ≡ units_of ps
unfolding units_of
staying_units hi [] fs may = refl
staying_units hi (p ∷ ps) [] may = absurd may
staying_units hi (p ∷ ps) (Stays ∷ fs) may =
    ap (λ us. part_units (rank p.key) p.part ++ us) (staying_units hi ps fs may.1)
staying_units hi (p ∷ ps) (Goes c ∷ fs) may =
    staying_units hi ps fs may.2
    ∙ ap (λ (part : TwigPart). part_units (rank p.key) part ++ units_of ps)
    (sym may.0.points)
staying_units hi (p ∷ ps) (Begins c d ∷ fs) may =
    ap (λ (part : TwigPart). part_units (rank d.lo) part ++ units_of (staying ps fs)) may.0.points
    ∙ (staying_units hi ps fs may.3
    ∙ ap (λ (part : TwigPart). part_units (rank p.key) part ++ units_of ps) (sym may.0.points))

-- ---- the leaves that go

-- a leaf that goes lies behind
pub going_low : (lo hi : ℕ) (ps : List TwigPiece) (fs : List Fate) → Follow lo hi ps → MayHave hi ps fs
    → (c : CellSeen) → Contains (going fs) c → (lo ≤ rank c.lo) × (c.level ≡ 1)
going_low lo hi [] [] f may c at = absurd (none c at)
going_low lo hi [] (x ∷ fs) f may c at = absurd may
going_low lo hi (p ∷ ps) [] f may c at = absurd may
going_low lo hi (p ∷ ps) (Stays ∷ fs) f may c at =
    let (low, leaf) = going_low (piece_end p) hi ps fs f.2 may.1 c at in
    let begin = f.0 in
    let end = has_end p f.1 in (omega (arith, low, begin, end), leaf)
going_low lo hi (p ∷ ps) (Goes d ∷ fs) f may c at = elim (cases d c (going fs) at) [
  | inl is ↦
      let begin = may.0.begins in
      let same = ap (λ (x : CellSeen). rank x.lo) is in
      let low = f.0 in (omega (arith, begin, same, low), ap (λ (x : CellSeen). x.level) is ∙ may.0.level)
  | inr more ↦
      let (low, leaf) = going_low (piece_end p) hi ps fs f.2 may.2 c more in
      let begin = f.0 in
      let end = has_end p f.1 in (omega (arith, low, begin, end), leaf)
]
going_low lo hi (p ∷ ps) (Begins d e ∷ fs) f may c at = elim (cases d c (going fs) at) [
  | inl is ↦
      let begin = may.0.begins in
      let same = ap (λ (x : CellSeen). rank x.lo) is in
      let low = f.0 in (omega (arith, begin, same, low), ap (λ (x : CellSeen). x.level) is ∙ may.0.level)
  | inr more ↦
      let (low, leaf) = going_low (piece_end p) hi ps fs f.2 may.3 c more in
      let begin = f.0 in
      let end = has_end p f.1 in (omega (arith, low, begin, end), leaf)
]

-- its name
leaf_name : (hi : ℕ) (p : TwigPiece) (ps : List TwigPiece) (c : CellSeen) → IsLeafAt (next_of hi ps) p c
    → part_names (rank p.key) (next_of hi ps) p.part ≡ name_of c ∷ []
leaf_name hi p ps c e =
    let begin = sym e.begins in
    let end = sym e.ends in
    rw e.points (rw begin (rw end (rw e.level refl)))

first_named : (hi : ℕ) (p : TwigPiece) (ps : List TwigPiece) (d c : CellSeen) → IsLeafAt (next_of hi ps) p d → c ≡ d
    → Contains (names_of hi (p ∷ ps)) (name_of c)
unfolding names_of
first_named hi p ps d c leaf is =
    Contains-append_left (part_names (rank p.key) (next_of hi ps) p.part) (names_of hi ps) (name_of c)
    (subst (λ ns. Contains ns (name_of c)) (sym (leaf_name hi p ps d leaf))
    (subst (λ (x : CellSeen). Contains (name_of d ∷ []) (name_of x)) (sym is) (here (name_of d) [])))

pub going_named : (hi : ℕ) (ps : List TwigPiece) (fs : List Fate) → MayHave hi ps fs → (c : CellSeen)
    → Contains (going fs) c → Contains (names_of hi ps) (name_of c)
unfolding names_of
going_named hi [] [] may c at = absurd (none c at)
going_named hi [] (x ∷ fs) may c at = absurd may
going_named hi (p ∷ ps) [] may c at = absurd may
going_named hi (p ∷ ps) (Stays ∷ fs) may c at =
    Contains-append_right (part_names (rank p.key) (next_of hi ps) p.part) (names_of hi ps) (name_of c)
    (going_named hi ps fs may.1 c at)
going_named hi (p ∷ ps) (Goes d ∷ fs) may c at = elim (cases d c (going fs) at) [
  | inl is ↦ first_named hi p ps d c may.0 is
  | inr more ↦ Contains-append_right (part_names (rank p.key) (next_of hi ps) p.part) (names_of hi ps) (name_of c)
      (going_named hi ps fs may.2 c more)
]
going_named hi (p ∷ ps) (Begins d e ∷ fs) may c at = elim (cases d c (going fs) at) [
  | inl is ↦ first_named hi p ps d c may.0 is
  | inr more ↦ Contains-append_right (part_names (rank p.key) (next_of hi ps) p.part) (names_of hi ps) (name_of c)
      (going_named hi ps fs may.3 c more)
]

-- ---- names

part_same : (k a b : ℕ) (t : TwigPart) → (is_pointer t ≡ true → a ≡ b) → part_names k a t ≡ part_names k b t
part_same k a b (Pointer to) same = ap (λ n. part_names k n (Pointer to)) (same refl)
part_same k a b (Blocks u) same = refl

-- a leaf that begins behind the key has no name of the part
part_apart : (k next : ℕ) (t : TwigPart) (n : Name) (c : CellSeen) → Contains (part_names k next t) n → k < rank c.lo
    → c.level ≡ 1 → n ≡ name_of c → ⊥
part_apart k next (Pointer to) n c at less leaf is = elim (cases _ n [] at) [
  | inl one ↦
      let same = ap (λ (x : Name). x.lo) (sym one ∙ is) in omega (arith, same, less)
  | inr more ↦ none n more
]
part_apart k next (Blocks u) n c at less leaf is = by_hole (is_hole u) at
  where
    by_hole : (b : Bool) → Contains (if b then [] else run_names k u.start u.width) n → ⊥
    by_hole true m = none n m
    by_hole false m =
        let zero_level = runs_level k u.start u.width n m in
        let same = ap (λ (x : Name). x.level) is in omega (arith, zero_level, same, leaf)

-- what a leaf is named that begins later
later_name : (hi : ℕ) (p : TwigPiece) (ps qs : List TwigPiece) (c d : CellSeen) → IsLeafAt (next_of hi ps) p c
    → IsShortened c d → next_of hi qs ≡ next_of hi ps → part_names (rank d.lo) (next_of hi qs) p.part ≡ name_of d ∷ []
later_name hi p ps qs c d leaf short next =
    let end = sym leaf.ends in
    let to = sym (ap rank short.part.to) in
    let number = sym short.part.number in
    rw leaf.points (rw next (rw end (rw to (rw number (rw short.part.level_is refl)))))

-- the leaf has no name of one that begins behind it
behind_leaf : (hi : ℕ) (p : TwigPiece) (ps : List TwigPiece) (c : CellSeen) (gone : List CellSeen) (n : Name)
    → Follow (piece_end p) hi ps → rank p.key < piece_end p → IsLeafAt (next_of hi ps) p c → Contains (names_of hi ps) n
    → (IsNameOf gone n → ⊥) → IsNameOf (c ∷ gone) n → ⊥
behind_leaf hi p ps c gone n f end leaf had kept (x, mx, is) = elim (cases c x gone mx) [
  | inl one ↦
      let (low, more) = names_begin (piece_end p) hi hi ps n f had in
      let begin = leaf.begins in
      let same = ap (λ (y : CellSeen). rank y.lo) one in
      let at_lo = ap (λ (y : Name). y.lo) is in
      omega (arith, low, begin, same, at_lo, end)
  | inr more ↦ kept (x, more, is)
]

-- what the pieces that stay name, the pieces named, and no leaf has the name that goes; or one has it that comes
pub of_names : (lo hi : ℕ) (ps : List TwigPiece) (fs : List Fate) → Follow lo hi ps → MayHave hi ps fs → (n : Name)
    → Contains (names_of hi (staying ps fs)) n
    → (Contains (names_of hi ps) n × (IsNameOf (going fs) n → ⊥)) ⊎ IsNameOf (coming fs) n
unfolding names_of
of_names lo hi [] [] f may n at = absurd (none n at)
of_names lo hi [] (x ∷ fs) f may n at = absurd may
of_names lo hi (p ∷ ps) [] f may n at = absurd may
of_names lo hi (p ∷ ps) (Stays ∷ fs) f may n at =
    elim (Contains-append_cases (part_names (rank p.key) (next_of hi (staying ps fs)) p.part) (names_of hi (staying ps fs)) n at) [
      | inl mine ↦ inl (
        Contains-append_left (part_names (rank p.key) (next_of hi ps) p.part) (names_of hi ps) n
            (subst (λ ns. Contains ns n)
            (part_same (rank p.key) (next_of hi (staying ps fs)) (next_of hi ps) p.part may.0) mine),
        (λ (c, mc, is).
            let (low, leaf) = going_low (piece_end p) hi ps fs f.2 may.1 c mc in
            let end = has_end p f.1 in
            part_apart (rank p.key) (next_of hi (staying ps fs)) p.part n c mine (omega (arith, low, end)) leaf is),
      )
      | inr more ↦ elim (of_names (piece_end p) hi ps fs f.2 may.1 n more) [
        | inl (had, kept) ↦ inl (
          Contains-append_right (part_names (rank p.key) (next_of hi ps) p.part) (names_of hi ps) n had,
          kept,
        )
        | inr comes ↦ inr comes
      ]
    ]
of_names lo hi (p ∷ ps) (Goes d ∷ fs) f may n at = elim (of_names (piece_end p) hi ps fs f.2 may.2 n at) [
  | inl (had, kept) ↦ inl (
    Contains-append_right (part_names (rank p.key) (next_of hi ps) p.part) (names_of hi ps) n had,
    behind_leaf hi p ps d (going fs) n f.2 (has_end p f.1) may.0 had kept,
  )
  | inr comes ↦ inr comes
]
of_names lo hi (p ∷ ps) (Begins c d ∷ fs) f may n at =
    elim (Contains-append_cases (part_names (rank d.lo) (next_of hi (staying ps fs)) p.part) (names_of hi (staying ps fs)) n at) [
      | inl mine ↦ elim (cases (name_of d) n []
          (subst (λ ns. Contains ns n) (later_name hi p ps (staying ps fs) c d may.0 may.1 may.2) mine)) [
            | inl is ↦ inr (d, here d (coming fs), is)
            | inr more ↦ absurd (none n more)
          ]
      | inr more ↦ elim (of_names (piece_end p) hi ps fs f.2 may.3 n more) [
        | inl (had, kept) ↦ inl (
          Contains-append_right (part_names (rank p.key) (next_of hi ps) p.part) (names_of hi ps) n had,
          behind_leaf hi p ps c (going fs) n f.2 (has_end p f.1) may.0 had kept,
        )
        | inr (e, me, is) ↦ inr (e, later d e (coming fs) me, is)
      ]
    ]

-- the rest of the names, where the first one is a leaf's that goes
rest_named : (hi : ℕ) (p : TwigPiece) (ps : List TwigPiece) (d : CellSeen) (gone : List CellSeen) (n : Name)
    → IsLeafAt (next_of hi ps) p d → Contains (names_of hi (p ∷ ps)) n → (IsNameOf (d ∷ gone) n → ⊥)
    → Contains (names_of hi ps) n × (IsNameOf gone n → ⊥)
unfolding names_of
rest_named hi p ps d gone n leaf at kept =
    elim (Contains-append_cases (part_names (rank p.key) (next_of hi ps) p.part) (names_of hi ps) n at) [
      | inl mine ↦ elim (cases (name_of d) n [] (subst (λ ns. Contains ns n) (leaf_name hi p ps d leaf) mine)) [
        | inl is ↦ absurd (kept (d, here d gone, is))
        | inr more ↦ absurd (none n more)
      ]
      | inr more ↦ (more, (λ (c, mc, is). kept (c, later d c gone mc, is)))
    ]

pub to_names : (hi : ℕ) (ps : List TwigPiece) (fs : List Fate) → MayHave hi ps fs → (n : Name)
    → Contains (names_of hi ps) n → (IsNameOf (going fs) n → ⊥) → Contains (names_of hi (staying ps fs)) n
unfolding names_of
to_names hi [] [] may n at kept = at
to_names hi [] (x ∷ fs) may n at kept = absurd may
to_names hi (p ∷ ps) [] may n at kept = absurd may
to_names hi (p ∷ ps) (Stays ∷ fs) may n at kept =
    elim (Contains-append_cases (part_names (rank p.key) (next_of hi ps) p.part) (names_of hi ps) n at) [
      | inl mine ↦
          Contains-append_left (part_names (rank p.key) (next_of hi (staying ps fs)) p.part) (names_of hi (staying ps fs)) n
          (subst (λ ns. Contains ns n)
          (sym (part_same (rank p.key) (next_of hi (staying ps fs)) (next_of hi ps) p.part may.0)) mine)
      | inr more ↦
          Contains-append_right (part_names (rank p.key) (next_of hi (staying ps fs)) p.part) (names_of hi (staying ps fs)) n
          (to_names hi ps fs may.1 n more kept)
    ]
to_names hi (p ∷ ps) (Goes d ∷ fs) may n at kept =
    let (more, rest) = rest_named hi p ps d (going fs) n may.0 at kept in to_names hi ps fs may.2 n more rest
to_names hi (p ∷ ps) (Begins c d ∷ fs) may n at kept =
    let (more, rest) = rest_named hi p ps c (going fs) n may.0 at kept in
    Contains-append_right (part_names (rank d.lo) (next_of hi (staying ps fs)) p.part) (names_of hi (staying ps fs)) n
    (to_names hi ps fs may.3 n more rest)

pub coming_named : (hi : ℕ) (ps : List TwigPiece) (fs : List Fate) → MayHave hi ps fs → (d : CellSeen)
    → Contains (coming fs) d → Contains (names_of hi (staying ps fs)) (name_of d)
unfolding names_of
coming_named hi [] [] may d at = absurd (none d at)
coming_named hi [] (x ∷ fs) may d at = absurd may
coming_named hi (p ∷ ps) [] may d at = absurd may
coming_named hi (p ∷ ps) (Stays ∷ fs) may d at =
    Contains-append_right (part_names (rank p.key) (next_of hi (staying ps fs)) p.part) (names_of hi (staying ps fs))
    (name_of d) (coming_named hi ps fs may.1 d at)
coming_named hi (p ∷ ps) (Goes c ∷ fs) may d at = coming_named hi ps fs may.2 d at
coming_named hi (p ∷ ps) (Begins c e ∷ fs) may d at = elim (cases e d (coming fs) at) [
  | inl is ↦ Contains-append_left (part_names (rank e.lo) (next_of hi (staying ps fs)) p.part) (names_of hi (staying ps fs))
      (name_of d) (subst (λ ns. Contains ns (name_of d)) (sym (later_name hi p ps (staying ps fs) c e may.0 may.1 may.2))
      (subst (λ (x : CellSeen). Contains (name_of e ∷ []) (name_of x)) (sym is) (here (name_of e) [])))
  | inr more ↦ Contains-append_right (part_names (rank e.lo) (next_of hi (staying ps fs)) p.part)
      (names_of hi (staying ps fs)) (name_of d) (coming_named hi ps fs may.3 d more)
]
