-- The pieces of a twig that may stand: each block of an extent lies in its range, and holes that get no bytes stay.
use Rattle.std.specs.Prelude.{◌≡◌, ◌⊎◌, ℕ, zero, suc, ◌+◌, ◌*◌, ◌^◌, ◌<◌, ◌≤◌, List, [], ◌∷◌, Bool, true, false}
use Rattle.std.specs.Prelude.{◌==◌, Contains, if◌then◌else◌}
use Rattle.std.proofs.Common.{arith, inl, inr, refl, sym, ap, subst, ◌∙◌}
use Rattle.std.proofs.lemmas.Bool.{eq-eqb}
use Rattle.std.proofs.lemmas.List.Elements.{Contains-append_cases, Contains-append_left, Contains-append_right}
use Rattle.r4_base.specs.Cell.{is_extent, item_end, next_key, run_names, spans_in}
use Rattle.r4_base.specs.Extents.{blocks_in, is_hole, units_of as units_of_body}
use Rattle.r4_base.specs.Key.{key_of_rank, later as behind, offset_of, rank}
use Rattle.r4_base.specs.Node.{Item}
use Rattle.r4_base.specs.Tree.{InSpan, IsData, Name, Span}
use Rattle.r4_base.specs.declared.items.Unit.{Unit as ExtentUnit}
use Rattle.r4_base.specs.declared.key.Key.{Key}
use Rattle.r4_build.specs.r4_branch.Items.{IsSoundItem, Lie}
use Rattle.r4_build.specs.r4_branch.Pieces.{Follow, IsSound, IsSoundPart, item_pieces, names_of, next_of, part_names, piece_end}
use Rattle.r4_build.specs.r4_branch.Pieces.{pieces_in, unit_pieces}
use Rattle.r4_build.specs.r4_branch.declared.piece.TwigPart.{TwigPart}
use Rattle.r4_build.specs.r4_branch.declared.piece.TwigPart.TheVariants.{Blocks, Pointer}
use Rattle.r4_build.specs.r4_branch.declared.piece.TwigPiece.{TwigPiece}
use Rattle.r4_build.proofs.r4_branch.ItemPieces.{extent_pieces, pointer_pieces}
use Rattle.r4_build.proofs.r4_branch.SoundItems.{extent_item}
use Rattle.r4_build.proofs.r4_branch.UnitPieces.{rank_later, some_width}
use Rattle.r4_build.proofs.r4_patch.Members.{cases, here, none}
use Rattle.r4_build.specs.r4_reach.Needs.{runs, widened}

-- ---- blocks lie in the range of their extent

abbrev pub part_spanned : List Span → (key : ℕ) → TwigPart → Type 0
part_spanned ss k (Pointer to) = Unit {0}
part_spanned ss k (Blocks u) = (j : ℕ) → k ≤ j → j < k + 4096 * u.width → (s : Span) × Contains ss s × InSpan s j

abbrev pub IsSpanned : List Span → TwigPiece → Type 0
IsSpanned ss p = part_spanned ss (rank p.key) p.part

-- a piece of units
record IsUnitOf (low high : ℕ) (p : TwigPiece) : Type 0 where
  unit : ExtentUnit
  part : p.part ≡ Blocks unit
  from : low ≤ rank p.key
  to : rank p.key + 4096 * unit.width ≤ high

unit_at : (k : Key) (n : ℕ) (us : List ExtentUnit) (p : TwigPiece) → Contains (unit_pieces k n us) p
    → IsUnitOf (rank k + 4096 * n) (rank k + 4096 * (n + blocks_in us)) p
unit_at k n [] p h = absurd (none p h)
unit_at k n (u ∷ us) p h = elim
    (cases (record { key = behind k (4096 * n); part = Blocks u }) p (unit_pieces k (n + u.width) us) h) [
      | inl is ↦
          let at = rank_later k (4096 * n) in
          let same : rank p.key ≡ rank k + 4096 * n = ap (λ (q : TwigPiece). rank q.key) is ∙ at in
          record {
            unit = u;
            part = ap (λ (q : TwigPiece). q.part) is;
            from = omega (arith, same);
            to = omega (arith, same);
          }
      | inr more ↦
          let rest = unit_at k (n + u.width) us p more in
          let from = rest.from in
          let to = rest.to in
          record { unit = rest.unit; part = rest.part; from = omega (arith, from); to = omega (arith, to) }
    ]

spanned_of : (ss : List Span) (k : ℕ) (part : TwigPart) (u : ExtentUnit) → part ≡ Blocks u
    → ((j : ℕ) → k ≤ j → j < k + 4096 * u.width → (s : Span) × Contains ss s × InSpan s j) → part_spanned ss k part
spanned_of ss k part u is h = subst (part_spanned ss k) (sym is) h

wider : (ss rs : List Span) (k : ℕ) (part : TwigPart) → ((s : Span) → Contains ss s → Contains rs s)
    → part_spanned ss k part → part_spanned rs k part
wider ss rs k (Pointer to) le h = tt
wider ss rs k (Blocks u) le h = λ j from to. let (s, has, at) = h j from to in (s, le s has, at)

-- the range of an item that is an extent
abbrev own_span : (hi : ℕ) → Item → List Item → List Span
own_span hi x xs = if is_extent x then (record { lo = rank x.key; hi = next_key hi xs } ∷ []) else []

its_span : (hi : ℕ) (x : Item) (xs : List Item) → x.plugin ≡ 5
    → Contains (own_span hi x xs) (record { lo = rank x.key; hi = next_key hi xs })
its_span hi x xs is =
    let one : Contains (record { lo = rank x.key; hi = next_key hi xs } ∷ [])
    (record { lo = rank x.key; hi = next_key hi xs }) =
    here (record { lo = rank x.key; hi = next_key hi xs }) [] in
    let test : (x.plugin == 5) ≡ true = eq-eqb x.plugin 5 is in
    rw test one

end_next : (hi : ℕ) (x : Item) (xs : List Item) → Lie (item_end x) hi xs → item_end x ≤ next_key hi xs
end_next hi x [] h = h
end_next hi x (y ∷ ys) h = h.0

item_spanned : (hi : ℕ) (x : Item) (xs : List Item) → IsSoundItem x → Lie (item_end x) hi xs → (p : TwigPiece)
    → Contains (item_pieces x) p → IsSpanned (own_span hi x xs) p
item_spanned hi x xs s rest p has = by_plugin s.plugin
  where
    by_plugin : (x.plugin ≡ 3) ⊎ (x.plugin ≡ 5) → IsSpanned (own_span hi x xs) p
    by_plugin (inl is) =
        let one = pointer_pieces x is in
        elim (cases _ p [] (subst (λ (ps : List TwigPiece). Contains ps p) one has)) [
          | inl same ↦ subst (λ (q : TwigPiece). IsSpanned (own_span hi x xs) q) (sym same) tt
          | inr more ↦ absurd (none p more)
        ]
    by_plugin (inr is) =
        let own = extent_item x is s in
        let end = own.end in
        let next = end_next hi x xs rest in
        let at = unit_at x.key 0 (units_of_body x.body) p
        (subst (λ (ps : List TwigPiece). Contains ps p) (extent_pieces x is) has) in
        let from = at.from in
        let to = at.to in
        spanned_of (own_span hi x xs) (rank p.key) p.part at.unit at.part
        (λ j low high. (
          record { lo = rank x.key; hi = next_key hi xs },
          its_span hi x xs is,
          (omega (arith, from, low), omega (arith, high, to, end, next)),
        ))

-- each block of a piece lies in the range of an extent
pub pieces_spanned : (from hi : ℕ) (xs : List Item) → Lie from hi xs → (p : TwigPiece) → Contains (pieces_in xs) p
    → IsSpanned (spans_in hi xs) p
unfolding spans_in
pieces_spanned from hi [] h p has = absurd (none p has)
pieces_spanned from hi (x ∷ xs) h p has = elim (Contains-append_cases (item_pieces x) (pieces_in xs) p has) [
  | inl own ↦ wider (own_span hi x xs) (spans_in hi (x ∷ xs)) (rank p.key) p.part
      (λ s at. Contains-append_left (own_span hi x xs) (spans_in hi xs) s at)
      (item_spanned hi x xs h.1 h.2 p own)
  | inr more ↦ wider (spans_in hi xs) (spans_in hi (x ∷ xs)) (rank p.key) p.part
      (λ s at. Contains-append_right (own_span hi x xs) (spans_in hi xs) s at)
      (pieces_spanned (item_end x) hi xs h.2 p more)
]

-- ---- a piece of blocks names them

sound_in : (from to : ℕ) (ps : List TwigPiece) → Follow from to ps → (p : TwigPiece) → Contains ps p → IsSound p
sound_in from to [] f p has = absurd (none p has)
sound_in from to (q ∷ qs) f p has = elim (cases q p qs has) [
  | inl is ↦ subst IsSound (sym is) f.1
  | inr more ↦ sound_in (piece_end q) to qs f.2 p more
]

first_run : (k start n : ℕ) → 1 ≤ n → (m : Name) × Contains (run_names k start n) m × IsData m × (m.id ≡ start)
first_run k start zero some = absurd (omega (arith, some))
first_run k start (suc n) some = (_, here _ _, refl, refl)

piece_names : (next k : ℕ) (u : ExtentUnit) → is_hole u ≡ false → 1 ≤ u.width
    → (m : Name) × Contains (part_names k next (Blocks u)) m × IsData m × (m.id ≡ u.start)
piece_names next k u block some = by_test (is_hole u) block
  where
    by_test : (v : Bool) → v ≡ false
        → (m : Name) × Contains (if v then [] else run_names k u.start u.width) m × IsData m × (m.id ≡ u.start)
    by_test false h = first_run k u.start u.width some
    by_test true h = absurd cc

named_in : (hi : ℕ) (ps : List TwigPiece) (p : TwigPiece) (u : ExtentUnit) → Contains ps p → p.part ≡ Blocks u
    → is_hole u ≡ false → 1 ≤ u.width → (m : Name) × Contains (names_of hi ps) m × IsData m × (m.id ≡ u.start)
unfolding names_of
named_in hi [] p u has is block some = absurd (none p has)
named_in hi (q ∷ qs) p u has is block some = elim (cases q p qs has) [
  | inl same ↦
      let (m, at, block_level, id) = piece_names (next_of hi qs) (rank q.key) u block some in
      let part : Blocks u ≡ q.part = sym is ∙ ap (λ (x : TwigPiece). x.part) same in (
        m,
        Contains-append_left _ (names_of hi qs) m
            (subst (λ (x : TwigPart). Contains (part_names (rank q.key) (next_of hi qs) x) m) part at),
        block_level,
        id,
      )
  | inr more ↦
      let (m, at, block_level, id) = named_in hi qs p u more is block some in
      (m, Contains-append_right (part_names (rank q.key) (next_of hi qs) q.part) (names_of hi qs) m at, block_level, id)
]

pub block_named : (from hi to : ℕ) (ps : List TwigPiece) (p : TwigPiece) (u : ExtentUnit) → Follow from to ps
    → Contains ps p → p.part ≡ Blocks u → is_hole u ≡ false
    → (m : Name) × Contains (names_of hi ps) m × IsData m × (m.id ≡ u.start)
block_named from hi to ps p u f has is block =
    let sound = sound_in from to ps f p has in
    let lawful = (subst (λ (x : TwigPart). IsSoundPart (offset_of p.key) x) is sound.1).0 in
    named_in hi ps p u has is block (some_width u lawful)

-- ---- holes that get no bytes

abbrev pub hole : (key width : ℕ) → TwigPiece
hole k w = record { key = key_of_rank k; part = Blocks (record { start = 0; width = w }) }

one_hole : (k w : ℕ) → widened k (hole (k + 4096) w ∷ []) ≡ hole k (w + 1) ∷ []
one_hole k w = refl

-- so many blocks without bytes are one hole, or none
pub run_is_hole : (gets : ℕ → Bool) (k n : ℕ) → ((j : ℕ) → k ≤ j → j + 4096 ≤ k + 4096 * n → gets j ≡ false)
    → (runs gets k n ≡ []) ⊎ ((w : ℕ) × (runs gets k n ≡ hole k w ∷ []))
run_is_hole gets k zero h = inl refl
run_is_hole gets k (suc n) h =
    let own = h k (omega arith) (omega arith) in
    let step : runs gets k (suc n) ≡ widened k (runs gets (k + 4096) n) =
    ap (λ (v : Bool). if v then record { key = key_of_rank k; part = Blocks (record { start = 2 ^ 63; width = 1 }) } ∷
    runs gets (k + 4096) n
    else widened k (runs gets (k + 4096) n)) own in
    elim (run_is_hole gets (k + 4096) n (λ j from to. h j (omega (arith, from)) (omega (arith, to)))) [
      | inl no_more ↦ inr (1, step ∙ ap (widened k) no_more)
      | inr more ↦ let (w, is) = more in inr (w + 1, step ∙ (ap (widened k) is ∙ one_hole k w))
    ]
