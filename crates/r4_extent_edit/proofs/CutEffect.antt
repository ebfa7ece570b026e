-- What blocks that are cut out of a twig's extents do to units.
use Rattle.std.specs.Prelude.{◌≡◌, ◌↔◌, ◌==◌, ℕ, ◌+◌, ◌<◌, ◌≤◌, ◌⊎◌, Bool, true, false, List, [], ◌∷◌, ◌++◌, length}
use Rattle.std.specs.Prelude.{Contains, None, Option, Some, reverse}
use mathlib.Core.Path.{refl, sym, ap, subst, ◌∙◌}
use mathlib.Core.Logic.{inl, inr}
use native.Mathlib.Omega.{arith}
use Rattle.std.proofs.lemmas.List.{append-nil}
use Rattle.std.proofs.lemmas.List.Elements.{Contains-append_cases, Contains-append_left, Contains-append_right}
use Rattle.std.proofs.lemmas.Option.{none-some, same_Some}
use Rattle.r4_base.specs.Key.{rank}
use Rattle.r4_base.specs.Node.{mkfs_id_of}
use Rattle.r4_base.specs.Tree.{Holds, InName, IsData, IsNode, Name, Root, Store}
use Rattle.r4_base.specs.Value.{Value}
use Rattle.r4_base.specs.declared.key.Key.{Key}
use Rattle.r4_work.specs.r4_branch.Pieces.{Follow, piece_end}
use Rattle.r4_work.specs.r4_branch.declared.piece.TwigPiece.{TwigPiece}
use Rattle.r4_work.specs.r4_cell.Seen.{CellSeen, node_of}
use Rattle.r4_work.specs.r4_cell.declared.change.Change.{Change}
use Rattle.r4_work.specs.r4_cell.declared.change.Fresh.{Fresh}
use Rattle.r4_work.proofs.r4_graft.Placed.{follow_end, has_end}
use Rattle.r4_work.specs.r4_leaf.Units.{cut_units, is_between}
use Rattle.r4_work.specs.r4_patch.Effect.{Placed}
use Rattle.r4_work.proofs.r4_patch.Holding.{find_name}
use Rattle.r4_work.proofs.r4_patch.Members.{cases, here, none}
use Rattle.r4_work.specs.r4_path.Grafts.{GraftsUp}
use Rattle.r4_work.specs.r4_path.Steps.{fresh_ids, name_of}
use Rattle.r4_work.specs.r4_path.TwigPieces.{ArePiecesOf, twig_pieces}
use Rattle.r4_work.proofs.r4_path.Rising.{in_cell, in_node, level_is}
use Rattle.r4_work.specs.r4_edit.CutBlocks.{BeginsAt, CutsIn, CutsUp, IsCutIn, IsCutUp, IsLeftOf, IsTakenUp, cut_pieces}
use Rattle.r4_work.specs.r4_edit.CutBlocks.{end_key, new_pointer, numbers_for, parted_twice, pieces_between}
use Rattle.r4_work.specs.r4_edit.Extents.{given_cells}
use Rattle.r4_work.proofs.r4_edit.CutParts.{split}
use Rattle.r4_work.proofs.UnitMembers.{between}
use Rattle.r4_extent_edit.specs.Effects.{EditsUnits, IsMadeIn, MayStandUp, no_values, patch_with}
use Rattle.r4_extent_edit.proofs.ExtentEffect.{both_ways, is_off, is_on}
use Rattle.r4_extent_edit.proofs.GraftEffect.{Comes, IsHeldBelow, IsPlacedIn, IsRepacked, Was, below_there}
use Rattle.r4_extent_edit.proofs.GraftEffect.{graft_effect, graft_names, graft_root, twig_stands}
use Rattle.r4_extent_edit.proofs.PutEffect.{cut_members}
use Rattle.r4_extent_edit.proofs.SpanBorders.{sound_pieces}
use Rattle.r4_extent_edit.proofs.WholeBlocks.{whole_blocks}

begins_low : (k from to : ℕ) (qs : List TwigPiece) → Follow from to qs → BeginsAt k qs → k < to
begins_low k from to [] f begins = absurd begins
begins_low k from to (q ∷ qs) f begins =
    let e = has_end q f.1 in
    let r = follow_end (piece_end q) to qs f.2 in
    omega (arith, e, r, begins)

-- a new leaf has no units, and the next number
empty_none : (ps : List TwigPiece) (id : ℕ) (hi : Key) (mkfs_id : ℕ) (cells : List CellSeen)
    → IsTakenUp None ps id hi mkfs_id cells
    → (k : ℕ) (u : Placed Value) → IsPlacedIn cells k u → ⊥
empty_none [] id hi mkfs_id cells same k u (x, at, has, kind) = none x (subst (λ xs. Contains xs x) same at)
empty_none (p ∷ ps) id hi mkfs_id cells (d, same, new) k u (x, at, has, kind) = elim (cases d x [] (subst
    (λ xs. Contains xs x) same at)) [
      | inr none_is ↦ none x none_is
      | inl this ↦ none (k, u.0) (subst (λ us. Contains us (k, u.0)) (ap (λ (z : CellSeen). (node_of z).units) this
          ∙ new.units) has)
    ]

empty_name : (ps : List TwigPiece) (id : ℕ) (hi : Key) (mkfs_id : ℕ) (cells : List CellSeen)
    → IsTakenUp None ps id hi mkfs_id cells
    → (x : CellSeen) → Contains cells x → (id ≤ x.id) × (x.id < id + length ps)
empty_name [] id hi mkfs_id cells same x at = absurd (none x (subst (λ xs. Contains xs x) same at))
empty_name (p ∷ ps) id hi mkfs_id cells (d, same, new) x at = elim (cases d x [] (subst
    (λ xs. Contains xs x) same at)) [
      | inr none_is ↦ absurd (none x none_is)
      | inl this ↦
          let e : x.id ≡ id = ap (λ (z : CellSeen). z.id) this ∙ new.number in
          (omega (arith, e), omega (arith, e))
    ]

module _ {t : Store Value} {r : Root} {leaf : Option CellSeen} {blocks : List CellSeen} {from to : ℕ} {before after
    mid : Fresh}
    {twig : CellSeen} {ups : List CellSeen} {path : List CellSeen} {c : Change}
    (is : IsCutIn t r leaf blocks from to before twig ups)
    (does : CutsIn path leaf blocks from to before after c twig) (are : ArePiecesOf twig (twig_pieces twig))
    (g : IsRepacked t r twig ups (cut_pieces from to before.next leaf twig) (record {
      old = blocks
          ++ given_cells leaf;
      new = does.come;
    })
    [] mid after does.grafts.change c)
    (mid_is : mid.next ≡ before.next + numbers_for leaf (new_pointer from to before.next leaf (parted_twice from to
    (twig_pieces twig)))) where
  abbrev at : ℕ → Bool
  at = is_between from to

  node : IsNode (node_of twig)
  node = g.part.nodes twig.id (node_of twig) (twig_stands g)

  -- ---- the blocks that go

  block_name : (x : CellSeen) → Contains blocks x → Contains (node_of twig).names (name_of x) × ((x.level ≡ 0)
      × ((from ≤ rank x.lo) × (rank x.lo < to)))
  block_name x at_x = (is.goes (name_of x)).0 (x, at_x, refl)

  -- all their keys go
  block_in : (x : CellSeen) → Contains blocks x → (from ≤ rank x.lo) × (rank x.hi ≤ to)
  block_in x at_x =
      let h = block_name x at_x in
      let low = h.1.1.0 in
      let high = h.1.1.1 in
      let some = node.name_nonempty (name_of x) h.0 in
      elim (whole_blocks twig are from to is.low is.some is.high is.first_border is.second_border
      (name_of x) h.0 h.1.0) [
        | inl beside ↦ absurd (elim beside [
          | inl below ↦ omega (arith, below, some, low)
          | inr behind ↦
              omega (arith, behind, high)
        ])
        | inr inside ↦ inside
      ]

  block_units : (x : CellSeen) (k : ℕ) (v : Value) → Contains blocks x → Contains (node_of x).units (k, v) → at k ≡ true
  block_units x k v at_x has =
      let x_node = g.part.nodes x.id (node_of x) (is.stand x at_x) in
      let range = in_cell x k (x_node.unit_in k v has) in
      let b = block_in x at_x in
      is_on from to k (omega (arith, range, b)) (omega (arith, range, b))

  -- a block that has one of the keys goes
  block_goes : (n : Name) (k : ℕ) → Contains (node_of twig).names n → IsData n → InName n k → from ≤ k → k < to
      → (x : CellSeen) × (Contains blocks x × (n ≡ name_of x))
  block_goes n k named block range low high = elim (whole_blocks twig are from to is.low is.some is.high
      is.first_border is.second_border n named block) [
        | inl beside ↦ absurd (elim beside [
          | inl below ↦ omega (arith, below, range, low)
          | inr behind ↦
              omega (arith, behind, range, high)
        ])
        | inr inside ↦
            let h = (is.goes n).1 (named, (block, (inside.0, omega (arith, range, high)))) in
            (h.0, (h.1, h.2))
      ]

  held : (k : ℕ) → at k ≡ true → IsHeldBelow g k
  held k on =
      let (low, high) = between from to k on in
      let first = is.low in
      let last = is.high in
      elim (find_name (node_of twig).names k) [
        | inl h ↦
            let (n, named, block, range) = h in
            let (x, (at_x, same)) = block_goes n k named block range low high in
            let l = level_is x in
            let zero_is = (block_name x at_x).1.0 in
            let a : n.lo ≡ rank x.lo = ap (λ (m : Name). m.lo) same in
            let b : n.hi ≡ rank x.hi = ap (λ (m : Name). m.hi) same in (
              x,
              inl (Contains-append_left blocks (given_cells leaf) x at_x),
              inl (
                omega
                    (arith, l, zero_is),
                in_node x k (omega (arith, range, a), omega (arith, range, b)),
              ),
            )
        | inr free ↦ (twig, inr refl, twig_own k low high free)
      ]
    where
      twig_own : (k : ℕ) → from ≤ k → k < to → ((n : Name) → Contains (node_of twig).names n → IsData n → InName n k
          → ⊥) → Holds (node_of twig) k
      twig_own k low high free =
          let first = is.low in
          let last = is.high in
          let l = level_is twig in
          let two = g.level in
          elim (node.covered k (omega (arith, l, two)) (in_node twig k (
            omega (arith, first, low),
            omega
                (arith, last, high),
          ))) [
            | inl h ↦
                let (n, named, up, range) = h in
                let one : n.level ≡ 1 = omega (arith, up, l, two) in
                absurd (elim (is.clear n named one) [
                  | inl below ↦ omega (arith, below, range, low)
                  | inr behind ↦
                      omega (arith, behind, range, high)
                ])
            | inr h ↦ let (s, spans, range) = h in inr (s, spans, range, free)
          ]

  -- ---- the leaf that takes up their range

  abbrev going : List TwigPiece
  going = pieces_between from to (parted_twice from to (twig_pieces twig))

  abbrev pointer : Option CellSeen → List TwigPiece
  pointer o = new_pointer from to before.next o (parted_twice from to (twig_pieces twig))

  left_clear : (l : CellSeen) → IsLeftOf t twig going (Some l) → rank l.hi ≤ from
  left_clear l left =
      let split_is = split (rank twig.lo) (rank twig.hi) from to
      (twig_pieces twig) are.pieces.follow is.low is.some is.high is.first_border is.second_border in
      let first = begins_low (rank l.hi) from to going split_is.mid left.ends in
      let some = node.name_nonempty (name_of l) left.named in
      elim (is.clear (name_of l) left.named left.level_is) [
        | inl below ↦ below
        | inr behind ↦ absurd (omega (arith, behind, some, first))
      ]

  -- what comes has the units of the leaf that is given, and else none
  come_units : (o : Option CellSeen) → IsTakenUp o (pointer o) before.next (end_key from to twig)
      (mkfs_id_of twig.block) does.come
      → (k : ℕ) (u : Placed Value) → IsPlacedIn does.come k u ↔ IsPlacedIn (given_cells o) k u
  come_units None taken k u = (
    λ x. absurd (empty_none (pointer None) before.next (end_key from to twig)
        (mkfs_id_of twig.block) does.come taken k u x),
    λ x. absurd (none x.0 x.1),
  )
  come_units (Some l) (d, same, wide) k u =
      let level : d.level ≡ l.level = ap (λ (x : CellSeen). x.level) wide.is in (
        λ (x, at_x, has, kind). elim (cases d x [] (subst (λ cells. Contains cells x) same at_x)) [
          | inr none_is ↦ absurd (none x none_is)
          | inl this ↦ (
            l,
            here l [],
            subst (λ us. Contains us (k, u.0)) (ap (λ (z : CellSeen).
                (node_of z).units) this ∙ wide.units) has,
            ap (λ (n : ℕ). n == 1) (sym (ap (λ
                (z : CellSeen). z.level) this ∙ level)) ∙ kind,
          )
        ],
        λ (x, at_x, has, kind). elim (cases l x [] at_x) [
          | inr none_is ↦ absurd (none x none_is)
          | inl this ↦ (
            d,
            subst (λ cells. Contains cells d) (sym same) (here d []),
            subst (λ us. Contains us (k, u.0)) (ap (λ (z : CellSeen). (node_of z).units) this ∙ sym wide.units) has,
            ap (λ (n : ℕ). n == 1) (level ∙ sym (ap (λ (z : CellSeen). z.level) this)) ∙ kind,
          )
        ],
      )

  leaf_off : (o : Option CellSeen) → IsLeftOf t twig going o → (k : ℕ) (u : Placed Value)
      → IsPlacedIn (given_cells o) k u → at k ≡ false
  leaf_off None left k u (x, at_x, has, kind) = absurd (none x at_x)
  leaf_off (Some l) left k u (x, at_x, has, kind) = elim (cases l x [] at_x) [
    | inr none_is ↦ absurd (none x none_is)
    | inl this ↦
        let l_node = g.part.nodes l.id (node_of l) left.stands in
        let range = in_cell l k (l_node.unit_in k u.0 (subst (λ (z : CellSeen). Contains (node_of z).units
        (k, u.0)) this has)) in
        let clear = left_clear l left in
        is_off from to k (λ a b. omega (arith, a, range, clear))
  ]

  -- ---- the effect

  come_from : (k : ℕ) (u : Placed Value) → Comes g k u → IsPlacedIn (given_cells leaf) k u
      ⊎ (Contains (cut_units from to (node_of twig).units) (k, u.0) × (u.1 ≡ false))
  come_from k u h = elim h [
    | inl low ↦ let (x, at_x, has, kind) = low in inl ((come_units leaf does.taken_up k u).0 (
      x,
      subst
          (λ cells. Contains cells x) (append-nil does.come) at_x,
      has,
      kind,
    ))
    | inr mine ↦ inr (subst (λ us. Contains us (k, u.0)) does.units mine.0, mine.1)
  ]

  come_to : (k : ℕ) (u : Placed Value) → IsPlacedIn (given_cells leaf) k u
      ⊎ (Contains (cut_units from to (node_of twig).units) (k, u.0) × (u.1 ≡ false)) → Comes g k u
  come_to k u h = elim h [
    | inl low ↦ let (x, at_x, has, kind) = (come_units leaf does.taken_up k u).1 low in
        inl (x, subst (λ cells. Contains cells x) (sym (append-nil does.come)) at_x, has, kind)
    | inr mine ↦ inr (subst (λ us. Contains us (k, u.0)) (sym does.units) mine.0, mine.1)
  ]

  says : (k : ℕ) (u : Placed Value) → at k ≡ true → Comes g k u ↔ (no_values k ≡ Some u)
  says k u on = (
    λ x. absurd (elim (come_from k u x) [
      | inl low ↦ both_ways (at k) on (leaf_off leaf is.left k u low)
      | inr mine ↦ both_ways (at k) on ((cut_members from to (node_of twig).units k u.0).0 mine.0).1
    ]),
    λ e. absurd (none-some u e),
  )

  same_there : (k : ℕ) (u : Placed Value) → at k ≡ false → Comes g k u ↔ Was g k u
  same_there k u off = (
    λ x. elim (come_from k u x) [
      | inl low ↦ let (y, at_y, has, kind) = low in inl (
        y,
        Contains-append_right blocks
            (given_cells leaf) y at_y,
        has,
        kind,
      )
      | inr mine ↦ inr (((cut_members from to (node_of twig).units k u.0).0 mine.0).0, mine.1)
    ],
    λ x. come_to k u (elim x [
      | inl low ↦ let (y, at_y, has, kind) = low in elim (Contains-append_cases blocks (given_cells leaf) y at_y) [
        | inl block ↦ absurd (both_ways (at k) (block_units y k u.0 block has) off)
        | inr given ↦ inl (y, given, has, kind)
      ]
      | inr mine ↦ inr ((cut_members from to (node_of twig).units k u.0).1 (mine.0, off), mine.1)
    ]),
  )

  -- ---- names

  abbrev InTaken : CellSeen → Type 0
  InTaken x = (before.next ≤ x.id) × (x.id < after.next)

  later_next : mid.next ≤ after.next
  later_next = let n : after.next ≡ mid.next + length (fresh_ids (g.grafts.lowest
      ∷ g.grafts.more) g.grafts.over) = ap (λ (f : Fresh). f.next) g.grafts.number in omega (arith, n)

  come_name : (o : Option CellSeen) → ((l : CellSeen) → o ≡ Some l → Contains (blocks ++ given_cells leaf) l)
      → mid.next ≡ before.next + numbers_for o (pointer o)
      → IsTakenUp o (pointer o) before.next (end_key from to twig) (mkfs_id_of twig.block) does.come
      → (x : CellSeen) → Contains does.come x → (patch_with c []).old x.id ≡ None → InTaken x
  come_name None in_old n taken x at_x gone =
      let w = empty_name (pointer None) before.next (end_key from to twig)
      (mkfs_id_of twig.block) does.come taken x at_x in
      let l = later_next in
      (omega (arith, w), omega (arith, w, n, l))
  come_name (Some l) in_old n (d, same, wide) x at_x gone = elim (cases d x [] (subst
      (λ cells. Contains cells x) same at_x)) [
        | inr none_is ↦ absurd (none x none_is)
        | inl this ↦
            let id : x.id ≡ l.id = ap (λ (z : CellSeen). z.id) (this ∙ wide.is) in
            absurd (none-some (node_of l) (sym gone ∙ (ap (patch_with c []).old id ∙ below_there g l (in_old l refl))))
      ]

  leaf_old : (o : Option CellSeen) → (l : CellSeen) → o ≡ Some l → Contains (blocks ++ given_cells o) l
  leaf_old None l e = absurd (none-some l e)
  leaf_old (Some x) l e = Contains-append_right blocks (x ∷ []) l (subst (Contains (x ∷ [])) (same_Some x l e)
      (here x []))

  new_names : (x : CellSeen) → Contains c.new x → (patch_with c []).old x.id ≡ None → InTaken x
  new_names x at_x gone = elim (Contains-append_cases does.come does.grafts.change.new x (subst
      (λ cells. Contains cells x) g.below.new_is at_x)) [
        | inl low ↦ come_name leaf (leaf_old leaf) mid_is does.taken_up x low gone
        | inr high ↦
            let w = graft_names g x high gone in
            (omega (arith, w, mid_is), omega (arith, w))
      ]

  pub cut_does : EditsUnits c [] before after (is_between from to) no_values
  cut_does = record {
    effect = graft_effect g (is_between from to) no_values held says same_there;
    names = new_names;
    root_number = graft_root g;
  }

module _ (t : Store Value) (r : Root) (path : List CellSeen) (leaf : Option CellSeen) (blocks : List CellSeen)
    (from to : ℕ)
    (before after : Fresh) (c : Change) (made : IsMadeIn t r c []) where
  cut_cells : (cells : List CellSeen) → reverse path ≡ cells → MayStandUp cells
      → IsCutUp t r leaf blocks from to before cells
      → CutsUp path leaf blocks from to before after c cells
      → EditsUnits c [] before after (is_between from to) no_values
  cut_cells [] same sound is does = absurd is
  cut_cells (twig ∷ ups) same sound is does = cut_does is does (sound_pieces twig sound (is.room 0).level)
      (record {
        part = (is.room 0).path.part;
        level = (is.room 0).level;
        above = (is.room 0).path.ascends.3;
        grafts = subst (GraftsUp _ _ after does.grafts.change) same does.grafts.grafts;
        below = does.grafts.below;
        made = made;
      })
      refl

  pub cut_told : MayStandUp (reverse path) → IsCutUp t r leaf blocks from to before (reverse path)
      → CutsUp path leaf blocks from to before after c (reverse path)
      → EditsUnits c [] before after (is_between from to) no_values
  cut_told = cut_cells (reverse path) refl
