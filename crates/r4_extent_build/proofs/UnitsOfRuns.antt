-- Blocks one after the other, as pieces with numbers: at each of their keys stands the byte that is set there, or a zero.
use Rattle.std.proofs.Common.{◌≡◌, ◌⊎◌, ◌↔◌, inl, inr, ℕ, zero, suc, ◌+◌, ◌*◌, ◌^◌, ◌<◌, ◌≤◌, Bool, true, false, List, [], ◌∷◌, ◌++◌, refl, sym, ap, subst, ◌∙◌, arith}
use Rattle.std.specs.Prelude.{Contains, unwrap_or, ◌==◌}
use Rattle.std.proofs.lemmas.Bool.{cases_lt}
use Rattle.std.proofs.lemmas.List.{append_assoc}
use Rattle.std.proofs.lemmas.List.Elements.{Contains-append_cases, Contains-append_left, Contains-append_right}
use Rattle.r4_base.specs.Cell.{bytes_from, cell_of, zeros_from}
use Rattle.r4_base.specs.Key.{IsKey, key_of_rank, later, offset_of, rank}
use Rattle.r4_base.specs.Value.{Byte, Value}
use Rattle.r4_base.specs.declared.key.Key.{Key}
use Rattle.r4_extent_demands.specs.r4_branch.Pieces.{part_units, units_of}
use Rattle.r4_extent_demands.specs.r4_branch.declared.piece.TwigPart.TheVariants.{Blocks}
use Rattle.r4_extent_demands.specs.r4_branch.declared.piece.TwigPiece.{TwigPiece}
use Rattle.r4_extent_demands.specs.r4_cell.Seen.{CellSeen, node_of}
use Rattle.r4_content.specs.Edited.{Edits}
use Rattle.r4_extent_blocks.specs.Setting.{byte_set, new_bytes, new_cell}
use Rattle.r4_extent_demands.proofs.r4_graft.Halves.{later_key, later_rank}
use Rattle.r4_extent_demands.proofs.r4_leaf_edits.KeyRanks.{key_again}
use Rattle.r4_extent_demands.proofs.r4_patch.Members.{cases, here, later as later_in, none}
use Rattle.r4_twig_turns.specs.r4_patch.Effect.{Placed}
use Rattle.r4_extent_demands.specs.r4_reach.Needs.{runs, widened}
use Rattle.r4_twig_turns.specs.r4_twig_work.Regrafting.{StandsBelow}
use Rattle.r4_extent_demands.specs.Pieces.{block_at}
use Rattle.r4_extent_build.specs.Numbering.{cells_coming, has_block_at, is_told_block}
use Rattle.r4_extent_build.specs.Setting.{byte_after}
use Rattle.r4_extent_build.proofs.Numbers.{cells_off, cells_on}
use Rattle.r4_extent_build.proofs.RunPieces.{AreFree, FirstIs, are_runs, by_get, hole_of, is_on, not_coming, wider}

-- ---- units one after another

abbrev pub IsIn : (k n j : ℕ) → Type 0
IsIn k n j = (k ≤ j) × (j < k + n)

bytes_members : (e : Edits) (k n j : ℕ) (v : Value) → Contains (bytes_from k (new_bytes e k n)) (j, v) ↔ (IsIn k n j × (v ≡ byte_after e j))
unfolding new_bytes
bytes_members e k zero j v = (λ m. absurd (none (j, v) m), λ h. absurd (let r = h.0 in omega (arith, r)))
bytes_members e k (suc n) j v =
    let more = bytes_members e (k + 1) n j v in (
      λ m. elim (cases (k, byte_after e k) (j, v) (bytes_from (k + 1) (new_bytes e (k + 1) n)) m) [
        | inl is ↦
            let at : j ≡ k = ap (λ (x : ℕ × Value). x.0) is in
            ((omega (arith, at), omega (arith, at)), ap (λ (x : ℕ × Value). x.1) is ∙ ap (byte_after e) (sym at))
        | inr rest ↦ let h = more.0 rest in let r = h.0 in ((omega (arith, r), omega (arith, r)), h.1)
      ],
      λ h. let r = h.0 in elim (cases_lt k j) [
        | inl lt ↦ later_in (k, byte_after e k) (j, v) (bytes_from (k + 1) (new_bytes e (k + 1) n)) (more.1 ((omega (arith, lt), omega (arith, r)), h.1))
        | inr ge ↦
            let at : k ≡ j = omega (arith, r, ge) in
            subst (Contains ((k, byte_after e k) ∷ bytes_from (k + 1) (new_bytes e (k + 1) n))) (let same : (k, byte_after e k) ≡ (j, v) = λ i. (at i, (ap (byte_after e) at ∙ sym h.1) i) in same) (here (k, byte_after e k) (bytes_from (k + 1) (new_bytes e (k + 1) n)))
      ],
    )

pub zeros_members : (k n j : ℕ) (v : Value) → Contains (zeros_from k n) (j, v) ↔ (IsIn k n j × (v ≡ Byte 0))
zeros_members k zero j v = (λ m. absurd (none (j, v) m), λ h. absurd (let r = h.0 in omega (arith, r)))
zeros_members k (suc n) j v =
    let more = zeros_members (k + 1) n j v in (
      λ m. elim (cases (k, Byte 0) (j, v) (zeros_from (k + 1) n) m) [
        | inl is ↦
            let at : j ≡ k = ap (λ (x : ℕ × Value). x.0) is in
            ((omega (arith, at), omega (arith, at)), ap (λ (x : ℕ × Value). x.1) is)
        | inr rest ↦ let h = more.0 rest in let r = h.0 in ((omega (arith, r), omega (arith, r)), h.1)
      ],
      λ h. let r = h.0 in elim (cases_lt k j) [
        | inl lt ↦ later_in (k, Byte 0) (j, v) (zeros_from (k + 1) n) (more.1 ((omega (arith, lt), omega (arith, r)), h.1))
        | inr ge ↦
            let at : k ≡ j = omega (arith, r, ge) in
            subst (Contains ((k, Byte 0) ∷ zeros_from (k + 1) n)) (let same : (k, Byte 0) ≡ (j, v) = λ i. (at i, sym h.1 i) in same) (here (k, Byte 0) (zeros_from (k + 1) n))
      ],
    )

zeros_split : (k a b : ℕ) → zeros_from k (a + b) ≡ zeros_from k a ++ zeros_from (k + a) b
zeros_split k zero b = (λ i. zeros_from (let e : k ≡ k + 0 = omega arith in e i) (let f : 0 + b ≡ b = omega arith in f i))
zeros_split k (suc a) b =
    ap (zeros_from k) (let f : suc a + b ≡ suc (a + b) = omega arith in f)
    ∙ ap (λ us. (k, Byte 0) ∷ us) (zeros_split (k + 1) a b ∙ ap (λ j. zeros_from (k + 1) a ++ zeros_from j b) (let f : k + 1 + a ≡ k + suc a = omega arith in f))

-- the units of a new block
pub new_units : (e : Edits) (id : ℕ) (k : Key) (j : ℕ) (v : Value) → Contains (node_of (new_cell e id k)).units (j, v) ↔ (IsIn (rank k) 4096 j × (v ≡ byte_after e j))
unfolding cell_of
new_units e id k j v = bytes_members e (rank k) 4096 j v

-- ---- a block more before others

wide_units : (k : Key) → IsKey k → (rest : List TwigPiece) → FirstIs (later k 4096) rest → units_of (widened (rank k) rest) ≡ zeros_from (rank k) 4096 ++ units_of rest
unfolding units_of
wide_units k is rest begins =
    let w = wider (rank k) rest in
    let front : units_of (widened (rank k) rest) ≡ zeros_from (rank k) (4096 * w.width) ++ units_of w.more = ap units_of w.is ∙ ap (λ (j : Key). zeros_from (rank j) (4096 * w.width) ++ units_of w.more) (key_again k is) in
    front ∙ elim w.how [
      | inl one ↦ (λ i. zeros_from (rank k) (let e : 4096 * w.width ≡ 4096 = omega (arith, one) in e i) ++ units_of (one.0 i))
      | inr joined ↦
          let (v, p, rest_is, part, width) = joined in
          let key : p.key ≡ later k 4096 = subst (FirstIs (later k 4096)) rest_is begins in
          let at : rank p.key ≡ rank k + 4096 = ap rank key ∙ later_rank k 4096 in
          let behind : units_of rest ≡ zeros_from (rank k + 4096) (4096 * v) ++ units_of w.more = ap units_of rest_is ∙ (λ i. part_units (at i) (part i) ++ units_of w.more) in
          ap (λ n. zeros_from (rank k) n ++ units_of w.more) (let e : 4096 * w.width ≡ 4096 + 4096 * v = omega (arith, width) in e)
          ∙ (ap (λ us. us ++ units_of w.more) (zeros_split (rank k) 4096 (4096 * v))
          ∙ (append_assoc (zeros_from (rank k) 4096) (zeros_from (rank k + 4096) (4096 * v)) (units_of w.more) ∙ ap (λ us. zeros_from (rank k) 4096 ++ us) (sym behind)))
    ]

wide_cells : (old : List TwigPiece) (e : Edits) (m k : ℕ) (rest : List TwigPiece) → cells_coming e old m (widened k rest) ≡ cells_coming e old m rest
wide_cells old e m k rest =
    let w = wider k rest in
    let front : cells_coming e old m (widened k rest) ≡ cells_coming e old m w.more = ap (cells_coming e old m) w.is ∙ cells_off old e m (hole_of (key_of_rank k) w.width) w.more (not_coming old (hole_of (key_of_rank k) w.width) refl) in
    front ∙ elim w.how [
      | inl one ↦ ap (cells_coming e old m) one.0
      | inr joined ↦
          let (v, p, rest_is, part, width) = joined in
          sym (ap (cells_coming e old m) rest_is ∙ cells_off old e m p w.more (not_coming old p (no_hole p v part)))
    ]
  where
    no_hole : (p : TwigPiece) (v : ℕ) → p.part ≡ Blocks (record { start = 0; width = v }) → is_told_block p.part ≡ false
    no_hole p v part = ap is_told_block part

-- ---- what stands below a twig, of several parts

pub stands_append : (cs ds : List CellSeen) (xs ys : List (ℕ × Value)) (j : ℕ) (u : Placed Value) → StandsBelow (cs ++ ds) (xs ++ ys) j u ↔ (StandsBelow cs xs j u ⊎ StandsBelow ds ys j u)
stands_append cs ds xs ys j u = (
  λ s. elim s [
    | inl cell ↦ let (c, at, has, kind) = cell in elim (Contains-append_cases cs ds c at) [ inl one ↦ inl (inl (c, one, has, kind)) | inr two ↦ inr (inl (c, two, has, kind)) ]
    | inr own ↦ elim (Contains-append_cases xs ys (j, u.0) own.0) [ inl one ↦ inl (inr (one, own.1)) | inr two ↦ inr (inr (two, own.1)) ]
  ],
  λ s. elim s [
    | inl one ↦ elim one [ inl cell ↦ (let (c, at, has, kind) = cell in inl (c, Contains-append_left cs ds c at, has, kind)) | inr own ↦ inr (Contains-append_left xs ys (j, u.0) own.0, own.1) ]
    | inr two ↦ elim two [ inl cell ↦ (let (c, at, has, kind) = cell in inl (c, Contains-append_right cs ds c at, has, kind)) | inr own ↦ inr (Contains-append_right xs ys (j, u.0) own.0, own.1) ]
  ],
)

pub stands_none : (j : ℕ) (u : Placed Value) → StandsBelow [] [] j u → ⊥
stands_none j u (inl (c, at, has, kind)) = none c at
stands_none j u (inr (own, kind)) = none (j, u.0) own

block_stands : (e : Edits) (m : ℕ) (k : Key) (j : ℕ) (u : Placed Value) → StandsBelow (new_cell e m k ∷ []) [] j u ↔ (IsIn (rank k) 4096 j × (u ≡ (byte_after e j, false)))
block_stands e m k j u = (
  λ s. elim s [
    | inl cell ↦
        let (c, at, has, kind) = cell in
        elim (cases (new_cell e m k) c [] at) [
          | inl same ↦
              let h = (new_units e m k j u.0).0 (subst (λ (x : CellSeen). Contains (node_of x).units (j, u.0)) same has) in
              let off : u.1 ≡ false = sym kind ∙ ap (λ (x : CellSeen). x.level == 1) same in
              (h.0, λ i. (h.1 i, off i))
          | inr nothing ↦ absurd (none c nothing)
        ]
    | inr own ↦ absurd (none (j, u.0) own.0)
  ],
  λ h. inl (new_cell e m k, here (new_cell e m k) [], (new_units e m k j u.0).1 (h.0, ap (λ (x : Placed Value). x.0) h.1), sym (ap (λ (x : Placed Value). x.1) h.1)),
)

zeros_stand : (e : Edits) (k n j : ℕ) (u : Placed Value) → (IsIn k n j → unwrap_or (byte_set e j) 0 ≡ 0) → StandsBelow [] (zeros_from k n) j u ↔ (IsIn k n j × (u ≡ (byte_after e j, false)))
zeros_stand e k n j u calm = (
  λ s. elim s [
    | inl cell ↦ absurd (none cell.0 cell.1)
    | inr own ↦ let h = (zeros_members k n j u.0).0 own.0 in let z = calm h.0 in (h.0, λ i. ((h.1 ∙ ap Byte (sym z)) i, own.1 i))
  ],
  λ h. let z = calm h.0 in inr ((zeros_members k n j u.0).1 (h.0, ap (λ (x : Placed Value). x.0) h.1 ∙ ap Byte z), ap (λ (x : Placed Value). x.1) h.1),
)

module _ (old : List TwigPiece) (e : Edits) (gets : ℕ → Bool) (calm : (k : ℕ) → gets k ≡ false → (j : ℕ) → k ≤ j → j < k + 4096 → unwrap_or (byte_set e j) 0 ≡ 0) where
  abbrev RunsStand : Key → ℕ → Type 0
  RunsStand k n = (m j : ℕ) (u : Placed Value) → StandsBelow (cells_coming e old m (runs gets (rank k) n)) (units_of (runs gets (rank k) n)) j u ↔ (IsIn (rank k) (4096 * n) j × (u ≡ (byte_after e j, false)))

  -- two ranges one behind the other
  both_in : (k n j : ℕ) (P : Type 0) → (IsIn k 4096 j × P) ⊎ (IsIn (k + 4096) (4096 * n) j × P) → IsIn k (4096 * suc n) j × P
  both_in k n j P (inl (r, p)) = ((omega (arith, r), omega (arith, r)), p)
  both_in k n j P (inr (r, p)) = ((omega (arith, r), omega (arith, r)), p)

  one_in : (k n j : ℕ) (P : Type 0) → IsIn k (4096 * suc n) j × P → (IsIn k 4096 j × P) ⊎ (IsIn (k + 4096) (4096 * n) j × P)
  one_in k n j P (r, p) = elim (cases_lt j (k + 4096)) [ inl lt ↦ inl ((omega (arith, r), omega (arith, lt)), p) | inr ge ↦ inr ((omega (arith, ge), omega (arith, r)), p) ]

  module _ (k : Key) (is : IsKey k) (n : ℕ) (free : AreFree old (rank k) (suc n)) (rest : List TwigPiece) (rest_begins : FirstIs (later k 4096) rest)
      (rest_stand : (m j : ℕ) (u : Placed Value) → StandsBelow (cells_coming e old m rest) (units_of rest) j u ↔ (IsIn (rank k + 4096) (4096 * n) j × (u ≡ (byte_after e j, false)))) where
    block_run : (m j : ℕ) (u : Placed Value) → StandsBelow (cells_coming e old m (block_at k ∷ rest)) (units_of (block_at k ∷ rest)) j u ↔ (IsIn (rank k) (4096 * suc n) j × (u ≡ (byte_after e j, false)))
    unfolding units_of
    block_run m j u =
        let first_free : has_block_at (rank k) old ≡ false = ap (λ (i : ℕ). has_block_at i old) (let same : rank k ≡ rank k + 4096 * 0 = omega arith in same) ∙ free 0 (omega arith) in
        let cells = cells_on old e m (block_at k) rest (is_on old (block_at k) refl first_free) in
        let all = stands_append (new_cell e m k ∷ []) (cells_coming e old (m + 1) rest) [] (units_of rest) j u in
        let one = block_stands e m k j u in
        let more = rest_stand (m + 1) j u in (
          λ s. both_in (rank k) n j (u ≡ (byte_after e j, false)) (elim (all.0 (subst (λ cs. StandsBelow cs (units_of rest) j u) cells s)) [ inl a ↦ inl (one.0 a) | inr b ↦ inr (more.0 b) ]),
          λ h. subst (λ cs. StandsBelow cs (units_of rest) j u) (sym cells) (all.1 (elim (one_in (rank k) n j (u ≡ (byte_after e j, false)) h) [ inl a ↦ inl (one.1 a) | inr b ↦ inr (more.1 b) ])),
        )

    hole_run : gets (rank k) ≡ false → (m j : ℕ) (u : Placed Value) → StandsBelow (cells_coming e old m (widened (rank k) rest)) (units_of (widened (rank k) rest)) j u ↔ (IsIn (rank k) (4096 * suc n) j × (u ≡ (byte_after e j, false)))
    hole_run off m j u =
        let cells = wide_cells old e m (rank k) rest in
        let units = wide_units k is rest rest_begins in
        let all = stands_append [] (cells_coming e old m rest) (zeros_from (rank k) 4096) (units_of rest) j u in
        let one = zeros_stand e (rank k) 4096 j u (λ r. calm (rank k) off j r.0 r.1) in
        let more = rest_stand m j u in (
          λ s. both_in (rank k) n j (u ≡ (byte_after e j, false)) (elim (all.0 (subst (λ us. StandsBelow (cells_coming e old m rest) us j u) units (subst (λ cs. StandsBelow cs (units_of (widened (rank k) rest)) j u) cells s))) [ inl a ↦ inl (one.0 a) | inr b ↦ inr (more.0 b) ]),
          λ h. subst (λ cs. StandsBelow cs (units_of (widened (rank k) rest)) j u) (sym cells) (subst (λ us. StandsBelow (cells_coming e old m rest) us j u) (sym units) (all.1 (elim (one_in (rank k) n j (u ≡ (byte_after e j, false)) h) [ inl a ↦ inl (one.1 a) | inr b ↦ inr (more.1 b) ]))),
        )

  nothing_stands : (k m j : ℕ) (u : Placed Value) → StandsBelow (cells_coming e old m []) (units_of []) j u ↔ (IsIn k (4096 * 0) j × (u ≡ (byte_after e j, false)))
  unfolding units_of cells_coming
  nothing_stands k m j u = (λ s. absurd (stands_none j u s), λ h. absurd (let r = h.0 in omega (arith, r)))

  pub runs_stand : (n : ℕ) (k : Key) → IsKey k → offset_of k + 4096 * n ≤ 2 ^ 64 → AreFree old (rank k) n → RunsStand k n
  runs_stand zero k is fits free = nothing_stands (rank k)
  runs_stand (suc zero) k is fits free = by_test (gets (rank k)) refl
    where
      by_test : (t : Bool) → gets (rank k) ≡ t → RunsStand k 1
      by_test true on m j u =
          subst (λ qs. StandsBelow (cells_coming e old m qs) (units_of qs) j u ↔ (IsIn (rank k) (4096 * 1) j × (u ≡ (byte_after e j, false)))) (sym (by_get old gets (rank k) 0 true on ∙ ap (λ (i : Key). block_at i ∷ []) (key_again k is)))
          (block_run k is 0 free [] tt (nothing_stands (rank k + 4096)) m j u)
      by_test false off m j u =
          subst (λ qs. StandsBelow (cells_coming e old m qs) (units_of qs) j u ↔ (IsIn (rank k) (4096 * 1) j × (u ≡ (byte_after e j, false)))) (sym (by_get old gets (rank k) 0 false off))
          (hole_run k is 0 free [] tt (nothing_stands (rank k + 4096)) off m j u)
  runs_stand (suc (suc n)) k is fits free =
      let at : rank (later k 4096) ≡ rank k + 4096 = later_rank k 4096 in
      let next_is = later_key k 4096 is (omega (arith, fits)) in
      let next_free : AreFree old (rank (later k 4096)) (suc n) = λ i lt. ap (λ (j : ℕ). has_block_at j old) (let same : rank (later k 4096) + 4096 * i ≡ rank k + 4096 * suc i = omega (arith, at) in same) ∙ free (suc i) (omega (arith, lt)) in
      by_test (gets (rank k)) refl
      (subst (λ (j : ℕ). FirstIs (later k 4096) (runs gets j (suc n))) at (are_runs old gets (suc n) (later k 4096) next_is (omega (arith, fits)) next_free).begins)
      (λ m j u. subst (λ (i : ℕ). StandsBelow (cells_coming e old m (runs gets i (suc n))) (units_of (runs gets i (suc n))) j u ↔ (IsIn i (4096 * suc n) j × (u ≡ (byte_after e j, false)))) at
      (runs_stand (suc n) (later k 4096) next_is (omega (arith, fits)) next_free m j u))
    where
      by_test : (t : Bool) → gets (rank k) ≡ t → FirstIs (later k 4096) (runs gets (rank k + 4096) (suc n))
          → ((m j : ℕ) (u : Placed Value) → StandsBelow (cells_coming e old m (runs gets (rank k + 4096) (suc n))) (units_of (runs gets (rank k + 4096) (suc n))) j u ↔ (IsIn (rank k + 4096) (4096 * suc n) j × (u ≡ (byte_after e j, false))))
          → RunsStand k (suc (suc n))
      by_test true on begins rest m j u =
          subst (λ qs. StandsBelow (cells_coming e old m qs) (units_of qs) j u ↔ (IsIn (rank k) (4096 * suc (suc n)) j × (u ≡ (byte_after e j, false)))) (sym (by_get old gets (rank k) (suc n) true on ∙ ap (λ (i : Key). block_at i ∷ runs gets (rank k + 4096) (suc n)) (key_again k is)))
          (block_run k is (suc n) free (runs gets (rank k + 4096) (suc n)) begins rest m j u)
      by_test false off begins rest m j u =
          subst (λ qs. StandsBelow (cells_coming e old m qs) (units_of qs) j u ↔ (IsIn (rank k) (4096 * suc (suc n)) j × (u ≡ (byte_after e j, false)))) (sym (by_get old gets (rank k) (suc n) false off))
          (hole_run k is (suc n) free (runs gets (rank k + 4096) (suc n)) begins rest off m j u)
