-- Blocks one after the other, as pieces with numbers: where they stand, and what they name.
use Rattle.std.proofs.Common.{◌≡◌, ◌⊎◌, inl, inr, ℕ, zero, suc, ◌+◌, ◌*◌, ◌^◌, ◌<◌, ◌≤◌, Bool, true, false, cond, List, [], ◌∷◌, ◌++◌, refl, sym, ap, subst, ◌∙◌, arith}
use Rattle.std.specs.Prelude.{◌&&◌, not, if◌then◌else◌}
use Rattle.std.proofs.lemmas.Bool.{eqb-true, ne_eqb}
use Rattle.r4_base.specs.Cell.{run_names}
use Rattle.r4_base.specs.Extents.{is_hole}
use Rattle.r4_base.specs.Key.{IsKey, key_of_rank, later, offset_of, rank}
use Rattle.r4_base.specs.declared.key.Key.{Key}
use Rattle.r4_extent_demands.specs.r4_branch.Pieces.{Follow, IsSoundPart, names_of, next_of, part_end, part_names, piece_end}
use Rattle.r4_extent_demands.specs.r4_branch.declared.piece.TwigPart.{TwigPart}
use Rattle.r4_extent_demands.specs.r4_branch.declared.piece.TwigPart.TheVariants.{Blocks, Pointer}
use Rattle.r4_extent_demands.specs.r4_branch.declared.piece.TwigPiece.{TwigPiece}
use Rattle.r4_extent_demands.proofs.r4_graft.Halves.{later_key, later_rank}
use Rattle.r4_extent_demands.proofs.r4_leaf_edits.KeyRanks.{key_again}
use Rattle.r4_extent_demands.specs.r4_reach.Needs.{runs, widened}
use Rattle.r4_extent_demands.specs.Pieces.{block_at}
use Rattle.r4_extent_build.specs.Numbering.{block_name, has_block_at, is_coming, is_told_block, names_coming, with_numbers}
use Rattle.r4_extent_build.proofs.Numbers.{names_off, names_on, numbers_off, numbers_on}

-- ---- a block more before others

abbrev pub hole_of : Key → ℕ → TwigPiece
hole_of k w = record { key = k; part = Blocks (record { start = 0; width = w }) }

-- how a list is made wider: by a hole of one block, or its first piece, a hole, is wider
pub record IsWider (k : ℕ) (rest wide : List TwigPiece) : Type 0 where
  pub width : ℕ
  pub more : List TwigPiece
  pub is : wide ≡ hole_of (key_of_rank k) width ∷ more
  pub how : ((more ≡ rest) × (width ≡ 1))
      ⊎ ((w : ℕ) × (p : TwigPiece) × (rest ≡ p ∷ more) × (p.part ≡ Blocks (record { start = 0; width = w })) × (width ≡ w + 1))

pub wider : (k : ℕ) (rest : List TwigPiece) → IsWider k rest (widened k rest)
wider k [] = record { width = 1; more = []; is = refl; how = inl (refl, refl) }
wider k (p ∷ ps) = by_part p.part refl
  where
    front : (t : TwigPart) → p.part ≡ t → widened k (p ∷ ps) ≡ widened k (record p { part = t } ∷ ps)
    front t e = ap (λ (x : TwigPart). widened k (record p { part = x } ∷ ps)) e

    by_part : (t : TwigPart) → p.part ≡ t → IsWider k (p ∷ ps) (widened k (p ∷ ps))
    by_part (Pointer to) e = record {
      width = 1;
      more = p ∷ ps;
      is = front (Pointer to) e ∙ ap (λ (x : TwigPart). hole_of (key_of_rank k) 1 ∷ (record p { part = x } ∷ ps)) (sym e);
      how = inl (refl, refl);
    }
    by_part (Blocks u) e = by_hole (is_hole u) refl
      where
        by_hole : (t : Bool) → is_hole u ≡ t → IsWider k (p ∷ ps) (widened k (p ∷ ps))
        by_hole true h =
            let none : u.start ≡ 0 = eqb-true u.start 0 h in
            record {
              width = u.width + 1;
              more = ps;
              is = front (Blocks u) e ∙ ((rw h refl) ∙ ap (λ (s : ℕ). record { key = key_of_rank k; part = Blocks (record { start = s; width = u.width + 1 }) } ∷ ps) none);
              how = inr (u.width, p, refl, e ∙ ap (λ (s : ℕ). Blocks (record { start = s; width = u.width })) none, refl);
            }
        by_hole false h = record {
          width = 1;
          more = p ∷ ps;
          is = front (Blocks u) e ∙ (rw h (ap (λ (x : TwigPart). hole_of (key_of_rank k) 1 ∷ (record p { part = x } ∷ ps)) (sym e)));
          how = inl (refl, refl);
        }

-- the first of the pieces begins at the key
abbrev pub FirstIs : Key → List TwigPiece → Type 0
FirstIs k [] = Unit {0}
FirstIs k (p ∷ ps) = p.key ≡ k

-- ---- pieces that are no blocks that come

no_hole_told : (t : TwigPart) (w : ℕ) → t ≡ Blocks (record { start = 0; width = w }) → is_told_block t ≡ false
no_hole_told t w e = ap is_told_block e

module _ (old : List TwigPiece) where
  pub not_coming : (p : TwigPiece) → is_told_block p.part ≡ false → is_coming old p ≡ false
  not_coming p e = ap (λ (b : Bool). b && not (has_block_at (rank p.key) old)) e

  pub is_on : (p : TwigPiece) → is_told_block p.part ≡ true → has_block_at (rank p.key) old ≡ false → is_coming old p ≡ true
  is_on p e f = (λ i. e i && not (f i))

  hole_front : (m h : ℕ) (p : TwigPiece) (ps : List TwigPiece) (w : ℕ) → p.part ≡ Blocks (record { start = 0; width = w })
      → (names_of h (with_numbers old m (p ∷ ps)) ≡ names_of h (with_numbers old m ps)) × (names_coming old m (p ∷ ps) ≡ names_coming old m ps)
  unfolding names_of
  hole_front m h p ps w e =
      let off = not_coming p (no_hole_told p.part w e) in (
        ap (names_of h) (numbers_off old m p ps off) ∙ ap (λ (t : TwigPart). part_names (rank p.key) (next_of h (with_numbers old m ps)) t ++ names_of h (with_numbers old m ps)) e,
        names_off old m p ps off,
      )

  -- ---- runs

  -- Pieces from a key on for so many blocks: they follow each other, the first begins at the key, and with numbers they
  -- name the blocks that come, and nothing else.
  pub record AreRuns (k : Key) (n : ℕ) (qs : List TwigPiece) : Type 0 where
    pub follow : Follow (rank k) (rank k + 4096 * n) qs
    pub begins : FirstIs k qs
    pub some : (h : ℕ) → 1 ≤ n → next_of h qs ≡ rank k
    pub names : (m h : ℕ) → 1 ≤ m → names_of h (with_numbers old m qs) ≡ names_coming old m qs

  -- none of the blocks has a told block of the twig's
  abbrev pub AreFree : (k n : ℕ) → Type 0
  AreFree k n = (i : ℕ) → i < n → has_block_at (k + 4096 * i) old ≡ false

  module _ (gets : ℕ → Bool) where
    pub by_get : (k n : ℕ) (t : Bool) → gets k ≡ t → runs gets k (suc n)
        ≡ (if t then block_at (key_of_rank k) ∷ runs gets (k + 4096) n else widened k (runs gets (k + 4096) n))
    by_get k n t e = ap (λ (b : Bool). if b then block_at (key_of_rank k) ∷ runs gets (k + 4096) n
        else widened k (runs gets (k + 4096) n)) e

    module _ (k : Key) (is : IsKey k) (n : ℕ) (fits : offset_of k + 4096 * suc n ≤ 2 ^ 64) (free : AreFree (rank k) (suc n)) (rest : List TwigPiece)
        (rest_follow : Follow (rank k + 4096) (rank k + 4096 * suc n) rest)
        (rest_begins : FirstIs (later k 4096) rest)
        (rest_names : (m h : ℕ) → 1 ≤ m → names_of h (with_numbers old m rest) ≡ names_coming old m rest) where
      again : key_of_rank (rank k) ≡ k
      again = key_again k is

      first_free : has_block_at (rank k) old ≡ false
      first_free = ap (λ (j : ℕ). has_block_at j old) (let e : rank k ≡ rank k + 4096 * 0 = omega arith in e) ∙ free 0 (omega arith)

      block_first : AreRuns k (suc n) (block_at k ∷ rest)
      unfolding names_of
      block_first = record {
        follow = (omega arith, (is, (inl (refl, omega arith, refl), omega (arith, fits))), subst (λ (j : ℕ). Follow j (rank k + 4096 * suc n) rest) (let e : rank k + 4096 ≡ rank k + 4096 * 1 = omega arith in e) rest_follow);
        begins = refl;
        some = λ h s. refl;
        names = λ m h s.
            let on = is_on (block_at k) refl first_free in
            ap (names_of h) (numbers_on old m (block_at k) rest on)
            ∙ (ap (λ (t : Bool). cond t [] (run_names (rank k) m 1) ++ names_of h (with_numbers old (m + 1) rest)) (ne_eqb m 0 (λ e. omega (arith, e, s)))
            ∙ (ap (λ ns. block_name (rank k) m ∷ ns) (rest_names (m + 1) h (omega arith)) ∙ sym (names_on old m (block_at k) rest on)));
      }

      -- the piece before the others is a hole
      hole_first : (wide : List TwigPiece) (w : ℕ) (more : List TwigPiece) → wide ≡ hole_of (key_of_rank (rank k)) w ∷ more → 1 ≤ w → offset_of k + 4096 * w ≤ 2 ^ 64
          → Follow (rank k + 4096 * w) (rank k + 4096 * suc n) more → ((m h : ℕ) → 1 ≤ m → names_of h (with_numbers old m more) ≡ names_coming old m more) → AreRuns k (suc n) wide
      hole_first wide w more wide_is some high follow named =
          let here : wide ≡ hole_of k w ∷ more = wide_is ∙ ap (λ (j : Key). hole_of j w ∷ more) again in
          record {
            follow = subst (Follow (rank k) (rank k + 4096 * suc n)) (sym here) (omega arith, (is, (inr (inl (refl, some)), high)), follow);
            begins = subst (FirstIs k) (sym here) refl;
            some = λ h s. ap (next_of h) here;
            names = λ m h s.
                let front = hole_front m h (hole_of k w) more w refl in
                ap (λ qs. names_of h (with_numbers old m qs)) here ∙ (front.0 ∙ (named m h s ∙ (sym front.1 ∙ ap (names_coming old m) (sym here))));
          }

      wide_first : AreRuns k (suc n) (widened (rank k) rest)
      wide_first =
          let w = wider (rank k) rest in
          elim w.how [
            | inl one ↦
                hole_first (widened (rank k) rest) w.width w.more w.is (omega (arith, one)) (omega (arith, one, fits))
                (subst (λ qs. Follow (rank k + 4096 * w.width) (rank k + 4096 * suc n) qs) (sym one.0) (subst (λ (j : ℕ). Follow j (rank k + 4096 * suc n) rest) (let e : rank k + 4096 ≡ rank k + 4096 * w.width = omega (arith, one) in e) rest_follow))
                (λ m h s. subst (λ qs. names_of h (with_numbers old m qs) ≡ names_coming old m qs) (sym one.0) (rest_names m h s))
            | inr joined ↦
                let (v, p, rest_is, part, width) = joined in
                let f : Follow (rank k + 4096) (rank k + 4096 * suc n) (p ∷ w.more) = subst (Follow (rank k + 4096) (rank k + 4096 * suc n)) rest_is rest_follow in
                let key : p.key ≡ later k 4096 = subst (FirstIs (later k 4096)) rest_is rest_begins in
                let at : rank p.key ≡ rank k + 4096 = ap rank key ∙ later_rank k 4096 in
                let off : offset_of p.key ≡ offset_of k + 4096 = ap offset_of key in
                let sound : IsSoundPart (offset_of p.key) (Blocks (record { start = 0; width = v })) = subst (IsSoundPart (offset_of p.key)) part f.1.1 in
                let high = sound.1 in
                let ends : piece_end p ≡ rank p.key + 4096 * v = ap (part_end (rank p.key)) part in
                hole_first (widened (rank k) rest) w.width w.more w.is (omega (arith, width)) (omega (arith, width, high, off))
                (subst (λ (j : ℕ). Follow j (rank k + 4096 * suc n) w.more) (let e : piece_end p ≡ rank k + 4096 * w.width = omega (arith, ends, at, width) in e) f.2)
                (λ m h s.
                let front = hole_front m h p w.more v part in
                sym front.0 ∙ (subst (λ qs. names_of h (with_numbers old m qs) ≡ names_coming old m qs) rest_is (rest_names m h s) ∙ front.1))
          ]

    -- no blocks
    nothing : (k : Key) → AreRuns k 0 []
    unfolding names_of with_numbers names_coming
    nothing k = record { follow = omega arith; begins = tt; some = λ h s. absurd (omega (arith, s)); names = λ m h s. refl }

    pub are_runs : (n : ℕ) (k : Key) → IsKey k → offset_of k + 4096 * n ≤ 2 ^ 64 → AreFree (rank k) n → AreRuns k n (runs gets (rank k) n)
    are_runs zero k is fits free = nothing k
    are_runs (suc zero) k is fits free = by_test (gets (rank k)) refl
      where
        none_follow : Follow (rank k + 4096) (rank k + 4096 * suc 0) []
        none_follow = omega arith

        none_named : (m h : ℕ) → 1 ≤ m → names_of h (with_numbers old m []) ≡ names_coming old m []
        none_named m h s = (nothing k).names m h s

        by_test : (t : Bool) → gets (rank k) ≡ t → AreRuns k 1 (runs gets (rank k) 1)
        by_test true e = subst (AreRuns k 1) (sym (by_get (rank k) 0 true e ∙ ap (λ (j : Key). block_at j ∷ []) (key_again k is))) (block_first k is 0 fits free [] none_follow tt none_named)
        by_test false e = subst (AreRuns k 1) (sym (by_get (rank k) 0 false e)) (wide_first k is 0 fits free [] none_follow tt none_named)
    are_runs (suc (suc n)) k is fits free =
        let next_is = later_key k 4096 is (omega (arith, fits)) in
        let at : rank (later k 4096) ≡ rank k + 4096 = later_rank k 4096 in
        let rest = are_runs (suc n) (later k 4096) next_is (omega (arith, fits)) (λ i lt. ap (λ (j : ℕ). has_block_at j old) (let e : rank (later k 4096) + 4096 * i ≡ rank k + 4096 * suc i = omega (arith, at) in e) ∙ free (suc i) (omega (arith, lt))) in
        by_test (gets (rank k)) refl (subst (λ (j : ℕ). AreRuns (later k 4096) (suc n) (runs gets j (suc n))) at rest)
      where
        by_test : (t : Bool) → gets (rank k) ≡ t → AreRuns (later k 4096) (suc n) (runs gets (rank k + 4096) (suc n)) → AreRuns k (suc (suc n)) (runs gets (rank k) (suc (suc n)))
        by_test t e rest =
            let at : rank (later k 4096) ≡ rank k + 4096 = later_rank k 4096 in
            let follow = subst (λ (j : ℕ). Follow (rank k + 4096) j (runs gets (rank k + 4096) (suc n))) (let same : rank (later k 4096) + 4096 * suc n ≡ rank k + 4096 * suc (suc n) = omega (arith, at) in same)
            (subst (λ (j : ℕ). Follow j (rank (later k 4096) + 4096 * suc n) (runs gets (rank k + 4096) (suc n))) at rest.follow) in
            subst (AreRuns k (suc (suc n))) (sym (by_get (rank k) (suc n) t e)) (by_bool t (runs gets (rank k + 4096) (suc n)) follow rest.begins rest.names)
          where
            by_bool : (b : Bool) (qs : List TwigPiece) → Follow (rank k + 4096) (rank k + 4096 * suc (suc n)) qs → FirstIs (later k 4096) qs → ((m h : ℕ) → 1 ≤ m → names_of h (with_numbers old m qs) ≡ names_coming old m qs)
                → AreRuns k (suc (suc n)) (if b then block_at (key_of_rank (rank k)) ∷ qs else widened (rank k) qs)
            by_bool true qs f b named = subst (λ (j : Key). AreRuns k (suc (suc n)) (block_at j ∷ qs)) (sym (key_again k is)) (block_first k is (suc n) fits free qs f b named)
            by_bool false qs f b named = wide_first k is (suc n) fits free qs f b named
