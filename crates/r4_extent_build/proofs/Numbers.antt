-- Pieces with numbers: they need the same room, have the same units, and name what they named, and blocks that come.
use Rattle.std.proofs.Common.{◌≡◌, inl, ℕ, suc, ◌+◌, ◌*◌, ◌^◌, ◌≤◌, Bool, true, false, cond, List, [], ◌∷◌, ◌++◌, length, map, refl, sym, ap, subst, ◌∙◌, arith}
use Rattle.std.specs.Prelude.{Option, None, Some, ◌==◌, ◌&&◌, nat_lt}
use Rattle.std.proofs.lemmas.Bool.{eqb-true, ne_eqb}
use Rattle.std.proofs.lemmas.List.{append-nil}
use Rattle.r4_base.specs.Cell.{zeros_from}
use Rattle.r4_base.specs.Extents.{is_hole}
use Rattle.r4_base.specs.Key.{offset_of, rank}
use Rattle.r4_base.specs.Tree.{Name}
use Rattle.r4_extent_demands.specs.r4_branch.Pieces.{Follow, IsSoundPart, bytes_behind, next_of, open_end, part_bytes, part_end, part_units, piece_end, units_of}
use Rattle.r4_extent_demands.specs.r4_branch.declared.piece.TwigPart.{TwigPart}
use Rattle.r4_extent_demands.specs.r4_branch.declared.piece.TwigPart.TheVariants.{Blocks, Pointer}
use Rattle.r4_extent_demands.specs.r4_branch.declared.piece.TwigPiece.{TwigPiece}
use Rattle.r4_extent_demands.specs.r4_cell.Seen.{CellSeen}
use Rattle.r4_extent_demands.specs.r4_cell.declared.change.Fresh.{Fresh}
use Rattle.r4_content.specs.Edited.{Edits}
use Rattle.r4_extent_blocks.specs.Setting.{new_cell}
use Rattle.r4_extent_demands.proofs.r4_graft.Halves.{later_rank}
use Rattle.r4_extent_demands.specs.r4_path.Steps.{CountUp, name_of}
use Rattle.r4_extent_build.specs.Numbering.{IsNumbered, block_name, block_of, cells_coming, coming_count, is_coming, is_told_block, names_coming, with_numbers}

-- ---- the part that stands for a block that comes

pub record IsTold (p : TwigPiece) : Type 0 where
  pub is : p.part ≡ Blocks (record { start = 2 ^ 63; width = 1 })

told_part : (t : TwigPart) → is_told_block t ≡ true → t ≡ Blocks (record { start = 2 ^ 63; width = 1 })
told_part (Pointer to) e = absurd cc
told_part (Blocks u) e =
    let (start, width) = both (u.start == 2 ^ 63) (u.width == 1) e in
    λ i. Blocks (record { start = eqb-true u.start (2 ^ 63) start i; width = eqb-true u.width 1 width i })
  where
    both : (a b : Bool) → (a && b) ≡ true → (a ≡ true) × (b ≡ true)
    both true b h = (refl, h)
    both false b h = absurd cc

pub told : (old : List TwigPiece) (p : TwigPiece) → is_coming old p ≡ true → IsTold p
told old p e = record { is = told_part p.part (first (is_told_block p.part) _ e) }
  where
    first : (a b : Bool) → (a && b) ≡ true → a ≡ true
    first true b h = refl
    first false b h = absurd cc

-- where a part's unit ends, as its piece says
open_by : (offset key : ℕ) → TwigPart → Option ℕ
open_by o k (Pointer to) = None
open_by o k (Blocks u) = cond (nat_lt (o + 4096 * u.width) (2 ^ 64)) (Some (k + 4096 * u.width)) None

open_is : (p : TwigPiece) → open_end p ≡ open_by (offset_of p.key) (rank p.key) p.part
unfolding open_by
open_is p = refl

same_open : (n : ℕ) (p : TwigPiece) → p.part ≡ Blocks (record { start = 2 ^ 63; width = 1 }) → open_end (block_of p.key n) ≡ open_end p
unfolding open_by
same_open n p t = open_is (block_of p.key n) ∙ (sym (ap (open_by (offset_of p.key) (rank p.key)) t) ∙ sym (open_is p))

-- ---- one after another

module _ (old : List TwigPiece) where
  pub numbers_on : (n : ℕ) (p : TwigPiece) (ps : List TwigPiece) → is_coming old p ≡ true → with_numbers old n (p ∷ ps) ≡ block_of p.key n ∷ with_numbers old (n + 1) ps
  unfolding with_numbers
  numbers_on n p ps e = ap (λ (b : Bool). cond b (block_of p.key n ∷ with_numbers old (n + 1) ps) (p ∷ with_numbers old n ps)) e

  pub numbers_off : (n : ℕ) (p : TwigPiece) (ps : List TwigPiece) → is_coming old p ≡ false → with_numbers old n (p ∷ ps) ≡ p ∷ with_numbers old n ps
  unfolding with_numbers
  numbers_off n p ps e = ap (λ (b : Bool). cond b (block_of p.key n ∷ with_numbers old (n + 1) ps) (p ∷ with_numbers old n ps)) e

  pub count_on : (p : TwigPiece) (ps : List TwigPiece) → is_coming old p ≡ true → coming_count old (p ∷ ps) ≡ 1 + coming_count old ps
  unfolding coming_count
  count_on p ps e = ap (λ (b : Bool). cond b (1 + coming_count old ps) (coming_count old ps)) e

  pub count_off : (p : TwigPiece) (ps : List TwigPiece) → is_coming old p ≡ false → coming_count old (p ∷ ps) ≡ coming_count old ps
  unfolding coming_count
  count_off p ps e = ap (λ (b : Bool). cond b (1 + coming_count old ps) (coming_count old ps)) e

  pub names_on : (n : ℕ) (p : TwigPiece) (ps : List TwigPiece) → is_coming old p ≡ true → names_coming old n (p ∷ ps) ≡ block_name (rank p.key) n ∷ names_coming old (n + 1) ps
  unfolding names_coming
  names_on n p ps e = ap (λ (b : Bool). cond b (block_name (rank p.key) n ∷ names_coming old (n + 1) ps) (names_coming old n ps)) e

  pub names_off : (n : ℕ) (p : TwigPiece) (ps : List TwigPiece) → is_coming old p ≡ false → names_coming old n (p ∷ ps) ≡ names_coming old n ps
  unfolding names_coming
  names_off n p ps e = ap (λ (b : Bool). cond b (block_name (rank p.key) n ∷ names_coming old (n + 1) ps) (names_coming old n ps)) e

  module _ (e : Edits) where
    pub cells_on : (n : ℕ) (p : TwigPiece) (ps : List TwigPiece) → is_coming old p ≡ true → cells_coming e old n (p ∷ ps) ≡ new_cell e n p.key ∷ cells_coming e old (n + 1) ps
    unfolding cells_coming
    cells_on n p ps t = ap (λ (b : Bool). cond b (new_cell e n p.key ∷ cells_coming e old (n + 1) ps) (cells_coming e old n ps)) t

    pub cells_off : (n : ℕ) (p : TwigPiece) (ps : List TwigPiece) → is_coming old p ≡ false → cells_coming e old n (p ∷ ps) ≡ cells_coming e old n ps
    unfolding cells_coming
    cells_off n p ps t = ap (λ (b : Bool). cond b (new_cell e n p.key ∷ cells_coming e old (n + 1) ps) (cells_coming e old n ps)) t

    -- they have the names that come
    pub cells_named : (n : ℕ) (ps : List TwigPiece) → map name_of (cells_coming e old n ps) ≡ names_coming old n ps
    unfolding cells_coming names_coming
    cells_named n [] = refl
    cells_named n (p ∷ ps) = by_test (is_coming old p) refl (λ m. cells_named m ps)
      where
        by_test : (b : Bool) → is_coming old p ≡ b → ((m : ℕ) → map name_of (cells_coming e old m ps) ≡ names_coming old m ps) → map name_of (cells_coming e old n (p ∷ ps)) ≡ names_coming old n (p ∷ ps)
        by_test true t rest = ap (map name_of) (cells_on n p ps t) ∙ ((λ i. record { id = n; level = 0; lo = rank p.key; hi = later_rank p.key 4096 i } ∷ rest (n + 1) i) ∙ sym (names_on n p ps t))
        by_test false t rest = ap (map name_of) (cells_off n p ps t) ∙ (rest n ∙ sym (names_off n p ps t))

  pub numbers_next : (n hi : ℕ) (ps : List TwigPiece) → next_of hi (with_numbers old n ps) ≡ next_of hi ps
  unfolding with_numbers
  numbers_next n hi [] = refl
  numbers_next n hi (p ∷ ps) = by_test (is_coming old p) refl
    where
      by_test : (b : Bool) → is_coming old p ≡ b → next_of hi (with_numbers old n (p ∷ ps)) ≡ rank p.key
      by_test true e = ap (next_of hi) (numbers_on n p ps e)
      by_test false e = ap (next_of hi) (numbers_off n p ps e)

  -- ---- the same room

  pub numbers_bytes : (n : ℕ) (before : Option ℕ) (ps : List TwigPiece) → bytes_behind before (with_numbers old n ps) ≡ bytes_behind before ps
  unfolding bytes_behind with_numbers
  numbers_bytes n before [] = refl
  numbers_bytes n before (p ∷ ps) = by_test (is_coming old p) refl (λ m. numbers_bytes m (open_end p) ps)
    where
      by_test : (b : Bool) → is_coming old p ≡ b → ((m : ℕ) → bytes_behind (open_end p) (with_numbers old m ps) ≡ bytes_behind (open_end p) ps)
          → bytes_behind before (with_numbers old n (p ∷ ps)) ≡ part_bytes before (rank p.key) p.part + bytes_behind (open_end p) ps
      by_test false e rest = ap (bytes_behind before) (numbers_off n p ps e) ∙ ap (λ k. part_bytes before (rank p.key) p.part + k) (rest n)
      by_test true e rest =
          let t = (told old p e).is in
          ap (bytes_behind before) (numbers_on n p ps e)
          ∙ ((λ i. part_bytes before (rank p.key) (Blocks (record { start = n; width = 1 })) + bytes_behind (same_open n p t i) (with_numbers old (n + 1) ps))
          ∙ ((λ i. part_bytes before (rank p.key) (sym t i) + bytes_behind (open_end p) (with_numbers old (n + 1) ps))
          ∙ ap (λ k. part_bytes before (rank p.key) p.part + k) (rest (n + 1))))

  -- ---- the same units

  pub numbers_units : (n : ℕ) (ps : List TwigPiece) → 1 ≤ n → units_of (with_numbers old n ps) ≡ units_of ps
  unfolding units_of with_numbers
  numbers_units n [] some = refl
  numbers_units n (p ∷ ps) some = by_test (is_coming old p) refl (λ m h. numbers_units m ps h)
    where
      no_hole : is_hole (record { start = n; width = 1 }) ≡ false
      no_hole = ne_eqb n 0 (λ e. omega (arith, e, some))

      by_test : (b : Bool) → is_coming old p ≡ b → ((m : ℕ) → 1 ≤ m → units_of (with_numbers old m ps) ≡ units_of ps)
          → units_of (with_numbers old n (p ∷ ps)) ≡ part_units (rank p.key) p.part ++ units_of ps
      by_test false e rest = ap units_of (numbers_off n p ps e) ∙ ap (λ us. part_units (rank p.key) p.part ++ us) (rest n some)
      by_test true e rest =
          ap units_of (numbers_on n p ps e)
          ∙ ((λ i. cond (no_hole i) (zeros_from (rank p.key) (4096 * 1)) [] ++ units_of (with_numbers old (n + 1) ps))
          ∙ (rest (n + 1) (omega arith) ∙ ap (λ us. us ++ units_of ps) (sym (ap (part_units (rank p.key)) (told old p e).is))))

  -- ---- sound pieces, one behind the other

  pub numbers_follow : (n from to : ℕ) (ps : List TwigPiece) → 2 ^ 63 ≤ n → Follow from to ps → Follow from to (with_numbers old n ps)
  unfolding with_numbers
  numbers_follow n from to [] high f = f
  numbers_follow n from to (p ∷ ps) high f = by_test (is_coming old p) refl (λ m h. numbers_follow m (piece_end p) to ps h f.2)
    where
      by_test : (b : Bool) → is_coming old p ≡ b → ((m : ℕ) → 2 ^ 63 ≤ m → Follow (piece_end p) to (with_numbers old m ps)) → Follow from to (with_numbers old n (p ∷ ps))
      by_test false e rest = subst (Follow from to) (sym (numbers_off n p ps e)) (f.0, f.1, rest n high)
      by_test true e rest =
          let t = (told old p e).is in
          let ends : piece_end p ≡ rank p.key + 4096 * 1 = ap (part_end (rank p.key)) t in
          let fits = (subst (IsSoundPart (offset_of p.key)) t f.1.1).1 in
          subst (Follow from to) (sym (numbers_on n p ps e)) (f.0, (f.1.0, (inl (refl, high, refl), fits)), subst (λ k. Follow k to (with_numbers old (n + 1) ps)) ends (rest (n + 1) (omega (arith, high))))

  -- ---- their numbers

  pub names_count : (n : ℕ) (ps : List TwigPiece) → CountUp n (map (λ (m : Name). m.id) (names_coming old n ps)) × (length (names_coming old n ps) ≡ coming_count old ps)
  unfolding names_coming coming_count
  names_count n [] = (tt, refl)
  names_count n (p ∷ ps) = by_test (is_coming old p) refl (λ m. names_count m ps)
    where
      by_test : (b : Bool) → is_coming old p ≡ b → ((m : ℕ) → CountUp m (map (λ (k : Name). k.id) (names_coming old m ps)) × (length (names_coming old m ps) ≡ coming_count old ps))
          → CountUp n (map (λ (k : Name). k.id) (names_coming old n (p ∷ ps))) × (length (names_coming old n (p ∷ ps)) ≡ coming_count old (p ∷ ps))
      by_test false e rest =
          let h = rest n in (
            subst (λ ns. CountUp n (map (λ (k : Name). k.id) ns)) (sym (names_off n p ps e)) h.0,
            ap length (names_off n p ps e) ∙ (h.1 ∙ sym (count_off p ps e)),
          )
      by_test true e rest =
          let h = rest (n + 1) in (
            subst (λ ns. CountUp n (map (λ (k : Name). k.id) ns)) (sym (names_on n p ps e)) (refl, h.0),
            ap length (names_on n p ps e) ∙ ((let g = h.1 in let one_more : suc (length (names_coming old (n + 1) ps)) ≡ 1 + coming_count old ps = omega (arith, g) in one_more) ∙ sym (count_on p ps e)),
          )

  -- ---- more pieces behind others

  pub count_append : (xs ys : List TwigPiece) → coming_count old (xs ++ ys) ≡ coming_count old xs + coming_count old ys
  unfolding coming_count
  count_append [] ys = omega arith
  count_append (p ∷ xs) ys = by_test (is_coming old p) refl (count_append xs ys)
    where
      by_test : (b : Bool) → is_coming old p ≡ b → coming_count old (xs ++ ys) ≡ coming_count old xs + coming_count old ys → coming_count old (p ∷ (xs ++ ys)) ≡ coming_count old (p ∷ xs) + coming_count old ys
      by_test true e h = let a = count_on p (xs ++ ys) e in let b = count_on p xs e in omega (arith, h, a, b)
      by_test false e h = let a = count_off p (xs ++ ys) e in let b = count_off p xs e in omega (arith, h, a, b)

  pub numbers_append : (n : ℕ) (xs ys : List TwigPiece) → with_numbers old n (xs ++ ys) ≡ with_numbers old n xs ++ with_numbers old (n + coming_count old xs) ys
  unfolding with_numbers coming_count
  numbers_append n [] ys = ap (λ k. with_numbers old k ys) (let e : n ≡ n + 0 = omega arith in e)
  numbers_append n (p ∷ xs) ys = by_test (is_coming old p) refl (λ m. numbers_append m xs ys)
    where
      by_test : (b : Bool) → is_coming old p ≡ b → ((m : ℕ) → with_numbers old m (xs ++ ys) ≡ with_numbers old m xs ++ with_numbers old (m + coming_count old xs) ys)
          → with_numbers old n (p ∷ (xs ++ ys)) ≡ with_numbers old n (p ∷ xs) ++ with_numbers old (n + coming_count old (p ∷ xs)) ys
      by_test true e h =
          let k : n + 1 + coming_count old xs ≡ n + coming_count old (p ∷ xs) = let c = count_on p xs e in omega (arith, c) in
          numbers_on n p (xs ++ ys) e ∙ (ap (λ qs. block_of p.key n ∷ qs) (h (n + 1))
          ∙ (λ i. sym (numbers_on n p xs e) i ++ with_numbers old (k i) ys))
      by_test false e h =
          let k : n + coming_count old xs ≡ n + coming_count old (p ∷ xs) = let c = count_off p xs e in omega (arith, c) in
          numbers_off n p (xs ++ ys) e ∙ (ap (λ qs. p ∷ qs) (h n)
          ∙ (λ i. sym (numbers_off n p xs e) i ++ with_numbers old (k i) ys))

  pub names_append : (n : ℕ) (xs ys : List TwigPiece) → names_coming old n (xs ++ ys) ≡ names_coming old n xs ++ names_coming old (n + coming_count old xs) ys
  unfolding names_coming coming_count
  names_append n [] ys = ap (λ k. names_coming old k ys) (let e : n ≡ n + 0 = omega arith in e)
  names_append n (p ∷ xs) ys = by_test (is_coming old p) refl (λ m. names_append m xs ys)
    where
      by_test : (b : Bool) → is_coming old p ≡ b → ((m : ℕ) → names_coming old m (xs ++ ys) ≡ names_coming old m xs ++ names_coming old (m + coming_count old xs) ys)
          → names_coming old n (p ∷ (xs ++ ys)) ≡ names_coming old n (p ∷ xs) ++ names_coming old (n + coming_count old (p ∷ xs)) ys
      by_test true e h =
          let k : n + 1 + coming_count old xs ≡ n + coming_count old (p ∷ xs) = let c = count_on p xs e in omega (arith, c) in
          names_on n p (xs ++ ys) e ∙ (ap (λ qs. block_name (rank p.key) n ∷ qs) (h (n + 1))
          ∙ (λ i. sym (names_on n p xs e) i ++ names_coming old (k i) ys))
      by_test false e h =
          let k : n + coming_count old xs ≡ n + coming_count old (p ∷ xs) = let c = count_off p xs e in omega (arith, c) in
          names_off n p (xs ++ ys) e ∙ (h n
          ∙ (λ i. sym (names_off n p xs e) i ++ names_coming old (k i) ys))

  pub cells_append : (e : Edits) (n : ℕ) (xs ys : List TwigPiece) → cells_coming e old n (xs ++ ys) ≡ cells_coming e old n xs ++ cells_coming e old (n + coming_count old xs) ys
  unfolding cells_coming coming_count
  cells_append e n [] ys = ap (λ k. cells_coming e old k ys) (let same : n ≡ n + 0 = omega arith in same)
  cells_append e n (p ∷ xs) ys = by_test (is_coming old p) refl (λ m. cells_append e m xs ys)
    where
      by_test : (b : Bool) → is_coming old p ≡ b → ((m : ℕ) → cells_coming e old m (xs ++ ys) ≡ cells_coming e old m xs ++ cells_coming e old (m + coming_count old xs) ys)
          → cells_coming e old n (p ∷ (xs ++ ys)) ≡ cells_coming e old n (p ∷ xs) ++ cells_coming e old (n + coming_count old (p ∷ xs)) ys
      by_test true t h =
          let k : n + 1 + coming_count old xs ≡ n + coming_count old (p ∷ xs) = let c = count_on p xs t in omega (arith, c) in
          cells_on e n p (xs ++ ys) t ∙ (ap (λ qs. new_cell e n p.key ∷ qs) (h (n + 1))
          ∙ (λ i. sym (cells_on e n p xs t) i ++ cells_coming e old (k i) ys))
      by_test false t h =
          let k : n + coming_count old xs ≡ n + coming_count old (p ∷ xs) = let c = count_off p xs t in omega (arith, c) in
          cells_off e n p (xs ++ ys) t ∙ (h n
          ∙ (λ i. sym (cells_off e n p xs t) i ++ cells_coming e old (k i) ys))

  -- ---- one piece more

  module _ (e : Edits) (before mid after : Fresh) (xs : List TwigPiece) (p : TwigPiece) (made made2 : List TwigPiece) (blocks blocks2 : List CellSeen) (was : IsNumbered old xs e before mid made blocks) where
    mid_next : mid.next ≡ before.next + coming_count old xs
    mid_next = ap (λ (f : Fresh). f.next) was.left

    after_is : (n : ℕ) → after.next ≡ before.next + n → after.end ≡ before.end → after ≡ record before { next = before.next + n }
    after_is n a b = λ i. record { next = a i; end = b i }

    pub one_coming : is_coming old p ≡ true → made2 ≡ made ++ block_of p.key mid.next ∷ [] → blocks2 ≡ blocks ++ new_cell e mid.next p.key ∷ [] → after ≡ record mid { next = mid.next + 1 } → IsNumbered old (xs ++ p ∷ []) e before after made2 blocks2
    unfolding with_numbers cells_coming coming_count
    one_coming on is more left =
        let a = count_append xs (p ∷ []) in
        let c = count_on p [] on in
        let n = mid_next in
        let l = ap (λ (f : Fresh). f.next) left in
        record {
          pieces = is ∙ ((λ i. was.pieces i ++ block_of p.key (mid_next i) ∷ [])
              ∙ (ap (λ qs. with_numbers old before.next xs ++ qs) (sym (numbers_on (before.next + coming_count old xs) p [] on)) ∙ sym (numbers_append before.next xs (p ∷ []))));
          cells = more ∙ ((λ i. was.cells i ++ new_cell e (mid_next i) p.key ∷ [])
              ∙ (ap (λ qs. cells_coming e old before.next xs ++ qs) (sym (cells_on e (before.next + coming_count old xs) p [] on)) ∙ sym (cells_append e before.next xs (p ∷ []))));
          left = after_is (coming_count old (xs ++ p ∷ [])) (omega (arith, a, c, n, l)) (ap (λ (f : Fresh). f.end) left ∙ ap (λ (f : Fresh). f.end) was.left);
        }

    pub one_kept : is_coming old p ≡ false → made2 ≡ made ++ p ∷ [] → IsNumbered old (xs ++ p ∷ []) e before mid made2 blocks
    unfolding with_numbers cells_coming coming_count
    one_kept off is =
        let a = count_append xs (p ∷ []) in
        let c = count_off p [] off in
        record {
          pieces = is ∙ (ap (λ qs. qs ++ p ∷ []) was.pieces
              ∙ (ap (λ qs. with_numbers old before.next xs ++ qs) (sym (numbers_off (before.next + coming_count old xs) p [] off)) ∙ sym (numbers_append before.next xs (p ∷ []))));
          cells = was.cells ∙ (sym (append-nil (cells_coming e old before.next xs))
              ∙ (ap (λ qs. cells_coming e old before.next xs ++ qs) (sym (cells_off e (before.next + coming_count old xs) p [] off)) ∙ sym (cells_append e before.next xs (p ∷ []))));
          left = was.left ∙ ap (λ k. record before { next = before.next + k }) (let same : coming_count old xs ≡ coming_count old (xs ++ p ∷ []) = omega (arith, a, c) in same);
        }

  pub count_room : (xs ys : List TwigPiece) (p : TwigPiece) → is_coming old p ≡ true → coming_count old xs + 1 ≤ coming_count old (xs ++ (p ∷ ys))
  count_room xs ys p on = let a = count_append xs (p ∷ ys) in let c = count_on p ys on in omega (arith, a, c)

pub at_start : (old : List TwigPiece) (e : Edits) (f : Fresh) (made : List TwigPiece) (blocks : List CellSeen) → made ≡ [] → blocks ≡ [] → IsNumbered old [] e f f made blocks
unfolding with_numbers cells_coming coming_count
at_start old e f made blocks no_pieces no_blocks = record {
  pieces = no_pieces;
  cells = no_blocks;
  left = ap (λ k. record f { next = k }) (let same : f.next ≡ f.next + 0 = omega arith in same);
}
