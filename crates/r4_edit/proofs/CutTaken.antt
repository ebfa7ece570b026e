-- What takes up the range of pieces that go.
use Rattle.std.proofs.Common.{◌≡◌, ◌↔◌, ◌⊎◌, inl, inr, ℕ, ◌^◌, ◌<◌, ◌≤◌, Bool, true, false, List, [], ◌∷◌, ◌++◌, length, map, refl, sym, ap, subst, ◌∙◌, arith}
use Rattle.std.specs.Prelude.{Contains, Option, None, Some, if◌then◌else◌}
use Rattle.std.proofs.lemmas.List.Elements.{Contains-append_cases, Contains-append_left, Contains-append_right}
use Rattle.r4_base.specs.Cell.{names_block}
use Rattle.r4_base.specs.Key.{rank}
use Rattle.r4_base.specs.Tree.{Name}
use Rattle.r4_base.specs.declared.key.Key.{Key}
use Rattle.r4_path.specs.r4_branch.Pieces.{Follow, bytes_behind, is_at, last_end, names_of, next_of, piece_end, twig_bytes, units_of}
use Rattle.r4_path.specs.r4_branch.declared.piece.TwigPart.TheVariants.{Pointer}
use Rattle.r4_path.specs.r4_branch.declared.piece.TwigPiece.{TwigPiece}
use Rattle.r4_path.specs.r4_cell.Seen.{CellSeen}
use Rattle.r4_path.proofs.r4_graft.Placed.{follow_end, has_end}
use Rattle.r4_path.specs.r4_patch.Joining.{ids_of}
use Rattle.r4_edit.specs.CutBlocks.{IsTakenUp, next_key, pointer_over}
use Rattle.r4_edit.specs.LeafParts.{IsEmptyLeaf}
use Rattle.r4_path.specs.Sharing.{IsSound}
use Rattle.r4_path.specs.Steps.{CountUp, IsNameOf, name_of}
use Rattle.r4_path.proofs.CutEnds.{open_names}
use Rattle.r4_path.proofs.r4_patch.Members.{Distinct, cases, none}

-- ---- names of cells

pub name_append : (xs ys : List CellSeen) (n : Name) → IsNameOf (xs ++ ys) n ↔ (IsNameOf xs n ⊎ IsNameOf ys n)
name_append xs ys n = (
  (λ (c, at, is). elim (Contains-append_cases xs ys c at) [ inl left ↦ inl (c, left, is) | inr right ↦ inr (c, right, is) ]),
  (λ h. elim h [
    | inl left ↦ (left.0, Contains-append_left xs ys left.0 left.1, left.2)
    | inr right ↦ (right.0, Contains-append_right xs ys right.0 right.1, right.2)
  ]),
)

-- ---- a pointer to a new leaf

pub next_is : (hi : Key) (ys : List TwigPiece) → rank (next_key hi ys) ≡ next_of (rank hi) ys
next_is hi [] = refl
next_is hi (y ∷ ys) = refl

pub next_higher : (from hi : ℕ) (ys : List TwigPiece) → Follow from hi ys → next_of hi ys ≤ hi
next_higher from hi [] f = omega arith
next_higher from hi (y ∷ ys) f =
    let e = has_end y f.1 in
    let r = follow_end (piece_end y) hi ys f.2 in
    omega (arith, e, r)

pub over_next : (h : ℕ) (xs ms ys : List TwigPiece) (id : ℕ) → next_of h (xs ++ (pointer_over (last_end None xs) id ms ++ ys)) ≡ next_of h (xs ++ (ms ++ ys))
over_next h (x ∷ xs) ms ys id = refl
over_next h [] [] ys id = refl
over_next h [] (m ∷ ms) ys id = refl

pub over_follow : (from to : ℕ) (before : Option ℕ) (id : ℕ) (ms : List TwigPiece) → names_block true (2 ^ 64) (Some id) ≡ true → Follow from to ms → Follow from to (pointer_over before id ms)
over_follow from to before id [] may f = f
over_follow from to before id (m ∷ ms) may f = by_test (is_at before (rank m.key))
  where
    by_test : (b : Bool) → Follow from to (if b then [] else record { key = m.key; part = Pointer (record { 0 = id }) } ∷ [])
    by_test true = let e = follow_end from to (m ∷ ms) f in omega (arith, e)
    by_test false =
        let e = has_end m f.1 in
        let r = follow_end (piece_end m) to ms f.2 in
        (f.0, (f.1.0, may), omega (arith, e, r))

pub over_left : (h : ℕ) (xs ms : List TwigPiece) (id : ℕ) → names_of (next_of h (pointer_over (last_end None xs) id ms)) xs ≡ names_of (next_of h ms) xs
over_left h xs [] id = refl
over_left h xs (m ∷ ms) id = by_test (is_at (last_end None xs) (rank m.key)) refl
  where
    by_test : (b : Bool) → b ≡ is_at (last_end None xs) (rank m.key) → names_of (next_of h (if b then [] else record { key = m.key; part = Pointer (record { 0 = id }) } ∷ [])) xs ≡ names_of (rank m.key) xs
    by_test true is = open_names (rank m.key) None xs (sym is) h (rank m.key)
    by_test false is = refl

pub over_units : (before : Option ℕ) (id : ℕ) (ms : List TwigPiece) → units_of (pointer_over before id ms) ≡ []
unfolding units_of
over_units before id [] = refl
over_units before id (m ∷ ms) = by_test (is_at before (rank m.key))
  where
    by_test : (b : Bool) → units_of (if b then [] else record { key = m.key; part = Pointer (record { 0 = id }) } ∷ []) ≡ []
    by_test true = refl
    by_test false = refl

pub over_bytes : (before : Option ℕ) (id : ℕ) (ms : List TwigPiece) → twig_bytes (pointer_over before id ms) ≤ 46
unfolding bytes_behind
over_bytes before id [] = omega arith
over_bytes before id (m ∷ ms) = by_test (is_at before (rank m.key))
  where
    by_test : (b : Bool) → twig_bytes (if b then [] else record { key = m.key; part = Pointer (record { 0 = id }) } ∷ []) ≤ 46
    by_test true = omega arith
    by_test false = omega arith

pub over_few : (before : Option ℕ) (id : ℕ) (ms : List TwigPiece) → length {A = TwigPiece} (pointer_over before id ms) ≤ 1
over_few before id [] = omega arith
over_few before id (m ∷ ms) = by_test (is_at before (rank m.key))
  where
    by_test : (b : Bool) → length {A = TwigPiece} (if b then [] else record { key = m.key; part = Pointer (record { 0 = id }) } ∷ []) ≤ 1
    by_test true = omega arith
    by_test false = omega arith

-- ---- the new leaf

-- A leaf that begins between the keys, with this number and up to this key.
pub record IsNewIn (from to id : ℕ) (hi : Key) (c : CellSeen) : Type 0 where
  pub number : c.id ≡ id
  pub level_is : c.level ≡ 1
  pub low : from ≤ rank c.lo
  pub some : rank c.lo < to
  pub ends : c.hi ≡ hi
  pub sound : IsSound c

-- The pieces name these cells, at most one.
pub record AreNew (from to id h : ℕ) (hi : Key) (ns : List TwigPiece) (cells : List CellSeen) : Type 0 where
  pub names : names_of h ns ≡ map name_of cells
  pub each : (c : CellSeen) → Contains cells c → IsNewIn from to id hi c
  pub counts : CountUp id (ids_of cells)
  pub long : length (ids_of cells) ≡ length ns
  pub once : Distinct cells

no_new : (from to id h : ℕ) (hi : Key) → AreNew from to id h hi [] []
unfolding names_of
no_new from to id h hi = record {
  names = refl;
  each = λ c at. absurd (none c at);
  counts = tt;
  long = refl;
  once = tt;
}

one_new : (from to id h : ℕ) (hi : Key) (m : TwigPiece) (mkfs_id : ℕ) (c : CellSeen) → IsEmptyLeaf id m.key hi mkfs_id c → from ≤ rank m.key → rank m.key < to → rank hi ≡ h
    → AreNew from to id h hi (record { key = m.key; part = Pointer (record { 0 = id }) } ∷ []) (c ∷ [])
unfolding names_of
one_new from to id h hi m mkfs_id c new low some same =
    let begins : rank c.lo ≡ rank m.key = ap (λ (k : Key). rank k) new.from in
    record {
      names = (λ i. record { id = sym new.number i; level = sym new.level_is i; lo = sym begins i; hi = (sym same ∙ ap (λ (k : Key). rank k) (sym new.to)) i } ∷ []);
      each = λ d at. elim (cases c d [] at) [
        | inl is ↦ subst (IsNewIn from to id hi) (sym is) (record {
          number = new.number;
          level_is = new.level_is;
          low = omega (arith, begins, low);
          some = omega (arith, begins, some);
          ends = new.to;
          sound = new.sound;
        })
        | inr more ↦ absurd (none d more)
      ];
      counts = (new.number, tt);
      long = refl;
      once = ((λ d at e. absurd (none d at)), tt);
    }

pub over_new : (from to id h : ℕ) (hi : Key) (before : Option ℕ) (ms : List TwigPiece) (mkfs_id : ℕ) (cells : List CellSeen) → Follow from to ms → rank hi ≡ h
    → IsTakenUp None (pointer_over before id ms) id hi mkfs_id cells → AreNew from to id h hi (pointer_over before id ms) cells
over_new from to id h hi before [] mkfs_id cells f same taken = subst (AreNew from to id h hi []) (sym taken) (no_new from to id h hi)
over_new from to id h hi before (m ∷ ms) mkfs_id cells f same taken = by_test (is_at before (rank m.key)) taken
  where
    by_test : (b : Bool) → IsTakenUp None (if b then [] else record { key = m.key; part = Pointer (record { 0 = id }) } ∷ []) id hi mkfs_id cells
        → AreNew from to id h hi (if b then [] else record { key = m.key; part = Pointer (record { 0 = id }) } ∷ []) cells
    by_test true all = subst (AreNew from to id h hi []) (sym all) (no_new from to id h hi)
    by_test false (c, is, new) =
        let e = has_end m f.1 in
        let r = follow_end (piece_end m) to ms f.2 in
        subst (AreNew from to id h hi (record { key = m.key; part = Pointer (record { 0 = id }) } ∷ [])) (sym is)
        (one_new from to id h hi m mkfs_id c new f.0 (omega (arith, e, r)) same)
