-- What was judged of a node's items so far, and of an extent's units.
use Rattle.std.proofs.Common.{◌≡◌, ℕ, zero, suc, ◌+◌, ◌*◌, ◌≤◌, List, [], ◌∷◌, ◌++◌, drop, take, length, refl, sym, ap}
use Rattle.std.proofs.Common.{subst, ◌∙◌, arith, append-nil, append_assoc}
use Rattle.std.specs.Prelude.{Option, Some, None, if◌then◌else◌, slice_get}
use Rattle.std.proofs.lemmas.Option.{same_Some}
use Rattle.r4_base.specs.Cell.{block_names, names_in, run_names}
use Rattle.r4_base.specs.Extents.{blocks_in, is_hole}
use Rattle.r4_base.specs.Key.{rank}
use Rattle.r4_base.specs.Node.{Item, items_of}
use Rattle.r4_base.specs.Tree.{Name}
use Rattle.r4_base.specs.declared.items.Unit.{Unit as ExtentUnit}
use Rattle.r4_cell.specs.Seen.{CellSeen}
use Rattle.r4_judging.specs.Judging.{IsJudged, first_of}
use Rattle.r4_judging.specs.declared.misfit.Misfit.{Misfit}
use Rattle.r4_judging.proofs.Firsts.{judged_names, no_names}

-- names that were judged, before others
pub record AreJudged (all rest : List Name) (met : List CellSeen) (found : Option Misfit) : Type 0 where
  pub before : List Name
  pub parts : before ++ rest ≡ all
  pub judged : IsJudged before met found

pub none_judged : (all : List Name) (met : List CellSeen) → AreJudged all all met None
none_judged all met = record { before = []; parts = refl; judged = no_names met }

pub more_judged : (all here rest later : List Name) (met : List CellSeen) (a b : Option Misfit) → rest ≡ here ++ later
    → AreJudged all rest met a → IsJudged here met b → AreJudged all later met (first_of a b)
more_judged all here rest later met a b is h j = record {
  before = h.before ++ here;
  parts = append_assoc h.before here later ∙ (ap (λ (ns : List Name). h.before ++ ns) (sym is) ∙ h.parts);
  judged = judged_names h.before here met a b h.judged j;
}

pub all_judged : (all rest : List Name) (met : List CellSeen) (a : Option Misfit) → rest ≡ [] → AreJudged all rest met a
    → IsJudged all met a
all_judged all rest met a none h =
    subst (λ (ns : List Name). IsJudged ns met a)
    (sym (append-nil h.before) ∙ (ap (λ (ns : List Name). h.before ++ ns) (sym none) ∙ h.parts)) h.judged

drop_past : {A : Type 0} (k : ℕ) (xs : List A) → length xs ≤ k → drop k xs ≡ []
drop_past zero [] le = refl
drop_past (suc k) [] le = refl
drop_past zero (x ∷ xs) le = absurd (omega (arith, le))
drop_past (suc k) (x ∷ xs) le = drop_past k xs (omega (arith, le))

-- ---- items

abbrev pub AreWalked : CellSeen → (place : ℕ) → List CellSeen → Option Misfit → Type 0
AreWalked c place met found =
    AreJudged (names_in c.level (rank c.hi) (items_of c.block))
    (names_in c.level (rank c.hi) (drop place (items_of c.block))) met found

pub no_items_left : (level hi place : ℕ) (items : List Item) → length items ≤ place
    → names_in level hi (drop place items) ≡ []
unfolding names_in
no_items_left level hi place items le = ap (names_in level hi) (drop_past place items le)

-- ---- units

abbrev pub AreUnitsWalked : (key : ℕ) → List ExtentUnit → (place : ℕ) → List CellSeen → Option Misfit → Type 0
AreUnitsWalked key us place met found =
    AreJudged (block_names key us) (block_names (key + 4096 * blocks_in (take place us)) (drop place us)) met found

units_suc : (key : ℕ) (us : List ExtentUnit) (place : ℕ) (u : ExtentUnit) → slice_get us place ≡ Some u
    → (blocks_in (take (suc place) us) ≡ blocks_in (take place us) + u.width)
    × (block_names (key + 4096 * blocks_in (take place us)) (drop place us)
    ≡ (if is_hole u then [] else run_names (key + 4096 * blocks_in (take place us)) u.start u.width) ++ block_names
    (key + 4096 * blocks_in (take (suc place) us)) (drop (suc place) us))
units_suc key [] place u is = absurd cc
units_suc key (x ∷ us) zero u is =
    let same = same_Some x u is in
    let none : key ≡ key + 4096 * 0 = omega arith in
    let on : key + 4096 * x.width ≡ key + 4096 * (x.width + 0) = omega arith in (
      (let w = ap (λ (y : ExtentUnit). y.width) same in omega (arith, w)),
      subst (λ (k : ℕ). block_names k (x ∷ us) ≡ (if is_hole u then [] else run_names k u.start u.width) ++ block_names
          (key + 4096 * (x.width + 0)) us) none
          (subst (λ (k : ℕ). block_names key (x ∷ us)
          ≡ (if is_hole u then [] else run_names key u.start u.width) ++ block_names k us) on
          (ap (λ (y : ExtentUnit). (if is_hole y then [] else run_names key y.start y.width) ++ block_names
          (key + 4096 * x.width) us) same)),
    )
units_suc key (x ∷ us) (suc place) u is =
    let (count, names) = units_suc (key + 4096 * x.width) us place u is in
    let a : key + 4096 * x.width + 4096 * blocks_in (take place us)
    ≡ key + 4096 * (x.width + blocks_in (take place us)) = omega arith in
    let b : key + 4096 * x.width + 4096 * blocks_in (take (suc place) us)
    ≡ key + 4096 * (x.width + blocks_in (take (suc place) us)) = omega arith in (
      omega (arith, count),
      subst (λ (k : ℕ). block_names k (drop place us)
          ≡ (if is_hole u then [] else run_names k u.start u.width) ++ block_names
          (key + 4096 * (x.width + blocks_in (take (suc place) us))) (drop (suc place) us)) a
          (subst (λ (k : ℕ). block_names (key + 4096 * x.width + 4096 * blocks_in (take place us)) (drop place us)
          ≡ (if is_hole u then [] else run_names (key + 4096 * x.width + 4096 * blocks_in (take place us)) u.start
          u.width) ++ block_names k (drop (suc place) us)) b names),
    )

pub units_next : (key : ℕ) (us : List ExtentUnit) (place : ℕ) (u : ExtentUnit) → slice_get us place ≡ Some u
    → (blocks_in (take (place + 1) us) ≡ blocks_in (take place us) + u.width)
    × (block_names (key + 4096 * blocks_in (take place us)) (drop place us)
    ≡ (if is_hole u then [] else run_names (key + 4096 * blocks_in (take place us)) u.start u.width) ++ block_names
    (key + 4096 * blocks_in (take (place + 1) us)) (drop (place + 1) us))
units_next key us place u is =
    let e : suc place ≡ place + 1 = omega arith in
    subst (λ (k : ℕ). (blocks_in (take k us) ≡ blocks_in (take place us) + u.width) ×
    (block_names (key + 4096 * blocks_in (take place us)) (drop place us)
    ≡ (if is_hole u then [] else run_names (key + 4096 * blocks_in (take place us)) u.start u.width) ++ block_names
    (key + 4096 * blocks_in (take k us)) (drop k us))) e
    (units_suc key us place u is)

pub no_units_left : (key place : ℕ) (us : List ExtentUnit) → length us ≤ place
    → block_names (key + 4096 * blocks_in (take place us)) (drop place us) ≡ []
no_units_left key place us le = ap (block_names (key + 4096 * blocks_in (take place us))) (drop_past place us le)

pub units_within : (us : List ExtentUnit) (place : ℕ) (u : ExtentUnit) → slice_get us place ≡ Some u
    → blocks_in (take place us) + u.width ≤ blocks_in us
units_within [] place u is = absurd cc
units_within (x ∷ us) zero u is = let w = ap (λ (y : ExtentUnit). y.width) (same_Some x u is) in omega (arith, w)
units_within (x ∷ us) (suc place) u is = let le = units_within us place u is in omega (arith, le)
