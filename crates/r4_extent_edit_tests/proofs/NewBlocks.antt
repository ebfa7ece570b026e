-- An extent of blocks that have no place yet may be put in, and its blocks are new.
use Rattle.std.proofs.Common.{◌≡◌, inl, inr, ℕ, suc, ◌+◌, ◌*◌, ◌^◌, ◌-◌, ◌<◌, ◌≤◌, true, false, List, [], ◌∷◌, ◌++◌, length, map}
use Rattle.std.proofs.Common.{refl, sym, ap, subst, ◌∙◌, arith}
use Rattle.std.specs.Prelude.{Contains, slice_get, Some, ◌==◌, if◌then◌else◌}
use Rattle.std.proofs.lemmas.Bool.{ne_eqb}
use Rattle.std.proofs.lemmas.Option.{same_Some}
use Rattle.r4_base.specs.Cell.{block_names, item_end, run_names}
use Rattle.r4_base.specs.Extents.{AreLawfulUnits, blocks_in, is_hole, units_of}
use Rattle.r4_base.specs.Key.{rank}
use Rattle.r4_base.specs.Node.{Item}
use Rattle.r4_base.specs.Tree.{Name, Store}
use Rattle.r4_base.specs.Value.{Value}
use Rattle.r4_base.specs.declared.items.Unit.{Unit as ExtentUnit}
use Rattle.r4_branch.proofs.SoundItems.{extent_item}
use Rattle.r4_branch.proofs.Spelled.{extent_sound}
use Rattle.r4_cell.specs.declared.change.Fresh.{Fresh}
use Rattle.r4_edit.specs.Extents.{AreNewBlocks, IsGivenExtent, item_blocks}
use Rattle.r4_extent_edit_tests.specs.Blocks.{CountBlocks, IsExtentOf}
use Rattle.r4_patch.proofs.Members.{cases, here, later, none}
use Rattle.r4_path.proofs.Counted.{count_once}
use Rattle.r4_path.proofs.Rising.{count_within}
use Rattle.r4_path.specs.Steps.{CountUp, IsFree}
use Rattle.r4_twig.proofs.Faults.{body_none}

-- ---- units that count up

-- the unit of one block with this number
abbrev pub block_unit : ℕ → ExtentUnit
block_unit n = record { start = n; width = 1 }

pub from_each : (s : ℕ) (us : List ExtentUnit)
    → ((k : ℕ) → k < length us → slice_get us k ≡ Some (block_unit (s + k))) → CountBlocks s us
from_each s [] each = tt
from_each s (u ∷ us) each =
    let first = same_Some u (block_unit (s + 0)) (each 0 (omega arith)) in
    let start = ap (λ (x : ExtentUnit). x.start) first in (
      omega (arith, start),
      ap (λ (x : ExtentUnit). x.width) first,
      from_each (s + 1) us (λ k less. each (suc k) (omega (arith, less))
          ∙ ap (λ (n : ℕ). Some (block_unit n)) (omega arith)),
    )

lawful : (s : ℕ) (us : List ExtentUnit) → 2 ^ 63 ≤ s → CountBlocks s us → AreLawfulUnits true (2 ^ 64) us
lawful s [] low count = tt
lawful s (u ∷ us) low count = (
  inl (refl, (let start = count.0 in omega (arith, start, low)), count.1),
  lawful (s + 1) us (omega (arith, low)) count.2,
)

as_many : (s : ℕ) (us : List ExtentUnit) → CountBlocks s us → blocks_in us ≡ length us
as_many s [] count = refl
as_many s (u ∷ us) count =
    let rest = as_many (s + 1) us count.2 in
    let width = count.1 in
    omega (arith, rest, width)

-- ---- their names

-- a block that is none of a hole has one name
one_name : (s k : ℕ) (u : ExtentUnit) (ns : List Name) → 2 ^ 63 ≤ s → u ≡ block_unit s
    → (if is_hole u then [] else run_names k u.start u.width) ++ ns
    ≡ record { id = s; level = 0; lo = k; hi = k + 4096 } ∷ ns
one_name s k u ns low is =
    let other : (s == 0) ≡ false = ne_eqb s 0 (λ e. omega (arith, low, e)) in
    ap (λ (x : ExtentUnit). (if is_hole x then [] else run_names k x.start x.width) ++ ns) is ∙ rw other refl

names_count : (s k : ℕ) (us : List ExtentUnit) → 2 ^ 63 ≤ s → CountBlocks s us
    → CountUp s (map (λ (n : Name). n.id) (block_names k us))
    × (length (map (λ (n : Name). n.id) (block_names k us)) ≡ length us)
names_count s k [] low count = (tt, refl)
names_count s k (u ∷ us) low count =
    let rest = names_count (s + 1) (k + 4096 * u.width) us (omega (arith, low)) count.2 in
    let is : u ≡ block_unit s = λ i. record { start = count.0 i; width = count.1 i } in
    let long = rest.1 in
    let ns = block_names (k + 4096 * u.width) us in
    subst (λ (all : List Name). CountUp s (map (λ (n : Name). n.id) all)
    × (length (map (λ (n : Name). n.id) all) ≡ length (u ∷ us)))
    (sym (one_name s k u ns low is)) ((refl, rest.0), omega (arith, long))

id_in : (ns : List Name) (n : Name) → Contains ns n → Contains (map (λ (m : Name). m.id) ns) n.id
id_in [] n at = absurd (none n at)
id_in (m ∷ ns) n at = elim (cases m n ns at) [
  | inl is ↦ subst (λ (x : Name). Contains (m.id ∷ map (λ (y : Name). y.id) ns) x.id) (sym is)
      (here m.id (map (λ (y : Name). y.id) ns))
  | inr more ↦ later m.id n.id (map (λ (y : Name). y.id) ns) (id_in ns n more)
]

-- ---- the extent

module _ (count : ℕ) (it : Item) (five : it.plugin ≡ 5) (new : IsExtentOf count it) where
  pub block_count : blocks_in (units_of it.body) ≡ count
  block_count = as_many (2 ^ 63 + 2000) (units_of it.body) new.body.blocks ∙ new.body.counted

  pub given : IsGivenExtent it
  given =
      let long = new.body.long in
      let some = new.body.some in
      let few = new.body.few in
      let fits = new.fits in
      let many = block_count in
      record {
        plugin = five;
        sound = extent_sound it.key it.plugin it.body five new.key
            (body_none true (2 ^ 64) it.body (
              omega (arith, long, some),
              omega (arith, long),
              lawful (2 ^ 63 + 2000) (units_of it.body) (omega arith) new.body.blocks,
            ))
            (omega (arith, many, fits)) (omega (arith, long, few));
        short = omega (arith, long, few);
      }

  pub ends : item_end it ≡ rank it.key + 4096 * count
  ends = let end = (extent_item it five given.sound).end in let many = block_count in omega (arith, end, many)

  names : CountUp (2 ^ 63 + 2000) (map (λ (n : Name). n.id) (item_blocks it))
      × (length (map (λ (n : Name). n.id) (item_blocks it)) ≡ length (units_of it.body))
  names = subst (λ (all : List Name). CountUp (2 ^ 63 + 2000) (map (λ (n : Name). n.id) all)
      × (length (map (λ (n : Name). n.id) all) ≡ length (units_of it.body)))
      (sym ((extent_item it five given.sound).names 0))
      (names_count (2 ^ 63 + 2000) (rank it.key) (units_of it.body) (omega arith) new.body.blocks)

  within : (n : Name) → Contains (item_blocks it) n → (2 ^ 63 + 2000 ≤ n.id) × (n.id < 2 ^ 63 + 2251)
  within n at =
      let w = count_within (2 ^ 63 + 2000) (map (λ (m : Name). m.id) (item_blocks it)) n.id names.0
      (id_in (item_blocks it) n at) in
      let long = names.1 in
      let counted = new.body.counted in
      let few = new.body.few in
      (w.0, omega (arith, w, long, counted, few))

  pub new_blocks : (t : Store Value) (f g : Fresh) → IsFree f.next f.end t → f.end ≡ 2 ^ 64 - 1 → f.next ≤ 2 ^ 63 + 2000
      → g.end ≡ 2 ^ 63 + 2000 → AreNewBlocks t (item_blocks it) g
  new_blocks t f g free end next few = record {
    unplaced = λ n at. let w = within n at in omega (arith, w);
    unused = λ n at. let w = within n at in (
      (
        free.cells n.id (omega (arith, w, next)) (omega (arith, w, end)),
        free.names n.id (omega (arith, w, next)) (omega (arith, w, end)),
      ),
      inr (omega (arith, w, few)),
    );
    once = count_once (2 ^ 63 + 2000) (map (λ (n : Name). n.id) (item_blocks it)) names.0;
  }
