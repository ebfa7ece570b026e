-- What was found in the cells that a pool answered, and the keys that leaves have which were met.
use Rattle.std.proofs.Common.{◌≡◌, ◌⊎◌, inl, inr, ℕ, ◌^◌, Bool, true, false, List, refl, sym, ap, subst, ◌∙◌, arith}
use Rattle.std.specs.Prelude.{Contains, Option, Some, None}
use Rattle.std.specs.Option.{option_map}
use Rattle.std.proofs.lemmas.List.Elements.{All-contains}
use Rattle.r4_base.specs.Key.{rank}
use Rattle.r4_base.specs.Tree.{Node, Store}
use Rattle.r4_base.specs.Value.{Value}
use Rattle.r4_bodies.specs.Told.{AreOfTree}
use Rattle.r4_cell.specs.Patch.{by_name}
use Rattle.r4_cell.specs.Seen.{CellSeen, node_of}
use Rattle.r4_content.specs.Edited.{Intervals, Pairs, is_in}
use Rattle.r4_content.specs.declared.command.Command.{Command}
use Rattle.r4_touching.proofs.r4_path.Rising.{hi_is, level_is, lo_is}
use Rattle.r4_touching.specs.r4_reach.Leaves.{LieInLeaves}
use Rattle.r4_search.specs.Keeping.{Shared, WereAnswered, keeping_state, met_in}
use Rattle.r4_search.specs.Pool.{PoolState}
use Rattle.r4_touching.specs.r4_seeing.Looking.{AreFound, IsFoundAt, met_cells}
use Rattle.r4_spared.specs.r4_suited.Suited.{AreLawfulSeen, IsLawfulSeen}
use Rattle.r4_spared.proofs.r4_suited.Cells.{cell_lawful}
use Rattle.r4_touching.specs.Touching.{AreInLeaves}

true_or_false : (b : Bool) → (b ≡ true) ⊎ (b ≡ false)
true_or_false true = inl refl
true_or_false false = inr refl

pub found_inside : (t : Store Value) (known : Intervals) (s : Pairs) → AreFound t known s → AreOfTree s
found_inside t known s f k v at = elim (true_or_false (is_in known k)) [
  | inl on ↦ f.within k on
  | inr off ↦ absurd (let none = sym (f.only k off) ∙ at in cc)
]

-- what was seen in cells that a pool answered is lawful
module _ (p : PoolState) (all : Bool) (met : List (ℕ × Shared)) (answered : WereAnswered p met)
    (known : Intervals) (s : Pairs) (f : AreFound (met_cells (keeping_state p all met)) known s) where
  at_cell : (k : ℕ) (v : Value) (i : ℕ) (n : Node Value) → option_map node_of (met_in met i) ≡ Some n
      → Contains n.units (k, v) → IsLawfulSeen (k, v)
  at_cell k v i n is has = by (met_in met i) refl is
    where
      by : (o : Option CellSeen) → met_in met i ≡ o → option_map node_of o ≡ Some n → IsLawfulSeen (k, v)
      by None was none = absurd cc
      by (Some x) was same =
          let says : node_of x ≡ n = some_same same in
          All-contains IsLawfulSeen (node_of x).units (k, v)
          (cell_lawful true (2 ^ 64) x.level (rank x.lo) (rank x.hi) x.block (answered i x was).stands)
          (subst (λ (m : Node Value). Contains m.units (k, v)) (sym says) has)
        where
          some_same : Some (node_of x) ≡ Some n → node_of x ≡ n
          some_same e = cc

  pub found_lawful : (c : Command) → AreLawfulSeen c s
  found_lawful c k v on at = elim (true_or_false (is_in known k)) [
    | inl is ↦ (let h = f.found k is in at_cell k v h.id h.cell h.is ((h.has v).0 at))
    | inr off ↦ absurd (let none = sym (f.only k off) ∙ at in cc)
  ]

-- ---- the same cells, as a list

pub found_listed : (p : PoolState) (cells : List CellSeen) (known : Intervals) (s : Pairs)
    → ((i : ℕ) → by_name cells i ≡ met_cells p i) → AreFound (met_cells p) known s → AreFound (by_name cells) known s
found_listed p cells known s same f = record {
  rises = f.rises;
  within = f.within;
  found = λ k is. moved k (f.found k is);
  only = f.only;
}
  where
    moved : (k : ℕ) {o : Option Value} → IsFoundAt (met_cells p) k o → IsFoundAt (by_name cells) k o
    moved k h = record { id = h.id; cell = h.cell; is = same h.id ∙ h.is; holds = h.holds; has = h.has }

pub leaves_listed : (p : PoolState) (cells : List CellSeen) (keys : ℕ → Bool)
    → ((i : ℕ) → by_name cells i ≡ met_cells p i) → AreInLeaves p keys → LieInLeaves (by_name cells) keys
leaves_listed p cells keys same h k on low high =
    let l = h k on low high in
    let x = l.leaf in
    let level = level_is x in
    let one = l.level in
    let lo = lo_is x in
    let hi = hi_is x in
    let from = l.from in
    let below = l.below in (
      x.id,
      node_of x,
      same x.id ∙ ap (option_map node_of) l.met,
      omega (arith, level, one),
      (omega (arith, lo, from), omega (arith, hi, below)),
    )
