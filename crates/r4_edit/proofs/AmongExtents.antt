-- Keys of one extent are among extents, where no block and no unit has one of them.
use Rattle.std.proofs.Common.{◌⊎◌, inl, inr, ℕ, ◌<◌, ◌≤◌, arith}
use Rattle.std.specs.Prelude.{Contains}
use Rattle.std.proofs.lemmas.Bool.{cases_lt}
use Rattle.r4_base.specs.Tree.{IsData, IsNode, Name, Span}
use Rattle.r4_base.specs.Value.{Value}
use Rattle.r4_path.specs.r4_cell.Seen.{CellSeen, node_of}
use Rattle.r4_edit.specs.Extents.{AreAmongExtents}
use Rattle.r4_path.proofs.Rising.{hi_is, lo_is}

module _ (twig : CellSeen) (s : Span) (from to : ℕ) (node : IsNode (node_of twig)) (spans : Contains (node_of twig).spans s)
    (low : s.lo ≤ from) (some : from < to) (high : to ≤ s.hi)
    (blocks : (n : Name) → Contains (node_of twig).names n → IsData n → (n.hi ≤ from) ⊎ (to ≤ n.lo))
    (units : (k : ℕ) (v : Value) → Contains (node_of twig).units (k, v) → (k < from) ⊎ (to ≤ k)) where
  -- what is named and has one of the keys is a block, and that has none
  clear_name : (n : Name) → Contains (node_of twig).names n → (n.hi ≤ from) ⊎ (to ≤ n.lo)
  clear_name n named = elim (cases_lt from n.hi) [
    | inr before ↦ inl before
    | inl ends ↦ elim (cases_lt n.lo to) [
      | inr behind ↦ inr behind
      | inl begins ↦ elim (cases_lt n.lo from) [
        | inl earlier ↦ blocks n named (node.spans_apart n s from named spans
            (omega (arith, earlier), ends) (low, omega (arith, some, high)))
        | inr later ↦ let wide = node.name_nonempty n named in
            blocks n named (node.spans_apart n s n.lo named spans
            (omega arith, wide) (omega (arith, low, later), omega (arith, begins, high)))
      ]
    ]
  ]

  pub among_extents : AreAmongExtents twig from to
  among_extents = record {
    low = let l = node.span_from s spans in let lo = lo_is twig in omega (arith, l, lo, low);
    some = some;
    high = let h = node.span_to s spans in let hi = hi_is twig in omega (arith, h, hi, high);
    clear = record { named = clear_name; own = units };
  }
