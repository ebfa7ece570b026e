-- A session of three atoms on the small tree, step by step (docs/sets.md, "A worked session").
use Rattle.std.specs.Prelude.{ℕ, List}
use Rattle.r4_base.specs.Volume.{root_attr}
use Rattle.r4_base.specs.declared.items.Attr.{Attr}
use Rattle.r4_content.specs.Locality.{commands}
use Rattle.r4_trace.specs.declared.entry.Entry.TheVariants.{Begin, Ended}
use Rattle.r4_sets.specs.Atoms.{committed, fused, sealed, told}
use Rattle.r4_sets.specs.Change.{applied}
use Rattle.r4_sets.specs.Session.{Session}
use Rattle.r4_sets_rows.specs.Small.{atom, begun, changing, chmod, node, script, txn, with_mode}

-- the blocks of the twig, and of the leaf from one change to the next
pub record Blocks : Type 0 where
  pub twig : List ℕ
  pub first : List ℕ
  pub second : List ℕ
  pub third : List ℕ
  pub fourth : List ℕ

abbrev pub mode_700 : Attr
mode_700 = with_mode root_attr 0o700

abbrev pub mode_750 : Attr
mode_750 = with_mode mode_700 0o750

abbrev pub mode_770 : Attr
mode_770 = with_mode mode_750 0o770

-- two transactions begin
abbrev pub two_began : Blocks → Session
two_began b = told (told (begun b.twig b.first) (Begin (txn 1) (script 1))) (Begin (txn 2) (script 2))

-- the first changes the mode: the leaf is its atom's
abbrev pub first_done : (limit : ℕ) → Blocks → Session
first_done limit b = applied (commands limit) (two_began b) (txn 1) (script 1) 1 (chmod 0o700)
    (changing b.first b.second root_attr mode_700)

-- the second needs the leaf, too: its atom and the first one become one
abbrev pub two_fused : (limit : ℕ) → Blocks → Session
two_fused limit b = fused (first_done limit b) (atom 1) (atom 2) (node 23)

abbrev pub second_done : (limit : ℕ) → Blocks → Session
second_done limit b = applied (commands limit) (two_fused limit b) (txn 2) (script 2) 1 (chmod 0o750)
    (changing b.second b.third mode_700 mode_750)

-- both end, and their atom is sealed
abbrev pub one_sealed : (limit : ℕ) → Blocks → Session
one_sealed limit b = sealed (told (told (second_done limit b) (Ended (txn 1))) (Ended (txn 2))) (atom 1)

-- a third transaction begins, and changes the leaf of the sealed atom: its atom gets a leaf of its own
abbrev pub third_began : (limit : ℕ) → Blocks → Session
third_began limit b = told (one_sealed limit b) (Begin (txn 3) (script 3))

abbrev pub leaf_captured : (limit : ℕ) → Blocks → Session
leaf_captured limit b = applied (commands limit) (third_began limit b) (txn 3) (script 3) 1 (chmod 0o770)
    (changing b.third b.fourth mode_750 mode_770)

-- the sealed atom is committed, while the third one is open
abbrev pub one_committed : (limit clock : ℕ) → Blocks → Session
one_committed limit clock b = committed (leaf_captured limit b) (atom 1) clock
