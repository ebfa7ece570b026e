-- A node that is written: the block that it borrows.
use Rattle.std.specs.Prelude.{ℕ, List, Result, Ok, Err}
use Rattle.std.specs.Borrow.{GName, MutBor}
use Rattle.r4_node40.specs.declared.node_mut.NodeMut.{NodeMut}
use mathlib.Core.Option as maybe

-- the loan of the block
abbrev pub loan : NodeMut → MutBor (List ℕ)
loan n = n.block

-- the same loan of other bytes
abbrev pub lent_as : MutBor (List ℕ) → List ℕ → MutBor (List ℕ)
lent_as m xs = record m { now = xs }

-- the bytes of the block
abbrev pub bytes_of : NodeMut → List ℕ
bytes_of n = n.block.now

-- the node with other bytes in the same block
abbrev pub with_bytes : NodeMut → List ℕ → NodeMut
with_bytes n xs = record n { block = lent_as n.block xs }

-- the name of the loan, where there is a node
abbrev pub loan_name : {E : Type 0} → Result NodeMut E → maybe.Option GName
loan_name (Ok n) = maybe.some n.block.ghost_name
loan_name (Err e) = maybe.none
