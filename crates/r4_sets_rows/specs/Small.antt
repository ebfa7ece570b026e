-- A small tree, of a twig and a leaf with the root directory alone, whose attributes are changed.
use Rattle.std.specs.Prelude.{ℕ, ◌+◌, ◌*◌, ◌/◌, ◌%◌, ◌==◌, List, [], ◌∷◌, cond, if◌then◌else◌, Some, None}
use Rattle.std.specs.FinMap.{empty, insert}
use Rattle.r4_base.specs.Key.{least, top}
use Rattle.r4_base.specs.Tree.{Node, Store}
use Rattle.r4_base.specs.Value.{Value, Stat, Content}
use Rattle.r4_base.specs.Volume.{root_attr}
use Rattle.r4_base.specs.declared.items.Attr.{Attr}
use Rattle.r4_base.specs.declared.things.AtomNo.{AtomNo}
use Rattle.r4_base.specs.declared.things.NodeId.{NodeId}
use Rattle.r4_base.specs.declared.things.ScriptNo.{ScriptNo}
use Rattle.r4_base.specs.declared.things.TxnNo.{TxnNo}
use Rattle.r4_cell.specs.Patch.{Patch}
use Rattle.r4_content.specs.declared.command.Command.{Command}
use Rattle.r4_content.specs.declared.command.Command.TheVariants.{Chmod}
use Rattle.r4_patch.specs.SecondRoot.{small_root, whole_twig}
use Rattle.r4_sets.specs.Atoms.{opened}
use Rattle.r4_sets.specs.Session.{Session}

abbrev pub leaf_with : (block : List ℕ) → Attr → Node Value
leaf_with b a = record {
  level = 1;
  lo = least;
  hi = top;
  block = b;
  names = [];
  spans = [];
  units = (least, Stat a) ∷ [];
}

-- the two cells, whose blocks these are
unfoldable pub small_store : (twig leaf : List ℕ) → Attr → Store Value
small_store t b a i = if i == 22 then Some (whole_twig t) else if i == 23 then Some (leaf_with b a) else None

-- the root directory alone
abbrev pub alone : Attr → Content
alone a = insert empty least (Stat a)

abbrev pub begun : (twig leaf : List ℕ) → Session
begun t b = opened (small_store t b root_attr) small_root (alone root_attr)

-- the leaf with these attributes, and then with others
abbrev pub changing : (leaf after : List ℕ) → (a b : Attr) → Patch Value
changing b e a q = record {
  old = λ i. cond (i == 23) (Some (leaf_with b a)) None;
  new = λ i. cond (i == 23) (Some (leaf_with e q)) None;
  root = None;
}

-- the mode of the root directory is changed
abbrev pub chmod : (mode : ℕ) → Command
chmod mode = Chmod [] mode

abbrev pub with_mode : Attr → (mode : ℕ) → Attr
with_mode a mode = record a { mode = a.mode / 4096 * 4096 + mode % 4096 }

-- ---- numbers

abbrev pub txn : ℕ → TxnNo
txn n = record { 0 = n }

abbrev pub script : ℕ → ScriptNo
script n = record { 0 = n }

abbrev pub atom : ℕ → AtomNo
atom n = record { 0 = n }

abbrev pub node : ℕ → NodeId
node n = record { 0 = n }
