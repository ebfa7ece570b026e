-- Cells under other names, as where those without a block get one (docs/sets.md).
use Rattle.std.specs.Prelude.{◌≡◌, ◌↔◌, ℕ, Contains, Some, None}
use Rattle.r4_base.specs.Tree.{Name, Span, Node, Store, Root}
use Rattle.r4_base.specs.Value.{Value}
use Rattle.r4_sets.specs.Session.{Session}

abbrev pub renamed_name : (ℕ → ℕ) → Name → Name
renamed_name f n = record n { id = f n.id }

abbrev pub renamed_root : (ℕ → ℕ) → Root → Root
renamed_root f r = record { id = f r.id; height = r.height }

-- the same cell, that names what it names by other names. Its bytes may differ
pub record IsRenamed (f : ℕ → ℕ) (c d : Node Value) : Type 0 where
  pub level : d.level ≡ c.level
  pub lo : d.lo ≡ c.lo
  pub hi : d.hi ≡ c.hi
  pub names_to : (n : Name) → Contains c.names n → Contains d.names (renamed_name f n)
  pub names_from : (m : Name) → Contains d.names m
      → (n : Name) × Contains c.names n × (m ≡ renamed_name f n)
  pub spans : (s : Span) → Contains c.spans s ↔ Contains d.spans s
  pub units : (k : ℕ) (v : Value) → Contains c.units (k, v) ↔ Contains d.units (k, v)

-- The cells of t are those of u under other names: f gives the new name, and g takes it back.
pub record IsRenaming (f g : ℕ → ℕ) (t u : Store Value) : Type 0 where
  pub to : (i : ℕ) (c : Node Value) → t i ≡ Some c → (d : Node Value) × (u (f i) ≡ Some d) × IsRenamed f c d
  pub from : (j : ℕ) (d : Node Value) → u j ≡ Some d → (c : Node Value) × (t (g j) ≡ Some c) × IsRenamed f c d
  pub back : (i : ℕ) → g (f i) ≡ i
  pub again : (j : ℕ) → f (g j) ≡ j

-- Cells get other names, and those in memory get the same ones. No open atom has such a cell under its old or its new
-- name.
pub record Renames (c : Session) (f g : ℕ → ℕ) (under memory : Store Value) : Type 0 where
  pub in_under : IsRenaming f g c.under.cells under
  pub in_memory : IsRenaming f g c.memory memory
  pub owner_to : (i : ℕ) → c.owner (f i) ≡ c.owner i
  pub owner_from : (j : ℕ) → c.owner (g j) ≡ c.owner j
  pub clean : (i : ℕ) → c.owner i ≡ None → memory i ≡ under i

abbrev pub renamed : Session → (ℕ → ℕ) → (under memory : Store Value) → Session
renamed c f under memory = record c {
  under = record { cells = under; root = renamed_root f c.under.root };
  memory = memory;
  root = renamed_root f c.root;
}
