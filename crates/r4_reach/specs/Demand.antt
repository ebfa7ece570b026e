-- What a change asks of the cells of a tree (docs/volume.md, "Reach"). A key is its rank.
use Rattle.std.specs.Prelude.{◌≡◌, ◌⊎◌, ℕ, zero, suc, ◌==◌, if◌then◌else◌, List, [], ◌∷◌, Bool, true, Contains}
use Rattle.std.specs.Prelude.{Option, Some, None}
use Rattle.r4_base.specs.Tree.{InNode, InSpan, Name, Node, Span, Store}
use Rattle.r4_base.specs.Value.{Value}

-- The keys that are read and those that are changed; and for each cell what becomes of it, as far as it has to be
-- known of others. A is
-- what a cell asks of the one that names it: room for pointers, say.
pub record Demand (A : Type 0) : Type 0 where
  pub reads : ℕ → Bool
  pub changes : ℕ → Bool
  -- what the cell asks for, where the ones that it names ask for this
  pub asks : Node Value → List (Name × A) → Option A
  -- an extent's unit comes or goes in the twig, or another item comes among its extents
  pub turns : Node Value → Bool
  -- the leaves below the twig that get another range though none of their keys is changed
  pub beside : Node Value → List Name

-- an extent of the cell has the key
abbrev pub Spans : Node Value → (key : ℕ) → Type 0
Spans c k = (s : Span) × Contains c.spans s × InSpan s k

-- the key is the cell's: it lies in the leaf, or in an extent of the twig
abbrev pub Covers : Node Value → (key : ℕ) → Type 0
Covers c k = ((c.level ≡ 1) × InNode c k) ⊎ Spans c k

-- a changed key is the cell's
abbrev pub IsChanged : {A : Type 0} → Demand A → Node Value → Type 0
IsChanged d c = (k : ℕ) × (d.changes k ≡ true) × Covers c k

-- A cell of which no key is changed asks for nothing by itself, and does not turn; what stands beside is one of its
-- own leaves.
pub record IsPlain {A : Type 0} (d : Demand A) : Type 0 where
  pub own : (c : Node Value) (a : A) → d.asks c [] ≡ Some a → IsChanged d c
  pub turned : (c : Node Value) → d.turns c ≡ true → IsChanged d c
  pub besides : (c : Node Value) (n : Name) → Contains (d.beside c) n → Contains c.names n

-- ---- what is asked for, from the leaves up

abbrev pub ask_of : {A : Type 0} → (Node Value → Option A) → Option (Node Value) → Option A
ask_of f None = None
ask_of f (Some c) = f c

abbrev pub heard_one : {A : Type 0} → Name → Option A → List (Name × A) → List (Name × A)
heard_one n None rest = rest
heard_one n (Some a) rest = (n, a) ∷ rest

-- what the nodes of these names ask for, as far as they are there
abbrev pub heard : {A : Type 0} → (Node Value → Option A) → Store Value → List Name → List (Name × A)
heard f t [] = []
heard f t (n ∷ ns) = if n.level == 0 then heard f t ns else heard_one n (ask_of f (t n.id)) (heard f t ns)

-- what a cell of a level asks for
abbrev pub ask : {A : Type 0} → Demand A → Store Value → (level : ℕ) → Node Value → Option A
ask d t zero c = None
ask d t (suc l) c = d.asks c (heard (ask d t l) t c.names)
