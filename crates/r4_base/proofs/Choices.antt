-- What follows where nothing was found, where a call went well, and where a test says so.
use Rattle.std.proofs.Common.{◌≡◌, ℕ, ◌<◌, ◌≤◌, Bool, true, false, cond, ◌&&◌, List, [], ◌∷◌, ◌++◌, length, get_or, refl, arith}
use Rattle.std.specs.Prelude.{Option, Some, None, Result, Ok, Err, Contains, IsOk, OnOk, ◌==◌, nat_lt, if◌then◌else◌, slice_get}
use Rattle.std.specs.Option.{option_map, option_or}
use Rattle.std.proofs.lemmas.Bool.{both_ways}
use Rattle.std.proofs.lemmas.Bool.Decides.{nat_tests}
use Rattle.r4_base.specs.Node.{Item}
use Rattle.r4_base.specs.declared.items.CellFault.{CellFault}
use Rattle.r4_base.specs.declared.items.CellFault.TheVariants.{Node}
use Rattle.r4_base.specs.declared.node.NodeFault.{NodeFault}

-- ---- nothing

pub none_under : {A B : Type 0} (f : A → B) (o : Option A) → option_map f o ≡ None → o ≡ None
none_under f None e = refl
none_under f (Some x) e = absurd cc

pub none_of_node : (f : Option NodeFault) → option_map Node f ≡ None → f ≡ None
none_of_node None h = refl
none_of_node (Some f) h = absurd cc

pub or_none : (a b : Option CellFault) → option_or a b ≡ None → (a ≡ None) × (b ≡ None)
or_none None b h = (refl, h)
or_none (Some f) b h = absurd cc

pub none_at : (k : ℕ) (x : Item) → slice_get [] k ≡ Some x → ⊥
none_at k x e = absurd cc

pub nothing_in : {X : Type 0} (y : X) → Contains [] y → ⊥
nothing_in y (k, lt, is) = absurd (omega arith)

-- ---- tests

pub chosen : (t : Bool) (f : CellFault) → (if t then None else Some f) ≡ None → t ≡ true
chosen true f h = refl
chosen false f h = absurd cc

pub never_both : (t : Bool) → t ≡ true → t ≡ false → ⊥
never_both t one other = both_ways t other one

pub if_true : (p x y : Bool) → p ≡ true → cond p x y ≡ true → x ≡ true
if_true true x y e h = h
if_true false x y e h = absurd cc

-- a node above the leaves that is accepted has an item
pub some_items : (level count : ℕ) → (nat_lt 1 level && count == 0) ≡ false → 2 ≤ level → 0 < count
some_items level count h two = grind (arith, nat_tests)

-- ---- what there is

-- where a call went well, what it promises then
pub went_well : {T E : Type 0} (r : Result T E) (P : Type 0) → IsOk r → OnOk r P → P
went_well (Ok v) P ok p = p
went_well (Err e) P ok p = let no_value : false ≡ true = ok in absurd cc

pub get_end : (xs : List Item) (x d : Item) → get_or (xs ++ x ∷ []) (length xs) d ≡ x
get_end [] x d = refl
get_end (y ∷ xs) x d = get_end xs x d
