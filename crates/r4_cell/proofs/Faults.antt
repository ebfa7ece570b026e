-- The first fault of a block as a cell, item by item, and on larger volumes.
use Rattle.std.proofs.Common.{◌≡◌, ◌≢◌, ℕ, zero, suc, ◌+◌, ◌-◌, ◌^◌, ◌≤◌, Bool, true, false, not, ◌&&◌, ◌||◌, List, [], ◌∷◌, length, take, drop, refl, sym, ap, subst, ◌∙◌, arith}
use Rattle.std.specs.Prelude.{Option, Some, None, ◌==◌, nat_le, nat_lt, if◌then◌else◌, slice_get, slice_range}
use Rattle.std.specs.Bool.{IsTrue}
use Rattle.std.specs.Option.{is_none, option_map, option_or}
use Rattle.std.proofs.lemmas.Bool.Decides.{nat_tests}
use Rattle.std.proofs.lemmas.Bool.{eq-eqb}
use Rattle.std.proofs.lemmas.List.{drop_all}
use Rattle.std.proofs.lemmas.Option.{same_Some, slice_get_within}
use Rattle.r4_base.specs.Bitmap.{is_fixed}
use Rattle.r4_base.specs.Cell.{cell_fault, item_body_fault, items_in_fault, names_block, next_key, range_is_good}
use Rattle.r4_base.specs.Extents.{body_fault, pointer_of}
use Rattle.r4_base.specs.Node.{Item, count_of, item_at, items_of, level_of, node_fault}
use Rattle.r4_base.specs.declared.items.ExtentFault.{ExtentFault}
use Rattle.r4_base.specs.declared.node.NodeFault.{NodeFault}
use Rattle.r4_base.specs.declared.items.CellFault.{CellFault}
use Rattle.r4_base.specs.declared.items.CellFault.TheVariants.{Node, Level, Range, Pointer, Extent}
use Rattle.r4_base.proofs.Choices.{or_none}
use Rattle.r4_node40.proofs.Laid.{get-items_of, length-items_of}
use Rattle.r4_twig.proofs.Faults.{body_larger}

take_short : (n : ℕ) (xs : List ℕ) → length (take n xs) ≤ length xs
take_short zero xs = omega arith
take_short (suc n) [] = omega arith
take_short (suc n) (x ∷ xs) = let h = take_short n xs in omega (arith, h)

drop_short : (n : ℕ) (xs : List ℕ) → length (drop n xs) ≤ length xs
drop_short zero xs = omega arith
drop_short (suc n) [] = omega arith
drop_short (suc n) (x ∷ xs) = let h = drop_short n xs in omega (arith, h)

range_short : (xs : List ℕ) (from to : ℕ) → length (slice_range xs from to) ≤ length xs
range_short xs from to = let h = take_short (to - from) (drop from xs) in let k = drop_short from xs in omega (arith, h, k)

pub body_short : (b : List ℕ) (i : ℕ) (it : Item) → slice_get (items_of b) i ≡ Some it → length it.body ≤ length b
unfolding item_at
body_short b i it is =
    let within = slice_get_within (items_of b) i it is in
    let at = get-items_of b (count_of b) i refl (omega (arith, within, length-items_of b)) in
    subst (λ (o : Option Item). (x : Item) → o ≡ Some x → length x.body ≤ length b) (sym at) (λ (x : Item) (e : Some (item_at (count_of b) b i) ≡ Some x). subst (λ (y : Item). length y.body ≤ length b) (same_Some (item_at (count_of b) b i) x e) (range_short b _ _)) it is

-- ---- the first fault of items, by what is found of the first

pub items_good : (blocks level lo hi i : ℕ) (it : Item) (next : ℕ) (items : List Item) → next ≡ next_key hi items → item_body_fault false blocks it ≡ None → range_is_good level lo hi next i it ≡ true → items_in_fault false blocks level lo hi i (it ∷ items) ≡ items_in_fault false blocks level lo hi (i + 1) items
unfolding items_in_fault
items_good blocks level lo hi i it next items is body range =
    let good : range_is_good level lo hi (next_key hi items) i it ≡ true = subst (λ (n : ℕ). range_is_good level lo hi n i it ≡ true) is range in
    rw (body, good) refl

pub items_out : (blocks level lo hi i : ℕ) (it : Item) (next : ℕ) (items : List Item) → next ≡ next_key hi items → item_body_fault false blocks it ≡ None → range_is_good level lo hi next i it ≡ false → items_in_fault false blocks level lo hi i (it ∷ items) ≡ Some (Range i)
unfolding items_in_fault
items_out blocks level lo hi i it next items is body range =
    let bad : range_is_good level lo hi (next_key hi items) i it ≡ false = subst (λ (n : ℕ). range_is_good level lo hi n i it ≡ false) is range in
    rw (body, bad) refl

pub items_refused : (blocks level lo hi i : ℕ) (it : Item) (items : List Item) (f : CellFault) → item_body_fault false blocks it ≡ Some f → items_in_fault false blocks level lo hi i (it ∷ items) ≡ Some f
unfolding items_in_fault
items_refused blocks level lo hi i it items f body = rw body refl

pub items_done : (blocks level lo hi i : ℕ) (items : List Item) → length items ≤ i → items_in_fault false blocks level lo hi i (drop i items) ≡ None
unfolding items_in_fault
items_done blocks level lo hi i items past = ap (λ (xs : List Item). items_in_fault false blocks level lo hi i xs) (drop_all i items past)

pub level_good : (level is : ℕ) (rest : Option CellFault) → is ≡ level → rest ≡ option_or (if is == level then None else Some Level) rest
level_good level is rest same = let test : (is == level) ≡ true = eq-eqb is level same in rw test refl

-- ---- a block that is accepted on a volume is accepted in memory, of whatever size

named_still : (in_memory : Bool) (blocks more to : ℕ) → blocks ≤ more → (in_memory && nat_le (2 ^ 63) to || nat_lt to blocks && not (is_fixed blocks to)) ≡ true → (nat_le (2 ^ 63) to || nat_lt to more && not (is_fixed more to)) ≡ true
named_still in_memory blocks more to le h = grind (arith, nat_tests)

names_still : (in_memory : Bool) (blocks more : ℕ) (o : Option ℕ) → blocks ≤ more → names_block in_memory blocks o ≡ true → names_block true more o ≡ true
names_still in_memory blocks more None le h = h
names_still in_memory blocks more (Some to) le h = named_still in_memory blocks more to le h

bodies_still : (stat dir to ext p q : Bool) (a b e f t : Option CellFault) → (p ≡ true → q ≡ true) → (e ≡ None → f ≡ None)
    → (if stat then a else if dir then b else if to then (if p then None else Some Pointer) else if ext then e else t) ≡ None
    → (if stat then a else if dir then b else if to then (if q then None else Some Pointer) else if ext then f else t) ≡ None
bodies_still true dir to ext p q a b e f t named extent h = h
bodies_still false true to ext p q a b e f t named extent h = h
bodies_still false false true ext true q a b e f t named extent h = rw (named refl) refl
bodies_still false false true ext false q a b e f t named extent h = absurd cc
bodies_still false false false true p q a b e f t named extent h = extent h
bodies_still false false false false p q a b e f t named extent h = h

named_extent : (f : Option ExtentFault) → option_map Extent f ≡ None → f ≡ None
named_extent None h = refl
named_extent (Some f) h = absurd cc

body_still : (in_memory : Bool) (blocks more : ℕ) (it : Item) → blocks ≤ more → item_body_fault in_memory blocks it ≡ None → item_body_fault true more it ≡ None
unfolding item_body_fault
body_still in_memory blocks more it le h =
    bodies_still (it.plugin == 0) (it.plugin == 2) (it.plugin == 3) (it.plugin == 5) (names_block in_memory blocks (pointer_of it.body)) (names_block true more (pointer_of it.body)) _ _ (option_map Extent (body_fault in_memory blocks it.body)) (option_map Extent (body_fault true more it.body)) _
    (names_still in_memory blocks more (pointer_of it.body) le)
    (λ (e : option_map Extent (body_fault in_memory blocks it.body) ≡ None). ap (option_map Extent) (body_larger in_memory blocks more it.body le (named_extent _ e)))
    h

items_still : (in_memory : Bool) (blocks more level lo hi i : ℕ) (items : List Item) → blocks ≤ more → items_in_fault in_memory blocks level lo hi i items ≡ None → items_in_fault true more level lo hi i items ≡ None
unfolding items_in_fault
items_still in_memory blocks more level lo hi i [] le h = refl
items_still in_memory blocks more level lo hi i (it ∷ items) le h =
    let first = or_none (item_body_fault in_memory blocks it) _ h in
    let rest = or_none (if range_is_good level lo hi (next_key hi items) i it then None else Some (Range i)) _ first.1 in
    rw (body_still in_memory blocks more it le first.0, rest.0) (items_still in_memory blocks more level lo hi (i + 1) items le rest.1)

pub cell_still : (in_memory : Bool) (blocks more level lo hi : ℕ) (b : List ℕ) → blocks ≤ more → cell_fault in_memory blocks level lo hi b ≡ None → cell_fault true more level lo hi b ≡ None
unfolding cell_fault
cell_still in_memory blocks more zero lo hi b le h = refl
cell_still in_memory blocks more (suc l) lo hi b le h =
    let node = or_none (option_map Node (node_fault b)) _ h in
    let level = or_none (if level_of b == suc l then None else Some Level) _ node.1 in
    rw (node.0, level.0) (items_still in_memory blocks more (suc l) lo hi 0 (items_of b) le level.1)

pub stands : (in_memory : Bool) (blocks more level lo hi : ℕ) (b : List ℕ) → blocks ≤ more → cell_fault in_memory blocks level lo hi b ≡ None → IsTrue (is_none (cell_fault true more level lo hi b))
stands in_memory blocks more level lo hi b le h = subst (λ (o : Option CellFault). IsTrue (is_none o)) (sym (cell_still in_memory blocks more level lo hi b le h)) refl

-- ---- a whole block

pub no_level : (blocks lo hi : ℕ) (level : ℕ) (b : List ℕ) → level ≡ 0 → cell_fault false blocks level lo hi b ≡ None
unfolding cell_fault
no_level blocks lo hi level b is = subst (λ (l : ℕ). cell_fault false blocks l lo hi b ≡ None) (sym is) refl

pub no_node : (blocks lo hi level : ℕ) (b : List ℕ) (f : NodeFault) → level ≢ 0 → node_fault b ≡ Some f → cell_fault false blocks level lo hi b ≡ Some (Node f)
unfolding cell_fault
no_node blocks lo hi zero b f some is = absurd (some refl)
no_node blocks lo hi (suc l) b f some is = rw is refl

a_node : (blocks lo hi level : ℕ) (b : List ℕ) → level ≢ 0 → node_fault b ≡ None → cell_fault false blocks level lo hi b ≡ option_or (if level_of b == level then None else Some Level) (items_in_fault false blocks level lo hi 0 (items_of b))
unfolding cell_fault
a_node blocks lo hi zero b some is = absurd (some refl)
a_node blocks lo hi (suc l) b some is = rw is refl

pub node_says : (blocks lo hi level : ℕ) (now b : List ℕ) (found : Option CellFault) → level ≢ 0 → node_fault b ≡ None → now ≡ b
    → found ≡ option_or (if level_of now == level then None else Some Level) (items_in_fault false blocks level lo hi 0 (items_of now))
    → found ≡ cell_fault false blocks level lo hi b
node_says blocks lo hi level now b found some accepted is finds =
    finds ∙ ap (λ (v : List ℕ). option_or (if level_of v == level then None else Some Level) (items_in_fault false blocks level lo hi 0 (items_of v))) is ∙ sym (a_node blocks lo hi level b some accepted)
