-- Items that may stand in a cell, one after the other, in memory on a volume of any size.
use Rattle.std.proofs.Common.{◌≡◌, ℕ, zero, suc, ◌+◌, ◌^◌, ◌<◌, ◌≤◌, Bool, true, false, not, ◌&&◌, ◌||◌, List, [], ◌∷◌, length}
use Rattle.std.proofs.Common.{cond, refl, sym, ap, ◌∙◌, arith}
use Rattle.std.specs.Prelude.{Some, None, ◌==◌, nat_le, nat_lt, if◌then◌else◌}
use Rattle.std.proofs.lemmas.Bool.{and_from, and_parts, eq-eqb, le-leb, leb-true, lt-ltb, ltb-true}
use Rattle.std.proofs.lemmas.Bool.Decides.{nat_tests}
use Rattle.r4_base.specs.Cell.{cell_fault, item_body_fault, item_end, items_in_fault, next_key, offsets_fit, range_is_good}
use Rattle.r4_base.specs.Key.{rank}
use Rattle.r4_base.specs.Node.{Item, count_of, is_empty_branch, items_of, level_of, node_fault}
use Rattle.r4_base.specs.declared.items.CellFault.TheVariants.{Range}
use Rattle.r4_base.specs.declared.node.NodeFault.TheVariants.{Empty}
use Rattle.r4_base.proofs.Choices.{chosen, or_none}
use Rattle.r4_leaf.proofs.r4_node40.Accepted.{accepted}
use Rattle.r4_leaf.proofs.r4_node40.Laid.{length-items_of}
use Rattle.r4_path.specs.Nodes.{IsNodeOf}

-- the items may stand in a cell of this level and range, from place i on
abbrev pub Good : (level lo hi i : ℕ) → List Item → Type 0
Good level lo hi i items = items_in_fault true (2 ^ 64) level lo hi i items ≡ None

-- one item, before one at the key `next`
pub record Lies (level lo hi next i : ℕ) (it : Item) : Type 0 where
  pub body : item_body_fault true (2 ^ 64) it ≡ None
  pub from : lo ≤ rank it.key
  pub below : rank it.key < hi
  pub fits : offsets_fit it ≡ true
  pub end : item_end it ≤ hi
  pub before : item_end it ≤ next
  pub first : (nat_le level 1 || not (i == 0) || rank it.key == lo) ≡ true

range_good : (level lo hi next i : ℕ) (it : Item) → Lies level lo hi next i it → range_is_good level lo hi next i it ≡ true
range_good level lo hi next i it l =
    and_from _ _ (and_from _ _ (and_from _ _ (and_from _ _
    (and_from _ _ (le-leb lo (rank it.key) l.from) (lt-ltb (rank it.key) hi l.below)) l.fits) (le-leb (item_end it) hi l.end))
    (le-leb (item_end it) next l.before)) l.first

pub good_cons : (level lo hi i : ℕ) (it : Item) (items : List Item) → Lies level lo hi (next_key hi items) i it
    → Good level lo hi (i + 1) items → Good level lo hi i (it ∷ items)
unfolding items_in_fault
good_cons level lo hi i it items l rest = let good = range_good level lo hi (next_key hi items) i it l in let body = l.body in
    rw (body, good) rest

pub good_nil : (level lo hi i : ℕ) → Good level lo hi i []
unfolding items_in_fault
good_nil level lo hi i = refl

pub good_parts : (level lo hi i : ℕ) (it : Item) (items : List Item) → Good level lo hi i (it ∷ items)
    → Lies level lo hi (next_key hi items) i it × Good level lo hi (i + 1) items
unfolding items_in_fault
good_parts level lo hi i it items h =
    let outer = or_none (item_body_fault true (2 ^ 64) it) _ h in
    let rest = or_none (if range_is_good level lo hi (next_key hi items) i it then None else Some (Range i)) _ outer.1 in
    let good : range_is_good level lo hi (next_key hi items) i it ≡ true = chosen _ (Range i) rest.0 in
    let a = and_parts _ (nat_le level 1 || not (i == 0) || rank it.key == lo) good in
    let b = and_parts _ (nat_le (item_end it) (next_key hi items)) a.0 in
    let c = and_parts _ (nat_le (item_end it) hi) b.0 in
    let d = and_parts _ (offsets_fit it) c.0 in
    let e = and_parts (nat_le lo (rank it.key)) (nat_lt (rank it.key) hi) d.0 in
    (record { body = outer.0; from = leb-true _ _ e.0; below = ltb-true _ _ e.1; fits = d.1; end = leb-true _ _ c.1; before = leb-true _ _ b.1; first = a.1 }, rest.1)

-- ---- a node of such items

no_fault : (b : List ℕ) → (2 ≤ level_of b → 0 < count_of b) → is_empty_branch b ≡ false
no_fault b some = grind (arith, nat_tests, some)

pub sound : (level lo hi : ℕ) (items : List Item) (b : List ℕ) → 1 ≤ level → IsNodeOf level items b
    → (2 ≤ level → 0 < length items) → Good level lo hi 0 items → cell_fault true (2 ^ 64) level lo hi b ≡ None
unfolding cell_fault
sound zero lo hi items b one node some good = absurd (omega (arith, one))
sound (suc l) lo hi items b one node some good =
    let level = node.level_is in
    let long : length items ≡ count_of b = sym (ap length node.items_are) ∙ length-items_of b in
    let full : is_empty_branch b ≡ false = no_fault b
    (λ two. let h = some (omega (arith, two, level)) in omega (arith, h, long)) in
    let none : node_fault b ≡ None = accepted b node.node ∙ ap (λ (e : Bool). cond e (Some Empty) None) full in
    let same : (level_of b == suc l) ≡ true = eq-eqb _ _ level in
    let lie : items_in_fault true (2 ^ 64) (suc l) lo hi 0 (items_of b)
    ≡ None = ap (λ (xs : List Item). items_in_fault true (2 ^ 64) (suc l) lo hi 0 xs) node.items_are ∙ good in
    rw (none, same) lie
