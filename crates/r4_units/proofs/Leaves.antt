-- What is known of the items of a node that may stand as a cell.
use Rattle.std.proofs.Common.{◌≡◌, ℕ, ◌^◌, ◌<◌, ◌≤◌, true, false, List, length, refl, sym, ap, ◌∙◌}
use Rattle.std.specs.Prelude.{Option, Some, None, ◌==◌, slice_get}
use Rattle.std.specs.Option.{option_map}
use Rattle.r4_base.specs.Cell.{item_body_fault}
use Rattle.std.proofs.lemmas.Option.{slice_get_within}
use Rattle.r4_base.specs.Dir.{Entry, dir_fault}
use Rattle.r4_base.specs.Extents.{body_fault}
use Rattle.r4_base.specs.Key.{rank}
use Rattle.r4_base.specs.Node.{Item, KeysRise, items_of}
use Rattle.r4_base.specs.declared.key.Key.{Key}
use Rattle.r4_base.specs.declared.items.DirFault.{DirFault}
use Rattle.r4_base.specs.declared.items.ExtentFault.{ExtentFault}
use Rattle.r4_base.specs.declared.items.CellFault.TheVariants.{Dir, Extent}
use Rattle.r4_node40.proofs.Accepted.{good}
use Rattle.r4_search.specs.r4_cell.Seen.{CellSeen}
use Rattle.r4_search.proofs.r4_cell.NodesAt.{node_at}
use Rattle.r4_search.proofs.Places.{body_at}
use Rattle.r4_search.specs.Pool.{StandsInMemory}

pub keys_rise : (c : CellSeen) → length c.block ≡ 4096 → 1 ≤ c.level → StandsInMemory c → KeysRise (items_of c.block)
keys_rise c whole some h = (good c.block whole (node_at true (2 ^ 64) c.level (rank c.lo) (rank c.hi) c.block some h).accepted).0.keys

pub body_of : (c : CellSeen) (i : ℕ) (it : Item) → 1 ≤ c.level → StandsInMemory c → slice_get (items_of c.block) i ≡ Some it → item_body_fault true (2 ^ 64) it ≡ None
body_of c i it some h is = body_at true (2 ^ 64) c.level (rank c.lo) (rank c.hi) 0 (items_of c.block) i it (node_at true (2 ^ 64) c.level (rank c.lo) (rank c.hi) c.block some h).items is

none_of_dir : (f : Option DirFault) → option_map Dir f ≡ None → f ≡ None
none_of_dir None h = refl
none_of_dir (Some f) h = absurd cc

none_of_extent : (f : Option ExtentFault) → option_map Extent f ≡ None → f ≡ None
none_of_extent None h = refl
none_of_extent (Some f) h = absurd cc

pub dir_good : (it : Item) → it.plugin ≡ 2 → item_body_fault true (2 ^ 64) it ≡ None → dir_fault it.key it.body ≡ None
unfolding item_body_fault
dir_good it is h =
    let a : (it.plugin == 0) ≡ false = ap (λ (x : ℕ). x == 0) is in
    let b : (it.plugin == 2) ≡ true = ap (λ (x : ℕ). x == 2) is in
    let fault : item_body_fault true (2 ^ 64) it ≡ option_map Dir (dir_fault it.key it.body) = rw (a, b) refl in
    none_of_dir _ (sym fault ∙ h)

pub extent_good : (it : Item) → it.plugin ≡ 5 → item_body_fault true (2 ^ 64) it ≡ None → body_fault true (2 ^ 64) it.body ≡ None
unfolding item_body_fault
extent_good it is h =
    let a : (it.plugin == 0) ≡ false = ap (λ (x : ℕ). x == 0) is in
    let b : (it.plugin == 2) ≡ false = ap (λ (x : ℕ). x == 2) is in
    let c : (it.plugin == 3) ≡ false = ap (λ (x : ℕ). x == 3) is in
    let d : (it.plugin == 5) ≡ true = ap (λ (x : ℕ). x == 5) is in
    let fault : item_body_fault true (2 ^ 64) it ≡ option_map Extent (body_fault true (2 ^ 64) it.body) = rw (a, b, c, d) refl in
    none_of_extent _ (sym fault ∙ h)

-- where an entry is found there is one
pub found_within : (es : List Entry) (i : ℕ) (k : Key) → option_map (λ (e : Entry). e.key) (slice_get es i) ≡ Some k → i < length es
found_within es i k h = at (slice_get es i) refl h
  where
    at : (o : Option Entry) → slice_get es i ≡ o → option_map (λ (e : Entry). e.key) o ≡ Some k → i < length es
    at None e h = absurd cc
    at (Some x) e h = slice_get_within es i x e
