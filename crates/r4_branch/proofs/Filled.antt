-- A twig that is filled: an empty one, and one that may stand.
use Rattle.std.proofs.Common.{◌≡◌, ◌⊎◌, inl, inr, ℕ, zero, suc, ◌+◌, ◌^◌, ◌<◌, ◌≤◌, Bool, true, false, ◌&&◌, List, [], ◌∷◌, cond, refl, sym, ap, subst, ◌∙◌, arith}
use Rattle.std.specs.Prelude.{slice_get, Some, None, ◌==◌, nat_le, nat_lt, not, ◌||◌}
use Rattle.std.proofs.lemmas.Bool.{and_from, eq-eqb, le-leb, lt-ltb, ne_eqb}
use Rattle.r4_base.specs.Cell.{cell_fault, item_end, items_in_fault, names_in, next_key, range_is_good, units_in}
use Rattle.r4_base.specs.Extents.{units_of as units_in_body}
use Rattle.r4_base.specs.Key.{rank}
use Rattle.r4_base.specs.Node.{Item, KeysRise, PluginsFit, count_of, is_empty_branch, items_of, level_of, node_fault}
use Rattle.r4_base.specs.declared.node.NodeFault.TheVariants.{Empty}
use Rattle.r4_base.proofs.Choices.{none_at}
use Rattle.r4_node40.specs.Laid.{IsFresh}
use Rattle.r4_node40.proofs.Accepted.{accepted}
use Rattle.r4_twig.proofs.Faults.{body_lawful}
use Rattle.r4_twig.proofs.Places.{length-units_of}
use Rattle.r4_branch.specs.Filling.{IsFilled, items_open_end}
use Rattle.r4_branch.specs.Items.{IsSoundItem, Lie}
use Rattle.r4_branch.specs.Pieces.{MayStand, bytes_behind, names_of, next_of, units_of}
use Rattle.r4_branch.specs.declared.piece.TwigPiece.{TwigPiece}
use Rattle.r4_branch.proofs.SoundItems.{extent_item, pointer_item}
use Rattle.r4_branch.proofs.UnitPieces.{some_blocks}

-- an item's first key is below its end
pub item_has_end : (x : Item) → IsSoundItem x → rank x.key < item_end x
item_has_end x s = by_plugin s.plugin
  where
    by_plugin : (x.plugin ≡ 3) ⊎ (x.plugin ≡ 5) → rank x.key < item_end x
    by_plugin (inl is) = let end = (pointer_item x is s).end in omega (arith, end)
    by_plugin (inr is) =
        let it = extent_item x is s in
        let end = it.end in
        let lawful = body_lawful true (2 ^ 64) x.body it.body in
        let long = lawful.0 in
        let even = lawful.1 in
        let n = length-units_of x.body in
        let blocks = some_blocks (units_in_body x.body) (omega (arith, long, even, n)) lawful.2 in
        omega (arith, end, blocks)

pub lie_order : (from to : ℕ) (xs : List Item) → Lie from to xs → from ≤ to
lie_order from to [] h = h
lie_order from to (x ∷ xs) h = let r = lie_order (item_end x) to xs h.2 in let own = item_has_end x h.1 in let low = h.0 in omega (arith, r, own, low)

next_is : (from hi : ℕ) (xs : List Item) → Lie from hi xs → from ≤ next_key hi xs
next_is from hi [] h = h
next_is from hi (y ∷ ys) h = h.0

pub lie_wider : (from mid to : ℕ) (xs : List Item) → mid ≤ to → Lie from mid xs → Lie from to xs
lie_wider from mid to [] le h = omega (arith, le, h)
lie_wider from mid to (x ∷ xs) le h = (h.0, h.1, lie_wider (item_end x) mid to xs le h.2)

-- the first item has the range's first key
lie_good : (from lo hi i : ℕ) (xs : List Item) → lo ≤ from → (i ≡ 0 → next_key lo xs ≡ lo) → Lie from hi xs → items_in_fault true (2 ^ 64) 2 lo hi i xs ≡ None
unfolding items_in_fault
lie_good from lo hi i [] le first h = refl
lie_good from lo hi i (x ∷ xs) le first h =
    let low = h.0 in
    let own = item_has_end x h.1 in
    let order = lie_order (item_end x) hi xs h.2 in
    let next = next_is (item_end x) hi xs h.2 in
    let body = h.1.body in
    let a : nat_le lo (rank x.key) ≡ true = le-leb _ _ (omega (arith, le, low)) in
    let b : nat_lt (rank x.key) hi ≡ true = lt-ltb _ _ (omega (arith, own, order)) in
    let d : nat_le (item_end x) hi ≡ true = le-leb _ _ order in
    let e : nat_le (item_end x) (next_key hi xs) ≡ true = le-leb _ _ next in
    let good : range_is_good 2 lo hi (next_key hi xs) i x ≡ true = and_from _ _ (and_from _ _ (and_from _ _ (and_from _ _ (and_from _ _ a b) h.1.fits) d) e) (begins i first) in
    let rest = lie_good (item_end x) lo hi (i + 1) xs (omega (arith, le, low, own)) (λ z. absurd (omega (arith, z))) h.2 in
    rw (body, good) rest
  where
    begins : (j : ℕ) → (j ≡ 0 → rank x.key ≡ lo) → (nat_le 2 1 || not (j == 0) || rank x.key == lo) ≡ true
    begins zero is = eq-eqb _ _ (is refl)
    begins (suc j) is = rw (ne_eqb (suc j) 0 (λ z. omega (arith, z))) refl

pub may_stand : (lo to hi : ℕ) (ps : List TwigPiece) (b : List ℕ) → IsFilled lo to ps b → 1 ≤ count_of b → next_of lo ps ≡ lo → to ≤ hi → MayStand lo hi b
unfolding cell_fault
may_stand lo to hi ps b f some first le =
    let ne : (count_of b == 0) ≡ false = ne_eqb (count_of b) 0 (λ z. omega (arith, z, some)) in
    let full : is_empty_branch b ≡ false = ap (λ t. nat_lt 1 (level_of b) && t) ne ∙ never (nat_lt 1 (level_of b)) in
    let none : node_fault b ≡ None = accepted b f.node ∙ ap (λ (e : Bool). cond e (Some Empty) None) full in
    let same : (level_of b == 2) ≡ true = eq-eqb _ _ f.level in
    let good = lie_good lo lo hi 0 (items_of b) (omega arith) (λ z. f.first lo ∙ first) (lie_wider lo to hi (items_of b) le f.lie) in
    (f.node.laid.whole, rw (none, same) good)
  where
    never : (t : Bool) → (t && false) ≡ false
    never true = refl
    never false = refl

-- a fresh twig has no piece
pub fresh_filled : (lo mkfs_id : ℕ) (b : List ℕ) → IsFresh b 2 mkfs_id → IsFilled lo lo [] b
unfolding names_in units_in names_of units_of bytes_behind
fresh_filled lo mkfs_id b fresh = record {
  node = record {
    laid = fresh.laid;
    head = fresh.head;
    plugins = subst (PluginsFit (level_of b)) (sym fresh.items) (λ k x e. absurd (none_at k x e));
    keys = subst KeysRise (sym fresh.items) (λ k x y e g. absurd (none_at k x e));
  };
  level = fresh.level_is;
  lie = subst (λ xs. Lie lo lo xs) (sym fresh.items) (omega arith);
  names = λ hi. ap (names_in 2 hi) fresh.items;
  units = ap units_in fresh.items;
  first = λ hi. ap (next_key hi) fresh.items;
  last = ap (items_open_end None) fresh.items;
  room = let r = fresh.room in omega (arith, r);
}
