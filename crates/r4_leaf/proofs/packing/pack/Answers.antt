use Rattle.std.proofs.Common.{◌≡◌, ℕ, ◌-◌, ◌++◌, ◌∷◌, [], List, length, refl, sym, ap, subst, ◌∙◌}
use Rattle.std.specs.Prelude.{reverse, slice_get}
use Rattle.std.proofs.lemmas.List.Elements.{All-append, All-cons, All-nil}
use Rattle.r4_base.specs.Key.{rank}
use Rattle.r4_base.specs.Node.{mkfs_id_of}
use Rattle.r4_leaf.specs.Leaves.{HaveMkfsId, Packs}
use Rattle.r4_leaf.specs.Pieces.{units_of}
use Rattle.r4_leaf.specs.declared.leaf.Leaf.{Leaf}
use Rattle.r4_leaf.proofs.Packed.{Packing, fewer, last_split, none_left, pack_begins, pack_ends, packing_more}
use Rattle.r4_leaf.proofs.packing.pack.Goals as goal

one_more : (id : ℕ) (old new : List Leaf) (x : Leaf) → new ≡ old ++ x ∷ [] → HaveMkfsId id old → mkfs_id_of x.block ≡ id → HaveMkfsId id new
one_more id old new x is h own = subst (λ ls. HaveMkfsId id ls) (sym is) (All-append (λ (y : Leaf). mkfs_id_of y.block ≡ id) old (x ∷ []) h (All-cons (λ (y : Leaf). mkfs_id_of y.block ≡ id) x [] own (All-nil (λ (y : Leaf). mkfs_id_of y.block ≡ id))))

pub loop-leaves-init : goal.loop-leaves-init
loop-leaves-init c = record {
  packing = subst (λ (ls : List Leaf). Packing (rank c.args.lo) c.args.pieces.items (rank c.args.lo) c.args.pieces.items ls) (sym c.new-leaves.ensures.items) (pack_begins (rank c.args.lo) c.args.pieces.items);
  mkfs_id = subst (λ (ls : List Leaf). HaveMkfsId c.args.mkfs_id ls) (sym c.new-leaves.ensures.items) (All-nil (λ (y : Leaf). mkfs_id_of y.block ≡ c.args.mkfs_id));
}

pub fill_block-requires : goal.fill_block-requires
fill_block-requires c = (rank c.loop-leaves.from, c.requires.0, c.loop-leaves.invariant.packing.follow c.requires.0 c.requires.1)

pub returns-in-None-clause-packs : goal.returns-in-None-clause-packs
returns-in-None-clause-packs c = λ hi h.
    let leaf : Leaf = record { lo = c.loop-leaves.from; block = c.fill_block.new.block } in
    subst (λ (ls : List Leaf). Packs (rank c.args.lo) hi (units_of (reverse c.args.pieces.items)) ls) (sym c.in_ok-push.ensures.items)
    (pack_ends (rank c.args.lo) (rank c.loop-leaves.from) c.args.pieces.items c.loop-leaves.pieces.items c.fill_block.new.pieces.items c.loop-leaves.leaves.items leaf refl c.loop-leaves.invariant.packing
    (λ k. c.in_ok-fill_block.ensures.fills (rank c.loop-leaves.from) k) (none_left c.fill_block.new.pieces.items ((λ i. slice_get (sym c.deref.ensures.value i) (length (sym c.deref.ensures.value i) - 1)) ∙ sym c.in-None.ensures.value)) hi h)

pub loop-leaves-smaller : goal.loop-leaves-smaller
loop-leaves-smaller c =
    let leaf : Leaf = record { lo = c.loop-leaves.from; block = c.fill_block.new.block } in
    let split = last_split c.fill_block.new.pieces.items c.in-Some.next.now ((λ i. slice_get (sym c.deref.ensures.value i) (length (sym c.deref.ensures.value i) - 1)) ∙ sym c.in-Some.ensures.value) in
    fewer (rank c.args.lo) (rank c.loop-leaves.from) c.args.pieces.items c.loop-leaves.pieces.items c.fill_block.new.pieces.items c.loop-leaves.leaves.items leaf refl c.loop-leaves.invariant.packing
    (λ k. c.in_ok-fill_block.ensures.fills (rank c.loop-leaves.from) k) c.in-Some.next.now split.0 split.1 c.requires.0 c.requires.1

pub loop-leaves-preserved : goal.loop-leaves-preserved
loop-leaves-preserved c =
    let leaf : Leaf = record { lo = c.loop-leaves.from; block = c.fill_block.new.block } in
    let split = last_split c.fill_block.new.pieces.items c.in-Some.next.now ((λ i. slice_get (sym c.deref.ensures.value i) (length (sym c.deref.ensures.value i) - 1)) ∙ sym c.in-Some.ensures.value) in record {
      packing = subst (λ (ls : List Leaf). Packing (rank c.args.lo) c.args.pieces.items (rank c.key-from.result) c.fill_block.new.pieces.items ls) (sym c.in_ok-push.ensures.items)
          (subst (λ k. Packing (rank c.args.lo) c.args.pieces.items k c.fill_block.new.pieces.items (c.loop-leaves.leaves.items ++ leaf ∷ [])) (sym (ap rank c.key-from.ensures))
          (packing_more (rank c.args.lo) (rank c.loop-leaves.from) c.args.pieces.items c.loop-leaves.pieces.items c.fill_block.new.pieces.items c.loop-leaves.leaves.items leaf refl c.loop-leaves.invariant.packing
          (λ k. c.in_ok-fill_block.ensures.fills (rank c.loop-leaves.from) k) c.in-Some.next.now split.0 split.1));
      mkfs_id = one_more c.args.mkfs_id c.loop-leaves.leaves.items c.push.new.self.items leaf c.in_ok-push.ensures.items c.loop-leaves.invariant.mkfs_id c.in_ok-fill_block.ensures.mkfs_id;
    }

pub returns-in-None-clause-mkfs_id : goal.returns-in-None-clause-mkfs_id
returns-in-None-clause-mkfs_id c =
    let leaf : Leaf = record { lo = c.loop-leaves.from; block = c.fill_block.new.block } in
    one_more c.args.mkfs_id c.loop-leaves.leaves.items c.push.new.self.items leaf c.in_ok-push.ensures.items c.loop-leaves.invariant.mkfs_id c.in_ok-fill_block.ensures.mkfs_id
