use Rattle.std.proofs.Common.{◌≡◌, ◌+◌, ◌<◌, ◌≤◌, List, [], ◌∷◌, ◌++◌, length, map, sym, ap, ◌∙◌, subst, arith, length-append}
use Rattle.std.proofs.lemmas.List.{length-map, map-append}
use Rattle.r4_base.specs.declared.things.BlockNo.{BlockNo}
use Rattle.r4_space.specs.Space.{unused_count}
use Rattle.r4_commit.proofs.HeldBlocks.{number}
use Rattle.r4_commit.proofs.FoundBlocks.{IsFound, found_none, found_more}
use Rattle.r4_commit.proofs.log_blocks.find_blocks.Goals as goal

pub loop-found-init : goal.loop-found-init
loop-found-init c =
    let none = c.in_ok-blocks.ensures.items in
    record {
      found = subst (λ (l : List BlockNo). IsFound c.args.space.now c.args.prev.0 c.args.prev.0 (map number l)) (sym none) (found_none c.args.space.now c.args.prev.0);
      counted = ap (λ (l : List BlockNo). length l) none;
    }

pub loop-found-preserved : goal.loop-found-preserved
loop-found-preserved c =
    let more = c.in_ok-push.ensures.items in
    let b : BlockNo = c.next_around-block.result in
    let numbers : map number c.push.new.self.items ≡ map number c.loop-found.blocks.items ++ b.0 ∷ [] = ap (map number) more ∙ map-append number c.loop-found.blocks.items (b ∷ []) in
    let few : length (map number c.loop-found.blocks.items) < unused_count c.args.space.now = omega (arith, length-map c.loop-found.blocks.items number, c.loop-found.invariant.counted, c.loop-found-test.true, c.requires.unused) in
    record {
      found = subst (IsFound c.args.space.now c.args.prev.0 (b.0 + 1)) (sym numbers)
          (found_more c.args.space.now c.args.prev.0 c.loop-found.from.0 _ b.0 c.lawful.ensures c.loop-found.invariant.found few c.next_around-block.ensures.found c.next_around-block.ensures.free);
      counted = omega (arith, ap (λ (l : List BlockNo). length l) more, length-append c.loop-found.blocks.items (b ∷ []), c.loop-found.invariant.counted);
    }

pub returns-clause-count : goal.returns-clause-count
returns-clause-count c = omega (arith, c.loop-found.invariant.counted, c.loop-found-test.false, c.loop-found.auto._found-end)

pub returns-clause-different : goal.returns-clause-different
returns-clause-different c = c.loop-found.invariant.found.different

pub returns-clause-unused : goal.returns-clause-unused
returns-clause-unused c = c.loop-found.invariant.found.unused

pub returns-clause-first : goal.returns-clause-first
returns-clause-first c = λ free.
    let some : 1 ≤ length (map number c.loop-found.blocks.items) = omega (arith, length-map c.loop-found.blocks.items number, c.loop-found.invariant.counted, c.loop-found-test.false, c.loop-found.auto._found-end, c.requires.some) in
    c.loop-found.invariant.found.first free some
