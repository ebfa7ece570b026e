use Rattle.std.proofs.Common.{◌≡◌, ◌∙◌, length, ap, sym, arith}
use Rattle.std.specs.Prelude.{None, false}
use Rattle.std.proofs.lemmas.List.{length-replicate}
use Rattle.std.proofs.lemmas.List.FromFn.{length-map-range_with_len}
use Rattle.r4_space.specs.Bitmaps.{bitmaps_fault, marks}
use Rattle.r4_space.specs.Books.{Books}
use Rattle.r4_space.proofs.ClaimedLaws.{claims_none}
use Rattle.r4_space.proofs.SpaceLaws.{blocks_told}
use Rattle.r4_space.proofs.space_map.SpaceMap.read.Goals as goal

pub take_marked-requires : goal.take_marked-requires
take_marked-requires c =
    let n = c.args.blocks in
    ap length c.in_ok-marked.ensures ∙ length-map-range_with_len (marks c.args.bitmaps.now) 0 n ∙ sym (ap length c.in_ok-taken.ensures ∙ length-replicate n false)

pub invariant_of-result-2 : goal.invariant_of-result-2
invariant_of-result-2 c =
    let n = c.args.blocks in
    let none : bitmaps_fault n c.args.free_blocks c.args.bitmaps.now ≡ None = sym c.find_fault.ensures ∙ c.in_default.is in
    rw c.marked.view_is (record {
      blocks = blocks_told n c.args.free_blocks c.args.bitmaps.now c.in_ok-marked.marked c.in_ok-new.field-0 c.take_marked.new.taken c.in_ok-taken.taken c.new-3.result.items c.new-4.result.items c.requires.least c.requires.most c.requires.each none
          c.in_ok-marked.ensures c.in_ok-new.ensures c.in_ok-taken.ensures c.new-3.ensures.items c.new-4.ensures.items c.take_marked.ensures.size c.take_marked.ensures.each;
      claims = claims_none n c.new-3.result.items c.new-4.result.items c.in_ok-new-2.field-0 c.in_ok-new-3.field-0 c.new-3.ensures.items c.new-4.ensures.items c.in_ok-new-2.ensures c.in_ok-new-3.ensures;
      bitmaps_are = ap (λ (b : Books). b.bitmaps) c.new-7.ensures ∙ c.requires.each;
      enough_held = rw (c.new-3.ensures.items, c.new-7.ensures) (omega arith);
      enough_deferred = rw (c.new-4.ensures.items, c.new-7.ensures) (omega arith);
    })
