use Rattle.std.proofs.Common.{◌≡◌, ◌+◌, ◌-◌, ◌∙◌, ℕ, ap, arith}
use Rattle.std.specs.Prelude.{slice_range}
use Rattle.r4_base.specs.Bytes.{overwrite}
use Rattle.r4_base.specs.Dir.{entry_header}
use Rattle.r4_cde.proofs.Parts.{Copied, copied, copied_offsets, part_rest, part_stands, parted}
use Rattle.r4_cde.proofs.part.copy_part.Goals as goal

pub edge_in-from-requires-clause-room : goal.edge_in-from-requires-clause-room
edge_in-from-requires-clause-room c =
    let st = part_stands c.args.body.now c.args.first c.args.end c.requires.laid c.requires.order c.requires.within in
    let low = st.low in
    let up = st.order in
    let high = st.high in
    omega arith

pub edge_in-to-requires-clause-room : goal.edge_in-to-requires-clause-room
edge_in-to-requires-clause-room c =
    let st = part_stands c.args.body.now c.args.first c.args.end c.requires.laid c.requires.order c.requires.within in
    let low = st.low in
    let up = st.order in
    let high = st.high in
    omega arith

pub slice_bounds-put_bytes-end : goal.slice_bounds-put_bytes-end
slice_bounds-put_bytes-end c =
    let st = part_stands c.args.body.now c.args.first c.args.end c.requires.laid c.requires.order c.requires.within in
    let low = st.low in
    let up = st.order in
    let high = st.high in
    omega arith

pub slice_bounds-put_bytes-count-2 : goal.slice_bounds-put_bytes-count-2
slice_bounds-put_bytes-count-2 c =
    let st = part_stands c.args.body.now c.args.first c.args.end c.requires.laid c.requires.order c.requires.within in
    let low = st.low in
    let up = st.order in
    let high = st.high in
    omega arith

pub slice_bounds-put_bytes-start-2 : goal.slice_bounds-put_bytes-start-2
slice_bounds-put_bytes-start-2 c =
    let st = part_stands c.args.body.now c.args.first c.args.end c.requires.laid c.requires.order c.requires.within in
    let low = st.low in
    let up = st.order in
    let high = st.high in
    omega arith

pub slice_bounds-put_bytes-end-2 : goal.slice_bounds-put_bytes-end-2
slice_bounds-put_bytes-end-2 c =
    let st = part_stands c.args.body.now c.args.first c.args.end c.requires.laid c.requires.order c.requires.within in
    let low = st.low in
    let up = st.order in
    let high = st.high in
    omega arith

pub overflow_sub-result : goal.overflow_sub-result
overflow_sub-result c =
    let st = part_stands c.args.body.now c.args.first c.args.end c.requires.laid c.requires.order c.requires.within in
    let low = st.low in
    let up = st.order in
    let high = st.high in
    omega arith

pub shift_offsets-requires-clause-enough : goal.shift_offsets-requires-clause-enough
shift_offsets-requires-clause-enough c =
    let b = c.args.body.now in
    let heads : c.put_bytes.new.b ≡ overwrite 2 (slice_range b (entry_header c.args.first) (entry_header c.args.end)) c.put16.new.b = rw (c.header_of.ensures, c.header_of-2.ensures) at c.put_bytes.ensures in
    let tail : c.put_bytes-2.new.b ≡ overwrite (entry_header (c.args.end - c.args.first)) (slice_range b c.edge_in-from.result c.edge_in-to.result) c.put_bytes.new.b = c.put_bytes-2.ensures ∙ ap (λ (at : ℕ). overwrite at (slice_range b c.edge_in-from.result c.edge_in-to.result) c.put_bytes.new.b) c.header_of-bodies.ensures in
    let co : Copied b c.args.first c.args.end c.args.into.now c.put_bytes-2.new.b = copied b c.args.first c.args.end c.edge_in-from.result c.edge_in-to.result c.args.into.now c.put16.new.b c.put_bytes.new.b c.put_bytes-2.new.b c.requires.short c.requires.laid c.requires.order c.requires.within c.requires.room c.edge_in-from.ensures c.edge_in-to.ensures c.put16.ensures heads tail in
    λ k zero lt. let o = (copied_offsets b c.args.first c.args.end c.args.into.now c.put_bytes-2.new.b c.requires.short c.requires.laid c.requires.order c.requires.within co k lt).0 in omega arith

pub shift_offsets-requires-clause-small : goal.shift_offsets-requires-clause-small
shift_offsets-requires-clause-small c =
    let b = c.args.body.now in
    let heads : c.put_bytes.new.b ≡ overwrite 2 (slice_range b (entry_header c.args.first) (entry_header c.args.end)) c.put16.new.b = rw (c.header_of.ensures, c.header_of-2.ensures) at c.put_bytes.ensures in
    let tail : c.put_bytes-2.new.b ≡ overwrite (entry_header (c.args.end - c.args.first)) (slice_range b c.edge_in-from.result c.edge_in-to.result) c.put_bytes.new.b = c.put_bytes-2.ensures ∙ ap (λ (at : ℕ). overwrite at (slice_range b c.edge_in-from.result c.edge_in-to.result) c.put_bytes.new.b) c.header_of-bodies.ensures in
    let co : Copied b c.args.first c.args.end c.args.into.now c.put_bytes-2.new.b = copied b c.args.first c.args.end c.edge_in-from.result c.edge_in-to.result c.args.into.now c.put16.new.b c.put_bytes.new.b c.put_bytes-2.new.b c.requires.short c.requires.laid c.requires.order c.requires.within c.requires.room c.edge_in-from.ensures c.edge_in-to.ensures c.put16.ensures heads tail in
    let st = part_stands c.args.body.now c.args.first c.args.end c.requires.laid c.requires.order c.requires.within in
    let low = st.low in
    let up = st.order in
    let high = st.high in
    λ k zero lt. let o = (copied_offsets b c.args.first c.args.end c.args.into.now c.put_bytes-2.new.b c.requires.short c.requires.laid c.requires.order c.requires.within co k lt).1 in omega arith

pub returns-clause-part : goal.returns-clause-part
returns-clause-part c =
    let b = c.args.body.now in
    let heads : c.put_bytes.new.b ≡ overwrite 2 (slice_range b (entry_header c.args.first) (entry_header c.args.end)) c.put16.new.b = rw (c.header_of.ensures, c.header_of-2.ensures) at c.put_bytes.ensures in
    let tail : c.put_bytes-2.new.b ≡ overwrite (entry_header (c.args.end - c.args.first)) (slice_range b c.edge_in-from.result c.edge_in-to.result) c.put_bytes.new.b = c.put_bytes-2.ensures ∙ ap (λ (at : ℕ). overwrite at (slice_range b c.edge_in-from.result c.edge_in-to.result) c.put_bytes.new.b) c.header_of-bodies.ensures in
    let co : Copied b c.args.first c.args.end c.args.into.now c.put_bytes-2.new.b = copied b c.args.first c.args.end c.edge_in-from.result c.edge_in-to.result c.args.into.now c.put16.new.b c.put_bytes.new.b c.put_bytes-2.new.b c.requires.short c.requires.laid c.requires.order c.requires.within c.requires.room c.edge_in-from.ensures c.edge_in-to.ensures c.put16.ensures heads tail in
    parted b c.args.first c.args.end c.edge_in-from.result c.header_of-bodies.result (c.header_of-bodies.result + (c.edge_in-to.result - c.edge_in-from.result)) c.args.into.now c.put_bytes-2.new.b c.shift_offsets.new.body c.requires.short c.requires.laid c.requires.order c.requires.within c.requires.room co c.edge_in-from.ensures c.header_of-bodies.ensures c.shift_offsets.ensures (omega arith)

pub returns-clause-rest : goal.returns-clause-rest
returns-clause-rest c =
    let b = c.args.body.now in
    let heads : c.put_bytes.new.b ≡ overwrite 2 (slice_range b (entry_header c.args.first) (entry_header c.args.end)) c.put16.new.b = rw (c.header_of.ensures, c.header_of-2.ensures) at c.put_bytes.ensures in
    let tail : c.put_bytes-2.new.b ≡ overwrite (entry_header (c.args.end - c.args.first)) (slice_range b c.edge_in-from.result c.edge_in-to.result) c.put_bytes.new.b = c.put_bytes-2.ensures ∙ ap (λ (at : ℕ). overwrite at (slice_range b c.edge_in-from.result c.edge_in-to.result) c.put_bytes.new.b) c.header_of-bodies.ensures in
    let co : Copied b c.args.first c.args.end c.args.into.now c.put_bytes-2.new.b = copied b c.args.first c.args.end c.edge_in-from.result c.edge_in-to.result c.args.into.now c.put16.new.b c.put_bytes.new.b c.put_bytes-2.new.b c.requires.short c.requires.laid c.requires.order c.requires.within c.requires.room c.edge_in-from.ensures c.edge_in-to.ensures c.put16.ensures heads tail in
    part_rest b c.args.first c.args.end c.edge_in-from.result c.header_of-bodies.result (c.header_of-bodies.result + (c.edge_in-to.result - c.edge_in-from.result)) c.args.into.now c.put_bytes-2.new.b c.shift_offsets.new.body c.requires.order co c.shift_offsets.ensures (omega arith)
