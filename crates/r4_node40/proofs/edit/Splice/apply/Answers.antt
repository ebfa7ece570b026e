use Rattle.std.proofs.Common.{◌≡◌, ◌+◌, ◌-◌, ◌*◌, ◌∙◌, ℕ, arith}
use Rattle.r4_node40.proofs.Splices.{Moved, Headed, started, moves, offset_moved, headed, spliced}
use Rattle.r4_node40.proofs.edit.Splice.apply.Goals as goal

pub overflow_add-behind : goal.overflow_add-behind
overflow_add-behind c =
    let st = started c.args.self c.args.b.now c.requires in
    omega (arith, st.inside, st.sum, st.low)

pub overflow_add-self : goal.overflow_add-self
overflow_add-self c =
    let st = started c.args.self c.args.b.now c.requires in
    omega (arith, st.inside, st.sum, st.low)

pub move_bytes-requires-clause-order : goal.move_bytes-requires-clause-order
move_bytes-requires-clause-order c =
    let st = started c.args.self c.args.b.now c.requires in
    omega (arith, st.inside, st.sum, st.low)

pub move_bytes-requires-clause-room : goal.move_bytes-requires-clause-room
move_bytes-requires-clause-room c =
    let st = started c.args.self c.args.b.now c.requires in
    omega (arith, st.inside, st.sum, st.low)

pub overflow_add-room : goal.overflow_add-room
overflow_add-room c =
    let st = started c.args.self c.args.b.now c.requires in
    omega (arith, st.inside, st.sum, st.low)

pub overflow_add-room-2 : goal.overflow_add-room-2
overflow_add-room-2 c =
    let st = started c.args.self c.args.b.now c.requires in
    omega (arith, st.inside, st.sum, st.low)

pub overflow_add-start : goal.overflow_add-start
overflow_add-start c =
    let st = started c.args.self c.args.b.now c.requires in
    omega (arith, st.inside, st.sum, st.low)

pub overflow_sub-start : goal.overflow_sub-start
overflow_sub-start c =
    let st = started c.args.self c.args.b.now c.requires in
    omega (arith, st.inside, st.sum, st.low)

pub shift_offsets-requires-clause-enough : goal.shift_offsets-requires-clause-enough
shift_offsets-requires-clause-enough c =
    let m : ℕ = c.get16-count.result + c.args.self.come - c.args.self.gone in
    let count : m + c.args.self.gone ≡ c.get16-count.result + c.args.self.come = omega arith in
    let mv : Moved c.args.b.now c.move_bytes-2.new.b c.get16-count.result c.args.self.at c.args.self.gone c.args.self.come c.args.self.from c.args.self.old c.args.self.new =
    moves c.args.self c.args.b.now c.move_bytes.new.b c.move_bytes-2.new.b c.get16-count.result m c.get16-start.result c.requires c.get16-count.ensures c.get16-start.ensures count c.move_bytes.ensures c.move_bytes-2.ensures in
    λ k ge lt. (offset_moved c.args.self c.args.b.now c.move_bytes-2.new.b c.get16-count.result m c.requires c.get16-count.ensures count mv k ge lt).0

pub shift_offsets-requires-clause-small : goal.shift_offsets-requires-clause-small
shift_offsets-requires-clause-small c =
    let m : ℕ = c.get16-count.result + c.args.self.come - c.args.self.gone in
    let count : m + c.args.self.gone ≡ c.get16-count.result + c.args.self.come = omega arith in
    let mv : Moved c.args.b.now c.move_bytes-2.new.b c.get16-count.result c.args.self.at c.args.self.gone c.args.self.come c.args.self.from c.args.self.old c.args.self.new =
    moves c.args.self c.args.b.now c.move_bytes.new.b c.move_bytes-2.new.b c.get16-count.result m c.get16-start.result c.requires c.get16-count.ensures c.get16-start.ensures count c.move_bytes.ensures c.move_bytes-2.ensures in
    λ k ge lt. (offset_moved c.args.self c.args.b.now c.move_bytes-2.new.b c.get16-count.result m c.requires c.get16-count.ensures count mv k ge lt).1

pub returns : goal.returns
returns c =
    let st = started c.args.self c.args.b.now c.requires in
    let sum = st.sum in
    let inside = st.inside in
    let m : ℕ = c.get16-count.result + c.args.self.come - c.args.self.gone in
    let count : m + c.args.self.gone ≡ c.get16-count.result + c.args.self.come = omega arith in
    let mv : Moved c.args.b.now c.move_bytes-2.new.b c.get16-count.result c.args.self.at c.args.self.gone c.args.self.come c.args.self.from c.args.self.old c.args.self.new =
    moves c.args.self c.args.b.now c.move_bytes.new.b c.move_bytes-2.new.b c.get16-count.result m c.get16-start.result c.requires c.get16-count.ensures c.get16-start.ensures count c.move_bytes.ensures c.move_bytes-2.ensures in
    let free : ℕ = c.get16-free.result + c.args.self.old + 38 * c.args.self.gone - c.args.self.new - 38 * c.args.self.come in
    let start : ℕ = c.get16-start.result + c.args.self.new - c.args.self.old in
    let h : Headed c.shift_offsets.new.b c.put16-3.new.b m free start =
    headed c.shift_offsets.new.b c.put16.new.b c.put16-2.new.b c.put16-3.new.b m free start (c.shift_offsets.auto.b ∙ mv.whole) (omega arith) (omega arith) (omega arith) c.put16.ensures c.put16-2.ensures c.put16-3.ensures in
    spliced c.args.self c.args.b.now c.move_bytes-2.new.b c.shift_offsets.new.b c.put16-3.new.b c.get16-count.result m free start c.requires c.get16-count.ensures count (omega arith) (omega arith) mv c.shift_offsets.ensures h
