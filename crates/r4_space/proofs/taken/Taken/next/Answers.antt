use Rattle.std.proofs.Common.{◌*◌, length, arith}
use Rattle.r4_space.specs.Words.{is_set, IsFull, IsFirstClear}
use Rattle.r4_space.proofs.TakenLaws.{shown_clear, shown_full, past_end}
use Rattle.r4_space.proofs.taken.Taken.next.Goals as goal

pub returns-in-Some : goal.returns-in-Some
returns-in-Some c =
    let i = c.self.inside in
    shown_clear i.size (64 * length i.words.items) c.args.from c.in-Some.i i.words.items c.args.self.now c.self.view_is (rw c.as_slice.ensures.value at c.in-Some.ensures) c.if-i-self.true

pub returns-in_default : goal.returns-in_default
returns-in_default c =
    let i = c.self.inside in
    let found : IsFirstClear (is_set i.words.items) (64 * length i.words.items) c.args.from c.in-Some.i = rw c.as_slice.ensures.value at c.in-Some.ensures in
    shown_full i.size i.size c.args.from i.words.items c.args.self.now c.self.view_is (omega arith) (past_end i.size (64 * length i.words.items) c.args.from c.in-Some.i i.words.items found c.if-i-self.false)

pub returns-in_default-2 : goal.returns-in_default-2
returns-in_default-2 c =
    let i = c.self.inside in
    let full : IsFull (is_set i.words.items) (64 * length i.words.items) c.args.from = rw c.as_slice.ensures.value at c.in_default.ensures in
    shown_full i.size (64 * length i.words.items) c.args.from i.words.items c.args.self.now c.self.view_is c.self.invariant.covers full
