use Rattle.std.proofs.Common.{◌≡◌, ◌∙◌, ◌+◌, ◌≤◌, length, true, false, ap, sym, arith}
use Rattle.r4_space.specs.Words.{is_set}
use Rattle.r4_space.proofs.SpaceLaws.{changed}
use Rattle.r4_space.proofs.TakenLaws.{in_words, first_bits-clear, first_bits-clear_again, count-give, same_words, taken_fewer}
use Rattle.r4_space.proofs.taken.Taken.give.Goals as goal

pub get_bit-requires : goal.get_bit-requires
get_bit-requires c =
    let i = c.self.inside in
    rw c.as_slice.ensures.value (in_words i.size c.args.i (length i.words.items) i.words.items c.args.self.now c.self.view_is c.requires c.self.invariant.covers).1

pub returns-then-not-get_bit : goal.returns-then-not-get_bit
returns-then-not-get_bit c =
    let i = c.self.inside in
    let in_range = in_words i.size c.args.i (length i.words.items) i.words.items c.args.self.now c.self.view_is c.requires c.self.invariant.covers in
    let off : is_set i.words.items c.args.i ≡ false = rw c.as_slice.ensures.value at (sym c.if-not-get_bit.ensures) in
    rw (← c.self.view_is) (first_bits-clear_again i.size c.args.i i.words.items in_range.0 off)

pub give_bit-requires-clause-within : goal.give_bit-requires-clause-within
give_bit-requires-clause-within c =
    let i = c.self.inside in
    rw c.as_mut_slice.ensures.value (in_words i.size c.args.i (length i.words.items) i.words.items c.args.self.now c.self.view_is c.requires c.self.invariant.covers).1

pub overflow_add-self : goal.overflow_add-self
overflow_add-self c =
    let i = c.self.inside in
    let in_range = in_words i.size c.args.i (length i.words.items) i.words.items c.args.self.now c.self.view_is c.requires c.self.invariant.covers in
    let on : is_set i.words.items c.args.i ≡ true = rw c.as_slice.ensures.value at (sym c.if-not-get_bit.ensures) in
    let most : i.clear + 1 ≤ i.size = (count-give i.size c.args.i i.clear i.words.items c.give_bit.new.words in_range.0 on (rw c.as_mut_slice.ensures.value at c.give_bit.ensures.clear) c.self.invariant.counted).0 in
    omega arith

pub invariant_of-self : goal.invariant_of-self
invariant_of-self c =
    let i = c.self.inside in
    let in_range = in_words i.size c.args.i (length i.words.items) i.words.items c.args.self.now c.self.view_is c.requires c.self.invariant.covers in
    let on : is_set i.words.items c.args.i ≡ true = rw c.as_slice.ensures.value at (sym c.if-not-get_bit.ensures) in
    same_words i.size (i.clear + 1) _ _ _ _ _ _
    (changed i.words c.as_mut_slice.result.now c.give_bit.new.words c.as_mut_slice.ensures.value c.give_bit.auto.words)
    (changed i.full c.as_mut_slice-2.result.now c.give_bit.new.full c.as_mut_slice-2.ensures.value c.give_bit.auto.full)
    (changed i.fuller c.as_mut_slice-3.result.now c.give_bit.new.fuller c.as_mut_slice-3.ensures.value c.give_bit.auto.fuller)
    (taken_fewer i.size c.args.i i.clear i.words.items i.full.items i.fuller.items c.give_bit.new.words c.give_bit.new.full c.give_bit.new.fuller c.self.invariant in_range.0 on
    (c.give_bit.auto.words ∙ ap length c.as_mut_slice.ensures.value) (c.give_bit.auto.full ∙ ap length c.as_mut_slice-2.ensures.value) (c.give_bit.auto.fuller ∙ ap length c.as_mut_slice-3.ensures.value)
    (rw c.as_mut_slice.ensures.value at c.give_bit.ensures.clear) c.give_bit.ensures.told c.give_bit.ensures.told_too)

pub returns : goal.returns
returns c =
    let i = c.self.inside in
    let in_range = in_words i.size c.args.i (length i.words.items) i.words.items c.args.self.now c.self.view_is c.requires c.self.invariant.covers in
    let new = changed i.words c.as_mut_slice.result.now c.give_bit.new.words c.as_mut_slice.ensures.value c.give_bit.auto.words in
    rw (new, ← c.self.view_is) (first_bits-clear i.size c.args.i i.words.items c.give_bit.new.words in_range.0 (rw c.as_mut_slice.ensures.value at c.give_bit.ensures.clear))
