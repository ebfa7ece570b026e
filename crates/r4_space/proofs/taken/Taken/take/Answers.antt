use Rattle.std.proofs.Common.{◌≡◌, ◌∙◌, ℕ, ◌-◌, length, List, true, false, ap, sym}
use Rattle.std.specs.Prelude.{Vec}
use Rattle.std.specs.Vec.{with_items}
use Rattle.std.specs.declared.alloc.Global.{Global}
use Rattle.std.proofs.lemmas.List.{with_items_is}
use Rattle.r4_space.specs.Words.{is_set}
use Rattle.r4_space.proofs.TakenLaws.{in_words, first_bits-set, first_bits-again, count-take, same_words, taken_more}
use Rattle.r4_space.proofs.taken.Taken.take.Goals as goal

-- a row of words after its elements are changed
changed : (v : Vec ℕ Global) (was new : List ℕ) → was ≡ v.items → length new ≡ length was → (with_items v new).items ≡ new
changed v was new is long = with_items_is v new (long ∙ ap length is ∙ sym v.ok.0)

pub get_bit-requires : goal.get_bit-requires
get_bit-requires c =
    let i = c.self.inside in
    rw c.as_slice.ensures.value (in_words i.size c.args.i (length i.words.items) i.words.items c.args.self.now c.self.view_is c.requires c.self.invariant.covers).1

pub returns-then-get_bit : goal.returns-then-get_bit
returns-then-get_bit c =
    let i = c.self.inside in
    let in_range = in_words i.size c.args.i (length i.words.items) i.words.items c.args.self.now c.self.view_is c.requires c.self.invariant.covers in
    let on : is_set i.words.items c.args.i ≡ true = rw c.as_slice.ensures.value at (sym c.if-get_bit.ensures) in
    rw (← c.self.view_is) (first_bits-again i.size c.args.i i.words.items in_range.0 on)

pub take_bit-requires-clause-within : goal.take_bit-requires-clause-within
take_bit-requires-clause-within c =
    let i = c.self.inside in
    rw c.as_mut_slice.ensures.value (in_words i.size c.args.i (length i.words.items) i.words.items c.args.self.now c.self.view_is c.requires c.self.invariant.covers).1

pub overflow_sub-self : goal.overflow_sub-self
overflow_sub-self c =
    let i = c.self.inside in
    let in_range = in_words i.size c.args.i (length i.words.items) i.words.items c.args.self.now c.self.view_is c.requires c.self.invariant.covers in
    let off : is_set i.words.items c.args.i ≡ false = rw c.as_slice.ensures.value at (sym c.if-get_bit.ensures) in
    (count-take i.size c.args.i i.clear i.words.items c.take_bit.new.words in_range.0 off (rw c.as_mut_slice.ensures.value at c.take_bit.ensures.set) c.self.invariant.counted).0

pub invariant_of-self : goal.invariant_of-self
invariant_of-self c =
    let i = c.self.inside in
    let in_range = in_words i.size c.args.i (length i.words.items) i.words.items c.args.self.now c.self.view_is c.requires c.self.invariant.covers in
    let off : is_set i.words.items c.args.i ≡ false = rw c.as_slice.ensures.value at (sym c.if-get_bit.ensures) in
    same_words i.size (i.clear - 1) _ _ _ _ _ _
    (changed i.words c.as_mut_slice.result.now c.take_bit.new.words c.as_mut_slice.ensures.value c.take_bit.auto.words)
    (changed i.full c.as_mut_slice-2.result.now c.take_bit.new.full c.as_mut_slice-2.ensures.value c.take_bit.auto.full)
    (changed i.fuller c.as_mut_slice-3.result.now c.take_bit.new.fuller c.as_mut_slice-3.ensures.value c.take_bit.auto.fuller)
    (taken_more i.size c.args.i i.clear i.words.items i.full.items i.fuller.items c.take_bit.new.words c.take_bit.new.full c.take_bit.new.fuller c.self.invariant in_range.0 off
    (c.take_bit.auto.words ∙ ap length c.as_mut_slice.ensures.value) (c.take_bit.auto.full ∙ ap length c.as_mut_slice-2.ensures.value) (c.take_bit.auto.fuller ∙ ap length c.as_mut_slice-3.ensures.value)
    (rw c.as_mut_slice.ensures.value at c.take_bit.ensures.set) c.take_bit.ensures.told c.take_bit.ensures.told_too)

pub returns : goal.returns
returns c =
    let i = c.self.inside in
    let in_range = in_words i.size c.args.i (length i.words.items) i.words.items c.args.self.now c.self.view_is c.requires c.self.invariant.covers in
    let new = changed i.words c.as_mut_slice.result.now c.take_bit.new.words c.as_mut_slice.ensures.value c.take_bit.auto.words in
    rw (new, ← c.self.view_is) (first_bits-set i.size c.args.i i.words.items c.take_bit.new.words in_range.0 (rw c.as_mut_slice.ensures.value at c.take_bit.ensures.set))
