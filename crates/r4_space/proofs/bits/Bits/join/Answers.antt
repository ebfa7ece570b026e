use Rattle.std.proofs.Common.{◌∙◌, length, ap, sym}
use Rattle.r4_space.proofs.BitsLaws.{alike, joined_bits, same_size}
use Rattle.r4_space.proofs.SpaceLaws.{changed}
use Rattle.r4_space.proofs.TakenLaws.{length-first_bits}
use Rattle.r4_space.proofs.bits.Bits.join.Goals as goal

pub join_words-requires : goal.join_words-requires
join_words-requires c =
    let i = c.self.inside in
    let o = c.other.inside in
    ap length c.as_mut_slice.ensures.value ∙ alike i.size o.size i.words.items o.words.items c.args.self.now c.args.other.now c.self.view_is c.other.view_is c.requires c.self.invariant c.other.invariant ∙ sym (ap length c.as_slice.ensures.value)

pub invariant_of-self : goal.invariant_of-self
invariant_of-self c =
    let i = c.self.inside in
    let new = changed i.words c.as_mut_slice.result.now c.join_words.new.words c.as_mut_slice.ensures.value c.join_words.auto.words in
    rw new (same_size i.size i.words.items c.join_words.new.words (c.join_words.auto.words ∙ ap length c.as_mut_slice.ensures.value) c.self.invariant)

pub returns-clause-size : goal.returns-clause-size
returns-clause-size c =
    let i = c.self.inside in
    length-first_bits i.size _ ∙ sym (length-first_bits i.size i.words.items) ∙ ap length c.self.view_is

pub returns-clause-each : goal.returns-clause-each
returns-clause-each c b =
    let i = c.self.inside in
    let o = c.other.inside in
    let new = changed i.words c.as_mut_slice.result.now c.join_words.new.words c.as_mut_slice.ensures.value c.join_words.auto.words in
    rw new (joined_bits i.size o.size i.words.items o.words.items c.join_words.new.words c.args.self.now c.args.other.now c.self.view_is c.other.view_is c.requires
    (rw (c.as_mut_slice.ensures.value, c.as_slice.ensures.value) at c.join_words.ensures) b)
