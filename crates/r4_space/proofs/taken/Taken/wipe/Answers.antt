use Rattle.std.proofs.Common.{◌≡◌, ◌∙◌, ℕ, List, false, length, ap, sym}
use Rattle.std.specs.Prelude.{replicate, Vec}
use Rattle.std.specs.Vec.{with_items}
use Rattle.std.specs.declared.alloc.Global.{Global}
use Rattle.std.proofs.lemmas.List.{length-replicate, with_items_is}
use Rattle.r4_space.specs.Words.{first_bits}
use Rattle.r4_space.proofs.TakenLaws.{first_bits-zeros, length-first_bits, same_words, taken_wiped}
use Rattle.r4_space.proofs.taken.Taken.wipe.Goals as goal

-- a row of words after its elements are made 0
wiped : (v : Vec ℕ Global) (was new : List ℕ) → was ≡ v.items → new ≡ replicate (length was) 0 → (with_items v new).items ≡ replicate (length v.items) 0
wiped v was new is zeros =
    let z : ℕ = 0 in
    let same : new ≡ replicate (length v.items) 0 = zeros ∙ ap (λ (xs : List ℕ). replicate (length xs) z) is in
    let size : length (replicate (length v.items) z) ≡ length v.items = length-replicate (length v.items) z in
    let long : length new ≡ v.len = ap length same ∙ size ∙ sym v.ok.0 in
    with_items_is v new long ∙ same

pub invariant_of-self : goal.invariant_of-self
invariant_of-self c =
    let i = c.self.inside in
    same_words i.size i.size _ _ _ _ _ _
    (wiped i.words c.as_mut_slice.result.now c.wipe.new.words c.as_mut_slice.ensures.value c.wipe.ensures)
    (wiped i.full c.as_mut_slice-2.result.now c.wipe-2.new.words c.as_mut_slice-2.ensures.value c.wipe-2.ensures)
    (wiped i.fuller c.as_mut_slice-3.result.now c.wipe-3.new.words c.as_mut_slice-3.ensures.value c.wipe-3.ensures)
    (taken_wiped i.size i.clear i.words.items i.full.items i.fuller.items c.self.invariant)

pub returns : goal.returns
returns c =
    let i = c.self.inside in
    let new = wiped i.words c.as_mut_slice.result.now c.wipe.new.words c.as_mut_slice.ensures.value c.wipe.ensures in
    let size : i.size ≡ length c.args.self.now = sym (length-first_bits i.size i.words.items) ∙ ap length c.self.view_is in
    ap (first_bits i.size) new ∙ first_bits-zeros i.size (length i.words.items) ∙ ap (λ (n : ℕ). replicate n false) size
