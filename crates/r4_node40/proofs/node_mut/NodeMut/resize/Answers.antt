use Rattle.std.proofs.Common.{◌≡◌, Result, Ok, Err, OnErr, length, refl, ap, ◌∙◌}
use Rattle.r4_base.specs.Lending.{refilled}
use Rattle.r4_base.proofs.Lent.{refilled_is}
use Rattle.r4_node40.proofs.node_mut.NodeMut.resize.Goals as goal

pub returns-clause-ok : goal.returns-clause-ok
returns-clause-ok c =
    let long : length c.resize_item.new.b ≡ length c.args.self.now.block.now = c.resize_item.auto.b ∙ ap length c.bytes_mut-bytes.ensures.value in
    rw (refilled_is c.args.self.now.block.now c.resize_item.new.b long, ← c.bytes_mut-bytes.ensures.value) c.resize_item.ensures.ok

on_err : {T E : Type 0} {P Q : Type 0} (r : Result T E) → (P → Q) → OnErr r P → OnErr r Q
on_err (Ok x) f h = h
on_err (Err e) f h = f h

pub returns-clause-err : goal.returns-clause-err
returns-clause-err c =
    let long : length c.resize_item.new.b ≡ length c.args.self.now.block.now = c.resize_item.auto.b ∙ ap length c.bytes_mut-bytes.ensures.value in
    let same = refilled_is c.args.self.now.block.now c.resize_item.new.b long in
    on_err c.resize_item.result (λ (h : c.resize_item.new.b ≡ c.bytes_mut-bytes.result.now).
    let back : refilled c.args.self.now.block.now c.resize_item.new.b ≡ c.args.self.now.block.now = same ∙ h ∙ c.bytes_mut-bytes.ensures.value in
    rw back refl) c.resize_item.ensures.err
