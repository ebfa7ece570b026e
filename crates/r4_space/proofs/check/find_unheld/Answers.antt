use Rattle.std.proofs.Common.{◌≡◌, ◌∙◌, ◌*◌, ℕ, List, Some, ap, sym, get_or}
use Rattle.std.proofs.lemmas.List.{drop_all}
use Rattle.r4_base.specs.Bitmap.{are_held, bits_of}
use Rattle.r4_space.proofs.BitmapLaws.{unheld_more, unheld_here, unheld_none}
use Rattle.r4_space.proofs.check.find_unheld.Goals as goal

-- what is found of a bitmap that was read
read : (blocks n : ℕ) (block was : List ℕ) (bitmaps : List (List ℕ)) → block ≡ was → was ≡ get_or bitmaps n was → are_held blocks (n * 32736) (bits_of block) ≡ are_held blocks (n * 32736) (bits_of (get_or bitmaps n was))
read blocks n block was bitmaps e f = ap (λ (x : List ℕ). are_held blocks (n * 32736) (bits_of x)) (e ∙ f)

pub returns-then-not-is_held : goal.returns-then-not-is_held
returns-then-not-is_held c =
    let same = read c.args.blocks c.loop-n.n c.bytes.result.now c.index-bitmaps-n.result c.args.bitmaps.now c.bytes.ensures.value c.index-bitmaps-n.is in
    let here = unheld_here c.args.blocks c.loop-n.n c.index-bitmaps-n.result c.args.bitmaps.now c.loop-n-test.true (sym same ∙ sym c.if-not-is_held.ensures) in
    ap (λ (b : ℕ). Some b) c.bitmap_block.ensures ∙ sym (c.loop-n.invariant ∙ here)

pub loop-n-preserved : goal.loop-n-preserved
loop-n-preserved c =
    let same = read c.args.blocks c.loop-n.n c.bytes.result.now c.index-bitmaps-n.result c.args.bitmaps.now c.bytes.ensures.value c.index-bitmaps-n.is in
    c.loop-n.invariant ∙ unheld_more c.args.blocks c.loop-n.n c.index-bitmaps-n.result c.args.bitmaps.now c.loop-n-test.true (sym same ∙ sym c.if-not-is_held.ensures)

pub returns : goal.returns
returns c = sym (c.loop-n.invariant ∙ rw (drop_all c.loop-n.n c.args.bitmaps.now c.loop-n-test.false) (unheld_none c.args.blocks c.loop-n.n))
