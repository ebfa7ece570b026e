use Rattle.std.proofs.Common.{◌≡◌, refl, sym, ◌∙◌, ap, subst, length, arith, List}
use Rattle.r4_base.specs.Image.{Image, block_at, put_pairs}
use Rattle.r4_base.specs.Chain.{HasLog, SettlesTo, is_footer, chain_pairs}
use Rattle.r4_outside.specs.Device.{State, IsQuiet, LeavesOnly}
use Rattle.r4_outside.proofs.Moments.{goes_same, reads_of}
use Rattle.r4_replay.specs.declared.txn.Txn.{Txn as TxnHere}
use Rattle.r4_replay.specs.Txns.{chain_shown}
use Rattle.r4_replay.specs.Chains.{chain_of}
use Rattle.r4_replay.specs.Placing.{IsPlaced}
use Rattle.r4_replay.proofs.Idling.{idle_always}
use Rattle.r4_replay.proofs.Finishing.{always_alike, head_named, put_whole, untouched_after}
use Rattle.r4_replay.proofs.replaying.read_and_put.Goals as goal

pub returns-in_err-buffer-clause-any_moment : goal.returns-in_err-buffer-clause-any_moment
returns-in_err-buffer-clause-any_moment g c = idle_always (g.D.Device.state c.args.dev.now) _ (goes_same _) refl

pub returns-in_err-footer-clause-any_moment : goal.returns-in_err-footer-clause-any_moment
returns-in_err-footer-clause-any_moment g c = idle_always (g.D.Device.state c.args.dev.now) _ (goes_same _) refl

pub returns-in_err-whole-clause-any_moment : goal.returns-in_err-whole-clause-any_moment
returns-in_err-whole-clause-any_moment g c = idle_always (g.D.Device.state c.args.dev.now) _ c.read_whole.ensures.idles.goes c.read_whole.ensures.idles.clock

pub returns-in_err-put_txns-clause-any_moment : goal.returns-in_err-put_txns-clause-any_moment
returns-in_err-put_txns-clause-any_moment g c = λ quiet.
    let s0 : State = g.D.Device.state c.args.dev.now in
    let s1 : State = g.D.Device.state c.read_whole.new.dev in
    let s2 : State = g.D.Device.state c.put_txns.new.dev in
    always_alike s0 s1 s2 (chain_of c.in_ok-whole.whole.txns) c.read_whole.ensures.idles c.put_txns.ensures.goes quiet (c.in_ok-whole.ensures.reads (reads_of s0 quiet.tells)).0
    (subst (λ (l : List TxnHere). IsQuiet s1 → HasLog s1.blocks s1.seen (chain_shown l) → LeavesOnly s1 s2 (SettlesTo s1.blocks is_footer (put_pairs (chain_pairs (chain_shown l)) s1.seen))) c.deref.ensures.value c.put_txns.ensures.any_moment)

pub returns-clause-any_moment : goal.returns-clause-any_moment
returns-clause-any_moment g c = λ quiet.
    let s0 : State = g.D.Device.state c.args.dev.now in
    let s1 : State = g.D.Device.state c.read_whole.new.dev in
    let s2 : State = g.D.Device.state c.put_txns.new.dev in
    always_alike s0 s1 s2 (chain_of c.in_ok-whole.whole.txns) c.read_whole.ensures.idles c.put_txns.ensures.goes quiet (c.in_ok-whole.ensures.reads (reads_of s0 quiet.tells)).0
    (subst (λ (l : List TxnHere). IsQuiet s1 → HasLog s1.blocks s1.seen (chain_shown l) → LeavesOnly s1 s2 (SettlesTo s1.blocks is_footer (put_pairs (chain_pairs (chain_shown l)) s1.seen))) c.deref.ensures.value c.put_txns.ensures.any_moment)

pub returns-clause-works : goal.returns-clause-works
returns-clause-works g c =
    let s0 : State = g.D.Device.state c.args.dev.now in
    let s1 : State = g.D.Device.state c.read_whole.new.dev in
    let s2 : State = g.D.Device.state c.put_txns.new.dev in
    let idles = c.read_whole.ensures.idles in
    let reads = c.in_ok-whole.ensures.reads in (
      (λ none. untouched_after s0 s1 s2 idles (c.put_txns.ensures.idle (let l = ap length c.deref.ensures.value in omega (arith, none, l)))),
      (λ tells. put_whole s0 s1 s2 c.deref.result.now _ c.read_whole.new.footer idles (c.len.ensures ∙ sym c.deref.ensures.len)
          (subst (λ (l : List TxnHere). HasLog s0.blocks s0.seen (chain_shown l)) (sym c.deref.ensures.value) (reads tells).0)
          (c.in_ok-whole.ensures.footer tells ∙ ap (λ (i : Image). block_at i 20) (sym idles.seen))
          (c.in_ok-put_txns.ensures.placed (idles.goes.reads.1 tells))),
      head_named s0 s1 s2 (chain_of c.in_ok-whole.whole.txns) _ idles c.put_txns.ensures.goes reads
          (λ told has. subst (λ (l : List TxnHere). HasLog s1.blocks s1.seen (chain_shown l) → c.read_whole.new.footer ≡ block_at s1.seen 20 → IsPlaced s1 (chain_shown l) s2) c.deref.ensures.value
          (c.in_ok-put_txns.ensures.placed told) has (c.in_ok-whole.ensures.footer (idles.goes.reads.0 told) ∙ ap (λ (i : Image). block_at i 20) (sym idles.seen))),
    )
