use Rattle.std.proofs.Common.{◌∙◌, ◌≡◌, Ok, ap, sym, List}
use Rattle.r4_base.specs.Refusal.{Head, txn_at}
use Rattle.r4_base.specs.Chain.{Txn}
use Rattle.r4_replay.specs.Heads.{head_shown, heads_shown}
use Rattle.r4_replay.specs.Txns.{txn_shown}
use Rattle.r4_replay.specs.Chains.{chain_of}
use Rattle.r4_replay.proofs.Found.{idles_same, idles_both, found_at, handed, stops, onto_none, onto_push, onto_fault, txns_onto, popped_shown, pushed_chain, range_push, range_none, no_chain}
use Rattle.r4_replay.proofs.chain.read_txns.Goals as goal

pub loop-head-init : goal.loop-head-init
loop-head-init g c = record {
  idles = idles_same _;
  in_range = range_none c.args.blocks c.new-txns.result c.new-txns.ensures.items;
  so_far = λ tells. onto_none _ _ _ ∙ ap (λ (ts : List Txn). txns_onto c.args.blocks (g.D.Device.state c.args.dev.now).seen (heads_shown c.args.heads) ts) (sym (no_chain c.new-txns.result c.new-txns.ensures.items));
}

pub returns-in_err-read_txn-clause-finds : goal.returns-in_err-read_txn-clause-finds
returns-in_err-read_txn-clause-finds g c = stops txn_shown chain_of (g.D.Device.state c.args.dev.now) (g.D.Device.state c.loop-head.dev) (g.D.Device.state c.read_txn.new.dev)
    (λ i. txn_at c.args.blocks i (head_shown c.in-Some.head)) _ c.in_err-read_txn.field-0.0 c.from_residual.result c.loop-head.invariant.idles
    (λ tells r e. c.loop-head.invariant.so_far tells
    ∙ ap (λ (hs : List Head). txns_onto c.args.blocks (g.D.Device.state c.args.dev.now).seen hs (chain_of c.loop-head.txns)) (popped_shown c.loop-head.heads c.pop.new.self c.in-Some.head c.in-Some.ensures.items)
    ∙ onto_fault _ _ (heads_shown c.pop.new.self) (head_shown c.in-Some.head) (chain_of c.loop-head.txns) r e)
    c.in_err-read_txn.ensures.finds (handed _ _ c.from_residual.ensures.1)

pub loop-head-preserved : goal.loop-head-preserved
loop-head-preserved g c = record {
  idles = idles_both _ _ _ c.loop-head.invariant.idles c.read_txn.ensures.idles;
  in_range = range_push _ c.loop-head.txns c.push.new.self _ c.in_ok-push.ensures.items c.loop-head.invariant.in_range c.in_ok-read_txn.ensures.in_range;
  so_far = λ tells.
      let read = found_at (λ i. txn_at c.args.blocks i (head_shown c.in-Some.head) ≡ Ok (txn_shown c.in_ok-read_txn.field-0)) (g.D.Device.state c.args.dev.now) (g.D.Device.state c.loop-head.dev) c.loop-head.invariant.idles tells c.in_ok-read_txn.ensures.finds in
      c.loop-head.invariant.so_far tells
      ∙ ap (λ (hs : List Head). txns_onto c.args.blocks (g.D.Device.state c.args.dev.now).seen hs (chain_of c.loop-head.txns)) (popped_shown c.loop-head.heads c.pop.new.self c.in-Some.head c.in-Some.ensures.items)
      ∙ onto_push _ _ (heads_shown c.pop.new.self) (head_shown c.in-Some.head) (chain_of c.loop-head.txns) _ read
      ∙ ap (λ (ts : List Txn). txns_onto c.args.blocks (g.D.Device.state c.args.dev.now).seen (heads_shown c.pop.new.self) ts) (sym (pushed_chain c.loop-head.txns c.push.new.self _ c.in_ok-push.ensures.items));
}
