use Rattle.std.proofs.Common.{List, ℕ, subst, length, sym, ◌∙◌, ap}
use Rattle.r4_base.specs.Chain.{chain_pairs, home}
use Rattle.r4_replay.specs.declared.txn.Txn.{Txn}
use Rattle.r4_replay.specs.Chains.{InRangeAll}
use Rattle.r4_replay.specs.Txns.{chain_shown}
use Rattle.r4_replay.proofs.Homes.{tells_homes, homes_within}
use Rattle.r4_replay.proofs.log.look_up.Goals as goal

pub returns-clause-looked : goal.returns-clause-looked
returns-clause-looked g c = λ tells. tells_homes (g.D.Device.state c.args.dev.now) c.in_ok-whole.whole.txns.items _ tells (c.in_ok-whole.ensures.reads tells).0 (c.len.ensures ∙ sym c.deref.ensures.len ∙ ap length c.deref.ensures.value) (c.in_ok-whole.ensures.reads tells).1
    (λ b. c.in_ok-homes_of.ensures b ∙ ap (λ (l : List Txn). home (chain_pairs (chain_shown l)) b) c.deref.ensures.value)

pub returns-clause-within : goal.returns-clause-within
returns-clause-within g c = homes_within (g.D.Device.state c.args.dev.now).blocks c.in_ok-whole.whole.txns.items c.in_ok-homes_of.field-0 (subst (λ (n : ℕ). InRangeAll n c.in_ok-whole.whole.txns.items) c.requires.blocks c.in_ok-whole.ensures.in_range)
    (λ b. c.in_ok-homes_of.ensures b ∙ ap (λ (l : List Txn). home (chain_pairs (chain_shown l)) b) c.deref.ensures.value)
