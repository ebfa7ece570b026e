use Rattle.std.proofs.Common.{rules}
use Rattle.std.proofs.lemmas.Iterator.{YieldsList-from_slice, items_from_collect}
use Rattle.std.proofs.lemmas.Iterator.Consumers.{YieldsList-at, YieldsList-from_chain, YieldsList-from_filter_map}
use Rattle.r4_others.specs.Others.{other_owner}
use Rattle.r4_others.proofs.finding.owners.Goals as goal

pub returns : goal.returns
returns c =
    items_from_collect _ c.collect.ensures.ran
    (YieldsList-from_filter_map _ (other_owner c.args.atoms.now c.args.own.0)
    (YieldsList-at c.filter_map.ensures.source
    (YieldsList-from_chain
    (YieldsList-at c.chain.ensures.first (YieldsList-from_slice c.args.reads.now c.iter.ensures.rest))
    (YieldsList-from_slice c.args.writes.now c.chain.ensures.second.0)
    c.chain.ensures.first_done c.chain.ensures.second_done))
    c.filter_map.ensures.closure (λ x r q k. search rules))
