use Rattle.r4_replay.proofs.Found.{handed}
use Rattle.r4_replay.proofs.WholeLog.{stopped_at_heads, stopped_at_txns, stopped_at_overlap, read_whole, overlap_at, apart_at}
use Rattle.r4_replay.proofs.chain.read_chain.Goals as goal

pub returns-in_err-heads-clause-reads : goal.returns-in_err-heads-clause-reads
returns-in_err-heads-clause-reads g c = stopped_at_heads _ _ _ _ _ _ c.requires c.in_err-heads.ensures.idles c.in_err-heads.field-0.0 c.from_residual.result c.in_err-heads.ensures.finds (handed _ _ c.from_residual.ensures.1)

pub returns-in_err-txns-clause-reads : goal.returns-in_err-txns-clause-reads
returns-in_err-txns-clause-reads g c = stopped_at_txns (g.D.Device.state c.args.dev.now) (g.D.Device.state c.read_heads.new.dev) (g.D.Device.state c.read_txns.new.dev) _ _ _ c.requires c.in_ok-heads.ensures.idles c.in_ok-heads.heads c.in_ok-heads.ensures.finds
    c.in_err-txns.field-0.0 c.from_residual-in_err-txns.result c.in_err-txns.ensures.finds (handed _ _ c.from_residual-in_err-txns.ensures.1)

pub returns-in-Some-clause-reads : goal.returns-in-Some-clause-reads
returns-in-Some-clause-reads g c = stopped_at_overlap (g.D.Device.state c.args.dev.now) (g.D.Device.state c.read_heads.new.dev) (g.D.Device.state c.read_txns.new.dev) _ _ _ c.requires c.in_ok-heads.ensures.idles c.in_ok-heads.heads c.in_ok-heads.ensures.finds
    c.in_ok-txns.txns c.in_ok-txns.ensures.finds c.in-Some.block (overlap_at c.in_ok-txns.txns c.deref.result.now c.in_ok-block.field-0 c.in-Some.block c.deref.ensures.value c.in-Some.is c.in_ok-block.ensures)

pub returns-clause-reads : goal.returns-clause-reads
returns-clause-reads g c = read_whole (g.D.Device.state c.args.dev.now) (g.D.Device.state c.read_heads.new.dev) (g.D.Device.state c.read_txns.new.dev) _ _ _ c.requires c.in_ok-heads.ensures.idles c.in_ok-heads.heads c.in_ok-heads.ensures.finds
    c.in_ok-txns.txns c.in_ok-txns.ensures.finds (apart_at c.in_ok-txns.txns c.deref.result.now c.in_ok-block.field-0 c.deref.ensures.value c.in_default.is c.in_ok-block.ensures)
