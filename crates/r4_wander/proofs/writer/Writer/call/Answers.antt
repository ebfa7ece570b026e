use Rattle.std.proofs.Common.{◌+◌, sym, subst}
use Rattle.r4_wander.specs.Parts.{part, base_of}
use Rattle.r4_wander.specs.Progress.{Progress, under_way, HasMade, ReadsAs}
use Rattle.r4_wander.proofs.Standing.{left_write, left_sync, made_write, made_sync, reads_write, reads_sync, spares_one_write, next_base, more_writes, no_more_writes}
use Rattle.r4_wander.proofs.writer.Writer.call.Goals as goal

pub returns-in_err-write_next-clause-spares : goal.returns-in_err-write_next-clause-spares
returns-in_err-write_next-clause-spares g c =
    let lt = more_writes c.args.self.now _ c.self.view_is c.len.result c.len.ensures c.if-self-len.true in
    spares_one_write _ _ _ _ _ lt c.write_next.ensures

pub returns-in_err-write_next-clause-left : goal.returns-in_err-write_next-clause-left
returns-in_err-write_next-clause-left g c = λ base stands.
    let lt = more_writes c.args.self.now _ c.self.view_is c.len.result c.len.ensures c.if-self-len.true in
    left_write _ _ _ _ stands _ _ lt c.write_next.ensures

pub returns-then-self-len-clause-spares : goal.returns-then-self-len-clause-spares
returns-then-self-len-clause-spares g c =
    let lt = more_writes c.args.self.now _ c.self.view_is c.len.result c.len.ensures c.if-self-len.true in
    spares_one_write _ _ _ _ _ lt c.write_next.ensures

pub returns-then-self-len-clause-stands : goal.returns-then-self-len-clause-stands
returns-then-self-len-clause-stands g c = λ base stands.
    let lt = more_writes c.args.self.now _ c.self.view_is c.len.result c.len.ensures c.if-self-len.true in
    let made = made_write _ _ _ _ stands _ _ lt c.in_ok-write_next.ensures in
    subst (λ (u : Progress). HasMade (under_way u) (base_of u.plan base u.part) (u.done + 1) (g.D.Device.state c.write_next.new.dev)) (sym c.self.view_is) made

pub returns-then-self-len-clause-left : goal.returns-then-self-len-clause-left
returns-then-self-len-clause-left g c = λ base stands.
    let lt = more_writes c.args.self.now _ c.self.view_is c.len.result c.len.ensures c.if-self-len.true in
    left_write _ _ _ _ stands _ _ lt c.write_next.ensures

pub returns-in_err-sync-clause-left : goal.returns-in_err-sync-clause-left
returns-in_err-sync-clause-left g c = λ base stands. left_sync _ _ _ _ stands _ _ c.sync.ensures

pub returns-clause-stands : goal.returns-clause-stands
returns-clause-stands g c = λ base stands.
    let all = no_more_writes c.args.self.now _ c.self.view_is c.len.result c.len.ensures c.if-self-len.false in
    let made = next_base c.args.self.now.plan base c.args.self.now.part _ (made_sync _ _ _ _ stands _ _ _ all c.in_ok-sync.ensures) in
    subst (λ (u : Progress). HasMade (part u.plan (u.part + 1)) (base_of u.plan base (u.part + 1)) 0 (g.D.Device.state c.sync.new.self)) (sym c.self.view_is) made

pub returns-clause-left : goal.returns-clause-left
returns-clause-left g c = λ base stands. left_sync _ _ _ _ stands _ _ c.sync.ensures

pub returns-then-self-len-clause-reads : goal.returns-then-self-len-clause-reads
returns-then-self-len-clause-reads g c = λ base reads.
    let lt = more_writes c.args.self.now _ c.self.view_is c.len.result c.len.ensures c.if-self-len.true in
    let read = reads_write c.args.self.now base _ _ _ reads lt c.in_ok-write_next.ensures in
    subst (λ (u : Progress). ReadsAs (record u { done = u.done + 1 }) base (g.D.Device.state c.write_next.new.dev)) (sym c.self.view_is) read

pub returns-clause-reads : goal.returns-clause-reads
returns-clause-reads g c = λ base reads.
    let all = no_more_writes c.args.self.now _ c.self.view_is c.len.result c.len.ensures c.if-self-len.false in
    let read = reads_sync c.args.self.now base _ _ _ reads all c.in_ok-sync.ensures in
    subst (λ (u : Progress). ReadsAs (record u { part = u.part + 1; done = 0 }) base (g.D.Device.state c.sync.new.self)) (sym c.self.view_is) read
