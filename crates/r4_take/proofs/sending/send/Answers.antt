use Rattle.std.proofs.Common.{refl, ◌∙◌, ap, subst, sym}
use Rattle.std.specs.Prelude.{IfSome}
use Rattle.r4_atoms.specs.Atoms.{IsBegun}
use Rattle.r4_seal.specs.r4_core.FusingAll.{CanFuseAll}
use Rattle.r4_seal.specs.r4_core.Handing.{CanHandOut, as_task}
use Rattle.r4_seal.specs.r4_history.Held.{AreOwners}
use Rattle.r4_seal.specs.r4_others.Others.{pairs_of}
use Rattle.r4_take.specs.Sending.{HasRoomier, IsGathered, own_in}
use Rattle.r4_take.proofs.Own.{begun_if, has_txn}
use Rattle.r4_take.proofs.Roomy.{roomier_same}
use Rattle.r4_take.proofs.Sent.{is_sent, on_any}
use Rattle.r4_take.proofs.Buildable.{can_be_built, is_out_then, next_still}
use Rattle.r4_take.proofs.SentOut.{can_fuse, can_hand_out, dev_is, next_is, turns_are}
use Rattle.r4_seal.specs.r4_buffer.Seen.{cells_of}
use Rattle.r4_content.specs.Meaning.{with_id}
use Rattle.r4_seal.specs.r4_core.declared.handing.Given.{Given}
use Rattle.r4_turns.specs.declared.out.Numbers.{Numbers}
use Rattle.r4_turns.specs.Turns.{IsScript, answered_at, turn_at}
use Rattle.r4_take.proofs.sending.send.Goals as goal

pub own_of-own-requires-clause-begun : goal.own_of-own-requires-clause-begun
own_of-own-requires-clause-begun g c =
    let core = c.args.core.now in
    let s = c.args.script.0 in
    let may = c.requires.may in
    subst (λ a. IfSome c.open.result (λ o. IsBegun a o.txn.0)) (sym c.atoms-2.ensures)
    (begun_if _ _ core c.lawful.ensures.kept s may.servable.stands.is_script c.open.result
    (c.open.ensures ∙ ap (λ t. (turn_at t s).transaction) c.turns.ensures))

pub returns-in_err-given-clause-err : goal.returns-in_err-given-clause-err
returns-in_err-given-clause-err g c =
    on_any c.from_residual.result (HasRoomier c.args.core.now c.args.core.now) (roomier_same c.args.core.now)

pub fuse_all-requires-after_bounds : goal.fuse_all-requires-after_bounds
fuse_all-requires-after_bounds g c κs within =
    let core = c.args.core.now in
    let s = c.args.script.0 in
    let x = c.args.command in
    let may = c.requires.may in
    let own = c.own_of-own.result in
    let m = c.make_all_room.new.core in
    let b = c.begin_if.new.core in
    let gathered = c.in_ok-given.field-0 in
    let at = c.open.ensures ∙ ap (λ t. (turn_at t s).transaction) c.turns.ensures in
    let same = c.own_of-own.ensures ∙ ap (λ a. own_in a c.open.result) c.atoms-2.ensures in
    let owners = subst AreOwners c.atoms.ensures c.lawful-2.ensures.owners in
    let is = subst (λ a. IsGathered a core.tree own c.args.draws c.args.ready gathered) c.atoms-3.ensures
    (subst (λ z. IsGathered c.atoms-3.result.now z own c.args.draws c.args.ready gathered) c.tree-tree.ensures c.in_ok-given.ensures) in
    let room = c.in_ok-new.ensures.roomier in
    let txn = has_txn _ _ core m b c.lawful-3.ensures.kept room s may.servable.stands.is_script own c.open.result at same
    c.begin_if.ensures in
    subst (λ l. CanFuseAll b own.atom.0 (pairs_of l)) (sym c.as_slice.ensures.value)
    (can_fuse _ core s x c.args.draws c.args.ready may own gathered is owners m room c.in_ok-new.ensures.room b txn
    c.lawful.ensures.buffer c.lawful-3.ensures.buffer (subst AreOwners c.atoms-4.ensures c.lawful-4.ensures.owners))

pub hand_out-id-requires-after_bounds : goal.hand_out-id-requires-after_bounds
hand_out-id-requires-after_bounds g c κs within =
    let core = c.args.core.now in
    let d = g.D.Device.state core.dev in
    let s = c.args.script.0 in
    let x = c.args.command in
    let may = c.requires.may in
    let own = c.own_of-own.result in
    let m = c.make_all_room.new.core in
    let b = c.begin_if.new.core in
    let f = c.fuse_all.new.self in
    let gathered = c.in_ok-given.field-0 in
    let at = c.open.ensures ∙ ap (λ t. (turn_at t s).transaction) c.turns.ensures in
    let same = c.own_of-own.ensures ∙ ap (λ a. own_in a c.open.result) c.atoms-2.ensures in
    let owners = subst AreOwners c.atoms.ensures c.lawful-2.ensures.owners in
    let is = subst (λ a. IsGathered a core.tree own c.args.draws c.args.ready gathered) c.atoms-3.ensures
    (subst (λ z. IsGathered c.atoms-3.result.now z own c.args.draws c.args.ready gathered) c.tree-tree.ensures c.in_ok-given.ensures) in
    let room = c.in_ok-new.ensures.roomier in
    let has = c.in_ok-new.ensures.room in
    let txn = has_txn _ _ core m b c.lawful-3.ensures.kept room s may.servable.stands.is_script own c.open.result at same
    c.begin_if.ensures in
    let was = c.lawful.ensures.buffer in
    let now = c.lawful-3.ensures.buffer in
    let fuses = rw c.as_slice.ensures.value at c.fuse_all.ensures.fused in
    let dev = dev_is d core s x c.args.draws c.args.ready may own gathered is owners m room has b txn was now f fuses in
    subst (λ v. CanHandOut (g.D.Device.state v) f s (record {
      new = c.in_ok-new.new;
      given = gathered.given;
      need = gathered.need;
      met = gathered.met;
      next = c.args.draws.next;
    })) (sym dev)
    (can_hand_out d core s x c.args.draws c.args.ready may own gathered is owners m room has b txn was now f fuses
    c.in_ok-new.new c.in_ok-new.ensures.holds)

pub returns-clause-ok : goal.returns-clause-ok
returns-clause-ok g c =
    let core = c.args.core.now in
    let s = c.args.script.0 in
    let index = c.answered-index.ensures.value ∙ ap (λ t. answered_at t s) c.turns-2.ensures in
    let own = c.own_of-own.result in
    let gathered = c.in_ok-given.field-0 in
    let at = c.open.ensures ∙ ap (λ t. (turn_at t s).transaction) c.turns.ensures in
    let same = c.own_of-own.ensures ∙ ap (λ a. own_in a c.open.result) c.atoms-2.ensures in
    let is = subst (λ a. IsGathered a core.tree own c.args.draws c.args.ready gathered) c.atoms-3.ensures
    (subst (λ z. IsGathered c.atoms-3.result.now z own c.args.draws c.args.ready gathered) c.tree-tree.ensures c.in_ok-given.ensures) in
    let fuses = rw c.as_slice.ensures.value at c.fuse_all.ensures.fused in
    let may = c.requires.may in
    let owners = subst AreOwners c.atoms.ensures c.lawful-2.ensures.owners in
    let m = c.make_all_room.new.core in
    let b = c.begin_if.new.core in
    let f = c.fuse_all.new.self in
    let new = c.hand_out-id.new.self in
    let room = c.in_ok-new.ensures.roomier in
    let has = c.in_ok-new.ensures.room in
    let txn = has_txn _ _ core m b c.lawful-3.ensures.kept room s may.servable.stands.is_script own c.open.result at same
    c.begin_if.ensures in
    let was = c.lawful.ensures.buffer in
    let now = c.lawful-3.ensures.buffer in
    let script = subst (λ t. IsScript t s) (sym (turns_are (g.D.Device.state core.dev) core s c.args.command c.args.draws
    c.args.ready may own gathered is owners m room has b txn was now f fuses)) txn.script in
    let out = as_task gathered.given c.hand_out-id.result in
    let next = next_still f new s out (cells_of gathered.met.items) c.hand_out-id.ensures.out script
    ∙ next_is (g.D.Device.state core.dev) core s c.args.command c.args.draws c.args.ready may own gathered is owners m
    room has b txn was now f fuses in
    let numbers = ap (λ (z : Given). z.numbers) is.given in
    let builds = can_be_built _ _ new c.lawful-5.ensures.kept s out may.command c.args.command
    (is_out_then f new s out (cells_of gathered.met.items) c.hand_out-id.ensures.out script) next
    (may.name.is ∙ ap (λ (n : Numbers). with_id n.oid may.command) (sym numbers)) (record {
      id = c.hand_out-id.result;
      script = c.args.script;
      index = c.answered-index.result;
      txn = own.txn;
      command = c.args.command;
      reads = gathered.lent.reads;
      writes = gathered.lent.writes;
      seen = gathered.lent.seen;
      scope = gathered.given.scope;
      fresh = c.args.draws.own.fresh;
    }) refl (is.lent.writes_are ∙ sym (ap (λ (z : Given). z.writes) is.given)) (is.lent.seen_is ∙ sym is.seen)
    refl (sym (ap (λ (n : Numbers). n.fresh) numbers)) c.lawful-6.ensures in
    is_sent core c.make_all_room.new.core c.begin_if.new.core c.fuse_all.new.self c.hand_out-id.new.self s c.args.command
    c.args.draws c.args.ready (record {
      id = c.hand_out-id.result;
      script = c.args.script;
      index = c.answered-index.result;
      txn = own.txn;
      command = c.args.command;
      reads = gathered.lent.reads;
      writes = gathered.lent.writes;
      seen = gathered.lent.seen;
      scope = gathered.given.scope;
      fresh = c.args.draws.own.fresh;
    })
    own gathered (same ∙ ap (own_in core.atoms) at) is c.in_ok-new.ensures.roomier
    c.begin_if.ensures fuses c.hand_out-id.ensures.out c.hand_out-id.ensures.numbers refl index refl refl (refl, refl) refl
    refl refl builds
