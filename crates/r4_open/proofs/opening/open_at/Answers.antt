use Rattle.std.proofs.Common.{refl, subst, sym, arith}
use Rattle.std.specs.Prelude.{Err}
use Rattle.r4_open.specs.Opening.{Opens}
use Rattle.r4_open.specs.declared.opened.Unopened.{Unopened}
use Rattle.r4_open.proofs.Openings.{are_bitmaps, bitmaps_found, read_later, supers_misfit}
use Rattle.r4_open.proofs.opening.open_at.Goals as goal

pub returns-in-Some-clause-opens : goal.returns-in-Some-clause-opens
returns-in-Some-clause-opens g c =
    let d = g.D.Device.state c.args.dev.now in
    let home = g.H.Homes.home c.args.homes.now in
    subst (λ (u : Unopened). Opens d home (Err u) (g.D.Device.state c.read_bitmaps.new.dev)) (sym c.refused.ensures) (λ tells image settled.
    let e = c.requires.blocks in
    let s = c.in_ok-super40.super40 in
    let lawful = c.in_ok-super40.ensures.lawful.blocks in
    let least = lawful.0 in
    let last = lawful.2 in
    let read = read_later d (g.D.Device.state c.read_supers.new.dev) home _ c.in_ok-bitmaps.bitmaps.items c.read_supers.ensures.idles c.in_ok-bitmaps.ensures.read in
    let found = bitmaps_found d home image s c.in_ok-bitmaps.bitmaps.items c.deref.result.now _ c.find_fault.result least (omega (arith, last, e)) tells settled read c.deref.ensures.value c.find_fault.ensures c.in-Some.is in
    supers_misfit d.blocks d.blocks image s _ (c.in_ok-super40.ensures.reads tells image settled) found refl)

pub returns-clause-opens : goal.returns-clause-opens
returns-clause-opens g c = λ tells image settled.
    let d = g.D.Device.state c.args.dev.now in
    let home = g.H.Homes.home c.args.homes.now in
    let e = c.requires.blocks in
    let s = c.in_ok-super40.super40 in
    let lawful = c.in_ok-super40.ensures.lawful.blocks in
    let least = lawful.0 in
    let last = lawful.2 in
    let has = c.in_ok-super40.ensures.reads tells image settled in
    let read = read_later d (g.D.Device.state c.read_supers.new.dev) home _ c.in_ok-bitmaps.bitmaps.items c.read_supers.ensures.idles c.in_ok-bitmaps.ensures.read in
    let found = bitmaps_found d home image s c.in_ok-bitmaps.bitmaps.items c.deref.result.now _ c.find_fault.result least (omega (arith, last, e)) tells settled read c.deref.ensures.value c.find_fault.ensures c.in_default.is in
    record {
      fits = supers_misfit d.blocks d.blocks image s _ has found refl;
      super = has.format;
      bitmaps = are_bitmaps d home s.block_count image c.in_ok-bitmaps.bitmaps.items least (omega (arith, last, e)) tells settled read;
      head = c.requires.names tells image settled;
    }
