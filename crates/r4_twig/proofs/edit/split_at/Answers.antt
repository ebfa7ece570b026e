use Rattle.std.proofs.Common.{◌≡◌, ◌+◌, ◌*◌, ◌/◌, ◌≤◌, inr, ℕ, List, set, take, get_or, ap, ◌∙◌, arith}
use Rattle.std.specs.Prelude.{slice_get, slice_range}
use Rattle.r4_base.specs.Bytes.{overwrite}
use Rattle.r4_base.specs.declared.items.Unit.{Unit as ExtentUnit}
use Rattle.r4_base.specs.Extents.{block_of, unit_at, units_of}
use Rattle.r4_twig.proofs.Places.{put_elsewhere}
use Rattle.std.specs.Option.{ForSome}
use Rattle.r4_twig.proofs.Cuts.{block_of-cut_at}
use Rattle.r4_twig.proofs.Edits.{can_be_cut, is_moved, cut_written, cut_accepted}
use Rattle.r4_twig.proofs.edit.split_at.Goals as goal

pub unit_in-unit-requires : goal.unit_in-unit-requires
unit_in-unit-requires c =
    let within = (can_be_cut c.args.body.now c.args.used c.args.i c.args.width c.requires.room c.requires.lawful c.requires.index c.requires.some c.requires.inside).within in
    omega arith

pub move_bytes-requires-clause-order : goal.move_bytes-requires-clause-order
move_bytes-requires-clause-order c =
    let within = (can_be_cut c.args.body.now c.args.used c.args.i c.args.width c.requires.room c.requires.lawful c.requires.index c.requires.some c.requires.inside).within in
    omega arith

pub move_bytes-requires-clause-room : goal.move_bytes-requires-clause-room
move_bytes-requires-clause-room c =
    let within = (can_be_cut c.args.body.now c.args.used c.args.i c.args.width c.requires.room c.requires.lawful c.requires.index c.requires.some c.requires.inside).within in
    omega arith

pub replace-requires : goal.replace-requires
replace-requires c =
    let within = (can_be_cut c.args.body.now c.args.used c.args.i c.args.width c.requires.room c.requires.lawful c.requires.index c.requires.some c.requires.inside).within in
    omega arith

pub overflow_add-i : goal.overflow_add-i
overflow_add-i c =
    let within = (can_be_cut c.args.body.now c.args.used c.args.i c.args.width c.requires.room c.requires.lawful c.requires.index c.requires.some c.requires.inside).within in
    omega arith

pub unit_past-requires-clause-inside : goal.unit_past-requires-clause-inside
unit_past-requires-clause-inside c =
    let inside = (can_be_cut c.args.body.now c.args.used c.args.i c.args.width c.requires.room c.requires.lawful c.requires.index c.requires.some c.requires.inside).inside in
    rw (c.unit_in-unit.ensures, c.from.ensures) (omega arith)

pub unit_past-requires-clause-fits : goal.unit_past-requires-clause-fits
unit_past-requires-clause-fits c =
    let fits = (can_be_cut c.args.body.now c.args.used c.args.i c.args.width c.requires.room c.requires.lawful c.requires.index c.requires.some c.requires.inside).fits in
    rw (c.unit_in-unit.ensures, c.from.ensures) fits

pub replace-requires-2 : goal.replace-requires-2
replace-requires-2 c =
    let within = (can_be_cut c.args.body.now c.args.used c.args.i c.args.width c.requires.room c.requires.lawful c.requires.index c.requires.some c.requires.inside).within in
    omega arith

pub returns-clause-units : goal.returns-clause-units
returns-clause-units c =
    let b = c.args.body.now in
    let cut = can_be_cut b c.args.used c.args.i c.args.width c.requires.room c.requires.lawful c.requires.index c.requires.some c.requires.inside in
    let within = cut.within in
    let unit : c.unit_in-unit.result ≡ unit_at b c.args.i = c.unit_in-unit.ensures ∙ ap (unit_at b) c.from.ensures in
    let moved : c.move_bytes.new.b ≡ overwrite (16 * c.args.i + 32) (slice_range b (16 * c.args.i + 16) c.args.used) b = rw c.from-at.ensures at c.move_bytes.ensures in
    let m = is_moved b c.move_bytes.new.b c.args.used c.args.i c.requires.room within moved in
    let one = c.replace.ensures.units (c.args.used + 16) (omega arith) (omega arith) in
    let two = c.replace-2.ensures.units (c.args.used + 16) (omega arith) (omega arith) in
    two ∙ ap (λ (us : List ExtentUnit). set us (c.args.i + 1) c.unit_past.result) one ∙ rw (c.unit_past.ensures, unit) (cut_written b c.move_bytes.new.b c.args.used c.args.i c.args.width c.requires.room c.requires.lawful cut m)

pub returns-clause-lawful : goal.returns-clause-lawful
returns-clause-lawful c = cut_accepted c.args.body.now c.replace-2.new.body c.args.used c.args.i c.args.width c.requires.room (omega arith) c.requires.lawful c.requires.some c.requires.inside (returns-clause-units c)

pub returns-clause-rest : goal.returns-clause-rest
returns-clause-rest c k past =
    let b = c.args.body.now in
    let within = (can_be_cut b c.args.used c.args.i c.args.width c.requires.room c.requires.lawful c.requires.index c.requires.some c.requires.inside).within in
    let moved : c.move_bytes.new.b ≡ overwrite (16 * c.args.i + 32) (slice_range b (16 * c.args.i + 16) c.args.used) b = rw c.from-at.ensures at c.move_bytes.ensures in
    let m = is_moved b c.move_bytes.new.b c.args.used c.args.i c.requires.room within moved in
    ap (λ (xs : List ℕ). get_or xs k 0) c.replace-2.ensures.spelled ∙ put_elsewhere (c.args.i + 1) c.unit_past.result c.replace.new.body k (omega arith) (inr (omega arith))
    ∙ ap (λ (xs : List ℕ). get_or xs k 0) c.replace.ensures.spelled ∙ put_elsewhere c.args.i _ c.move_bytes.new.b k (omega arith) (inr (omega arith)) ∙ m.past k past

pub returns-clause-bytes : goal.returns-clause-bytes
returns-clause-bytes c k =
    let inside : ForSome (slice_get (units_of (take c.args.used c.args.body.now)) c.args.i) (λ u. c.args.width ≤ u.width) = λ u is. let lt = c.requires.inside u is in omega arith in
    ap (λ (us : List ExtentUnit). block_of us (k / 4096)) (returns-clause-units c) ∙ block_of-cut_at (units_of (take c.args.used c.args.body.now)) c.args.i c.args.width (k / 4096) inside
