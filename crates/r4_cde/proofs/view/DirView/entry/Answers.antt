use Rattle.std.proofs.Common.{arith}
use Rattle.r4_base.proofs.Dirs.{length-entries_of}
use Rattle.r4_cde.proofs.Shows.{good, has_room, long_room, shown_is}
use Rattle.r4_cde.proofs.view.DirView.entry.Goals as goal

pub key_in-key-requires : goal.key_in-key-requires
key_in-key-requires c =
    let v = c.args.self.now in
    let n = length-entries_of v.item v.body.now in
    (has_room v.item v.body.now c.args.i (good v.item v.body.now v.good) (omega arith)).header

pub place_of-from-requires-clause-laid : goal.place_of-from-requires-clause-laid
place_of-from-requires-clause-laid c = (good c.args.self.now.item c.args.self.now.body.now c.args.self.now.good).laid

pub place_of-from-requires-clause-within : goal.place_of-from-requires-clause-within
place_of-from-requires-clause-within c = let n = length-entries_of c.args.self.now.item c.args.self.now.body.now in omega (arith, c.args.self.now.counted)

pub read-requires-clause-room : goal.read-requires-clause-room
read-requires-clause-room c long =
    let v = c.args.self.now in
    let n = length-entries_of v.item v.body.now in
    long_room v.item v.body.now c.args.i c.place_of-from.result.0 c.place_of-from.result.1 c.key_in-key.result (good v.item v.body.now v.good) (omega arith) c.place_of-from.ensures.from c.place_of-from.ensures.to (omega arith) c.place_of-from.ensures.inside c.key_in-key.ensures long

pub returns-clause-shown : goal.returns-clause-shown
returns-clause-shown c =
    let v = c.args.self.now in
    let n = length-entries_of v.item v.body.now in
    shown_is v.item v.body.now c.args.i c.place_of-from.result.0 c.place_of-from.result.1 c.key_in-key.result c.target_in.result _ (omega arith) c.place_of-from.ensures.from c.place_of-from.ensures.to c.key_in-key.ensures c.target_in.ensures c.read.ensures.name
