use Rattle.std.proofs.Common.{◌+◌, ℕ, take, sym, subst, ◌∙◌, arith}
use Rattle.std.specs.Option.{option_copied}
use Rattle.r4_base.specs.Bytes.{fields_bytes}
use Rattle.r4_base.specs.Dir.{entries_of}
use Rattle.r4_base.proofs.Numbers.{length-fields_bytes}
use Rattle.r4_cde.specs.Edits.{given_body, header_fields}
use Rattle.r4_cde.specs.Splice.{IsSpliced}
use Rattle.r4_cde.proofs.Inserts.{Done, begun_count, can_insert, done, given_length, inserting, placed, rest_kept}
use Rattle.r4_cde.proofs.edit.insert.Goals as goal

pub edge_of-from-requires-clause-inside : goal.edge_of-from-requires-clause-inside
edge_of-from-requires-clause-inside c =
    let k = c.args.key.now in
    let g = c.begin-used.ensures k c.requires.lawful in
    let used_is = g.used_is in
    omega arith

pub edge_of-from-requires-clause-laid : goal.edge_of-from-requires-clause-laid
edge_of-from-requires-clause-laid c =
    let k = c.args.key.now in
    let g = c.begin-used.ensures k c.requires.lawful in
    let used_is = g.used_is in
    g.laid

pub edge_of-from-requires-clause-within : goal.edge_of-from-requires-clause-within
edge_of-from-requires-clause-within c =
    let k = c.args.key.now in
    let g = c.begin-used.ensures k c.requires.lawful in
    let used_is = g.used_is in
    let count = begun_count k c.args.used c.begin-used.result c.args.body.now c.begin-used.new.body g in
    omega (arith, c.requires.within)

pub apply-used-requires : goal.apply-used-requires
apply-used-requires c =
    let k = c.args.key.now in
    let g = c.begin-used.ensures k c.requires.lawful in
    let used_is = g.used_is in
    let count = begun_count k c.args.used c.begin-used.result c.args.body.now c.begin-used.new.body g in
    let whole = g.whole in
    let p = placed c.begin-used.result c.args.at c.edge_of-from.result c.begin-used.new.body (omega arith) g.laid (omega (arith, c.requires.within)) c.edge_of-from.ensures in
    let low = p.low in
    let high = p.high in
    let room = c.room_of.ensures.room in
    can_insert c.begin-used.result c.args.at c.edge_of-from.result c.room_of.result c.begin-used.new.body (omega arith) (omega arith) g.laid (omega (arith, c.requires.within)) c.edge_of-from.ensures

pub overflow_add-from : goal.overflow_add-from
overflow_add-from c =
    let k = c.args.key.now in
    let g = c.begin-used.ensures k c.requires.lawful in
    let used_is = g.used_is in
    let count = begun_count k c.args.used c.begin-used.result c.args.body.now c.begin-used.new.body g in
    let whole = g.whole in
    let p = placed c.begin-used.result c.args.at c.edge_of-from.result c.begin-used.new.body (omega arith) g.laid (omega (arith, c.requires.within)) c.edge_of-from.ensures in
    let low = p.low in
    let high = p.high in
    omega arith

pub overflow_cast-from : goal.overflow_cast-from
overflow_cast-from c =
    let k = c.args.key.now in
    let g = c.begin-used.ensures k c.requires.lawful in
    let used_is = g.used_is in
    let count = begun_count k c.args.used c.begin-used.result c.args.body.now c.begin-used.new.body g in
    let whole = g.whole in
    let p = placed c.begin-used.result c.args.at c.edge_of-from.result c.begin-used.new.body (omega arith) g.laid (omega (arith, c.requires.within)) c.edge_of-from.ensures in
    let low = p.low in
    let high = p.high in
    omega arith

pub put_header-requires : goal.put_header-requires
put_header-requires c =
    let k = c.args.key.now in
    let g = c.begin-used.ensures k c.requires.lawful in
    let used_is = g.used_is in
    let count = begun_count k c.args.used c.begin-used.result c.args.body.now c.begin-used.new.body g in
    let whole = g.whole in
    let p = placed c.begin-used.result c.args.at c.edge_of-from.result c.begin-used.new.body (omega arith) g.laid (omega (arith, c.requires.within)) c.edge_of-from.ensures in
    let low = p.low in
    let high = p.high in
    let long = c.apply-used.ensures.whole in
    omega arith

pub overflow_add-from-2 : goal.overflow_add-from-2
overflow_add-from-2 c =
    let k = c.args.key.now in
    let g = c.begin-used.ensures k c.requires.lawful in
    let used_is = g.used_is in
    let count = begun_count k c.args.used c.begin-used.result c.args.body.now c.begin-used.new.body g in
    let whole = g.whole in
    let p = placed c.begin-used.result c.args.at c.edge_of-from.result c.begin-used.new.body (omega arith) g.laid (omega (arith, c.requires.within)) c.edge_of-from.ensures in
    let low = p.low in
    let high = p.high in
    omega arith

pub put_body-requires : goal.put_body-requires
put_body-requires c =
    let k = c.args.key.now in
    let g = c.begin-used.ensures k c.requires.lawful in
    let used_is = g.used_is in
    let count = begun_count k c.args.used c.begin-used.result c.args.body.now c.begin-used.new.body g in
    let whole = g.whole in
    let p = placed c.begin-used.result c.args.at c.edge_of-from.result c.begin-used.new.body (omega arith) g.laid (omega (arith, c.requires.within)) c.edge_of-from.ensures in
    let low = p.low in
    let high = p.high in
    let long = c.apply-used.ensures.whole in
    let same = c.put_header.auto.body in
    omega arith

pub returns-clause-entries : goal.returns-clause-entries
returns-clause-entries c =
    let k = c.args.key.now in
    let g = c.begin-used.ensures k c.requires.lawful in
    let used_is = g.used_is in
    let n = length-fields_bytes (header_fields k (c.edge_of-from.result + 26)) in
    let all : Done k c.args.target.now (option_copied c.args.long) c.args.at (entries_of k (take c.args.used c.args.body.now)) (take c.apply-used.result c.put_body.new.body) =
    done k c.args.target.now (option_copied c.args.long) c.args.used c.begin-used.result c.args.at c.edge_of-from.result c.apply-used.result (fields_bytes (header_fields k (c.edge_of-from.result + 26))) c.args.body.now c.begin-used.new.body c.apply-used.new.body c.put_header.new.body c.put_body.new.body
    g c.requires.short (omega arith) c.requires.within c.edge_of-from.ensures (subst (λ (m : ℕ). IsSpliced (inserting c.args.at c.edge_of-from.result m) c.begin-used.result c.begin-used.new.body c.apply-used.result c.apply-used.new.body) c.room_of.ensures.room c.apply-used.ensures) n c.put_header.ensures.bytes c.put_body.ensures.bytes c.put_header.ensures.offset c.put_header.ensures.key
    c.put_body.ensures.target c.requires.form c.requires.entry c.room_of.ensures.bytes c.requires.between in
    all.entries

pub returns-clause-lawful : goal.returns-clause-lawful
returns-clause-lawful c =
    let k = c.args.key.now in
    let g = c.begin-used.ensures k c.requires.lawful in
    let used_is = g.used_is in
    let n = length-fields_bytes (header_fields k (c.edge_of-from.result + 26)) in
    let all : Done k c.args.target.now (option_copied c.args.long) c.args.at (entries_of k (take c.args.used c.args.body.now)) (take c.apply-used.result c.put_body.new.body) =
    done k c.args.target.now (option_copied c.args.long) c.args.used c.begin-used.result c.args.at c.edge_of-from.result c.apply-used.result (fields_bytes (header_fields k (c.edge_of-from.result + 26))) c.args.body.now c.begin-used.new.body c.apply-used.new.body c.put_header.new.body c.put_body.new.body
    g c.requires.short (omega arith) c.requires.within c.edge_of-from.ensures (subst (λ (m : ℕ). IsSpliced (inserting c.args.at c.edge_of-from.result m) c.begin-used.result c.begin-used.new.body c.apply-used.result c.apply-used.new.body) c.room_of.ensures.room c.apply-used.ensures) n c.put_header.ensures.bytes c.put_body.ensures.bytes c.put_header.ensures.offset c.put_header.ensures.key
    c.put_body.ensures.target c.requires.form c.requires.entry c.room_of.ensures.bytes c.requires.between in
    all.lawful

pub returns-clause-rest : goal.returns-clause-rest
returns-clause-rest c q past =
    let k = c.args.key.now in
    let g = c.begin-used.ensures k c.requires.lawful in
    let used_is = g.used_is in
    let count = begun_count k c.args.used c.begin-used.result c.args.body.now c.begin-used.new.body g in
    let whole = g.whole in
    let p = placed c.begin-used.result c.args.at c.edge_of-from.result c.begin-used.new.body (omega arith) g.laid (omega (arith, c.requires.within)) c.edge_of-from.ensures in
    let n = length-fields_bytes (header_fields k (c.edge_of-from.result + 26)) in
    let m = given_length c.args.target.now (option_copied c.args.long) in
    let sp = c.apply-used.ensures in
    let long = sp.whole in
    let used_now = sp.used_is in
    rest_kept k c.args.used c.begin-used.result c.args.at c.edge_of-from.result c.room_of.result c.apply-used.result q (fields_bytes (header_fields k (c.edge_of-from.result + 26))) (given_body c.args.target.now (option_copied c.args.long)) c.args.body.now c.begin-used.new.body c.apply-used.new.body c.put_header.new.body c.put_body.new.body
    g sp p.low p.high n (m ∙ sym c.room_of.ensures.room) (omega arith) c.put_header.ensures.bytes c.put_body.ensures.bytes past
