use Rattle.std.proofs.Common.{rules, ◌≡◌, ◌∙◌, ap, ℕ, arith}
use Rattle.r4_base.specs.Bytes.{fields_bytes, overwrite}
use Rattle.r4_base.specs.Dir.{entry_header}
use Rattle.r4_base.proofs.Keys.{is_key}
use Rattle.r4_cde.specs.Edits.{header_fields}
use Rattle.r4_cde.proofs.Puts.{HeaderSays, header_put, header_says}
use Rattle.r4_cde.proofs.put.put_header.Goals as goal

pub returns : goal.returns
returns c =
    let k = c.args.key.now in
    let b = c.args.body.now in
    let written : c.put16.new.b ≡ overwrite (entry_header c.args.i) (fields_bytes (header_fields k c.args.offset)) b = header_put k c.header_of-at.result c.args.offset b c.put64.new.b c.put64-2.new.b c.put64-3.new.b c.put16.new.b (omega arith) c.put64.ensures c.put64-2.ensures c.put64-3.ensures c.put16.ensures
    ∙ ap (λ (at : ℕ). overwrite at (fields_bytes (header_fields k c.args.offset)) b) c.header_of-at.ensures in
    let good = is_key k (search rules) (search rules) (search rules) (search rules) (search rules) in
    let says : HeaderSays c.put16.new.b c.args.i k c.args.offset = header_says k c.args.i c.args.offset b c.put16.new.b good (omega arith) c.requires written in
    record { bytes = written; key = says.key; offset = says.offset_is }
