use Rattle.r4_base.specs.Bytes.{fields_bytes, overwrite}
use Rattle.r4_node40.specs.Edits.{header_fields}
use Rattle.std.proofs.Common.{◌∙◌, ap, ℕ, arith, rules}
use Rattle.r4_base.proofs.Keys.{is_key}
use Rattle.r4_node40.proofs.Writes.{HeaderSays, header_put, header_says}
use Rattle.r4_node40.proofs.edit.put_header.Goals as goal

pub returns : goal.returns
returns c =
    let written = header_put c.args.key.now c.header_of-at.result c.args.offset c.args.plugin c.args.b.now c.put64.new.b c.put64-2.new.b c.put64-3.new.b c.put64-4.new.b c.put16.new.b c.put16-2.new.b c.put16-3.new.b (omega arith) c.put64.ensures c.put64-2.ensures c.put64-3.ensures c.put64-4.ensures c.put16.ensures c.put16-2.ensures c.put16-3.ensures ∙ ap (λ (at : ℕ). overwrite at (fields_bytes (header_fields c.args.key.now c.args.offset c.args.plugin)) c.args.b.now) c.header_of-at.ensures in
    let good = is_key c.args.key.now (search rules) (search rules) (search rules) (search rules) (search rules) in
    let says : HeaderSays c.put16-3.new.b c.args.i c.args.key.now c.args.offset c.args.plugin = header_says c.args.key.now c.args.i c.args.offset c.args.plugin c.args.b.now c.put16-3.new.b good (omega arith) (omega arith) c.requires.whole (omega arith) written in
    record { bytes = written; key = says.key; offset = says.offset_is; plugin = says.plugin_is; flags = says.flags_is }
