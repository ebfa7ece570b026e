use Rattle.std.proofs.Common.{◌+◌, length, sym, ap, ◌∙◌, arith}
use Rattle.r4_leaf.specs.Filling.{entry_need}
use Rattle.r4_cde.specs.Shown.{entry_shown}
use Rattle.r4_leaf.proofs.Measured.{bytes_else, bytes_then, entry_behind, no_header, stat_weighs, with_header}
use Rattle.r4_leaf.proofs.measuring.weigh.Goals as goal

pub returns-in-Stat : goal.returns-in-Stat
returns-in-Stat c = λ before tip.
    stat_weighs c.args.piece.now _ c.in-Stat.body _ c.in-Stat.is c.requires (ap (λ n. n + length c.in-Stat.body.now) c.from-header.ensures) before

pub returns-then-continues_entry : goal.returns-then-continues_entry
returns-then-continues_entry c = λ before tip.
    entry_behind c.args.piece.now c.in-Entry.entry c.from-own.result _ c.in-Entry.is
    (c.from-own.ensures ∙ (c.need_of.ensures.need ∙ no_header (entry_need 1 (entry_shown c.in-Entry.entry)))) before
    (sym c.if-continues_entry.true ∙ c.continues_entry.ensures before tip)

pub returns-else-continues_entry : goal.returns-else-continues_entry
returns-else-continues_entry c = λ before tip.
    let own = c.from-own.ensures ∙ c.need_of.ensures.need in
    let header = c.from-header.ensures in
    entry_behind c.args.piece.now c.in-Entry.entry (c.from-own.result + c.from-header.result + 2) _ c.in-Entry.is
    (ap (λ n. c.from-own.result + n + 2) header ∙ (ap (λ n. n + 38 + 2) own ∙ with_header (entry_need 1 (entry_shown c.in-Entry.entry)))) before
    (sym c.if-continues_entry.false ∙ c.continues_entry.ensures before tip)

pub returns-then-continues_byte : goal.returns-then-continues_byte
returns-then-continues_byte c = λ before tip.
    bytes_then c.args.piece.now c.in-Bytes.key c.in-Bytes.bytes c.len-own.result c.in-Bytes.is c.requires c.len-own.ensures before
    (sym c.if-continues_byte.true ∙ c.continues_byte.ensures before tip)

pub returns-else-continues_byte : goal.returns-else-continues_byte
returns-else-continues_byte c = λ before tip.
    let own = c.len-own.ensures in
    let header = c.from-header.ensures in
    bytes_else c.args.piece.now c.in-Bytes.key c.in-Bytes.bytes (c.len-own.result + c.from-header.result) c.in-Bytes.is c.requires (omega (arith, own, header)) before
    (sym c.if-continues_byte.false ∙ c.continues_byte.ensures before tip)
