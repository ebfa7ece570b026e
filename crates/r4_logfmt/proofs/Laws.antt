-- The journal header, the journal footer and a head: what is written is read.
use Rattle.std.proofs.Common.{◌≡◌, ℕ, ◌≤◌, List, [], length, replicate, Some, refl, arith}
use Rattle.r4_base.specs.Bytes.{overwrite, fields_bytes, FieldsFit, put_all}
use Rattle.r4_base.proofs.Numbers.{overwrite_next, put_all-blank, fields_read, length-fields_bytes}
use Rattle.std.proofs.lemmas.List.{length-append, length-replicate}
use Rattle.r4_base.specs.declared.journal.Header.{Header}
use Rattle.r4_base.specs.declared.journal.Footer.{Footer}
use Rattle.r4_base.specs.declared.journal.TxHead.{TxHead}
use Rattle.r4_base.specs.Log.{header_fields, header_of, footer_fields, footer_of, head_magic, head_fields, head_block, head_of}
use Rattle.r4_logfmt.proofs.Fields.{put_all-read}

pub header_again : (h : Header) (b : List ℕ) → 8 ≤ length b → FieldsFit (header_fields h) → header_of (put_all (header_fields h) 0 b) ≡ h
unfolding header_of
header_again h b long fit =
    let f = put_all-read (header_fields h) 0 b long fit in
    rw f.0 refl

pub footer_again : (h : Footer) (b : List ℕ) → 32 ≤ length b → FieldsFit (footer_fields h) → footer_of (put_all (footer_fields h) 0 b) ≡ h
unfolding footer_of
footer_again h b long fit =
    let f = put_all-read (footer_fields h) 0 b long fit in
    rw (f.0, f.1.0, f.1.1.0, f.1.1.1.0) refl

pub is_head_block : (h : TxHead) → put_all (head_fields h) 8 (overwrite 0 head_magic (replicate 4096 0)) ≡ head_block h
unfolding head_block
is_head_block h = rw (overwrite_next 0 [] head_magic 4096 refl (omega arith), put_all-blank (head_fields h) 8 head_magic 4088 refl (omega arith)) refl

-- what is spelled is read
pub head_again : (h : TxHead) → FieldsFit (head_fields h) → head_of (head_block h) ≡ Some h
unfolding head_of head_block
head_again h fit =
    let f = fields_read (head_fields h) head_magic (replicate 4032 0) 8 refl fit in
    rw (f.0, f.1.0, f.1.1.1.0, f.1.1.1.1.0, f.1.1.1.1.1.0, f.1.1.1.1.1.1.0, f.1.1.1.1.1.1.1.0) refl

pub length-head_block : (h : TxHead) → length (head_block h) ≡ 4096
unfolding head_block
length-head_block h = omega (arith, length-append (fields_bytes (head_fields h)) (replicate 4032 0), length-fields_bytes (head_fields h), length-replicate {A = ℕ} 4032 0)
