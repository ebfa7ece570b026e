-- Words of faults, and lines that name a block with one of them, are plain text.
use Rattle.std.proofs.Common.{◌≡◌, ◌∙◌, ℕ, ◌<◌, ◌^◌, ◌==◌, List, true, not, nat_lt, refl, sym, ap}
use Rattle.std.proofs.Common.{rules, codes, decimal, inl, inr, subst, true≢false, arith}
use Rattle.std.specs.List.{list_all}
use Rattle.std.specs.Str.{IsAscii, IsUtf8}
use Rattle.std.specs.Str.Iter.{LacksByte}
use Rattle.std.proofs.lemmas.Bool.{ltb-true}
use Rattle.std.proofs.lemmas.Fmt.{IsAscii-decimal, decimal_is_IsNumeral}
use Rattle.std.proofs.lemmas.List.Elements.{All-weaker}
use Rattle.std.proofs.lemmas.List.Folds.{list_all_at}
use Rattle.std.proofs.lemmas.List.Sums.{AllPass-from_list_all}
use Rattle.std.proofs.lemmas.Str.{IsAscii-append, IsUtf8-from_ascii}
use Rattle.std.proofs.lemmas.Str.Ascii.{IsAscii-from_all}
use Rattle.std.proofs.lemmas.Str.Parse.{digit_at}
use Rattle.r4_base.specs.Words.{cell_word_of, layout_word_of, log_word_of}
use Rattle.r4_base.specs.declared.items.CellFault.{CellFault}
use Rattle.r4_base.specs.declared.items.CellFault.TheVariants.{Node, Stat, Dir, Extent, Tail, Pointer}
use Rattle.r4_base.specs.declared.items.CellFault.TheVariants.{Level, Range as KeyRange}
use Rattle.r4_base.specs.declared.journal.LogFault.{LogFault}
use Rattle.r4_base.specs.declared.journal.LogFault.TheVariants.{Range, HeadMagic, Total, Long, RecordMagic}
use Rattle.r4_base.specs.declared.journal.LogFault.TheVariants.{Id, Serial, Pairs, Circle, Overlap}
use Rattle.r4_base.specs.declared.superblock.LayoutFault.{LayoutFault}
use Rattle.r4_base.specs.declared.superblock.LayoutFault.TheVariants.{Magic, BlockSize, Profile, Height, Count, Bitmap}
use Rattle.r4_tool.specs.Complaints.{IsWord, line_text}

-- ---- words

-- every byte is ASCII, and none ends a line
record IsPlain (word : List ℕ) : Type 0 where
  ascii : list_all (λ c. nat_lt c 128) word ≡ true
  whole : list_all (λ c. not (c == 10)) word ≡ true

log_plain : (f : LogFault) → IsPlain (log_word_of f)
log_plain Range = record { ascii = refl; whole = refl }
log_plain HeadMagic = record { ascii = refl; whole = refl }
log_plain Total = record { ascii = refl; whole = refl }
log_plain Long = record { ascii = refl; whole = refl }
log_plain RecordMagic = record { ascii = refl; whole = refl }
log_plain Id = record { ascii = refl; whole = refl }
log_plain Serial = record { ascii = refl; whole = refl }
log_plain Pairs = record { ascii = refl; whole = refl }
log_plain Circle = record { ascii = refl; whole = refl }
log_plain Overlap = record { ascii = refl; whole = refl }

layout_plain : (f : LayoutFault) → IsPlain (layout_word_of f)
layout_plain Magic = record { ascii = refl; whole = refl }
layout_plain BlockSize = record { ascii = refl; whole = refl }
layout_plain Profile = record { ascii = refl; whole = refl }
layout_plain Height = record { ascii = refl; whole = refl }
layout_plain Count = record { ascii = refl; whole = refl }
layout_plain Bitmap = record { ascii = refl; whole = refl }

cell_plain : (f : CellFault) → IsPlain (cell_word_of f)
cell_plain (Node g) = record { ascii = refl; whole = refl }
cell_plain (Stat g) = record { ascii = refl; whole = refl }
cell_plain (Dir g) = record { ascii = refl; whole = refl }
cell_plain (Extent g) = record { ascii = refl; whole = refl }
cell_plain Tail = record { ascii = refl; whole = refl }
cell_plain Pointer = record { ascii = refl; whole = refl }
cell_plain Level = record { ascii = refl; whole = refl }
cell_plain (KeyRange item) = record { ascii = refl; whole = refl }

plain_word : (word : List ℕ) → IsWord word → IsPlain word
plain_word word is = elim is as (λ _. IsPlain word) [
  | inl log ↦ subst IsPlain (sym log.1) (log_plain log.0)
  | inr more ↦ elim more as (λ _. IsPlain word) [
    | inl layout ↦ subst IsPlain (sym layout.1) (layout_plain layout.0)
    | inr cell ↦ subst IsPlain (sym cell.1) (cell_plain cell.0)
  ]
]

-- a word ends no line
pub words_go_on : (word : List ℕ) → IsWord word → LacksByte 10 word
words_go_on word is k lt e =
    true≢false (sym (plain_word word is).whole
    ∙ list_all_at (λ c. not (c == 10)) word k 0 lt (ap (λ c. not (c == 10)) e))

-- ---- lines

-- a number has no colon
pub numbers_go_on : (n : ℕ) → n < 2 ^ 64 → LacksByte 58 (decimal n)
numbers_go_on n small k lt e =
    let digit = digit_at (decimal n) k (decimal_is_IsNumeral n small).0.1 lt in
    absurd (omega (arith, digit, e))

-- a line is text
pub lines_are_text : (block : ℕ) (word : List ℕ) → block < 2 ^ 64 → IsWord word → IsUtf8 (line_text block word)
lines_are_text block word small is =
    let ascii : IsAscii word = IsAscii-from_all word
    (All-weaker _ _ (λ c e. ltb-true c 128 e) word
    (AllPass-from_list_all (λ c. nat_lt c 128) word (plain_word word is).ascii)) in
    let colon : IsAscii (codes ": ") = IsAscii-from_all (codes ": ") (search rules) in
    let end : IsAscii (codes "\n") = IsAscii-from_all (codes "\n") (search rules) in
    IsUtf8-from_ascii (line_text block word)
    (IsAscii-append (decimal block) _ (IsAscii-decimal block small)
    (IsAscii-append (codes ": ") _ colon (IsAscii-append word (codes "\n") ascii end)))
