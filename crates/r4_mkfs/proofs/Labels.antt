-- A label of a volume: 16 bytes.
use Rattle.std.proofs.Common.{◌≡◌, ℕ, ◌+◌, ◌-◌, ◌≤◌, List, ◌++◌, length, drop, replicate, ap, ◌∙◌, arith, length-append}
use Rattle.std.proofs.lemmas.List.{drop-replicate, length-replicate}
use Rattle.r4_mkfs.specs.Mkfs.{full_label}

pub length-full_label : (label : List ℕ) → length label ≤ 16 → length (full_label label) ≡ 16
length-full_label label short = length-append label (replicate (16 - length label) 0) ∙ ap (λ (n : ℕ). length label + n) (length-replicate (16 - length label) 0) ∙ omega (arith, short)

pub label_filled : (label part : List ℕ) → length label ≤ 16 → part ≡ label → part ++ drop (length label) (replicate 16 0) ≡ full_label label
label_filled label part short e = ap (λ (p : List ℕ). p ++ drop (length label) (replicate 16 0)) e ∙ ap (λ (z : List ℕ). label ++ z) (drop-replicate (length label) 16 0)
