-- What texts begin with.
use Rattle.std.proofs.Common.{◌≡◌, ◌∙◌, ℕ, List, ◌++◌, append_assoc, ap, codes, subst, sym}
use Rattle.std.specs.Io.{StartsWith}
use Rattle.std.proofs.Math.Seq.{take-append_seam}

-- their fronts
pub starts_with_front : (front rest : List ℕ) → StartsWith (front ++ rest) front
starts_with_front front rest = take-append_seam front rest

-- a block, where more is said behind it
pub starts_with_block : (block text said : List ℕ) → said ≡ codes "block " ++ (block ++ (codes ": " ++ text))
    → StartsWith said (codes "block " ++ (block ++ codes ": "))
starts_with_block block text said e =
    let front : List ℕ = codes "block " ++ (block ++ codes ": ") in
    let same : front ++ text ≡ said = ap (λ l. codes "block " ++ l) (append_assoc block (codes ": ") text) ∙ sym e in
    subst (λ l. StartsWith l front) same (starts_with_front front text)
