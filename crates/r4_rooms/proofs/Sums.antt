-- What the first so many turns owe.
use Rattle.std.proofs.Common.{◌≡◌, ◌∙◌, ℕ, ◌+◌, ◌<◌, List, [], ◌∷◌, ap, get_or, length, take, arith, refl}
use Rattle.std.specs.Prelude.{sum_by}
use Rattle.std.proofs.lemmas.List.{take_more}
use Rattle.std.proofs.lemmas.List.Sums.{sum_by-append}
use Rattle.r4_turns.specs.declared.turn.Turn.{Turn}
use Rattle.r4_turns.specs.Turns.{start}

sum_one : (f : Turn → ℕ) (t : Turn) → sum_by f (t ∷ []) ≡ f t
sum_one f t = omega arith

pub one_more : (f : Turn → ℕ) (turns : List Turn) (i : ℕ) → i < length turns
    → sum_by f (take (i + 1) turns) ≡ sum_by f (take i turns) + f (get_or turns i start)
one_more f turns i lt =
    let one = sum_one f (get_or turns i start) in
    let all = sum_by-append f (take i turns) (get_or turns i start ∷ []) in
    ap (sum_by f) (take_more turns i start lt) ∙ omega (arith, one, all)
