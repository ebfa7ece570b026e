-- What a lent block holds afterwards.
use Rattle.std.proofs.Common.{◌≡◌, ℕ, ◌+◌, ◌≤◌, List, ◌++◌, length, take, drop, refl, ◌∙◌, arith}
use Rattle.std.proofs.lemmas.List.{take_at, drop-drop, length-append, length-take, length-drop}
use Rattle.r4_base.specs.Bytes.{overwrite}
use Rattle.r4_base.specs.Lending.{refilled, written}

pub refilled_is : (xs ws : List ℕ) → length ws ≡ length xs → refilled xs ws ≡ ws
unfolding refilled
refilled_is xs ws len = take_at ws (drop (length ws) xs) (length xs) len

pub written_is : (xs ws : List ℕ) (at : ℕ) → at + length ws ≤ length xs → written xs at ws ≡ overwrite at ws xs
unfolding overwrite written
written_is xs ws at fit =
    let all = take at xs ++ (ws ++ drop (length ws) (drop at xs)) in
    let long : length all ≡ length xs = omega (arith, length-append (take at xs) (ws ++ drop (length ws) (drop at xs)), length-append ws (drop (length ws) (drop at xs)), length-take at xs, length-drop (length ws) (drop at xs), length-drop at xs) in
    take_at all (drop (length all) xs) (length xs) long ∙ rw (drop-drop (length ws) at xs) refl
