-- What a block holds after a loan of its bytes. (`refilled_is` and `written_is` of proofs/Lent.antt say it plainly.)
use Rattle.std.specs.Prelude.{ℕ, List, ◌++◌, take, drop, length}

-- the bytes xs after all of them were lent and came back as ws
unfoldable pub refilled : List ℕ → List ℕ → List ℕ
refilled xs ws = take (length xs) (ws ++ drop (length ws) xs)

-- the bytes xs after those from `at` on were lent and came back as ws
unfoldable pub written : List ℕ → ℕ → List ℕ → List ℕ
written xs at ws = take (length xs) ((take at xs ++ (ws ++ drop (length ws) (drop at xs))) ++ drop (length (take at xs ++ (ws ++ drop (length ws) (drop at xs)))) xs)
