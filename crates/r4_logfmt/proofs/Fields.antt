-- Fields written over a part of a list: the length, what stays, and what is read.
use Rattle.std.proofs.Common.{◌≡◌, ℕ, ◌+◌, ◌<◌, ◌≤◌, List, [], ◌∷◌, length, get_or, refl, ◌∙◌, arith}
use Rattle.r4_base.specs.Bytes.{number_at, number_bytes, overwrite, width_of, FieldsFit, HasFields, put_all}
use Rattle.r4_base.proofs.Numbers.{length-number_bytes, length-overwrite, get_or-overwrite_below, get_or-overwrite_above, number_at-same, number_at-overwrite}

pub length-put_all : (fs : List (ℕ × ℕ)) (at : ℕ) (xs : List ℕ) → at + width_of fs ≤ length xs → length (put_all fs at xs) ≡ length xs
length-put_all [] at xs le = refl
length-put_all (f ∷ fs) at xs le =
    let n = length-number_bytes f.0 f.1 in
    let one = length-overwrite at (number_bytes f.0 f.1) xs (omega arith) in
    length-put_all fs (at + f.0) (overwrite at (number_bytes f.0 f.1) xs) (omega arith) ∙ one

-- what stands before the fields stays
pub get_or-put_all_below : (fs : List (ℕ × ℕ)) (at : ℕ) (xs : List ℕ) (k : ℕ) → at + width_of fs ≤ length xs → k < at → get_or (put_all fs at xs) k 0 ≡ get_or xs k 0
get_or-put_all_below [] at xs k le lt = refl
get_or-put_all_below (f ∷ fs) at xs k le lt =
    let n = length-number_bytes f.0 f.1 in
    let one = length-overwrite at (number_bytes f.0 f.1) xs (omega arith) in
    get_or-put_all_below fs (at + f.0) (overwrite at (number_bytes f.0 f.1) xs) k (omega arith) (omega arith) ∙ get_or-overwrite_below at (number_bytes f.0 f.1) xs k 0 (omega arith) lt

-- and what stands past them
pub get_or-put_all_above : (fs : List (ℕ × ℕ)) (at : ℕ) (xs : List ℕ) (k : ℕ) → at + width_of fs ≤ length xs → at + width_of fs ≤ k → get_or (put_all fs at xs) k 0 ≡ get_or xs k 0
get_or-put_all_above [] at xs k le past = refl
get_or-put_all_above (f ∷ fs) at xs k le past =
    let n = length-number_bytes f.0 f.1 in
    let one = length-overwrite at (number_bytes f.0 f.1) xs (omega arith) in
    get_or-put_all_above fs (at + f.0) (overwrite at (number_bytes f.0 f.1) xs) k (omega arith) (omega arith) ∙ get_or-overwrite_above at (number_bytes f.0 f.1) xs k 0 (omega arith) (omega arith)

pub put_all-read : (fs : List (ℕ × ℕ)) (at : ℕ) (xs : List ℕ) → at + width_of fs ≤ length xs → FieldsFit fs → HasFields fs at (put_all fs at xs)
put_all-read [] at xs le fit = tt
put_all-read (f ∷ fs) at xs le fit =
    let n = length-number_bytes f.0 f.1 in
    let ys = overwrite at (number_bytes f.0 f.1) xs in
    let one : length ys ≡ length xs = length-overwrite at (number_bytes f.0 f.1) xs (omega arith) in
    let kept : number_at f.0 at (put_all fs (at + f.0) ys) ≡ number_at f.0 at ys = number_at-same f.0 at (put_all fs (at + f.0) ys) ys (λ k lo hi. get_or-put_all_below fs (at + f.0) ys k (omega arith) hi) in
    (kept ∙ number_at-overwrite f.0 at f.1 xs (omega arith) fit.0, put_all-read fs (at + f.0) ys (omega arith) fit.1)
