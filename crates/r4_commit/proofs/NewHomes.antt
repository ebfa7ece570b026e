-- What a commit overwrites, one more at a time.
use Rattle.std.proofs.Common.{◌≡◌, ℕ, ◌+◌, List, [], ◌∷◌, ◌++◌, length, sym, ap, ◌∙◌, append_assoc, arith}
use Rattle.r4_base.specs.Bitmap.{bitmap_block}
use Rattle.r4_wander.specs.Torn.{Write}
use Rattle.r4_commit.specs.Planned.{bitmap_writes}

pub bitmaps-append : (n : ℕ) (bs : List (List ℕ)) (b : List ℕ) → bitmap_writes n (bs ++ b ∷ []) ≡ bitmap_writes n bs ++ (bitmap_block (n + length bs), b) ∷ []
bitmaps-append n [] b = let same : n + 0 ≡ n = omega arith in ap (λ (k : ℕ). (bitmap_block k, b) ∷ []) (sym same)
bitmaps-append n (c ∷ cs) b =
    let same : n + 1 + length cs ≡ n + length (c ∷ cs) = omega arith in
    ap (λ (l : List Write). (bitmap_block n, c) ∷ l) (bitmaps-append (n + 1) cs b ∙ ap (λ (k : ℕ). bitmap_writes (n + 1) cs ++ (bitmap_block k, b) ∷ []) same)

-- a bitmap more
pub bitmaps_more : (front now new : List Write) (done : List (List ℕ)) (b : List ℕ) (n at : ℕ) → now ≡ front ++ bitmap_writes 0 done → n ≡ length done → at ≡ bitmap_block n → new ≡ now ++ (at, b) ∷ [] → new ≡ front ++ bitmap_writes 0 (done ++ b ∷ [])
bitmaps_more front now new done b n at so_far counted is more =
    let start : 0 + length done ≡ n = omega (arith, counted) in
    let here : bitmap_writes 0 (done ++ b ∷ []) ≡ bitmap_writes 0 done ++ (at, b) ∷ [] = bitmaps-append 0 done b ∙ ap (λ (k : ℕ). bitmap_writes 0 done ++ (bitmap_block k, b) ∷ []) start ∙ ap (λ (k : ℕ). bitmap_writes 0 done ++ (k, b) ∷ []) (sym is) in
    more ∙ ap (λ (l : List Write). l ++ (at, b) ∷ []) so_far ∙ append_assoc front (bitmap_writes 0 done) ((at, b) ∷ []) ∙ ap (λ (l : List Write). front ++ l) (sym here)
