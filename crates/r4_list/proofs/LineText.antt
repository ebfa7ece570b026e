-- The line of an object, put together from its pieces.
use Rattle.std.proofs.Common.{◌≡◌, ℕ, List, ◌++◌, ◌∙◌, ap, codes, decimal, append_assoc, Result, Ok, Err, OnOk}
use Rattle.std.specs.Prelude.{if◌then◌else◌}
use Rattle.std.specs.Result.{is_ok}
use Rattle.r4_base.specs.declared.items.Attr.{Attr}
use Rattle.r4_list.specs.Listing.{kind_text, line_of, mode_text, path_text}

regrouped : (old k b m l u g s p e : List ℕ) → ((((((((old ++ (k ++ b)) ++ m) ++ (b ++ l)) ++ (b ++ u)) ++ (b ++ g)) ++ (b ++ s)) ++ b) ++ p) ++ e ≡ old ++ (k ++ (b ++ (m ++ (b ++ (l ++ (b ++ (u ++ (b ++ (g ++ (b ++ (s ++ (b ++ (p ++ e)))))))))))))
regrouped old k b m l u g s p e = simp append_assoc

-- each text is the one before it and a piece
pub line_put : (old : List ℕ) (a : Attr) (path : List ℕ) (t1 t2 t3 t4 t5 t6 t7 t8 t9 : List ℕ) → t1 ≡ old ++ (kind_text a ++ codes " ") → t2 ≡ t1 ++ mode_text a → t3 ≡ t2 ++ (codes " " ++ decimal a.nlink)
    → t4 ≡ t3 ++ (codes " " ++ decimal a.uid) → t5 ≡ t4 ++ (codes " " ++ decimal a.gid) → t6 ≡ t5 ++ (codes " " ++ decimal a.size) → t7 ≡ t6 ++ codes " " → t8 ≡ t7 ++ path_text path → t9 ≡ t8 ++ codes "\n" → t9 ≡ old ++ line_of a path
unfolding line_of
line_put old a path t1 t2 t3 t4 t5 t6 t7 t8 t9 e1 e2 e3 e4 e5 e6 e7 e8 e9 =
    e9 ∙ ap (λ (t : List ℕ). t ++ codes "\n") (e8 ∙ ap (λ (t : List ℕ). t ++ path_text path) (e7 ∙ ap (λ (t : List ℕ). t ++ codes " ") (e6 ∙ ap (λ (t : List ℕ). t ++ (codes " " ++ decimal a.size)) (e5 ∙ ap (λ (t : List ℕ). t ++ (codes " " ++ decimal a.gid)) (e4 ∙ ap (λ (t : List ℕ). t ++ (codes " " ++ decimal a.uid)) (e3 ∙ ap (λ (t : List ℕ). t ++ (codes " " ++ decimal a.nlink)) (e2 ∙ ap (λ (t : List ℕ). t ++ mode_text a) e1)))))))
    ∙ regrouped old (kind_text a) (codes " ") (mode_text a) (decimal a.nlink) (decimal a.uid) (decimal a.gid) (decimal a.size) (path_text path) (codes "\n")

pub line_ends : {T E : Type 0} (r : Result T E) (old : List ℕ) (a : Attr) (path : List ℕ) (t1 t2 t3 t4 t5 t6 t7 t8 t9 : List ℕ) → t1 ≡ old ++ (kind_text a ++ codes " ") → t2 ≡ t1 ++ mode_text a → t3 ≡ t2 ++ (codes " " ++ decimal a.nlink)
    → t4 ≡ t3 ++ (codes " " ++ decimal a.uid) → t5 ≡ t4 ++ (codes " " ++ decimal a.gid) → t6 ≡ t5 ++ (codes " " ++ decimal a.size) → t7 ≡ t6 ++ codes " " → t8 ≡ t7 ++ path_text path → t9 ≡ (if is_ok r then t8 ++ codes "\n" else t8) → OnOk r (t9 ≡ old ++ line_of a path)
line_ends {T} {E} (Ok x) old a path t1 t2 t3 t4 t5 t6 t7 t8 t9 e1 e2 e3 e4 e5 e6 e7 e8 e9 = line_put old a path t1 t2 t3 t4 t5 t6 t7 t8 t9 e1 e2 e3 e4 e5 e6 e7 e8 e9
line_ends {T} {E} (Err x) old a path t1 t2 t3 t4 t5 t6 t7 t8 t9 e1 e2 e3 e4 e5 e6 e7 e8 e9 = tt
