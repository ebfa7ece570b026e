-- The cells that have a key, level by level, as they are looked up.
use Rattle.std.proofs.Common.{◌≡◌, ℕ, suc, ◌+◌, ◌-◌, ◌<◌, List, [], ◌∷◌, ◌++◌, map, reverse, sym, ap, ◌∙◌, arith, refl, append_assoc}
use Rattle.std.specs.Prelude.{None, Some}
use Rattle.std.proofs.lemmas.List.{map-append, reverse-append}
use Rattle.r4_edit.specs.r4_cell.Seen.{CellSeen}
use Rattle.r4_work.specs.Order.{cell_at}
use Rattle.r4_work.specs.Working.{first_and, ups_of}

pub ups_more : (cells : List CellSeen) (level k : ℕ) (x : CellSeen) → level < 9 → cell_at cells level k ≡ Some x
    → ups_of (9 - level) cells level k ≡ x ∷ ups_of (9 - (level + 1)) cells (level + 1) k
unfolding ups_of
ups_more cells level k x less e =
    let n : 9 - level ≡ suc (9 - (level + 1)) = omega (arith, less) in
    ap (λ m. ups_of m cells level k) n ∙ ap (λ o. first_and o (ups_of (9 - (level + 1)) cells (level + 1) k)) e

pub ups_none : (cells : List CellSeen) (level k : ℕ) → level < 9 → cell_at cells level k ≡ None
    → ups_of (9 - level) cells level k ≡ []
unfolding ups_of
ups_none cells level k less e =
    let n : 9 - level ≡ suc (9 - (level + 1)) = omega (arith, less) in
    ap (λ m. ups_of m cells level k) n ∙ ap (λ o. first_and o (ups_of (9 - (level + 1)) cells (level + 1) k)) e

pub ups_past : (cells : List CellSeen) (level k : ℕ) → level ≡ 9 → ups_of (9 - level) cells level k ≡ []
unfolding ups_of
ups_past cells level k e = ap (λ n. ups_of (9 - n) cells n k) e

pub map_reverse : {A B : Type 0} (f : A → B) (xs : List A) → map f (reverse xs) ≡ reverse (map f xs)
map_reverse f [] = refl
map_reverse f (x ∷ xs) =
    ap (map f) (reverse-append (x ∷ []) xs)
    ∙ (map-append f (reverse xs) (x ∷ [])
    ∙ (ap (λ ys. ys ++ f x ∷ []) (map_reverse f xs) ∙ sym (reverse-append (f x ∷ []) (map f xs))))

-- one more, and those behind it
pub one_and_rest : {A : Type 0} (f : A → CellSeen) (old new : List A) (x : A) (y : CellSeen) (all rest more : List CellSeen)
    → new ≡ old ++ x ∷ [] → f x ≡ y → all ≡ map f new ++ rest → more ≡ y ∷ rest → all ≡ map f old ++ more
one_and_rest f old new x y all rest more pushed same is e =
    is ∙ (ap (λ zs. map f zs ++ rest) pushed
    ∙ (ap (λ zs. zs ++ rest) (map-append f old (x ∷ []))
    ∙ (append_assoc (map f old) (f x ∷ []) rest
    ∙ (ap (λ z. map f old ++ (z ∷ rest)) same ∙ ap (λ zs. map f old ++ zs) (sym e)))))
