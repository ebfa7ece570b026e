-- Fields written over a list, and stat data: what is spelled is read.
use Rattle.std.proofs.Common.{◌≡◌, ℕ, ◌+◌, true, List, [], ◌∷◌, ◌++◌, length, drop, Ok, refl, sym, ap, subst, ◌∙◌, arith}
use Rattle.std.proofs.lemmas.List.{take_at, drop_at, drop-drop, drop_all, append_assoc, append-nil, length-append}
use Rattle.std.specs.Bool.{IsTrue}
use Rattle.r4_base.specs.Bytes.{number_bytes, overwrite, fields_bytes, width_of, FieldsFit, HasFields, put_all}
use Rattle.r4_base.proofs.Numbers.{length-number_bytes, length-fields_bytes, fields_read}
use Rattle.r4_base.specs.declared.items.Attr.{Attr}
use Rattle.r4_base.specs.Stat.{stat_mask, stat_fields, attr_of, mask_is_good, kind_is_good, stat_of, stat_body}

-- a write behind a front, whatever stood there
pub overwrite_over : (at : ℕ) (front ys rest : List ℕ) → length front ≡ at → overwrite at ys (front ++ rest) ≡ (front ++ ys) ++ drop (length ys) rest
unfolding overwrite
overwrite_over at front ys rest len =
    let past : drop (at + length ys) (front ++ rest) ≡ drop (length ys) rest = sym (drop-drop (length ys) at (front ++ rest)) ∙ ap (drop (length ys)) (drop_at front rest at len) in
    rw (take_at front rest at len, past) (sym (append_assoc front ys (drop (length ys) rest)))

pub put_all-over : (fs : List (ℕ × ℕ)) (at : ℕ) (front rest : List ℕ) → length front ≡ at → put_all fs at (front ++ rest) ≡ front ++ (fields_bytes fs ++ drop (width_of fs) rest)
put_all-over [] at front rest len = refl
put_all-over (f ∷ fs) at front rest len =
    let bytes = number_bytes f.0 f.1 in
    let n : length bytes ≡ f.0 = length-number_bytes f.0 f.1 in
    let one : overwrite at bytes (front ++ rest) ≡ (front ++ bytes) ++ drop f.0 rest = overwrite_over at front bytes rest len ∙ ap (λ (k : ℕ). (front ++ bytes) ++ drop k rest) n in
    let ih = put_all-over fs (at + f.0) (front ++ bytes) (drop f.0 rest) (omega (arith, length-append front bytes)) in
    rw (one, ih, drop-drop (width_of fs) f.0 rest) (simp append_assoc)

-- ---- stat data

abbrev pub stat_table : Attr → List (ℕ × ℕ)
stat_table a = (2, stat_mask) ∷ stat_fields a

pub is_stat_body : (a : Attr) (b : List ℕ) → length b ≡ 44 → put_all (stat_table a) 0 b ≡ stat_body a
unfolding stat_body
is_stat_body a b len =
    let none : drop 44 b ≡ [] = drop_all 44 b (omega arith) in
    put_all-over (stat_table a) 0 [] b refl ∙ ap (λ (xs : List ℕ). fields_bytes (stat_table a) ++ xs) none ∙ append-nil (fields_bytes (stat_table a))

pub length-stat_body : (a : Attr) → length (stat_body a) ≡ 44
unfolding stat_body
length-stat_body a = length-fields_bytes (stat_table a)

pub stat_has : (a : Attr) → FieldsFit (stat_fields a) → HasFields (stat_table a) 0 (stat_body a)
unfolding stat_body
stat_has a fit = subst (λ (xs : List ℕ). HasFields (stat_table a) 0 xs) (append-nil (fields_bytes (stat_table a))) (fields_read (stat_table a) [] [] 0 refl (omega arith, fit))

-- what is spelled is read
pub attr_again : (a : Attr) → FieldsFit (stat_fields a) → attr_of (stat_body a) ≡ a
unfolding attr_of
attr_again a fit =
    let f = (stat_has a fit).1 in
    rw (f.0, f.1.0, f.1.1.0, f.1.1.1.0, f.1.1.1.1.0, f.1.1.1.1.1.0, f.1.1.1.1.1.1.0, f.1.1.1.1.1.1.1.0, f.1.1.1.1.1.1.1.1.0) refl

pub stat_again : (a : Attr) → FieldsFit (stat_fields a) → IsTrue (kind_is_good a.mode) → stat_of (stat_body a) ≡ Ok a
unfolding stat_of
stat_again a fit kind =
    let mask : mask_is_good (stat_body a) ≡ true = rw (length-stat_body a, (stat_has a fit).0) refl in
    rw (mask, attr_again a fit, length-stat_body a, kind) refl
