-- Fields that are written one after the other are one write.
use Rattle.std.proofs.Common.{◌≡◌, ℕ, ◌+◌, ◌-◌, ◌*◌, ◌^◌, ◌<◌, ◌≤◌, List, [], ◌∷◌, ◌++◌, length, get_or, take, drop, refl, sym, ap, ◌∙◌, arith}
use Rattle.std.proofs.lemmas.List.{places, ext_get_or, length-append, length-take}
use Rattle.r4_base.specs.Bytes.{number_at, number_bytes, overwrite, fields_bytes, width_of, HasFields, put_all}
use Rattle.r4_base.proofs.Numbers.{length-overwrite, length-number_bytes, length-fields_bytes, fields_read}
use Rattle.r4_base.specs.Key.{IsKey}
use Rattle.r4_base.specs.declared.key.Key.{Key}
use Rattle.r4_base.specs.Node.{key_at, plugin_at, offset_at, item_flags_at}
use Rattle.r4_node40.specs.Edits.{header_fields}

same_place : (at k : ℕ) (ys zs xs : List ℕ) → at + length ys + length zs ≤ length xs → get_or (overwrite (at + length ys) zs (overwrite at ys xs)) k 0 ≡ get_or (overwrite at (ys ++ zs) xs) k 0
unfolding overwrite
same_place at k ys zs xs fit = grind (arith, places)

pub overwrite_both : (at : ℕ) (ys zs xs : List ℕ) → at + length ys + length zs ≤ length xs → overwrite (at + length ys) zs (overwrite at ys xs) ≡ overwrite at (ys ++ zs) xs
overwrite_both at ys zs xs fit =
    let first = length-overwrite at ys xs (omega arith) in
    let second = length-overwrite (at + length ys) zs (overwrite at ys xs) (omega arith) in
    let long = length-append ys zs in
    let both = length-overwrite at (ys ++ zs) xs (omega arith) in
    ext_get_or 0 (overwrite (at + length ys) zs (overwrite at ys xs)) (overwrite at (ys ++ zs) xs) (omega arith) (λ k lt. same_place at k ys zs xs fit)

none_place : (at k : ℕ) (xs : List ℕ) → at ≤ length xs → get_or (overwrite at [] xs) k 0 ≡ get_or xs k 0
unfolding overwrite
none_place at k xs fit = grind (arith, places)

overwrite_none : (at : ℕ) (xs : List ℕ) → at ≤ length xs → overwrite at [] xs ≡ xs
overwrite_none at xs fit = ext_get_or 0 (overwrite at [] xs) xs (length-overwrite at [] xs (omega arith)) (λ k lt. none_place at k xs fit)

pub put_all-overwrite : (fs : List (ℕ × ℕ)) (at : ℕ) (xs : List ℕ) → at + width_of fs ≤ length xs → put_all fs at xs ≡ overwrite at (fields_bytes fs) xs
put_all-overwrite [] at xs fit = sym (overwrite_none at xs (omega arith))
put_all-overwrite (f ∷ fs) at xs fit =
    let bytes = number_bytes f.0 f.1 in
    let n : length bytes ≡ f.0 = length-number_bytes f.0 f.1 in
    let m = length-fields_bytes fs in
    let once = overwrite at bytes xs in
    let long : length once ≡ length xs = length-overwrite at bytes xs (omega arith) in
    let ih = put_all-overwrite fs (at + f.0) once (omega arith) in
    ih ∙ ap (λ (k : ℕ). overwrite (at + k) (fields_bytes fs) once) (sym n) ∙ overwrite_both at bytes (fields_bytes fs) xs (omega arith)

-- the writes of an item header are one write
pub header_put : (k : Key) (at offset plugin : ℕ) (b b1 b2 b3 b4 b5 b6 b7 : List ℕ) → at + 38 ≤ length b → b1 ≡ overwrite at (number_bytes 8 (get_or k.el 0 0)) b → b2 ≡ overwrite (at + 8) (number_bytes 8 (get_or k.el 1 0)) b1
    → b3 ≡ overwrite (at + 16) (number_bytes 8 (get_or k.el 2 0)) b2 → b4 ≡ overwrite (at + 24) (number_bytes 8 (get_or k.el 3 0)) b3 → b5 ≡ overwrite (at + 32) (number_bytes 2 offset) b4
    → b6 ≡ overwrite (at + 34) (number_bytes 2 0) b5 → b7 ≡ overwrite (at + 36) (number_bytes 2 plugin) b6 → b7 ≡ overwrite at (fields_bytes (header_fields k offset plugin)) b
header_put k at offset plugin b b1 b2 b3 b4 b5 b6 b7 fit e1 e2 e3 e4 e5 e6 e7 =
    let p2 : at + 8 + 8 ≡ at + 16 = omega arith in
    let p3 : at + 16 + 8 ≡ at + 24 = omega arith in
    let p4 : at + 24 + 8 ≡ at + 32 = omega arith in
    let p5 : at + 32 + 2 ≡ at + 34 = omega arith in
    let p6 : at + 34 + 2 ≡ at + 36 = omega arith in
    let all : b7 ≡ put_all (header_fields k offset plugin) at b = rw (p2, p3, p4, p5, p6, e7, e6, e5, e4, e3, e2, e1) refl in
    all ∙ put_all-overwrite (header_fields k offset plugin) at b (omega arith)

four : (xs : List ℕ) → length xs ≡ 4 → get_or xs 0 0 ∷ get_or xs 1 0 ∷ get_or xs 2 0 ∷ get_or xs 3 0 ∷ [] ≡ xs
four (w ∷ x ∷ y ∷ z ∷ []) e = refl
four _ e = absurd (omega arith)

key_is : (k : Key) (w x y z : ℕ) → length k.el ≡ 4 → w ≡ get_or k.el 0 0 → x ≡ get_or k.el 1 0 → y ≡ get_or k.el 2 0 → z ≡ get_or k.el 3 0 → record { el = w ∷ x ∷ y ∷ z ∷ [] } ≡ k
key_is k w x y z long a b c d = rw (a, b, c, d) (ap (λ (xs : List ℕ). let r : Key = record { el = xs } in r) (four k.el long))

-- an item header that was written says what was written
pub record HeaderSays (b : List ℕ) (i : ℕ) (k : Key) (offset plugin : ℕ) : Type 0 where
  pub key : key_at b i ≡ k
  pub offset_is : offset_at b i ≡ offset
  pub plugin_is : plugin_at b i ≡ plugin
  pub flags_is : item_flags_at b i ≡ 0

pub header_says : (k : Key) (i offset plugin : ℕ) (b c : List ℕ) → IsKey k → offset < 2 ^ 16 → plugin < 2 ^ 16 → length b ≡ 4096 → 38 * (i + 1) ≤ 4096 → c ≡ overwrite (4096 - 38 * (i + 1)) (fields_bytes (header_fields k offset plugin)) b → HeaderSays c i k offset plugin
unfolding overwrite key_at offset_at plugin_at item_flags_at
header_says k i offset plugin b c good o p whole fit e =
    let at : ℕ = 4096 - 38 * (i + 1) in
    let fs = header_fields k offset plugin in
    let s0 = good.small 0 in
    let s1 = good.small 1 in
    let s2 = good.small 2 in
    let s3 = good.small 3 in
    let front : length (take at b) ≡ at = omega (arith, length-take at b) in
    let f : HasFields fs at c = rw e (fields_read fs (take at b) (drop (at + length (fields_bytes fs)) b) at front (omega arith, (omega arith, (omega arith, (omega arith, (omega arith, (omega arith, (omega arith, tt)))))))) in
    let p2 : at + 8 + 8 ≡ at + 16 = omega arith in
    let p3 : at + 8 + 8 + 8 ≡ at + 24 = omega arith in
    let p4 : at + 8 + 8 + 8 + 8 ≡ at + 32 = omega arith in
    let p5 : at + 8 + 8 + 8 + 8 + 2 ≡ at + 34 = omega arith in
    let p6 : at + 8 + 8 + 8 + 8 + 2 + 2 ≡ at + 36 = omega arith in
    record {
      key = key_is k _ _ _ _ good.four f.0 f.1.0 (ap (λ (x : ℕ). number_at 8 x c) (sym p2) ∙ f.1.1.0) (ap (λ (x : ℕ). number_at 8 x c) (sym p3) ∙ f.1.1.1.0);
      offset_is = ap (λ (x : ℕ). number_at 2 x c) (sym p4) ∙ f.1.1.1.1.0;
      flags_is = ap (λ (x : ℕ). number_at 2 x c) (sym p5) ∙ f.1.1.1.1.1.0;
      plugin_is = ap (λ (x : ℕ). number_at 2 x c) (sym p6) ∙ f.1.1.1.1.1.1.0;
    }
