-- What the writes of an entry leave.
use Rattle.std.proofs.Common.{◌≡◌, ℕ, ◌+◌, ◌^◌, ◌<◌, ◌≤◌, List, [], ◌∷◌, ◌++◌, length, get_or, take, drop, set, refl, sym, ap, ◌∙◌, arith}
use Rattle.std.proofs.lemmas.List.{length-take, length-append}
use Rattle.r4_base.specs.Bytes.{number_at, number_bytes, overwrite, fields_bytes, HasFields, put_all}
use Rattle.r4_base.specs.declared.key.Key.{Key}
use Rattle.r4_base.specs.declared.items.Target.{Target}
use Rattle.r4_base.specs.Key.{IsKey}
use Rattle.r4_base.specs.Dir.{entry_header, entry_key_at, entry_offset, target_of}
use Rattle.r4_base.proofs.Numbers.{fields_read, length-fields_bytes, length-overwrite}
use Rattle.r4_base.proofs.Overwrites.{overwrite_both, put_all-overwrite, set_is}
use Rattle.r4_cde.specs.Edits.{header_fields, target_fields}

pub header_put : (k : Key) (at offset : ℕ) (b b1 b2 b3 b4 : List ℕ) → at + 26 ≤ length b → b1 ≡ overwrite at (number_bytes 8 (get_or k.el 1 0)) b → b2 ≡ overwrite (at + 8) (number_bytes 8 (get_or k.el 2 0)) b1
    → b3 ≡ overwrite (at + 16) (number_bytes 8 (get_or k.el 3 0)) b2 → b4 ≡ overwrite (at + 24) (number_bytes 2 offset) b3 → b4 ≡ overwrite at (fields_bytes (header_fields k offset)) b
header_put k at offset b b1 b2 b3 b4 fit e1 e2 e3 e4 =
    let p2 : at + 8 + 8 ≡ at + 16 = omega arith in
    let p3 : at + 16 + 8 ≡ at + 24 = omega arith in
    let all : b4 ≡ put_all (header_fields k offset) at b = rw (p2, p3, e4, e3, e2, e1) refl in
    all ∙ put_all-overwrite (header_fields k offset) at b (omega arith)

pub target_put : (t : Target) (at : ℕ) (b b1 b2 b3 : List ℕ) → at + 24 ≤ length b → b1 ≡ overwrite at (number_bytes 8 t.locality) b → b2 ≡ overwrite (at + 8) (number_bytes 8 t.ordering) b1
    → b3 ≡ overwrite (at + 16) (number_bytes 8 t.oid.0) b2 → b3 ≡ overwrite at (fields_bytes (target_fields t)) b
target_put t at b b1 b2 b3 fit e1 e2 e3 =
    let p2 : at + 8 + 8 ≡ at + 16 = omega arith in
    let all : b3 ≡ put_all (target_fields t) at b = rw (p2, e3, e2, e1) refl in
    all ∙ put_all-overwrite (target_fields t) at b (omega arith)

pub name_put : (at : ℕ) (name b b1 b2 : List ℕ) → at + length name + 1 ≤ length b → b1 ≡ overwrite at name b → b2 ≡ set b1 (at + length name) 0 → b2 ≡ overwrite at (name ++ 0 ∷ []) b
name_put at name b b1 b2 fit e1 e2 =
    let long : length (overwrite at name b) ≡ length b = length-overwrite at name b (omega arith) in
    e2 ∙ rw e1 (set_is (at + length name) 0 (overwrite at name b) (omega arith) ∙ overwrite_both at name (0 ∷ []) b (omega arith))

pub body_put : (t : Target) (at : ℕ) (name b b1 b2 : List ℕ) → at + (24 + (length name + 1)) ≤ length b → b1 ≡ overwrite at (fields_bytes (target_fields t)) b → b2 ≡ overwrite (at + 24) (name ++ 0 ∷ []) b1 → b2 ≡ overwrite at (fields_bytes (target_fields t) ++ (name ++ 0 ∷ [])) b
body_put t at name b b1 b2 fit e1 e2 =
    let n : length (fields_bytes (target_fields t)) ≡ 24 = length-fields_bytes (target_fields t) in
    let m = length-append name (0 ∷ []) in
    e2 ∙ rw (e1, ← n) (overwrite_both at (fields_bytes (target_fields t)) (name ++ 0 ∷ []) b (omega arith))

-- ---- a header that was written says what was written

four : (xs : List ℕ) → length xs ≡ 4 → get_or xs 0 0 ∷ get_or xs 1 0 ∷ get_or xs 2 0 ∷ get_or xs 3 0 ∷ [] ≡ xs
four (w ∷ x ∷ y ∷ z ∷ []) e = refl
four _ e = absurd (omega arith)

pub record HeaderSays (b : List ℕ) (i : ℕ) (k : Key) (offset : ℕ) : Type 0 where
  pub key : entry_key_at k b i ≡ k
  pub offset_is : entry_offset b i ≡ offset

pub header_says : (k : Key) (i offset : ℕ) (b c : List ℕ) → IsKey k → offset < 2 ^ 16 → entry_header (i + 1) ≤ length b → c ≡ overwrite (entry_header i) (fields_bytes (header_fields k offset)) b → HeaderSays c i k offset
unfolding overwrite entry_key_at entry_offset
header_says k i offset b c good small fit e =
    let at : ℕ = entry_header i in
    let fs = header_fields k offset in
    let s1 = good.small 1 in
    let s2 = good.small 2 in
    let s3 = good.small 3 in
    let front : length (take at b) ≡ at = omega (arith, length-take at b) in
    let f : HasFields fs at c = rw e (fields_read fs (take at b) (drop (at + length (fields_bytes fs)) b) at front (omega arith, (omega arith, (omega arith, (omega arith, tt))))) in
    let p2 : at + 8 + 8 ≡ at + 16 = omega arith in
    let p3 : at + 8 + 8 + 8 ≡ at + 24 = omega arith in
    let third : number_at 8 (at + 16) c ≡ get_or k.el 3 0 = ap (λ (x : ℕ). number_at 8 x c) (sym p2) ∙ f.1.1.0 in
    record {
      key = rw (f.0, f.1.0, third) (ap (λ (xs : List ℕ). let r : Key = record { el = xs } in r) (four k.el good.four));
      offset_is = ap (λ (x : ℕ). number_at 2 x c) (sym p3) ∙ f.1.1.1.0;
    }

pub target_read : (t : Target) → t.locality < 2 ^ 64 → t.ordering < 2 ^ 64 → t.oid.0 < 2 ^ 64 → (rest : List ℕ) → target_of (fields_bytes (target_fields t) ++ rest) ≡ t
unfolding target_of
target_read t a b c rest =
    let f : HasFields (target_fields t) 0 (fields_bytes (target_fields t) ++ rest) = fields_read (target_fields t) [] rest 0 refl (omega arith, (omega arith, (omega arith, tt))) in
    rw (f.0, f.1.0, f.1.1.0) refl
