-- The byte that edits set, and what stands there then.
use Rattle.std.proofs.Common.{◌≡◌, ◌⊎◌, inl, inr, ℕ, Bool, true, false, cond, [], ◌∷◌, Option, Some, None, refl, sym, ap, ◌∙◌}
use Rattle.std.specs.Prelude.{◌==◌, ◌||◌}
use Rattle.std.specs.Option.{option_or}
use Rattle.std.proofs.lemmas.Bool.{eq-eqb, eqb-true, ne_eqb}
use Rattle.std.proofs.lemmas.Option.{none-some, same_Some}
use Rattle.r4_base.specs.Value.{Byte, Content, Value, at_key}
use Rattle.r4_content.specs.Edited.{Edits, Pairs, changed, edited, is_in, put_keys}
use Rattle.r4_content.proofs.EditLaws.{at_edited, in_changed, one_key}
use Rattle.r4_content.proofs.EditLaws as laws
use Rattle.r4_content.proofs.EditParts.{off_is}
use Rattle.r4_allowed.specs.r4_extent_change.r4_extent_blocks.Setting.{byte_of, byte_set, last_put}

-- ---- what is put

pub flipped : (a b : ℕ) (t : Bool) → (a == b) ≡ t → (b == a) ≡ t
flipped a b true h = eq-eqb b a (sym (eqb-true a b h))
flipped a b false h = ne_eqb b a (λ same. let f : true ≡ false = sym (eq-eqb a b (sym same)) ∙ h in cc)

abbrev PutOrStood : Pairs → (k y : ℕ) → Option Value → Type 0
PutOrStood ps k y v = (last_put ps k ≡ Some y)
    ⊎ ((last_put ps k ≡ None) × ((is_in (put_keys ps) k ≡ false) × (v ≡ Some (Byte y))))

-- one pair more
one_more : (p : ℕ × Value) (ps : Pairs) (k y : ℕ) (v : Option Value) (t : Bool) → (k == p.0) ≡ t
    → PutOrStood ps k y (cond t (Some p.1) v) → PutOrStood (p ∷ ps) k y v
one_more p ps k y v t at (inl put) = inl (ap (λ (o : Option ℕ). option_or o (cond (p.0 == k) (byte_of p.1) None)) put)
one_more p ps k y v true at (inr (none, (off, is))) =
    inl (ap (λ (o : Option ℕ). option_or o (cond (p.0 == k) (byte_of p.1) None)) none
    ∙ (ap (λ (s : Bool). cond s (byte_of p.1) None) (flipped k p.0 true at)
    ∙ ap byte_of (same_Some p.1 (Byte y) is)))
one_more p ps k y v false at (inr (none, (off, is))) = inr (
  ap (λ (o : Option ℕ). option_or o (cond (p.0 == k) (byte_of p.1) None)) none
      ∙ ap (λ (s : Bool). cond s (byte_of p.1) None) (flipped k p.0 false at),
  (ap (λ (s : Bool). s || is_in (put_keys ps) k) (one_key k p.0 ∙ at) ∙ off, is),
)

-- a byte is the last that is put, or nothing is put and it stood there
put_or_stood : (ps : Pairs) (k y : ℕ) (v : Option Value) → laws.last_put ps k v ≡ Some (Byte y) → PutOrStood ps k y v
put_or_stood [] k y v h = inr (refl, (refl, h))
put_or_stood (p ∷ ps) k y v h = one_more p ps k y v (k == p.0) refl (put_or_stood ps k y (cond (k == p.0) (Some p.1) v) h)

none_more : (p : ℕ × Value) (ps : Pairs) (k : ℕ) (t : Bool) → (k == p.0) ≡ t → is_in (put_keys (p ∷ ps)) k ≡ false
    → (is_in (put_keys ps) k ≡ false → last_put ps k ≡ None) → last_put (p ∷ ps) k ≡ None
none_more p ps k true at h none =
    let f : true ≡ false = sym (ap (λ (s : Bool). s || is_in (put_keys ps) k) (one_key k p.0 ∙ at)) ∙ h in cc
none_more p ps k false at h none =
    ap (λ (o : Option ℕ). option_or o (cond (p.0 == k) (byte_of p.1) None))
    (none (sym (ap (λ (s : Bool). s || is_in (put_keys ps) k) (one_key k p.0 ∙ at)) ∙ h))
    ∙ ap (λ (s : Bool). cond s (byte_of p.1) None) (flipped k p.0 false at)

pub none_put : (ps : Pairs) (k : ℕ) → is_in (put_keys ps) k ≡ false → last_put ps k ≡ None
none_put [] k h = refl
none_put (p ∷ ps) k h = none_more p ps k (k == p.0) refl h (none_put ps k)

-- ---- what stands there

-- a byte at a key that edits change is the one that they set
pub set_byte : (e : Edits) (m : Content) (k y : ℕ) → is_in (changed e) k ≡ true → at_key (edited e m) k ≡ Some (Byte y)
    → byte_set e k ≡ Some y
set_byte e m k y on at =
    elim (put_or_stood e.puts k y (cond (is_in e.zeros k) (Some (Byte 0)) (cond (is_in e.cuts k) None (at_key m k))) (sym (at_edited e m k) ∙ at)) [
      | inl put ↦ ap (λ (o : Option ℕ). option_or o (cond (is_in e.zeros k) (Some 0) None)) put
      | inr rest ↦
          ap (λ (o : Option ℕ). option_or o (cond (is_in e.zeros k) (Some 0) None)) rest.0
          ∙ by_kind (is_in e.zeros k) (is_in e.cuts k)
          (ap (λ (s : Bool). s || (is_in e.zeros k || is_in e.cuts k)) (sym rest.1.0) ∙ (sym (in_changed e k) ∙ on)) rest.1.1
    ]
  where
    by_kind : (z c : Bool) → (false || (z || c)) ≡ true
        → cond z (Some (Byte 0)) (cond c None (at_key m k)) ≡ Some (Byte y) → ◌≡◌ {A = Option ℕ} (cond z (Some 0) None) (Some y)
    by_kind true c some is = ap byte_of_value (same_Some (Byte 0) (Byte y) is)
      where
        byte_of_value : Value → Option ℕ
        byte_of_value v = byte_of v
    by_kind false true some is = absurd (none-some (Byte y) is)
    by_kind false false some is = let f : false ≡ true = some in cc

-- at a key that they do not change they set none
pub unset : (e : Edits) (k : ℕ) → is_in (changed e) k ≡ false → byte_set e k ≡ None
unset e k off =
    let h = off_is e k off in
    ap (λ (o : Option ℕ). option_or o (cond (is_in e.zeros k) (Some 0) None)) (none_put e.puts k h.puts)
    ∙ ap zeroed h.zeros
  where
    zeroed : Bool → Option ℕ
    zeroed s = cond s (Some 0) None
