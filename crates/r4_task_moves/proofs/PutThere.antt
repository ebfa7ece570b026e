-- What edits change and do not take away stands there afterwards.
use Rattle.std.proofs.Common.{◌≡◌, ◌⊎◌, inl, inr, ℕ, Bool, true, false, [], ◌∷◌, ◌++◌, Option, Some, None, refl, sym, ap, ◌∙◌, cond}
use Rattle.std.specs.Prelude.{◌||◌, ◌==◌}
use Rattle.std.proofs.lemmas.Bool.{or_cases}
use Rattle.r4_base.specs.Value.{Byte, Content, Value, at_key}
use Rattle.r4_content.specs.Edited.{Edits, Pairs, changed, edited, is_in, put_keys}
use Rattle.r4_content.proofs.EditLaws.{at_edited, in_append, last_put, one_key}

-- something stands there
abbrev pub Stands : Option Value → Type 0
Stands o = (v : Value) × (o ≡ Some v)

put_some : (es : Pairs) (k : ℕ) (v : Value) → Stands (last_put es k (Some v))
put_some [] k v = (v, refl)
put_some (e ∷ es) k v = by_key (k == e.0) (put_some es k e.1) (put_some es k v)
  where
    by_key : (b : Bool) → Stands (last_put es k (Some e.1)) → Stands (last_put es k (Some v))
        → Stands (last_put es k (cond b (Some e.1) (Some v)))
    by_key true one two = one
    by_key false one two = two

put_there : (es : Pairs) (k : ℕ) (o : Option Value) → is_in (put_keys es) k ≡ true → Stands (last_put es k o)
put_there [] k o h = absurd (let f : false ≡ true = h in cc)
put_there (e ∷ es) k o h =
    by_key (k == e.0) (sym (ap (λ (b : Bool). b || is_in (put_keys es) k) (one_key k e.0)) ∙ h) (put_there es k o)
  where
    by_key : (b : Bool) → (b || is_in (put_keys es) k) ≡ true
        → (is_in (put_keys es) k ≡ true → Stands (last_put es k o)) → Stands (last_put es k (cond b (Some e.1) o))
    by_key true f rest = put_some es k e.1
    by_key false f rest = rest f

zero_there : (es : Pairs) (k : ℕ) (b : Bool) (o : Option Value) → b ≡ true
    → Stands (last_put es k (cond b (Some (Byte 0)) o))
zero_there es k true o h = put_some es k (Byte 0)
zero_there es k false o h = absurd (let f : false ≡ true = h in cc)

pub uncut_there : (e : Edits) (m : Content) (k : ℕ) → is_in (changed e) k ≡ true → is_in e.cuts k ≡ false
    → Stands (at_key (edited e m) k)
uncut_there e m k on uncut =
    let (v, stands) = there (or_cases (is_in (put_keys e.puts) k) (is_in (e.zeros ++ e.cuts) k)
    (sym (in_append (put_keys e.puts) (e.zeros ++ e.cuts) k) ∙ on)) in
    (v, at_edited e m k ∙ stands)
  where
    there : (is_in (put_keys e.puts) k ≡ true) ⊎ (is_in (e.zeros ++ e.cuts) k ≡ true) → Stands (last_put e.puts k
        (cond (is_in e.zeros k) (Some (Byte 0)) (cond (is_in e.cuts k) None (at_key m k))))
    there (inl put) = put_there e.puts k _ put
    there (inr rest) = elim (or_cases (is_in e.zeros k) (is_in e.cuts k) (sym (in_append e.zeros e.cuts k) ∙ rest)) [
      | inl zero ↦ zero_there e.puts k (is_in e.zeros k) _ zero
      | inr cut ↦ absurd (let f : true ≡ false = sym cut ∙ uncut in cc)
    ]
