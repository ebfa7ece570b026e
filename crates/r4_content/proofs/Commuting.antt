-- Commands that touch nothing which the other changes commute; and a refusal leaves the content.
use Rattle.std.specs.Prelude.{◌≡◌, ℕ, Bool, true, false}
use Rattle.std.proofs.Common.{refl, sym, ap, ◌∙◌, inl, inr}
use Rattle.r4_base.specs.Value.{Content, at_key}
use Rattle.r4_content.specs.Edited.{is_in}
use Rattle.r4_content.specs.Locality.{Meaning, IsLocal, Agree, Spares}
use Rattle.r4_content.proofs.EditLaws.{same_content}

module _ {C R : Type 0} (w : Meaning C R) (local : IsLocal w) where
  spared : (x y : C) (m : Content) → Spares w y x m → Agree w x m (w.after y m)
  spared x y m h k t = sym (local.others y m k (h k (inl t)))

  pub same_replies : (x y : C) (m : Content) → Spares w y x m → w.reply x (w.after y m) ≡ w.reply x m
  same_replies x y m h = sym (local.same_reply x m (w.after y m) (spared x y m h))

  pub commute : (x y : C) (m : Content) → Spares w y x m → Spares w x y m → w.after x (w.after y m) ≡ w.after y (w.after x m)
  commute x y m hx hy = same_content _ _ (λ k. cases k (is_in (w.changes x m) k) refl (is_in (w.changes y m) k) refl)
    where
      cases : (k : ℕ) (a : Bool) → is_in (w.changes x m) k ≡ a → (b : Bool) → is_in (w.changes y m) k ≡ b → at_key (w.after x (w.after y m)) k ≡ at_key (w.after y (w.after x m)) k
      cases k true a b _ =
          sym (local.same_values x m (w.after y m) k (spared x y m hx) a)
          ∙ sym (local.others y (w.after x m) k (ap (λ r. is_in r k) (sym (local.same_changes y m (w.after x m) (spared y x m hy))) ∙ hx k (inr a)))
      cases k false a true b =
          local.others x (w.after y m) k (ap (λ r. is_in r k) (sym (local.same_changes x m (w.after y m) (spared x y m hx))) ∙ a)
          ∙ local.same_values y m (w.after x m) k (spared y x m hy) b
      cases k false a false b =
          local.others x (w.after y m) k (ap (λ r. is_in r k) (sym (local.same_changes x m (w.after y m) (spared x y m hx))) ∙ a) ∙ local.others y m k b
          ∙ sym (local.others y (w.after x m) k (ap (λ r. is_in r k) (sym (local.same_changes y m (w.after x m) (spared y x m hy))) ∙ b) ∙ local.others x m k a)
