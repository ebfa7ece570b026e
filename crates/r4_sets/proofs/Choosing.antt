-- Cells and transactions chosen by sets of atoms.
use Rattle.std.specs.Prelude.{◌≡◌, ◌⊎◌, ℕ, Bool, true, false, ◌||◌, cond, List, ◌∷◌, Option, Some, None, is_some}
use Rattle.std.proofs.Common.{inl, inr, refl, sym, ap, subst, ◌∙◌}
use Rattle.std.proofs.lemmas.Option.{none-some}
use Rattle.r4_base.specs.Value.{Value, Content, at_key}
use Rattle.r4_base.specs.Tree.{Node, Store, Root}
use Rattle.r4_patch.specs.r4_cell.Patch.{Leaves, Patch, place}
use Rattle.r4_patch.proofs.Sets.{left}
use Rattle.r4_content.specs.Locality.{Meaning, Touches}
use Rattle.r4_sets.specs.Change.{touches}
use Rattle.r4_content.specs.declared.command.Command.{Command}
use Rattle.r4_content.specs.declared.reply.Reply.{Reply}
use Rattle.r4_base.specs.declared.things.ScriptNo.{ScriptNo}
use Rattle.r4_base.specs.declared.things.TxnNo.{TxnNo}
use Rattle.r4_trace.specs.declared.entry.Entry.{Entry}
use Rattle.r4_trace.specs.declared.entry.Entry.TheVariants.{Done}
use Rattle.r4_trace.specs.Folds.{content_of, everything}
use Rattle.r4_sets.specs.Session.{IsTreeOf, Stands, nothing, picks}

-- ---- one of two, by the owner

module _ {A : Type 0} where
  pub pick_all : (o : Option ℕ) (a b : A) → (o ≡ None → a ≡ b) → cond (picks everything o) a b ≡ a
  pick_all None a b h = sym (h refl)
  pick_all (Some n) a b h = refl

  pub pick_none : (o : Option ℕ) (a b : A) → cond (picks nothing o) a b ≡ b
  pick_none None a b = refl
  pick_none (Some n) a b = refl

  pub pick_free : (s : ℕ → Bool) (n : ℕ) (o : Option ℕ) (a b : A) → s n ≡ true → (o ≡ None) ⊎ (o ≡ Some n)
      → (o ≡ None → a ≡ b) → cond (picks s o) a b ≡ a
  pick_free s n o a b e (inl is) h = ap (λ x. cond (picks s x) a b) is ∙ sym (h is)
  pick_free s n o a b e (inr is) h = ap (λ x. cond (picks s x) a b) is ∙ ap (λ x. cond x a b) e

  pub pick_other : (s : ℕ → Bool) (n : ℕ) (o : Option ℕ) (a b : A) → s n ≡ false → (o ≡ None) ⊎ (o ≡ Some n)
      → cond (picks s o) a b ≡ b
  pick_other s n o a b e (inl is) = ap (λ x. cond (picks s x) a b) is
  pick_other s n o a b e (inr is) = ap (λ x. cond (picks s x) a b) is ∙ ap (λ x. cond x a b) e

-- ---- cells of a patch

pub none_of : {A : Type 0} (o : Option A) → is_some o ≡ false → o ≡ None
none_of None e = refl
none_of (Some x) e = let f : true ≡ false = e in cc

pub touched_by : {A : Type 0} (o : Option A) (x : A) → o ≡ Some x → is_some o ≡ true
touched_by (Some y) x e = refl
touched_by None x e = absurd (none-some x e)

or_true : (a b : Bool) → b ≡ true → (a || b) ≡ true
or_true true b e = refl
or_true false b e = e

or_left : (a b : Bool) → a ≡ true → (a || b) ≡ true
or_left true b e = refl
or_left false b e = let f : false ≡ true = e in cc

neither : (a b : Bool) → (a || b) ≡ false → (a ≡ false) × (b ≡ false)
neither false b e = (refl, e)
neither true b e = let f : true ≡ false = e in cc

pub touches_old : (d : Patch Value) (i : ℕ) (a : Node Value) → d.old i ≡ Some a → touches d i ≡ true
touches_old d i a e = or_left (is_some (d.old i)) (is_some (d.new i)) (touched_by (d.old i) a e)

pub touches_new : (d : Patch Value) (i : ℕ) (a : Node Value) → d.new i ≡ Some a → touches d i ≡ true
touches_new d i a e = or_true (is_some (d.old i)) (is_some (d.new i)) (touched_by (d.new i) a e)

pub untouched : (d : Patch Value) (i : ℕ) → touches d i ≡ false → Leaves d i
untouched d i e = let (a, b) =
    neither (is_some (d.old i)) (is_some (d.new i)) e in (none_of (d.new i) b, none_of (d.old i) a)

pub untouched_place : (d : Patch Value) (t : Store Value) (i : ℕ) → touches d i ≡ false → place d t i ≡ t i
untouched_place d t i e = left d t i (untouched d i e)

-- ---- contents of chosen transactions

module _ (w : Meaning Command Reply) (start : Content) (chosen : ℕ → Bool) (txn : TxnNo) (script : ScriptNo)
    (index : ℕ) (x : Command) (reply : Reply) (older : List Entry) where
  pub stands_skips : (t : Store Value) (root : Root) → chosen txn.0 ≡ false → Stands w start older chosen t root
      → Stands w start (Done txn script index x reply ∷ older) chosen t root
  stands_skips t root e h =
      let m = content_of w start chosen older in
      record {
        is = subst (IsTreeOf t root) (sym (ap (λ (b : Bool). cond b (w.after x m) m) e)) h.is;
        replies = (λ f. let g : true ≡ false = sym f ∙ e in cc, h.replies);
        alike = (λ f. let g : true ≡ false = sym f ∙ e in cc, h.alike);
      }

  pub stands_takes : (t u : Store Value) (root_t root_u : Root) → chosen txn.0 ≡ true
      → Stands w start older chosen t root_t → IsTreeOf u root_u (w.after x (content_of w start chosen older))
      → reply ≡ w.reply x (content_of w start chosen older)
      → ((k : ℕ) → Touches w x (content_of w start everything older) k → at_key (content_of w start chosen older) k
      ≡ at_key (content_of w start everything older) k)
      → Stands w start (Done txn script index x reply ∷ older) chosen u root_u
  stands_takes t u root_t root_u e h is same finds =
      let m = content_of w start chosen older in
      record {
        is = subst (IsTreeOf u root_u) (sym (ap (λ (b : Bool). cond b (w.after x m) m) e)) is;
        replies = (λ f. same, h.replies);
        alike = (λ f. finds, h.alike);
      }

pub stands_at : (w : Meaning Command Reply) (start : Content) (trace : List Entry) (c e : ℕ → Bool) (t u : Store Value)
    (q r : Root) → c ≡ e → t ≡ u → q ≡ r → Stands w start trace c t q → Stands w start trace e u r
stands_at w start trace c e t u q r ce tu qr h =
    subst (λ x. Stands w start trace x u r) ce
    (subst (λ x. Stands w start trace c x r) tu (subst (λ x. Stands w start trace c t x) qr h))
