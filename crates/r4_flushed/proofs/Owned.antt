-- What open atoms own stays a block of a cell.
use Rattle.std.proofs.Common.{◌≡◌, inl, inr, ⊎_elim, ℕ, ◌^◌, ◌<◌, Bool, true, false, cond, eqb, Option}
use Rattle.std.proofs.Common.{Some, None, refl, sym, ◌∙◌}
use Rattle.std.specs.Option.{option_map}
use Rattle.std.proofs.lemmas.Bool.{eq-eqb}
use Rattle.r4_base.specs.Tree.{Node, Root, Store}
use Rattle.r4_base.specs.Value.{Content, Value}
use Rattle.r4_placed.specs.r4_cell.Patch.{Patch}
use Rattle.r4_content.specs.Locality.{Meaning}
use Rattle.r4_content.specs.declared.command.Command.{Command}
use Rattle.r4_content.specs.declared.reply.Reply.{Reply}
use Rattle.r4_base.specs.declared.things.AtomNo.{AtomNo}
use Rattle.r4_base.specs.declared.things.NodeId.{NodeId}
use Rattle.r4_base.specs.declared.things.ScriptNo.{ScriptNo}
use Rattle.r4_base.specs.declared.things.TxnNo.{TxnNo}
use Rattle.r4_placed.specs.r4_trace.Traced.{atom_in, renamed_atom}
use Rattle.r4_placed.specs.r4_sets.Atoms.{committed, fused, opened, without}
use Rattle.r4_placed.specs.r4_sets.Change.{Applies, IsFree, applied, touches}
use Rattle.r4_placed.specs.r4_sets.Session.{Session, Sets}
use Rattle.r4_flushed.specs.Flushed.{AreFlushed, OwnsBlocks, sealed_to, with_flushed}
use Rattle.r4_placed.specs.Flushing.{Flushing, IsAtRest}
use Rattle.r4_flushed.proofs.FlushedCells.{picks_cases}
use Rattle.r4_flushed.proofs.Gathering.{not_owned}

pub no_owner : (k : ℕ) → None ≡ Some k → ⊥
no_owner k e = absurd (cc e)

pub opened_owns : (t : Store Value) (root : Root) (m : Content) → OwnsBlocks (opened t root m)
opened_owns t root m i k e low = absurd (no_owner k e)

module _ (c : Session) (owns : OwnsBlocks c) where
  pub applied_owns : (w : Meaning Command Reply) (txn : TxnNo) (script : ScriptNo) (index : ℕ) (x : Command)
      (d : Patch Value) → Sets w c → Applies w c txn.0 x d
      → ((i : ℕ) → i < 2 ^ 63 → touches d i ≡ true → (e : Node Value) × (d.old i ≡ Some e))
      → OwnsBlocks (applied w c txn script index x d)
  applied_owns w txn script index x d sets a old i k e low = go (touches d i) refl e
    where
      from_free : (g : Node Value) → c.memory i ≡ Some g → IsFree c (atom_in c.trace txn.0) i → (h : Node Value)
          × (c.under.cells i ≡ Some h)
      from_free g is (inl none) = (g, sym (sets.clean i none) ∙ is)
      from_free g is (inr own) = owns i (atom_in c.trace txn.0) own low

      go : (t : Bool) → touches d i ≡ t → cond t (Some (atom_in c.trace txn.0)) (c.owner i) ≡ Some k
          → (h : Node Value)
          × (c.under.cells i ≡ Some h)
      go false at own = owns i k own low
      go true at own = let (g, was) = old i low at in from_free g (a.does.meets.has_old i g was) (a.own i at)

  pub fused_owns : (a b : AtomNo) (node : NodeId) → OwnsBlocks (fused c a b node)
  fused_owns a b node i k e low = go (c.owner i) refl e
    where
      go : (o : Option ℕ) → c.owner i ≡ o → option_map (renamed_atom a.0 b.0) o ≡ Some k → (h : Node Value)
          × (c.under.cells i ≡ Some h)
      go None at own = absurd (no_owner k own)
      go (Some j) at own = owns i j at low

  pub committed_owns : (a : AtomNo) (clock : ℕ) → OwnsBlocks (committed c a clock)
  committed_owns a clock = owns

pub still_owned : (a k : ℕ) (o : Option ℕ) → without a o ≡ Some k → (o ≡ Some k) × (o ≡ Some a → ⊥)
still_owned a k None e = absurd (no_owner k e)
still_owned a k (Some n) e = go (eqb n a) refl e
  where
    go : (t : Bool) → eqb n a ≡ t → cond t None (Some n) ≡ Some k → (Some n ≡ Some k) × (Some n ≡ Some a → ⊥)
    go true is f = absurd (no_owner k f)
    go false is f = (f, λ g. let same : n ≡ a = cc g in absurd (cc (sym is ∙ eq-eqb n a same)))

module _ (n : ℕ) (work : Flushing) (m : Content) (r : IsAtRest n work m) (c : Session)
    (fl : AreFlushed c work r.content.store) (owns : OwnsBlocks c) where
  pub sealed_owns : OwnsBlocks (sealed_to c work (with_flushed c work r.content.store) (with_flushed c work c.memory))
  sealed_owns i k e low =
      let (own, other) = still_owned work.atom.0 k (c.owner i) e in
      let (d, is) = owns i k own low in
      ⊎_elim
      (λ (mine, pick). absurd (other mine))
      (λ (out, pick). (d, not_owned n work m r c fl i d (sym (fl.alone i) ∙ is) out pick))
      (picks_cases work.atom.0 (c.owner i))
