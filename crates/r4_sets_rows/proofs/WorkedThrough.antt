-- The worked session, step by step.
use Rattle.std.specs.Prelude.{◌≡◌, ℕ}
use Rattle.std.proofs.Common.{arith, inl, inr, refl, ap, ◌∙◌}
use Rattle.r4_base.specs.Volume.{root_attr}
use Rattle.r4_content.specs.Locality.{commands}
use Rattle.r4_content.specs.Meaning.{after}
use Rattle.r4_trace.specs.Folds.{content_of}
use Rattle.r4_trace.specs.Traced.{IsSealed}
use Rattle.r4_trace.specs.declared.entry.Entry.TheVariants.{Begin, Ended}
use Rattle.r4_sets.specs.Change.{Applies}
use Rattle.r4_sets.specs.Session.{Sets, all_done, in_base, in_under}
use Rattle.r4_sets.proofs.Gathered.{committed_sets, fused_sets, sealed_sets, told_sets}
use Rattle.r4_sets_rows.specs.Small.{alone, atom, changing, chmod, node, script, txn}
use Rattle.r4_sets_rows.specs.Worked.{Blocks, first_done, leaf_captured, mode_700, mode_750, mode_770, one_committed}
use Rattle.r4_sets_rows.specs.Worked.{second_done, third_began, two_began, two_fused}
use Rattle.r4_sets_rows.proofs.Modes.{mode_after}
use Rattle.r4_sets_rows.proofs.Ready.{Ready, begun_ready, mode_applies, mode_ready}

module _ (limit : ℕ) (b : Blocks) where
  two_ready : Ready (commands limit) b.twig b.first root_attr (two_began b)
  two_ready =
      let h = begun_ready (commands limit) b.twig b.first in
      record {
        memory = h.memory;
        root = h.root;
        content = h.content;
        sets = told_sets (commands limit) _ (told_sets (commands limit) _ h.sets (Begin (txn 1) (script 1)) tt)
            (Begin (txn 2) (script 2)) tt;
      }

  pub first_applies : Applies (commands limit) (two_began b) 1 (chmod 0o700)
      (changing b.first b.second root_attr mode_700)
  first_applies = mode_applies limit b.twig b.first b.second root_attr 0o700 (two_began b) two_ready refl refl refl
      (txn 1) (λ h. h) (inl refl)

  first_ready : Ready (commands limit) b.twig b.second mode_700 (first_done limit b)
  first_ready = mode_ready limit b.twig b.first b.second root_attr 0o700 (two_began b) two_ready refl refl refl (txn 1)
      (λ h. h) (inl refl) (script 1) 1

  fused_ready : Ready (commands limit) b.twig b.second mode_700 (two_fused limit b)
  fused_ready = record {
    memory = first_ready.memory;
    root = first_ready.root;
    content = first_ready.content;
    sets = fused_sets (commands limit) (first_done limit b) first_ready.sets (atom 1) (atom 2) (node 23) (λ h. h)
        (λ h. h);
  }

  pub second_applies : Applies (commands limit) (two_fused limit b) 2 (chmod 0o750)
      (changing b.second b.third mode_700 mode_750)
  second_applies = mode_applies limit b.twig b.second b.third mode_700 0o750 (two_fused limit b) fused_ready refl refl
      refl (txn 2) (λ h. h) (inr refl)

  second_ready : Ready (commands limit) b.twig b.third mode_750 (second_done limit b)
  second_ready = mode_ready limit b.twig b.second b.third mode_700 0o750 (two_fused limit b) fused_ready refl refl refl
      (txn 2) (λ h. h) (inr refl) (script 2) 1

  third_ready : Ready (commands limit) b.twig b.third mode_750 (third_began limit b)
  third_ready = record {
    memory = second_ready.memory;
    root = second_ready.root;
    content = second_ready.content;
    sets = told_sets (commands limit) _
        (sealed_sets (commands limit) _
        (told_sets (commands limit) _ (told_sets (commands limit) _ second_ready.sets (Ended (txn 1)) tt)
        (Ended (txn 2)) tt) (atom 1)) (Begin (txn 3) (script 3)) tt;
  }

  unsealed : IsSealed (third_began limit b).trace 3 → ⊥
  unsealed (inl e) = absurd (omega (arith, e))
  unsealed (inr h) = h

  pub third_applies : Applies (commands limit) (third_began limit b) 3 (chmod 0o770)
      (changing b.third b.fourth mode_750 mode_770)
  third_applies = mode_applies limit b.twig b.third b.fourth mode_750 0o770 (third_began limit b) third_ready refl refl
      refl (txn 3) unsealed (inl refl)

  captured : Ready (commands limit) b.twig b.fourth mode_770 (leaf_captured limit b)
  captured = mode_ready limit b.twig b.third b.fourth mode_750 0o770 (third_began limit b) third_ready refl refl refl
      (txn 3) unsealed (inl refl) (script 3) 1

  pub captured_sets : Sets (commands limit) (leaf_captured limit b)
  captured_sets = captured.sets

  pub committed_now : (clock : ℕ) → Sets (commands limit) (one_committed limit clock b)
  committed_now clock = committed_sets (commands limit) (leaf_captured limit b) captured.sets (atom 1) clock refl

  -- ---- what stands in each layer

  pub in_memory : all_done (commands limit) (leaf_captured limit b) ≡ alone mode_770
  in_memory = captured.content

  -- the first two commands
  pub both : after limit (chmod 0o750) (after limit (chmod 0o700) (alone root_attr)) ≡ alone mode_750
  both = ap (after limit (chmod 0o750)) (mode_after root_attr limit 0o700) ∙ mode_after mode_700 limit 0o750

  pub in_sealed : content_of (commands limit) (alone root_attr) (in_under (leaf_captured limit b))
      (leaf_captured limit b).trace ≡ alone mode_750
  in_sealed = both

  pub in_committed : content_of (commands limit) (alone root_attr) (in_base (leaf_captured limit b))
      (leaf_captured limit b).trace ≡ alone root_attr
  in_committed = refl

  pub in_committed_later : (clock : ℕ)
      → content_of (commands limit) (alone root_attr) (in_base (one_committed limit clock b))
      (one_committed limit clock b).trace ≡ alone mode_750
  in_committed_later clock = both
