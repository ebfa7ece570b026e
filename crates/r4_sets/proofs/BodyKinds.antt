-- In which kind of cells a body stands after a change.
use Rattle.std.specs.Prelude.{◌≡◌, ◌↔◌, ◌⊎◌, ℕ, ◌*◌, ◌^◌, ◌<◌, ◌≤◌, true, false}
use Rattle.std.proofs.Common.{arith, inl, inr}
use Rattle.r4_base.specs.Tree.{Store}
use Rattle.r4_base.specs.Value.{Content, Value}
use Rattle.r4_base.specs.Volume.{HasExtents, HasFiles, HasStat, HasTails, InExtent, InTail, blocks_for, byte_rank}
use Rattle.r4_base.specs.Volume.{is_directory}
use Rattle.r4_base.specs.declared.items.Attr.{Attr}
use Rattle.r4_base.specs.declared.items.Target.{Target}
use Rattle.r4_content.specs.Edited.{Intervals, is_in}
use Rattle.r4_sets.specs.Change.{ExtentsThere, NoneElse, SameElse, TailsThere}
use Rattle.r4_sets.specs.Units.{SameUnit}
use Rattle.r4_sets.proofs.Bodies.{same_extent, same_tail}
use Rattle.r4_sets.proofs.Carried.{true_or_false}
use Rattle.r4_sets.proofs.Cells.{back_iff, then_iff}

module _ (t u : Store Value) (changed : Intervals) (o : Target)
    (stays : (k : ℕ) → is_in changed k ≡ false → SameUnit t u k) where
  tail_as : (x : ℕ) → is_in changed (byte_rank o x) ≡ false → InTail u (byte_rank o x) ↔ InTail t (byte_rank o x)
  tail_as x off = back_iff (same_tail t u (byte_rank o x) (stays (byte_rank o x) off))

  extent_as : (x : ℕ) → is_in changed (byte_rank o x) ≡ false → InExtent u (byte_rank o x) ↔ InExtent t (byte_rank o x)
  extent_as x off = back_iff (same_extent t u (byte_rank o x) (stays (byte_rank o x) off))

  -- by the key, changed or not
  by_key : {A : Type 0} (x : ℕ) → (is_in changed (byte_rank o x) ≡ true → A)
      → (is_in changed (byte_rank o x) ≡ false → A) → A
  by_key x on off = elim (true_or_false (is_in changed (byte_rank o x))) [ inl e ↦ on e | inr e ↦ off e ]

  pub tails_after : (old new : ℕ) → HasTails t o old → TailsThere u changed o new → SameElse changed o old new
      → HasTails u o new
  tails_after old new h there else = record {
    offsets = λ x lt. by_key x (λ on. (there x lt on).0)
        (λ off. then_iff (tail_as x off) (then_iff (h.offsets x lt) (else x lt off)));
    no_extents = λ x lt. by_key x (λ on. (there x lt on).1) (λ off e. h.no_extents x lt ((extent_as x off).0 e));
  }

  pub extents_after : (old new : ℕ) → HasExtents t o old → ExtentsThere u changed o new
      → SameElse changed o (4096 * blocks_for old) (4096 * blocks_for new) → HasExtents u o new
  extents_after old new h there else = record {
    offsets = λ x lt. by_key x (λ on. (there x lt on).0)
        (λ off. then_iff (extent_as x off) (then_iff (h.offsets x lt) (else x lt off)));
    no_tails = λ x lt. by_key x (λ on. (there x lt on).1) (λ off e. h.no_tails x lt ((tail_as x off).0 e));
  }

  past : (x end : ℕ) → end ≤ x → x < end → ⊥
  past x end le lt = absurd (omega (arith, le, lt))

  pub tails_anew : (new : ℕ) → TailsThere u changed o new → NoneElse t changed o new → HasTails u o new
  tails_anew new there none = record {
    offsets = λ x lt. by_key x (λ on. (there x lt on).0)
        (λ off. let (a, b, c) = none x lt off in
        (λ e. absurd (a ((tail_as x off).0 e)), λ below. absurd (past x new c below)));
    no_extents = λ x lt. by_key x (λ on. (there x lt on).1) (λ off e. (none x lt off).1 ((extent_as x off).0 e));
  }

  pub extents_anew : (new : ℕ) → ExtentsThere u changed o new → NoneElse t changed o (4096 * blocks_for new)
      → HasExtents u o new
  extents_anew new there none = record {
    offsets = λ x lt. by_key x (λ on. (there x lt on).0)
        (λ off. let (a, b, c) = none x lt off in
        (λ e. absurd (b ((extent_as x off).0 e)), λ below. absurd (past x (4096 * blocks_for new) c below)));
    no_tails = λ x lt. by_key x (λ on. (there x lt on).1) (λ off e. (none x lt off).0 ((tail_as x off).0 e));
  }

-- one unit shows how a body stands
module _ (t : Store Value) (raw : Content) (o : Target) (a : Attr) (f : HasFiles t raw) (stat : HasStat raw o a)
    (file : is_directory a ≡ false) (x : ℕ) (lt : x < 2 ^ 64) where
  pub tail_shows : InTail t (byte_rank o x) → HasTails t o a.size
  tail_shows h = of (f.bodies o a stat file).1
    where
      of : HasTails t o a.size ⊎ HasExtents t o a.size → HasTails t o a.size
      of (inl s) = s
      of (inr s) = absurd (s.no_tails x lt h)

  pub extent_shows : InExtent t (byte_rank o x) → HasExtents t o a.size
  extent_shows h = of (f.bodies o a stat file).1
    where
      of : HasTails t o a.size ⊎ HasExtents t o a.size → HasExtents t o a.size
      of (inl s) = absurd (s.no_extents x lt h)
      of (inr s) = s
