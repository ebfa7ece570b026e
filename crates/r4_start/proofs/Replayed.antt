-- A device whose log is put in place, and whose image is opened then: why that may fail, and what a crash leaves.
use Rattle.std.proofs.Common.{◌≡◌, ◌⊎◌, inl, inr, ℕ, ◌<◌, ◌≤◌, refl, sym, ◌∙◌, ap, subst, arith}
use Rattle.std.specs.Prelude.{Err, Ok}
use Rattle.r4_base.specs.Chain.{chain_pairs, committed, flushed, is_footer}
use Rattle.r4_base.specs.Image.{AgreesOutside, Image, IsLawful as IsSize, block_at, put_pairs}
use Rattle.r4_base.specs.Layout.{IsLawfulSuper}
use Rattle.r4_open.specs.Opening.{AreAccepted, IsOpening, Opens, layout_misfit, misfit}
use Rattle.r4_open.specs.declared.opened.Opened.{Opened}
use Rattle.r4_open.specs.declared.opened.Unopened.{Unopened}
use Rattle.r4_open.specs.declared.opened.Unopened.TheVariants as unopened
use Rattle.r4_outside.specs.Device.{Goes, IsQuiet, Rose, State, TellsReads}
use Rattle.r4_outside.proofs.Moments.{goes_both, left_before, quiet_on}
use Rattle.r4_replay.specs.Reading.{Idles}
use Rattle.r4_replay.specs.Replay.{Faulted, PutInPlace, SettlesAlways}
use Rattle.r4_replay.specs.declared.fault.ReplayFault.{ReplayFault}
use Rattle.r4_replay.specs.declared.fault.ReplayFault.TheVariants as replays
use Rattle.r4_start.specs.Starting.{IsFound, IsOpenFault, IsReplayed, fault_of_image, fault_of_log}
use Rattle.r4_start.specs.declared.fault.OpenWhy.TheVariants.{Device}

-- why the log was not put in place
pub log_refused : (old new : State) (fault : ReplayFault) → Faulted old fault new
    → IsOpenFault old (fault_of_log fault) new
log_refused old new (replays.Log block fault) h = h
log_refused old new (replays.Device clock faults) h = h
log_refused old new (replays.Size blocks) h =
    (h.0, subst (λ (n : ℕ). (n < 64) ⊎ (1048576 < n)) h.0 h.1, h.2)
log_refused old new replays.Memory h = (h.0, inl h.1)

-- the replay came to an end, and then the device was only read
module _ (old mid new : State) (count : ℕ) (size : IsSize old.blocks) (goes : Goes old mid)
    (put : TellsReads old → PutInPlace old count mid) (idles : Idles mid new) where
  pub goes_all : Goes old new
  goes_all = goes_both old mid new goes idles.goes

  pub always_all : (IsQuiet old → SettlesAlways old mid) → IsQuiet old → SettlesAlways old new
  always_all always quiet =
      let same = idles.clock in
      record {
        each = λ m image lo hi left.
            (let now : m ≤ mid.clock = omega (arith, hi, same) in
            (always quiet).each m image lo now (left_before mid new m image idles.goes now left));
      }

  pub quiet_all : (IsQuiet old → IsQuiet mid) → IsQuiet old → IsQuiet new
  quiet_all settled quiet = quiet_on mid new idles.goes idles.seen idles.clock (settled quiet)

  pub put_all : TellsReads old → IsReplayed old new
  put_all tells =
      let p = put tells in (
        count,
        record {
          chain = p.chain;
          log = p.log;
          count = p.count;
          settled = subst (λ (i : Image). AgreesOutside is_footer (put_pairs (chain_pairs p.chain) old.seen) i)
              (sym idles.seen) p.settled;
          footer = ap (λ (i : Image). block_at i 20) idles.seen ∙ p.footer;
          equal = subst (λ (i : Image). committed i ≡ flushed i) (sym idles.seen) p.equal;
        },
      )

  pub rose_all : Rose mid.faults new.faults → IsOpenFault old (Device new.clock new.faults) new
  rose_all rose = let before = goes.faults in (omega (arith, before, rose), refl, refl)

  -- the image is read in the state before, and stands in that after
  module _ (from : State) (was : Idles mid from) (read : Idles from new) where
    pub image_refused : (e : Unopened) → Opens from (λ b. b) (Err e) new
        → IsOpenFault old (fault_of_image new.clock new.faults e) new
    image_refused unopened.Failed h =
        let first = goes.faults in
        let then = was.goes.faults in
        (omega (arith, first, then, h), refl, refl)
    image_refused (unopened.Layout b f) h = (
      size,
      λ tells. (
        put_all tells,
        subst (λ (n : ℕ). layout_misfit n new.seen ≡ misfit b.0 f) (sym read.goes.blocks)
            (h (was.goes.reads.1 (goes.reads.1 tells)) new.seen (λ k. ap (λ (i : Image). block_at i k) read.seen)),
      ),
    )
    image_refused unopened.Memory h = (size, inr put_all)

    pub image_found : (o : Opened) → Opens from (λ b. b) (Ok o) new → IsLawfulSuper from.blocks o.super40
        → AreAccepted o.super40 o.bitmaps.items → IsFound old new o
    image_found o h lawful accepted = record {
      size = size;
      super40 = subst (λ (n : ℕ). IsLawfulSuper n o.super40) (sym read.goes.blocks) lawful;
      accepted = accepted;
      replayed = put_all;
      opening = λ tells.
          subst (λ (n : ℕ). IsOpening n new.seen o) (sym read.goes.blocks)
          (h (read.goes.reads.0 tells) new.seen (λ k. ap (λ (i : Image). block_at i k) read.seen));
    }
