-- A run against which nothing stands comes to its end, or there was no memory.
use Rattle.std.proofs.Common.{◌≡◌, ◌⊎◌, inl, inr, ℕ, List, []}
use Rattle.std.proofs.Common.{Option, None, refl, ap, sym, subst, ◌∙◌, arith}
use Rattle.r4_base.proofs.Logs.{not_refused, one_log}
use Rattle.r4_base.proofs.Members.{no_member}
use Rattle.r4_base.proofs.Needed.{replayed_volume}
use Rattle.r4_base.specs.Chain.{Txn, chain_pairs, is_footer}
use Rattle.r4_base.specs.Image.{AgreesOutside, Image, IsImage, put_pairs}
use Rattle.r4_base.specs.Value.{Content}
use Rattle.r4_base.specs.Volume.{HasContent, HasVolume}
use Rattle.r4_base.specs.declared.superblock.LayoutFault.{LayoutFault}
use Rattle.r4_shared.proofs.r4_open.Openings.{layout_is}
use Rattle.r4_shared.specs.r4_open.Opening.{bitmaps_misfit, layout_misfit, misfit}
use Rattle.r4_outside.specs.Device.{Goes, State, TellsReads}
use Rattle.r4_outside.specs.Sink.{SinkState}
use Rattle.r4_outside.specs.Source.{SourceState}
use Rattle.r4_replay.specs.Replay.{PutInPlace}
use Rattle.r4_shared.specs.r4_start.Starting.{IsOpenFault}
use Rattle.r4_shared.specs.r4_start.declared.fault.OpenWhy.{OpenWhy}
use Rattle.r4_shared.specs.r4_start.declared.fault.OpenWhy.TheVariants as why
use Rattle.r4_trace.specs.Job.{Asked}
use Rattle.r4_trace.specs.Text.{trace_text}
use Rattle.r4_trace.specs.declared.entry.Entry.{Entry}
use Rattle.r4_gen.specs.Workload.{workload_of}
use Rattle.r4_summary.specs.Totals.{summary_text}
use Rattle.r4_shared.specs.r4_history.Tables.{asked}
use Rattle.r4_run.specs.Completing.{IsClear, IsUnhindered}
use Rattle.r4_run.specs.Generated.{RunsWorkload}
use Rattle.r4_run.specs.Ending.{TellsWhy}
use Rattle.r4_run.specs.Running.{Ran}
use Rattle.r4_run.specs.Scripts.{Runs}

no_misfit : (b : ℕ) (f : LayoutFault) → misfit b f ≡ None → ⊥
no_misfit b f h = cc

layout_none : (n : ℕ) (image : Image) (m : Content) → HasContent n image m → layout_misfit n image ≡ None
layout_none n image m c =
    layout_is n n image c.layout.master.0 c.super refl c.layout.master.1 c.layout.format ∙ ap bitmaps_misfit c.layout.bitmaps

module _ (d e : State) (goes : Goes d e) (reads : TellsReads d) (m : Content) (v : HasVolume d.blocks d.seen m) where
  -- an image that has a volume is not refused once its log is put in place
  not_misfit : (count : ℕ) → PutInPlace d count e → (block : ℕ) (f : LayoutFault) → layout_misfit e.blocks e.seen ≡ misfit block f → ⊥
  not_misfit count p block f is =
      let whole : IsImage d.blocks e.seen = subst (λ n. IsImage n e.seen) goes.blocks (goes.reads.1 reads) in
      let same : p.chain ≡ v.chain = one_log d.blocks d.seen p.chain v.chain p.log v.log in
      let agrees : AgreesOutside is_footer (put_pairs (chain_pairs v.chain) d.seen) e.seen =
      subst (λ (ch : List Txn). AgreesOutside is_footer (put_pairs (chain_pairs ch) d.seen) e.seen) same p.settled in
      let w : HasVolume d.blocks e.seen m = replayed_volume d.blocks d.seen e.seen m v whole p.equal agrees in
      let empty : w.chain ≡ [] = one_log d.blocks e.seen w.chain [] w.log (record { txns = p.equal; few = omega arith; apart = λ k one keeps. no_member k one }) in
      let c : HasContent d.blocks e.seen m = subst (λ (ch : List Txn). HasContent d.blocks (put_pairs (chain_pairs ch) e.seen) m) empty w.content in
      no_misfit block f (sym is ∙ (ap (λ n. layout_misfit n e.seen) goes.blocks ∙ layout_none d.blocks e.seen m c))

module _ (d : State) (k : SinkState) (code : ℕ) (d' : State) (k' : SinkState) (goes : Goes d d')
    (u : IsClear d d' k k') where
  abbrev Comes : Type 0
  Comes = (code ≡ 0) ⊎ (code ≡ 9)

  unopened : (w : OpenWhy) → IsOpenFault d w d' → TellsWhy w code k k' → Comes
  unopened (why.Log block fault) is tells = absurd (not_refused d.blocks d.seen u.volume.chain _ u.volume.log (is.2 u.reads))
  unopened (why.Image block fault) is tells =
      let ((count, p), misfit_is) = is.1 u.reads in
      absurd (not_misfit d d' goes u.reads u.content u.volume count p block.0 fault misfit_is)
  unopened (why.Device now faults) is tells = absurd (u.device is.0)
  unopened (why.Size blocks) is tells = absurd (let low = u.size in let h = is.1 in elim h [ inl few ↦ omega (arith, low, few) | inr many ↦ omega (arith, low, many) ])
  unopened why.Memory is tells = inr tells.0

  ran_comes : (shown : List Entry → List ℕ) (start : Option Image) (clock : Option ℕ) (job : Asked)
      → Ran shown start clock job d k code d' k' → Comes
  ran_comes shown start clock job r = elim r.ends [
    | inl none ↦ unopened none.why none.is none.tells
    | inr (size, ends) ↦ elim ends.codes [
      | inl zero_code ↦ inl zero_code
      | inr more ↦ elim more [
        | inl five ↦ absurd (u.sink (ends.sink five).1.cause)
        | inr rest ↦ elim rest [
          | inl six ↦ absurd (u.device (ends.device six).1)
          | inr nine ↦ inr nine
        ]
      ]
    ]
  ]

  pub workload_comes : (seed : ℕ) (start : Option Image) (clock : Option ℕ)
      → RunsWorkload seed None start clock d k code d' k' → Comes
  workload_comes seed start clock (inl unmade) = inr unmade.nine
  workload_comes seed start clock (inr ran) = ran_comes (summary_text seed) start clock (asked (workload_of seed)) ran

module _ (start : Option Image) (clock : Option ℕ) (s s' : SourceState) (d : State) (k : SinkState) (code : ℕ)
    (d' : State) (k' : SinkState) (goes : Goes d d') (u : IsUnhindered s s' d d' k k') where
  pub completed : Runs None start clock s s' d k code d' k' → (code ≡ 0) ⊎ (code ≡ 9)
  completed r = elim r.came_to [
    | inl unread ↦ elim unread.told [
      | inl four ↦ absurd (u.source four.1)
      | inr nine ↦ inr nine.0
    ]
    | inr rest ↦ elim rest [
      | inl no_job ↦ absurd (let fault = no_job.is u.text u.told in let spelled = u.spelled in cc)
      | inr run ↦ ran_comes d k code d' k' goes u.clear trace_text start clock (asked run.job) run.ran
    ]
  ]
