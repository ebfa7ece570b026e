-- What a check of a tree answers.
use Rattle.std.proofs.Common.{◌≡◌, ℕ, ◌≤◌, List, [], ◌++◌, refl, sym, ap, subst, ◌∙◌, arith}
use Rattle.std.specs.Prelude.{None, Some, Result, Ok, Err}
use Rattle.std.specs.Result.{IsErrAnd}
use Rattle.std.proofs.lemmas.List.{append-nil}
use Rattle.r4_base.proofs.Logs.{not_refused}
use Rattle.r4_base.specs.Chain.{Settles}
use Rattle.r4_base.specs.Image.{Image, IsLawful}
use Rattle.r4_base.specs.Volume.{HasLayout}
use Rattle.r4_base.specs.declared.superblock.LayoutFault.{LayoutFault}
use Rattle.r4_base.specs.declared.superblock.Super40.{Super40}
use Rattle.r4_outside.specs.Device.{State, Goes as DeviceGoes, TellsReads}
use Rattle.r4_outside.specs.Sink.{SinkState, AppendsPart}
use Rattle.r4_replay.specs.Homes.{TellsHomes, home_in}
use Rattle.r4_replay.specs.Replay.{Faulted}
use Rattle.r4_replay.specs.declared.fault.ReplayFault.{ReplayFault}
use Rattle.r4_replay.specs.declared.fault.ReplayFault.TheVariants.{Log as LogRefused, Device as DeviceFailed, Size as BadSize, Memory as NoRoomForLog}
use Rattle.r4_replay.specs.declared.log.Log.{Log}
use Rattle.r4_open.proofs.Openings.{layout_is}
use Rattle.r4_open.specs.Opening.{Opens, bitmaps_misfit, layout_misfit, misfit}
use Rattle.r4_open.specs.declared.opened.Unopened.{Unopened}
use Rattle.r4_open.specs.declared.opened.Unopened.TheVariants.{Failed, Layout, Memory as NoBuffer}
use Rattle.r4_list.specs.Lists.{IsListFault, IsOpened, IsUnrefused, log_fault_of, open_fault_of}
use Rattle.r4_list.specs.Printing.{Prints}
use Rattle.r4_list.specs.declared.fault.ListFault.{ListFault}
use Rattle.r4_list.specs.declared.fault.ListFault.TheVariants.{Device as NoDevice}
use Rattle.r4_list.proofs.Listings.{image_refused, log_answer, open_answer}
use Rattle.r4_list.proofs.Stages.{prints_same}
use Rattle.r4_check_objects.specs.Faults.{fault_lines}
use Rattle.r4_check.specs.Looking.{IsStopCause, IsTally, Steps}
use Rattle.r4_check.specs.Tree.{Checks, IsNoNode, PrintsWalk, fault_of_stop}
use Rattle.r4_check.specs.Walk.{Walk, nothing_met, check_of}
use Rattle.r4_check.specs.declared.stop.Stop.{Stop}
use Rattle.r4_check.specs.declared.stop.Stop.TheVariants.{Device, Sink, Memory}
use Rattle.r4_check.specs.declared.tally.Tally.{Tally}
use Rattle.r4_check.specs.declared.tree.Verdict.{Verdict}

-- ---- a walk from nothing

at_first : (before : List ℕ) (k : SinkState) → k.written ≡ Some before → k.written ≡ Some (before ++ [])
at_first before k is = is ∙ ap (λ (l : List ℕ). Some l) (sym (append-nil before))

module _ {S : Type 0} (blocks : ℕ) (w : Walk) (k l : SinkState) (t u : Tally) (step : Walk → Walk) (is : step nothing_met ≡ w) (none : IsTally blocks nothing_met t) where
  pub walk_printed : (x : S) (v : Verdict) → Steps blocks k t (Ok x) l u step → v.objects ≡ u.gathered.objects → v.faults ≡ u.faults → PrintsWalk {E = Stop} w k (Ok v) l
  walk_printed x v steps objects faults =
      let tally = subst (λ (z : Walk). IsTally blocks z u) is (steps.tally nothing_met none) in
      record {
        verdict = record { objects = objects ∙ tally.gathered.objects; faults = faults ∙ tally.faults };
        text = record {
          whole = λ before at. steps.whole nothing_met before none (at_first before k at) ∙ ap (λ (z : Walk). Some (before ++ fault_lines z.faults)) is;
          part = λ before at. tt;
        };
      }

  pub walk_stopped : (e : Stop) (r : Result Verdict Stop) → IsErrAnd r (λ y. y ≡ e) → Steps {T = S} blocks k t (Err e) l u step → PrintsWalk w k r l
  walk_stopped e (Ok v) never steps = absurd never
  walk_stopped e (Err y) same steps = record {
    verdict = tt;
    text = record {
      whole = λ before at. tt;
      part = λ before at. let P : Walk → Type 0 = λ z. AppendsPart (fault_lines z.faults) before l.written in subst P is (steps.part nothing_met before none (at_first before k at));
    };
  }

pub tally_of : (a b : ℕ) (t : Tally) → a ≡ b → IsTally a nothing_met t → IsTally b nothing_met t
tally_of a b t is h = subst (λ (n : ℕ). IsTally n nothing_met t) is h

-- the same superblock
pub same_walk : {E : Type 0} (s s' : Super40) (image : Image) (k l : SinkState) (r : Result Verdict E) → s ≡ s' → PrintsWalk (check_of s' image) k r l → PrintsWalk (check_of s image) k r l
same_walk {E} s s' image k l r is p = subst (λ (x : Super40). PrintsWalk {E = E} (check_of x image) k r l) (sym is) p

-- the same verdict, or another error
pub prints_ok : (w : Walk) (k l : SinkState) (v : Verdict) → PrintsWalk {E = Stop} w k (Ok v) l → PrintsWalk {E = ListFault} w k (Ok v) l
prints_ok w k l v p = record { verdict = p.verdict; text = record { whole = p.text.whole; part = λ before at. tt } }

pub prints_err : (w : Walk) (k l : SinkState) (e : Stop) (x : ListFault) → PrintsWalk {E = Stop} w k (Err e) l → PrintsWalk {E = ListFault} w k (Err x) l
prints_err w k l e x p = record { verdict = tt; text = record { whole = λ before at. tt; part = p.text.part } }

-- nothing was printed
nothing_printed : (w : Walk) (k : SinkState) (x : ListFault) → PrintsWalk {E = ListFault} w k (Err x) k
nothing_printed w k x = record {
  verdict = tt;
  text = record { whole = λ before at. tt; part = λ before at. record { part = []; rest = fault_lines w.faults; splits = refl; written = at_first before k at } };
}

-- ---- where the log is refused

no_node_log : (e : ReplayFault) → IsNoNode (log_fault_of e)
no_node_log (LogRefused block fault) = tt
no_node_log (DeviceFailed clock faults) = tt
no_node_log (BadSize blocks) = tt
no_node_log NoRoomForLog = tt

unrefused_log : (first now : State) (e : ReplayFault) (image : Image) → Faulted first e now → TellsReads first → Settles first.blocks first.seen image → IsUnrefused (log_fault_of e)
unrefused_log first now (LogRefused block fault) image f told settles = absurd (not_refused _ _ _ _ settles.has (f.2 told))
unrefused_log first now (DeviceFailed clock faults) image f told settles = tt
unrefused_log first now (BadSize blocks) image f told settles = tt
unrefused_log first now NoRoomForLog image f told settles = tt

pub log_checks : (first now : State) (k : SinkState) (e : ReplayFault) (x : ListFault) → x ≡ log_fault_of e → Faulted first e now → Checks first k (Err x) now k
log_checks first now k e x is f = record {
  printed = prints_same k;
  tree = λ image s told settles layout. (nothing_printed (check_of s image) k x, subst IsUnrefused (sym is) (unrefused_log first now e image f told settles));
  ok = tt;
  err = (subst (λ (y : ListFault). IsListFault first k y now k) (sym is) (log_answer first now k e f), subst IsNoNode (sym is) (no_node_log e));
}

pub device_checks : (first now : State) (k : SinkState) (x : ListFault) → x ≡ NoDevice now.clock now.faults → IsListFault first k (NoDevice now.clock now.faults) now k → Checks first k (Err x) now k
device_checks first now k x is f = record {
  printed = prints_same k;
  tree = λ image s told settles layout. (nothing_printed (check_of s image) k x, subst IsUnrefused (sym is) tt);
  ok = tt;
  err = (subst (λ (y : ListFault). IsListFault first k y now k) (sym is) f, subst IsNoNode (sym is) tt);
}

-- ---- where the image is not opened

layout_fits : (n : ℕ) (image : Image) (s : Super40) → HasLayout n image s → layout_misfit n image ≡ None
layout_fits n image s l = layout_is n n image l.master.0 s refl l.master.1 l.format ∙ ap bitmaps_misfit l.bitmaps

no_misfit : (b : ℕ) (f : LayoutFault) → misfit b f ≡ None → ⊥
no_misfit b f h = cc

no_node_open : (e : Unopened) (clock faults : ℕ) → IsNoNode (open_fault_of e clock faults)
no_node_open Failed clock faults = tt
no_node_open (Layout b f) clock faults = tt
no_node_open NoBuffer clock faults = tt

module _ (first d : State) (log : Log) (goes : DeviceGoes first d) (seen : d.seen ≡ first.seen) (lawful : IsLawful first.blocks) (tells : TellsReads first → TellsHomes first log) where
  unrefused_open : (now : State) (e : Unopened) (image : Image) (s : Super40) → Opens d (home_in log.homes) (Err e) now → TellsReads first → Settles first.blocks first.seen image → HasLayout first.blocks image s → IsUnrefused (open_fault_of e now.clock now.faults)
  unrefused_open now Failed image s opens told settles layout = tt
  unrefused_open now (Layout b f) image s opens told settles layout =
      absurd (no_misfit b.0 f (sym (image_refused first d log goes seen lawful tells b f now opens told image settles) ∙ layout_fits first.blocks image s layout))
  unrefused_open now NoBuffer image s opens told settles layout = tt

  pub open_checks : (now : State) (k : SinkState) (e : Unopened) (x : ListFault) → x ≡ open_fault_of e now.clock now.faults → Opens d (home_in log.homes) (Err e) now → Checks first k (Err x) now k
  open_checks now k e x is opens = record {
    printed = prints_same k;
    tree = λ image s told settles layout. (nothing_printed (check_of s image) k x, subst IsUnrefused (sym is) (unrefused_open now e image s opens told settles layout));
    ok = tt;
    err = (subst (λ (y : ListFault). IsListFault first k y now k) (sym is) (open_answer first d log goes seen lawful tells now k e opens), subst IsNoNode (sym is) (no_node_open e now.clock now.faults));
  }

-- ---- where the walk stops

no_node_stop : (e : Stop) (clock faults sink : ℕ) → IsNoNode (fault_of_stop e clock faults sink)
no_node_stop Device clock faults sink = tt
no_node_stop Sink clock faults sink = tt
no_node_stop Memory clock faults sink = tt

unrefused_stop : (e : Stop) (clock faults sink : ℕ) → IsUnrefused (fault_of_stop e clock faults sink)
unrefused_stop Device clock faults sink = tt
unrefused_stop Sink clock faults sink = tt
unrefused_stop Memory clock faults sink = tt

stop_answer : (first at now : State) (k l : SinkState) (e : Stop) → first.faults ≤ at.faults → IsOpened first → IsStopCause at k e now l → IsListFault first k (fault_of_stop e now.clock now.faults l.faults) now l
stop_answer first at now k l Device low is c = (omega (arith, low, c), refl, refl)
stop_answer first at now k l Sink low is c = (is, c, refl)
stop_answer first at now k l Memory low is c = is.lawful

pub stop_checks : (first at now : State) (k l : SinkState) (e : Stop) (x : ListFault) → x ≡ fault_of_stop e now.clock now.faults l.faults → first.faults ≤ at.faults → IsOpened first → Prints k l → IsStopCause at k e now l
    → ((image : Image) (s : Super40) → TellsReads first → Settles first.blocks first.seen image → HasLayout first.blocks image s → PrintsWalk {E = Stop} (check_of s image) k (Err e) l) → Checks first k (Err x) now l
stop_checks first at now k l e x is low opened prints cause walks = record {
  printed = prints;
  tree = λ image s told settles layout. (prints_err (check_of s image) k l e x (walks image s told settles layout), subst IsUnrefused (sym is) (unrefused_stop e now.clock now.faults l.faults));
  ok = tt;
  err = (subst (λ (y : ListFault). IsListFault first k y now l) (sym is) (stop_answer first at now k l e low opened cause), subst IsNoNode (sym is) (no_node_stop e now.clock now.faults l.faults));
}

pub walk_checks : (first now : State) (k l : SinkState) (v : Verdict) → IsOpened first → Prints k l
    → ((image : Image) (s : Super40) → TellsReads first → Settles first.blocks first.seen image → HasLayout first.blocks image s → PrintsWalk {E = Stop} (check_of s image) k (Ok v) l) → Checks first k (Ok v) now l
walk_checks first now k l v opened prints walks = record {
  printed = prints;
  tree = λ image s told settles layout. (prints_ok (check_of s image) k l v (walks image s told settles layout), tt);
  ok = opened;
  err = tt;
}
