-- The answer on what a command reaches, from the marks of the cells that were met.
use Rattle.std.proofs.Common.{◌≡◌, ◌+◌, ◌<◌, ◌≤◌, ℕ, Bool, false, true, List, length, map, refl, sym, ap, subst, ◌∙◌}
use Rattle.std.specs.Prelude.{◌↔◌, ◌||◌, IsSome, Option, None, Some}
use Rattle.std.specs.Arc.{arc_value}
use Rattle.std.specs.Option.{option_map}
use Rattle.std.proofs.lemmas.List.{length-map}
use Rattle.std.proofs.lemmas.Option.{none-some, same_Some}
use Rattle.r4_base.specs.Key.{least, top}
use Rattle.r4_spared.specs.r4_build.Building.{HaveLawfulKeys}
use Rattle.r4_cell.specs.Patch.{by_name, root_of_pair}
use Rattle.r4_cell.specs.Seen.{CellSeen}
use Rattle.r4_cell.specs.declared.change.Root.{Root}
use Rattle.r4_content.specs.Edited.{Edits, Intervals, Pairs, changed, is_in}
use Rattle.r4_content.specs.Held.{edits_of, pairs_of}
use Rattle.r4_content.specs.declared.command.Command.{Command}
use Rattle.r4_content.specs.declared.edits.Edits.{Edits as HeldEdits}
use Rattle.r4_content.specs.declared.edits.Interval.{Interval}
use Rattle.r4_content.specs.declared.seen.Seen.{Seen}
use Rattle.r4_content.proofs.EditLaws.{in_append}
use Rattle.r4_bodies.specs.r4_leaf_demands.Leaves.{IsInLeaves, leaf_demand}
use Rattle.r4_judging.specs.r4_marking.Marks.{AreMarks, AreMarksOf, ask_seen}
use Rattle.r4_judging.specs.r4_marking.declared.demands.Asking.{Asking}
use Rattle.r4_judging.specs.r4_marking.declared.marking.Marks.{Marks}
use Rattle.r4_touching.specs.r4_reach.Leaves.{LieInLeaves, more_in, most_of}
use Rattle.r4_touching.specs.r4_reach.Needs.{demand_on}
use Rattle.r4_touching.specs.r4_reach.Touched.{body_on, edits_on, kind_reads, reads_on}
use Rattle.r4_search.specs.Pool.{PoolState}
use Rattle.r4_touching.specs.r4_seeing.Looking.{met_cells}
use Rattle.r4_reaching.specs.Answers.{AreReadKeys, IsFrom, IsReach, IsTouched, asked_by, has_to_lie}
use Rattle.r4_reaching.specs.Gathering.{IsPartMet}
use Rattle.r4_reaching.specs.declared.reached.Reach.{Reach}
use Rattle.r4_reaching.proofs.Found.{found_inside, leaves_listed}
use Rattle.r4_reaching.proofs.Made.{chosen_once, chosen_rise, has, marks as all_marks, more_same, rise_same}
use Rattle.r4_reaching.proofs.Made.{root_asks, sees}

both_some : (root : Root) (o : Option Asking) → IsSome (option_map (λ a. root) o) ↔ IsSome (option_map ask_seen o)
both_some root None = ((λ some. some), (λ some. some))
both_some root (Some a) = ((λ some. refl), (λ some. refl))

just_root : (root : Root) (o : Option Asking) (x : Root) → option_map (λ a. root) o ≡ Some x → x ≡ root
just_root root None x is = absurd (none-some x is)
just_root root (Some a) x is = sym (same_Some root x is)

module _ (p : PoolState) (root : Root) (c : Command) (seen : Seen) (known questions : Intervals) (e : HeldEdits)
    (read : Option Interval) (h : IsTouched p root c seen known questions e read) (met : List CellSeen)
    (at : IsPartMet p root met) (held : Intervals)
    (reads_are : AreReadKeys held questions read)
    (m : Marks) (marked : AreMarksOf (leaf_demand (edits_of e) held) met (root_of_pair root) m)
    (more : m.more ≡ more_in (leaf_demand (edits_of e) held) (by_name met) (map (λ x. arc_value x) m.writes.items))
    (r : Reach) (from : IsFrom root seen met m r) where
  abbrev s : Pairs
  s = pairs_of seen

  -- of the cells of the answer
  its_met : IsPartMet p root r.met
  its_met = subst (IsPartMet p root) (sym from.met_are) at

  its_marks : AreMarks (leaf_demand (edits_on c s) held) r.met (root_of_pair root) r.reads r.writes
      (option_map ask_seen m.rises)
  its_marks =
      subst (λ (f : Edits). AreMarks (leaf_demand f held) r.met (root_of_pair root) r.reads r.writes
      (option_map ask_seen m.rises)) h.planned.edits
      (subst (λ (xs : List CellSeen). AreMarks (leaf_demand (edits_of e) held) xs (root_of_pair root) r.reads r.writes
      (option_map ask_seen m.rises)) (sym from.met_are)
      (subst (λ (xs : List CellSeen). AreMarks (leaf_demand (edits_of e) held) met (root_of_pair root) xs r.writes
      (option_map ask_seen m.rises)) (sym from.reads)
      (subst (λ (xs : List CellSeen). AreMarks (leaf_demand (edits_of e) held) met (root_of_pair root)
      (map (λ x. arc_value x) m.reads.items) xs (option_map ask_seen m.rises)) (sym from.writes) marked)))

  looked : (k : ℕ) → is_in (asked_by c s) k ≡ true → least ≤ k → k < top → is_in known k ≡ true
  looked k on low high = h.planned.all_seen.looked k
      (ap (λ (qs : Intervals). is_in qs k) h.planned.all_seen.questions_are ∙ on) low high

  lie : LieInLeaves (by_name r.met) (has_to_lie c s)
  lie = leaves_listed p r.met (has_to_lie c s) its_met.store h.held

  same_reads : (k : ℕ) → least ≤ k → k < top → is_in held k ≡ is_in (reads_on c s false) k
  same_reads k low high =
      reads_are k low high
      ∙ ((λ i. is_in (h.planned.all_seen.questions_are i) k || is_in (h.planned.read_is i) k)
      ∙ sym (in_append (asked_by c s) (kind_reads (body_on c s false)) k))

  made_marks : AreMarks (demand_on c s false) r.met (root_of_pair root) r.reads r.writes (option_map ask_seen m.rises)
  made_marks = all_marks p root c s known r.met its_met h.planned.all_seen.found looked h.planned.body lie h.planned.own
      r.reads r.writes held same_reads (option_map ask_seen m.rises) its_marks

  most_is : r.most ≡ most_of (demand_on c s false) (by_name r.met) (root_of_pair root) r.writes
  most_is =
      let count : length m.writes.items ≡ length r.writes =
      sym (ap length from.writes ∙ length-map m.writes.items (λ x. arc_value x)) in
      let of_cells : m.more ≡ more_in (leaf_demand (edits_on c s) held) (by_name r.met) r.writes =
      more ∙ (λ i. more_in (leaf_demand (h.planned.edits i) held) (by_name (sym from.met_are i)) (sym from.writes i)) in
      let of_all : m.more ≡ more_in (demand_on c s false) (by_name r.met) r.writes =
      of_cells ∙ more_same p root c s known r.met its_met h.planned.all_seen.found looked h.planned.body lie
      h.planned.own r.reads r.writes held same_reads (option_map ask_seen m.rises) its_marks in
      let rise = rise_same p root c s known r.met its_met h.planned.all_seen.found looked h.planned.body lie
      h.planned.own r.reads r.writes held same_reads (option_map ask_seen m.rises) its_marks in
      from.most ∙ (λ i. count i + of_all i + rise i)

  pub is_reach : IsReach p root c r
  is_reach = record {
    answer = record {
      seen = s;
      in_extents = false;
      part = its_met.met.part;
      sees = sees p root c s known r.met its_met h.planned.all_seen.found looked;
      kind = h.planned.kind (by_name r.met) (found_inside (met_cells p) known s h.planned.all_seen.found) lie;
      has = has p root c s known r.met its_met h.planned.all_seen.found looked h.planned.body lie h.planned.own;
      read = made_marks.read.are;
      written = made_marks.written.are;
      root_pair = root_asks p root c s known r.met its_met h.planned.all_seen.found looked h.planned.body lie
          h.planned.own r.reads r.writes held same_reads (option_map ask_seen m.rises) its_marks r.root
          (subst (λ (o : Option Root). IsSome o ↔ IsSome (option_map ask_seen m.rises)) (sym from.root_is)
          (both_some root m.rises));
    };
    seen = sym (ap pairs_of from.seen_is);
    in_leaves = refl;
    body = subst (λ (v : Seen). IsInLeaves (body_on c (pairs_of v) false)) (sym from.seen_is) h.planned.body;
    keys = subst (λ (v : Seen). HaveLawfulKeys (edits_on c (pairs_of v))) (sym from.seen_is) h.planned.keys;
    lie = subst (λ (v : Seen). LieInLeaves (by_name r.met) (is_in (changed (edits_on c (pairs_of v)))))
        (sym from.seen_is) (λ k on low high. lie k (or_second (is_in (kind_reads (body_on c s false)) k)
        (is_in (changed (edits_on c s)) k) on) low high);
    most = subst (λ (v : Seen). r.most ≡ most_of (demand_on c (pairs_of v) false) (by_name r.met)
        (root_of_pair root) r.writes) (sym from.seen_is) most_is;
    rises = λ x is. just_root root m.rises x (sym from.root_is ∙ is);
    all = its_met.all;
    sound = its_met.sound;
    met_order = its_met.order;
    reads_order = chosen_rise r.met r.reads made_marks.read.order its_met.order;
    writes_order = chosen_rise r.met r.writes made_marks.written.order its_met.order;
    reads_once = chosen_once r.met r.reads made_marks.read.order its_met.all.names;
    writes_once = chosen_once r.met r.writes made_marks.written.order its_met.all.names;
  }
    where
      or_second : (a b : Bool) → b ≡ true → (a || b) ≡ true
      or_second true b on = refl
      or_second false b on = on
