-- The edits of a command whose keys lie in leaves, on what was seen in cells that a pool answered.
use Rattle.std.proofs.Common.{◌≡◌, inl, ℕ, ◌^◌, Bool, true, false, List, ◌++◌, refl, sym, ap, subst, ◌∙◌}
use Rattle.std.specs.Prelude.{◌||◌, Option, not}
use Rattle.std.proofs.lemmas.List.{append_cancel_left}
use Rattle.r4_base.specs.Tree.{Store}
use Rattle.r4_base.specs.Value.{Value}
use Rattle.r4_bodies.proofs.Premises.{command_bytes}
use Rattle.r4_bodies.specs.Told.{AreOfTree, intervals_of}
use Rattle.r4_cell.specs.declared.change.Root.{Root}
use Rattle.r4_content.specs.Course.{asked}
use Rattle.r4_spared.specs.r4_build.Building.{HaveLawfulKeys}
use Rattle.r4_content.specs.Edited.{Edits, Intervals, Pairs, changed, is_in}
use Rattle.r4_content.specs.Fields.{HasBytePaths}
use Rattle.r4_content.specs.Held.{edits_of, pairs_of}
use Rattle.r4_content.specs.Meaning.{course, greatest_size}
use Rattle.r4_content.specs.Seen.{of_seen}
use Rattle.r4_content.specs.declared.command.Command.{Command}
use Rattle.r4_content.specs.declared.edits.Edits.{Edits as HeldEdits}
use Rattle.r4_content.specs.declared.edits.Interval.{Interval}
use Rattle.r4_content.specs.declared.seen.Seen.{Seen}
use Rattle.r4_bodies.proofs.r4_leaf_demands.OfCommands.{leaf_edits_of}
use Rattle.r4_bodies.specs.r4_leaf_demands.Leaves.{AreLeafEdits, IsInLeaves}
use Rattle.r4_touching.specs.r4_leaf_edits.Suiting.{SuitLeaves}
use Rattle.r4_touching.specs.r4_reach.Leaves.{LieInLeaves}
use Rattle.r4_touching.specs.r4_reach.Touched.{IsKindIn, body_on, changes_on, edits_on, kind_reads, reads_on}
use Rattle.r4_search.specs.Keeping.{Shared, WereAnswered, keeping_state}
use Rattle.r4_search.specs.Pool.{PoolState}
use Rattle.r4_spared.specs.Spared.{AreObjectsSeen}
use Rattle.r4_spared.specs.r4_suited.Suited.{AreLawfulSeen}
use Rattle.r4_touching.specs.r4_seeing.Looking.{met_cells}
use Rattle.r4_reaching.specs.Answers.{HaveObjectNumbers, IsAllSeen, IsPlanned, TouchesExtent}
use Rattle.r4_reaching.proofs.Found.{found_inside, found_lawful}
use Rattle.r4_reaching.proofs.Numbers.{objects_seen}
use Rattle.r4_reaching.proofs.Touched.{seen_in}

or_first : (a b : Bool) → a ≡ true → (a || b) ≡ true
or_first true b on = refl
or_first false b on = absurd cc

or_next : (a b : Bool) → b ≡ true → (a || b) ≡ true
or_next true b on = refl
or_next false b on = on

-- where the objects that were seen are good, a command changes keys of a tree
abbrev pub ChangesLawfulKeys : Type 0
ChangesLawfulKeys = (c : Command) (s : Pairs) → HasBytePaths c → AreLawfulSeen c s → AreObjectsSeen c s
    → HaveLawfulKeys (edits_on c s)

pub holds : (b : Bool) → not b ≡ false → b ≡ true
holds true e = refl
holds false e = absurd cc

pub holds_not : (b : Bool) → not b ≡ true → b ≡ true → ⊥
holds_not true e on = absurd (let no = e in cc)
holds_not false e on = absurd (let no = on in cc)

module _ (below : PoolState) (all : Bool) (met : List (ℕ × Shared)) (answered : WereAnswered below met) (root : Root)
    (c : Command) (s : Seen) (known questions : Intervals)
    (h : IsAllSeen (keeping_state below all met) root c s known questions) (paths : HasBytePaths c) (e : HeldEdits)
    (is : edits_of e ≡ edits_on c (pairs_of s)) where
  lawful : AreLawfulSeen c (pairs_of s)
  lawful = found_lawful below all met answered known (pairs_of s) h.found c

  pub suits : SuitLeaves (2 ^ 64) (edits_of e)
  suits = subst (λ (x : Edits). SuitLeaves (2 ^ 64) x) (sym is)
      (command_bytes c (pairs_of s) paths h.found.rises lawful)

  pub spreads : (IsInLeaves (body_on c (pairs_of s) false) → ⊥) → TouchesExtent (keeping_state below all met) c
  spreads not = record {
    seen = pairs_of s;
    saw = seen_in (keeping_state below all met) root c s known questions h;
    extent = inl not;
  }

  pub is_planned : ChangesLawfulKeys → HaveObjectNumbers (pairs_of s) → (read : Option Interval)
      → IsInLeaves (body_on c (pairs_of s) false)
      → reads_on c (pairs_of s) false ≡ asked (course greatest_size c) (of_seen (pairs_of s)) ++ intervals_of read
      → changes_on c (pairs_of s) false ≡ changed (edits_of e)
      → ((t : Store Value) → AreOfTree (pairs_of s) → LieInLeaves t (is_in (intervals_of read))
      → LieInLeaves t (is_in (changed (edits_of e))) → IsKindIn t (body_on c (pairs_of s) false))
      → IsPlanned (keeping_state below all met) root c s known questions e read
  is_planned law numbers read leaves reads changes kind = record {
    all_seen = h;
    edits = is;
    body = leaves;
    own = changes ∙ ap changed is;
    read_is = same_read;
    kind = λ t tree lie. kind t tree
        (λ k on low high. lie k (or_first (is_in (kind_reads (body_on c (pairs_of s) false)) k)
        (is_in (changed (edits_on c (pairs_of s))) k) (sym (ap (λ (rs : Intervals). is_in rs k) same_read) ∙ on))
        low high)
        (λ k on low high. lie k (or_next (is_in (kind_reads (body_on c (pairs_of s) false)) k)
        (is_in (changed (edits_on c (pairs_of s))) k) (sym (ap (λ x. is_in (changed x) k) is) ∙ on)) low high);
    leaves = subst AreLeafEdits (sym is) (leaf_edits_of c (pairs_of s) false paths h.found.rises lawful leaves);
    keys = law c (pairs_of s) paths lawful
        (objects_seen c (pairs_of s) (found_inside (met_cells (keeping_state below all met)) known (pairs_of s) h.found)
        numbers);
  }
    where
      same_read : intervals_of read ≡ kind_reads (body_on c (pairs_of s) false)
      same_read = sym (append_cancel_left (asked (course greatest_size c) (of_seen (pairs_of s)))
          (kind_reads (body_on c (pairs_of s) false)) (intervals_of read) reads)
