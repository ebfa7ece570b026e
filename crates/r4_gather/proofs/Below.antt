-- A step below the place above a path's last name.
use Rattle.std.proofs.Common.{◌≡◌, ◌<◌, ◌-◌, ℕ, List, [], length, get_or, ap, sym, subst, ◌∙◌, arith}
use Rattle.std.proofs.lemmas.List.{get_or_default}
use Rattle.r4_content.specs.Course.{Course}
use Rattle.r4_content.specs.Objects.{Object}
use Rattle.r4_content.specs.Seen.{of_seen}
use Rattle.r4_content.specs.Ways.{Place, step, to_entry}
use Rattle.r4_content.specs.declared.reply.Reply.{Reply}
use Rattle.r4_dir.specs.Coming.{last_of}
use Rattle.r4_gather.specs.Asking.{EndsIn, HasEnded, HasEndedEntry, HasEndedParent, IsAt, IsAtEntry, IsAtParent}
use Rattle.r4_gather.specs.Asking.{IsLater, IsStopped, IsStoppedEntry, IsStoppedParent, Sighting, asking}
use Rattle.r4_gather.proofs.Beginning.{later_both}

module _ (path : List (List ℕ)) (old now new : Sighting) (r : Reply) (p : Place) (h : IsAtParent r path old now p)
    (later : IsLater now new) (n : List ℕ) (is : n ≡ last_of path) where
  to_name : (next : Object → List ℕ → Place → Course) (last : Sighting) → IsLater new last
      → asking (to_entry r path next) (of_seen last.seen) old.asked
      ≡ asking (step n (next p.here (last_of path)) p) (of_seen last.seen) now.asked
  unfolding to_entry
  to_name next last l = h (λ x t. step t (next x.here t) x) last (later_both now new last later l)
      ∙ ap (λ t. asking (step t (next p.here (last_of path)) p) (of_seen last.seen) now.asked) (sym is)

  pub entry_at : (q : Place) → IsAt (λ next. step n next p) now new q → IsAtEntry r path old new p.here q
  entry_at q at next last l = to_name next last l ∙ at (next p.here (last_of path)) last l

  pub entry_ends : HasEnded (λ next. step n next p) now new → HasEndedEntry r path old new
  entry_ends ends next last l = to_name next last l ∙ ends (next p.here (last_of path)) last l

  pub entry_stops : IsStopped (λ next. step n next p) now new → IsStoppedEntry r path old new
  entry_stops stops next last l = subst (λ xs. EndsIn new.asked xs) (sym (to_name next last l))
      (stops (next p.here (last_of path)) last l)

pub entry_ends_above : (path : List (List ℕ)) (old new : Sighting) (r : Reply) → HasEndedParent r path old new
    → HasEndedEntry r path old new
unfolding to_entry
entry_ends_above path old new r h next = h (λ x t. step t (next x.here t) x)

pub entry_stops_above : (path : List (List ℕ)) (old new : Sighting) (r : Reply) → IsStoppedParent r path old new
    → IsStoppedEntry r path old new
unfolding to_entry
entry_stops_above path old new r h next = h (λ x t. step t (next x.here t) x)

pub last_is : (path : List (List ℕ)) (n : List ℕ) → 0 < length path → n ≡ get_or path (length path - 1) n
    → n ≡ last_of path
last_is path n long e = e ∙ get_or_default path (length path - 1) n [] (omega (arith, long))
