-- A pool that keeps all cells goes on, and what is known of a command stays.
use Rattle.std.proofs.Common.{inl, inr, ℕ, Bool, refl, ◌∙◌}
use Rattle.std.specs.Prelude.{Option, None, Some}
use Rattle.r4_extent_commands.specs.r4_cell.declared.change.Root.{Root}
use Rattle.r4_content.specs.Edited.{Intervals}
use Rattle.r4_content.specs.Held.{pairs_of}
use Rattle.r4_content.specs.declared.command.Command.{Command}
use Rattle.r4_content.specs.declared.edits.Edits.{Edits as HeldEdits}
use Rattle.r4_content.specs.declared.seen.Seen.{Seen}
use Rattle.r4_extent_reaching.specs.r4_touching.r4_gather.Asking.{StaysOver}
use Rattle.r4_outside.specs.Device.{State}
use Rattle.r4_extent_reaching.specs.r4_touching.r4_reach.Touched.{Body}
use Rattle.r4_extent_reaching.specs.r4_reaching.Answers.{IsAllSeen}
use Rattle.r4_extent_reaching.proofs.r4_reaching.Standing.{found_on}
use Rattle.r4_extent_asks.specs.r4_search.Pool.{LeavesDevice, PoolState}
use Rattle.r4_extent_asks.proofs.r4_search.Walks.{goes_both, goes_same, leaves_both, leaves_same}
use Rattle.r4_extent_reaching.proofs.r4_touching.r4_seeing.Staying.{goes_stay}
use Rattle.r4_extent_reaching.specs.r4_touching.Touching.{Touches}
use Rattle.r4_extent_reach.specs.Known.{HasBody, HasEdits}
use Rattle.r4_extent_reach.specs.Meeting.{CanMeet, GoesOn}
use Rattle.r4_extent_reach.specs.Standing.{IsTold}

pub on_same : (d : State) (root : Root) (p : PoolState) → GoesOn d d root p p
on_same d root p = record { device = leaves_same d; goes = goes_same p; hung = λ h. h }

pub on_both : (a b c : State) (root : Root) (o p q : PoolState) → GoesOn a b root o p → GoesOn b c root p q
    → GoesOn a c root o q
on_both a b c root o p q f g = record {
  device = leaves_both a b c f.device g.device;
  goes = goes_both o p q f.goes g.goes;
  hung = λ h. g.hung (f.hung h);
}

pub on_touch : (d e : State) (root : Root) (keys : ℕ → Bool) (p q : PoolState) → LeavesDevice d e → Touches root keys p q
    → GoesOn d e root p q
on_touch d e root keys p q device t = record { device = device; goes = t.goes; hung = t.hung }

pub on_stays : (d e : State) (root : Root) (p q : PoolState) → GoesOn d e root p q
    → StaysOver d e (record { root = root; pool = p }) (record { root = root; pool = q })
on_stays d e root p q g = goes_stay d e p q root root refl g.device g.goes

-- ---- what is known

pub meets_on : (d e : State) (root : Root) (p q : PoolState) → GoesOn d e root p q → CanMeet p root → CanMeet q root
meets_on d e root p q g h = record {
  height = h.height;
  begins = g.goes.known _ h.begins;
  keeps = λ level. g.goes.keeps level ∙ h.keeps level;
  hung = g.hung h.hung;
}

pub seen_meets : (p : PoolState) (root : Root) (c : Command) (s : Seen) (known questions : Intervals)
    → IsAllSeen p root c s known questions → CanMeet p root
seen_meets p root c s known questions h =
    record { height = h.height; begins = h.begins; keeps = h.keeps; hung = h.hung }

module _ (d f : State) (root : Root) (p q : PoolState) (g : GoesOn d f root p q) (c : Command) (s : Seen)
    (known questions : Intervals) where
  pub seen_on : IsAllSeen p root c s known questions → IsAllSeen q root c s known questions
  seen_on h = record {
    height = h.height;
    begins = g.goes.known _ h.begins;
    keeps = λ level. g.goes.keeps level ∙ h.keeps level;
    hung = g.hung h.hung;
    found = found_on p q known (pairs_of s) g.goes h.found;
    questions_are = h.questions_are;
    looked = h.looked;
  }

  pub told_on : (b : Option Body) → IsTold p b → IsTold q b
  told_on None h = tt
  told_on (Some b) (inl none) = inl none
  told_on (Some b) (inr (o, goes, told)) = inr (o, goes_both o p q goes g.goes, told)

  pub edits_on : (e : HeldEdits) → HasEdits p root c s known questions e → HasEdits q root c s known questions e
  edits_on e h = record {
    all_seen = seen_on h.all_seen;
    edits = h.edits;
    suits = h.suits;
    keeps = h.keeps;
    lies = h.lies;
    keys = h.keys;
    asks = h.asks;
  }

  pub body_still : (e : HeldEdits) (b : Option Body) → HasBody p root c s known questions e b
      → HasBody q root c s known questions e b
  body_still e b h = record {
    all_seen = seen_on h.all_seen;
    edits = h.edits;
    body = h.body;
    told = told_on b h.told;
    sizes = h.sizes;
    asks = h.asks;
    lawful = h.lawful;
  }
