-- What holds once a command's questions were asked over a pool that had met nothing, and of the pool below.
use Rattle.std.proofs.Common.{◌≡◌, ◌⊎◌, inl, inr, ℕ, ◌≤◌, Bool, true, false, List, [], ◌∷◌, ◌++◌, refl, sym, ap, subst, ◌∙◌}
use Rattle.std.specs.Prelude.{◌||◌, IsSome, MatchOption, MatchResult, Option, Some, None, Result, Ok, Err, nat_lt, reverse}
use Rattle.std.specs.Option.{option_or}
use Rattle.std.proofs.lemmas.List.{append-nil, reverse-append, reverse-reverse}
use Rattle.std.proofs.lemmas.List.Elements.{All-weaker}
use Rattle.r4_base.specs.Tree.{Name}
use Rattle.r4_cell.specs.Seen.{CellSeen}
use Rattle.r4_cell.specs.declared.change.Root.{Root}
use Rattle.r4_content.specs.Edited.{Intervals, is_between, is_in}
use Rattle.r4_content.specs.Held.{pairs_of}
use Rattle.r4_content.specs.declared.command.Command.{Command}
use Rattle.r4_content.specs.declared.seen.Seen.{Seen}
use Rattle.r4_content.proofs.EditLaws.{in_append}
use Rattle.r4_touching.specs.r4_gather.Asking.{EndsIn, StaysOver}
use Rattle.r4_touching.proofs.r4_gather.Staying.{stays_both}
use Rattle.r4_outside.specs.Device.{State}
use Rattle.r4_search.specs.Keeping.{Shared, WereAnswered, keeping_state, met_in}
use Rattle.r4_search.specs.Pool.{IsFrom, IsKnown, PoolState}
use Rattle.r4_search.specs.declared.pool.FetchFault.{FetchFault}
use Rattle.r4_search.specs.declared.pool.FetchFault.TheVariants.{Memory}
use Rattle.r4_touching.specs.r4_seeing.Looking.{IsLooking}
use Rattle.r4_touching.specs.r4_seeing.Seeing.{IsSeeing}
use Rattle.r4_reaching.specs.Answers.{IsAllSeen, IsReach, IsSamePool, StopsAsking, StopsReach, StopsWriting, TouchesExtent, asked_by}
use Rattle.r4_reaching.specs.declared.reached.Reach.{Reach}

-- ---- what was asked for, in either order

in_reverse : (rs : Intervals) (k : ℕ) → is_in (reverse rs) k ≡ is_in rs k
in_reverse [] k = refl
in_reverse (r ∷ rs) k =
    ap (λ (qs : Intervals). is_in qs k) (reverse-append (r ∷ []) rs)
    ∙ (in_append (reverse rs) (r ∷ []) k
    ∙ (ap (λ (b : Bool). b || is_in (r ∷ []) k) (in_reverse rs k)
    ∙ swap (is_in rs k) (is_between r.0 r.1 k)))
  where
    swap : (a b : Bool) → (a || (b || false)) ≡ (b || a)
    swap true true = refl
    swap true false = refl
    swap false true = refl
    swap false false = refl

pub is_all_seen : (p : PoolState) (root : Root) (c : Command) (s : Seen) (known asked questions : Intervals)
    (fault : Option FetchFault) → 2 ≤ root.height → IsLooking p root s.parts.items known
    → IsSeeing p known asked fault → fault ≡ None → asked ≡ reverse (asked_by c (pairs_of s)) ++ []
    → reverse questions ≡ asked → IsAllSeen p root c s known questions
is_all_seen p root c s known asked questions fault height looking seeing none was is = record {
  height = height;
  begins = looking.begins;
  keeps = looking.keeps;
  hung = looking.hung;
  found = looking.found;
  questions_are = sym (reverse-reverse questions) ∙ (ap reverse (is ∙ (was ∙ append-nil (reverse (asked_by c (pairs_of s)))))
      ∙ reverse-reverse (asked_by c (pairs_of s)));
  looked = λ k on low high. seeing.looked none k
      (sym (ap (λ (qs : Intervals). is_in qs k) is) ∙ (in_reverse questions k ∙ on)) low high;
}

pub stops_asking : (p : PoolState) (root : Root) (c : Command) (s : Seen) (known asked : Intervals)
    (fault : Option FetchFault) (e : FetchFault) → IsLooking p root s.parts.items known
    → IsSeeing p known asked fault → EndsIn asked (reverse (asked_by c (pairs_of s)) ++ [])
    → (e ≡ Memory) ⊎ (fault ≡ Some e) → StopsAsking p c e
stops_asking p root c s known asked fault e looking seeing ends cause = record {
  seen = pairs_of s;
  known = known;
  found = looking.found;
  questions = asked;
  so_far = subst (λ (qs : Intervals). EndsIn asked qs) (append-nil (reverse (asked_by c (pairs_of s)))) ends;
  stopped = elim cause [ inl memory ↦ inl memory | inr is ↦ inr (seeing.stopped e is) ];
}

-- ---- the pool

-- what can be asked for of the pool below can be asked for of one over it that has met nothing
pub known_fresh : (p : PoolState) (all : Bool) (fresh : List (ℕ × Shared)) → ((i : ℕ) → met_in fresh i ≡ None) → (n : Name)
    → IsKnown p n → IsKnown (keeping_state p all fresh) n
known_fresh p all fresh none n h = record {
  stands = elim h.stands [ inl is ↦ inl (subst IsSome (sym (same n.id)) is) | inr lt ↦ inr lt ];
  named = record {
    cells = h.named.cells;
    all = All-weaker (IsFrom p) (IsFrom (keeping_state p all fresh)) from h.named.cells h.named.all;
    lead = h.named.lead;
  };
}
  where
    same : (i : ℕ) → option_or (met_in fresh i) (p.kept i) ≡ p.kept i
    same i = ap (λ o. option_or o (p.kept i)) (none i)

    from : (c : CellSeen) → IsFrom p c → IsFrom (keeping_state p all fresh) c
    from c (inl kept) = inl (same c.id ∙ kept)
    from c (inr read) = inr read

pub root_stays : (d e : State) (p q : PoolState) (r s : Root) → StaysOver d e (record { root = r; pool = p })
    (record { root = s; pool = q }) → s ≡ r
unfolding StaysOver
root_stays d e p q r s h = h.root

pub stays_joined : (d e f : State) (p q u : PoolState) (root old new : Root) (fresh met last : List (ℕ × Shared))
    (a b z : Bool) → a ≡ true → old ≡ root
    → StaysOver d e (record { root = old; pool = keeping_state p a fresh })
    (record { root = new; pool = keeping_state q b met })
    → StaysOver e f (record { root = root; pool = keeping_state q b met })
    (record { root = root; pool = keeping_state u z last })
    → StaysOver d f (record { root = root; pool = keeping_state p true fresh })
    (record { root = root; pool = keeping_state u z last })
stays_joined d e f p q u root old new fresh met last a b z all is first then =
    let same : new ≡ root = root_stays d e (keeping_state p a fresh) (keeping_state q b met) old new first ∙ is in
    let as_new = subst (λ (x : Root). StaysOver d e (record { root = old; pool = keeping_state p a fresh })
    (record { root = x; pool = keeping_state q b met })) same first in
    let as_old = subst (λ (x : Root). StaysOver d e (record { root = x; pool = keeping_state p a fresh })
    (record { root = root; pool = keeping_state q b met })) is as_new in
    let as_all = subst (λ (x : Bool). StaysOver d e (record { root = root; pool = keeping_state p x fresh })
    (record { root = root; pool = keeping_state q b met })) all as_old in
    stays_both d e f (record { root = root; pool = keeping_state p true fresh })
    (record { root = root; pool = keeping_state q b met }) (record { root = root; pool = keeping_state u z last })
    as_all then

-- ---- the answer

abbrev pub IsAnswered : PoolState → Root → Command → Result (Option Reach) FetchFault → Type 0
IsAnswered p root c r = MatchResult r (λ found. MatchOption found (TouchesExtent p c) (IsReach p root c))
    (StopsReach p root c)

pub stops_wider : (p : PoolState) (root : Root) (c : Command) (r : Result (Option Reach) FetchFault)
    → MatchResult r (λ found. MatchOption found (TouchesExtent p c) (IsReach p root c)) (StopsWriting p root c)
    → IsAnswered p root c r
stops_wider p root c (Ok found) h = h
stops_wider p root c (Err e) h = inr h

module _ (d e : State) (p q : PoolState) (r s : Root) (fresh met : List (ℕ × Shared)) (all : Bool)
    (h : StaysOver d e (record { root = r; pool = keeping_state p true fresh })
    (record { root = s; pool = keeping_state q all met })) where
  -- it keeps all cells
  pub keeps_all : all ≡ true
  unfolding StaysOver
  keeps_all = by_all all (h.keeps 0)
    where
      by_all : (b : Bool) → (b || nat_lt 0 0) ≡ true → b ≡ true
      by_all true on = refl
      by_all false on = on

  pub same_pool : ((i : ℕ) → met_in fresh i ≡ None) → WereAnswered q met → IsSamePool d e p q r met
  unfolding StaysOver
  same_pool none answered = record {
    stays = record {
      device = h.device;
      root = refl;
      named = h.named;
      blocks = h.blocks;
      meant = h.meant;
      kept = λ i x at. h.kept i x (ap (λ o. option_or o (p.kept i)) (none i) ∙ at);
      added = λ i x at free. h.added i x at (ap (λ o. option_or o (p.kept i)) (none i) ∙ free);
      keeps = λ level. ap (λ (b : Bool). b || nat_lt 0 level) (sym keeps_all) ∙ h.keeps level;
    };
    answered = answered;
  }
