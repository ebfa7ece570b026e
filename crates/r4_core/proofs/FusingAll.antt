-- Atoms fuse one after another, along a list.
use Rattle.std.proofs.Common.{◌≡◌, ◌≢◌, ℕ, ◌-◌, ◌<◌, ◌≤◌, List, [], ◌∷◌, length, min, max, drop, take, refl, sym}
use Rattle.std.proofs.Common.{None, ◌+◌, ◌∙◌, ap, subst, arith, slice_index_or}
use Rattle.std.proofs.lemmas.List.{take_all}
use Rattle.r4_atoms.specs.Atoms.{IsOpenAtom}
use Rattle.r4_others.proofs.r4_history.ServingSteps.{cons_here, cons_later}
use Rattle.r4_core.specs.FusingAll.{CanFuseAll}
use Rattle.r4_others.specs.r4_history.Serving.{least_of}
use Rattle.r4_others.specs.Others.{pairs_of}
use Rattle.r4_others.specs.declared.finding.Other.{Other}
use Rattle.r4_others.specs.r4_history.Held.{AreOwners, Need}
use Rattle.r4_others.specs.r4_history.Serving.{AreOthers}
use Rattle.r4_ready.specs.r4_kept.History.{owed, owed_for_commit}
use Rattle.r4_ready.specs.r4_kept.View.{CoreSeen}
use Rattle.r4_ready.specs.r4_taking.Fusing.{HasFused, HasFusedAll}
use Rattle.r4_ready.proofs.r4_taking.FusedAll.{of_min, still_open}

-- At a place of the list: those that are left may fuse, and what comes of them from here is what
-- comes of all.
pub record GoesAlong
    {D : Type 0} (old : CoreSeen D) (own : ℕ) (others : List (ℕ × ℕ)) (now : CoreSeen D) (all : ℕ) (rest : List (ℕ × ℕ))
    : Type 0
  where
    pub can : CanFuseAll now all rest
    pub fuses : (new : CoreSeen D) → HasFusedAll now all rest new → HasFusedAll old own others new
    pub least : least_of all rest ≡ least_of own others

pub at_first : {D : Type 0} (old : CoreSeen D) (own : ℕ) (others : List (ℕ × ℕ)) → CanFuseAll old own others
    → GoesAlong old own others old own others
at_first old own others can = record { can = can; fuses = λ new f. f; least = refl }

module _ {D : Type 0} (now mid : CoreSeen D) (all : ℕ) (p : ℕ × ℕ) (rest : List (ℕ × ℕ))
    (can : CanFuseAll now all (p ∷ rest))
    (h : HasFused now mid (record { 0 = min all p.0 }) (record { 0 = max all p.0 }) (record { 0 = p.1 })) where
  pub can_go_on : CanFuseAll mid (min all p.0) rest
  can_go_on =
      let first = can.each p (cons_here p rest) in
      let differ = first.1 in
      let less : min all p.0 < max all p.0 = omega (arith, differ) in
      let one = of_min (IsOpenAtom now.atoms) all p.0 can.is_open first.0 in
      let stays = still_open now.atoms mid.atoms (min all p.0) (max all p.0) h.fuses in
      record {
        sound = ap (λ (x : CoreSeen D). x.broken) h.same ∙ can.sound;
        is_open = stays (min all p.0) one (λ same. absurd (omega (arith, same, less)));
        rise = can.rise.1;
        each = λ q there.
            (let lt = can.rise.0 q there in
            let was = can.each q (cons_later p rest q there) in
            let differs = was.1 in (
              stays q.0 was.0 (λ same. absurd (omega (arith, same, lt, differs))),
              λ same. absurd (omega (arith, same, lt, differs)),
            ));
        room =
            let turns = ap (λ (x : CoreSeen D). owed x.turns) h.same in
            let commit = ap (λ (x : CoreSeen D). owed_for_commit x.commit) h.same in
            let spare = ap (λ (x : CoreSeen D). x.trace.spare) h.same in
            let had = can.room in
            omega (arith, had, turns, commit, spare);
      }

  pub goes_on : (old : CoreSeen D) (own : ℕ) (others : List (ℕ × ℕ)) → GoesAlong old own others now all (p ∷ rest)
      → GoesAlong old own others mid (min all p.0) rest
  goes_on old own others g = record {
    can = can_go_on;
    fuses = λ new f. g.fuses new (mid, h, f);
    least = g.least;
  }

pub at_last : {D : Type 0} (old : CoreSeen D) (own : ℕ) (others : List (ℕ × ℕ)) (now : CoreSeen D) (all : ℕ)
    → GoesAlong old own others now all [] → HasFusedAll old own others now × (all ≡ least_of own others)
at_last old own others now all g = (g.fuses now refl, g.least)

-- ---- along a list of them

module _ {D : Type 0} (now : CoreSeen D) (all : ℕ) (d : Other) where
  -- the first of them may fuse
  pub first_can : (items : List Other) → 1 ≤ length items → CanFuseAll now all (pairs_of items)
      → IsOpenAtom now.atoms (slice_index_or items 0 d).atom.0 × ((slice_index_or items 0 d).atom.0 ≢ all)
  first_can [] some can = absurd (omega (arith, some))
  first_can (x ∷ xs) some can = can.each (x.atom.0, x.node.0) (cons_here (x.atom.0, x.node.0) (pairs_of xs))

  -- and once it did the others are left
  pub goes_later : (items : List Other) → 1 ≤ length items → (old : CoreSeen D) (own : ℕ) (others : List (ℕ × ℕ))
      → GoesAlong old own others now all (pairs_of items) → (mid : CoreSeen D)
      → HasFused now mid (record { 0 = min all (slice_index_or items 0 d).atom.0 })
      (record { 0 = max all (slice_index_or items 0 d).atom.0 }) (slice_index_or items 0 d).node
      → (then : ℕ) → then ≡ min all (slice_index_or items 0 d).atom.0
      → GoesAlong old own others mid then (pairs_of (take (length items - 1) (drop 1 items)))
  goes_later [] some old own others g mid h then is = absurd (omega (arith, some))
  goes_later (x ∷ xs) some old own others g mid h then is =
      subst (λ (n : ℕ). GoesAlong old own others mid n (pairs_of (take (length (x ∷ xs) - 1) xs))) (sym is)
      (subst (λ (l : List Other). GoesAlong old own others mid (min all x.atom.0) (pairs_of l))
      (sym (take_all (length (x ∷ xs) - 1) xs (omega arith)))
      (goes_on now mid all (x.atom.0, x.node.0) (pairs_of xs) g.can h old own others g))

-- ---- those that own a node of a reach

-- the other open atoms that a command's own one has to fuse with are such a list
pub can_fuse_others : {D : Type 0} (c : CoreSeen D) (own : ℕ) (need : Need) (others : List (ℕ × ℕ)) → c.broken ≡ None
    → AreOwners c.atoms → IsOpenAtom c.atoms own → AreOthers c.atoms own need others
    → owed c.turns + owed_for_commit c.commit + length others ≤ c.trace.spare → CanFuseAll c own others
can_fuse_others c own need others sound owners is are room = record {
  sound = sound;
  is_open = is;
  rise = are.rise;
  each = λ p there.
      (let one = ((are.each p.0 p.1).0 there).is_one in
      (record { atom = (owners p.1 p.0 one.owner.owns).0; unsealed = one.owner.unsealed }, one.owner.other));
  room = room;
}
