-- The atom of a command fuses with all others that own a node of its reach, one after another.
use Rattle.std.proofs.Common.{◌≡◌, ◌≢◌, inl, inr, ⊎_elim, ℕ, ◌+◌, ◌<◌, ◌≤◌, min, max, List, [], ◌∷◌}
use Rattle.std.proofs.Common.{Some, None, Contains, length, refl, sym, ◌∙◌, ap, subst, arith}
use Rattle.std.specs.Option.{option_map}
use Rattle.std.proofs.lemmas.Bool.{cases_lt, cond-false, ne_eqb}
use Rattle.std.specs.Prelude.{◌==◌}
use Rattle.r4_atoms.specs.Atoms.{AtomsSeen, IsOpenAtom, TxnSeen, owner_of}
use Rattle.r4_atoms.specs.Names.{renamed}
use Rattle.r4_atoms.specs.declared.things.AtomState.{AtomState}
use Rattle.r4_base.specs.declared.things.AtomNo.{AtomNo}
use Rattle.r4_base.specs.declared.things.NodeId.{NodeId}
use Rattle.r4_kept.specs.r4_history.Held.{AreOwners, Need}
use Rattle.r4_kept.specs.r4_history.Serving.{AreOthers, FusesAll, IsOwnerInReach, Rise, fused}
use Rattle.r4_kept.specs.r4_history.Tables.{Fuses}
use Rattle.r4_kept.proofs.r4_history.AtomSteps.{fused_count, fused_states, fused_txn}
use Rattle.r4_kept.proofs.r4_history.ServingSteps.{cons_cases, cons_here, cons_later}
use Rattle.r4_outside.specs.Device.{State}
use Rattle.r4_kept.specs.r4_space.Lawful.{IsLawful}
use Rattle.r4_kept.specs.History.{owed, owed_for_commit}
use Rattle.r4_kept.specs.Kept.{IsKept}
use Rattle.r4_kept.specs.Naming.{Naming}
use Rattle.r4_kept.specs.View.{CoreSeen}
use Rattle.r4_taking.specs.Fusing.{HasFused, HasFusedAll}
use Rattle.r4_taking.proofs.Fused.{keeps_fuse}
use Rattle.r4_taking.proofs.FusedAtoms.{sealed_after}
use Rattle.r4_taking.proofs.FusedCounts.{other_after, other_before, owned_after}
use Rattle.r4_taking.proofs.Merged.{lawful_merged}

-- ---- one step

module _ {D : Type 0} (r : Naming) (d : State) (old new : CoreSeen D) (k : IsKept r d old) (kept gone : AtomNo)
    (node : NodeId) (sound : old.broken ≡ None) (one : IsOpenAtom old.atoms kept.0) (two : IsOpenAtom old.atoms gone.0)
    (less : kept.0 < gone.0) (lawful : IsLawful old.space)
    (room : owed old.turns + owed_for_commit old.commit + 1 ≤ old.trace.spare)
    (h : HasFused old new kept gone node) where
  pub keeps_fused : IsKept r d new
  keeps_fused =
      subst (IsKept r d) (sym h.same)
      (keeps_fuse r d old k kept gone node sound one two less lawful room new.atoms h.fuses h.owners h.room)

-- ---- who is left

-- an open atom that is not the one that goes stays one
pub still_open : (old new : AtomsSeen) (a b : ℕ) → Fuses old new a b → (x : ℕ) → IsOpenAtom old x → x ≢ b
    → IsOpenAtom new x
still_open old new a b f x is other =
    let count = fused_count old new a b f in
    let within = is.atom.begun.within in
    record {
      atom = record {
        begun = record { some = is.atom.begun.some; within = omega (arith, within, count) };
        own =
            ap (λ (y : TxnSeen). y.atom) (fused_txn old new a b f x is.atom.begun)
            ∙ ap (renamed a b) is.atom.own ∙ cond-false (x == b) a x (ne_eqb x b other);
      };
      unsealed = fused_states old new a b f (λ (y : AtomState). y.sealed) (λ y z. refl) x ∙ is.unsealed;
    }

-- the smaller and the greater of two are these two
pub of_min : (P : ℕ → Type 0) (a b : ℕ) → P a → P b → P (min a b)
of_min P a b x y = elim (cases_lt a b) [
  | inl less ↦ let e : a ≡ min a b = omega (arith, less) in subst P e x
  | inr more ↦ let e : b ≡ min a b = omega (arith, more) in subst P e y
]

pub of_max : (P : ℕ → Type 0) (a b : ℕ) → P a → P b → P (max a b)
of_max P a b x y = elim (cases_lt a b) [
  | inl less ↦ let e : b ≡ max a b = omega (arith, less) in subst P e y
  | inr more ↦ let e : a ≡ max a b = omega (arith, more) in subst P e x
]

-- The others that are left after one fused are those of what the two became: so a loop goes along them.
module _ (s mid : AtomsSeen) (own : ℕ) (need : Need) (p : ℕ × ℕ) (rest : List (ℕ × ℕ))
    (are : AreOthers s own need (p ∷ rest)) (f : Fuses s mid (min own p.0) (max own p.0))
    (owners : (n : ℕ) → owner_of mid n ≡ option_map (renamed (min own p.0) (max own p.0)) (owner_of s n)) where
  abbrev first : IsOwnerInReach s own need p.0 p.1
  first = ((are.each p.0 p.1).0 (cons_here p rest)).is_one

  differ : p.0 ≢ own
  differ = first.owner.other

  less : min own p.0 < max own p.0
  less = let d = differ in omega (arith, d)

  -- neither of both
  neither : (a : ℕ) → a ≢ own → a ≢ p.0 → (a ≢ min own p.0) × (a ≢ max own p.0)
  neither a one two = ((λ e. absurd (omega (arith, e, one, two))), (λ e. absurd (omega (arith, e, one, two))))

  was_owner : (a n : ℕ) → IsOwnerInReach mid (min own p.0) need a n → IsOwnerInReach s own need a n × (a ≢ p.0)
  was_owner a n h =
      let had = other_before (min own p.0) (max own p.0) less a h.owner.other (owner_of s n)
      (sym (owners n) ∙ h.owner.owns) in
      let unlike : a ≢ max own p.0 = λ e.
      (let gone : owner_of mid n ≡ Some (min own p.0) = owners n ∙ owned_after (min own p.0) (max own p.0) less
      (owner_of s n) (inr (had ∙ ap Some e)) in
      h.owner.other (cc (sym h.owner.owns ∙ gone))) in
      let other = h.owner.other in (
        record {
          reached = h.reached;
          owner = record {
            owns = had;
            other = λ e. absurd (omega (arith, e, other, unlike));
            unsealed = sym (sealed_after s mid (min own p.0) (max own p.0) less f a) ∙ h.owner.unsealed;
          };
        },
        λ e. absurd (omega (arith, e, other, unlike)),
      )

  is_owner : (a n : ℕ) → IsOwnerInReach s own need a n → a ≢ p.0 → IsOwnerInReach mid (min own p.0) need a n
  is_owner a n h other =
      let both = neither a h.owner.other other in
      record {
        reached = h.reached;
        owner = record {
          owns = owners n
              ∙ other_after (min own p.0) (max own p.0) less a both.1 (owner_of s n) h.owner.owns;
          other = both.0;
          unsealed = sealed_after s mid (min own p.0) (max own p.0) less f a ∙ h.owner.unsealed;
        };
      }

  pub others_left : AreOthers mid (min own p.0) need rest
  others_left = record {
    rise = are.rise.1;
    each = λ a n. (
      λ there.
          (let h = (are.each a n).0 (cons_later p rest (a, n) there) in
          let lt = are.rise.0 (a, n) there in
          let other : a ≢ p.0 = λ e. absurd (omega (arith, e, lt)) in
          record {
            is_one = is_owner a n h.is_one other;
            least = λ m is. h.least m (was_owner a m is).0;
          }),
      λ h.
          (let was = was_owner a n h.is_one in
          ⊎_elim (λ same. absurd (was.1 (sym (ap (λ (x : ℕ × ℕ). x.0) same)))) (λ there. there)
          (cons_cases p rest (a, n)
          ((are.each a n).1 (record { is_one = was.0; least = λ m is. h.least m (is_owner a m is was.1) })))),
    );
  }

-- ---- all of them

module _ {D : Type 0} (r : Naming) (d : State) where
  keeps_each : (others : List (ℕ × ℕ)) (own : ℕ) (old new : CoreSeen D) → IsKept r d old → old.broken ≡ None
      → IsOpenAtom old.atoms own → Rise others
      → ((p : ℕ × ℕ) → Contains others p → IsOpenAtom old.atoms p.0 × (p.0 ≢ own))
      → IsLawful old.space
      → owed old.turns + owed_for_commit old.commit + length others ≤ old.trace.spare
      → HasFusedAll old own others new → IsKept r d new
  keeps_each [] own old new k sound is rise each lawful room f = subst (IsKept r d) (sym f) k
  keeps_each (p ∷ rest) own old new k sound is rise each lawful room f =
      let first = each p (cons_here p rest) in
      let kept : AtomNo = record { 0 = min own p.0 } in
      let gone : AtomNo = record { 0 = max own p.0 } in
      let differ = first.1 in
      let less : min own p.0 < max own p.0 = omega (arith, differ) in
      let mid = f.0 in
      let h = f.1 in
      let one = of_min (IsOpenAtom old.atoms) own p.0 is first.0 in
      let two = of_max (IsOpenAtom old.atoms) own p.0 is first.0 in
      let now = keeps_fused r d old mid k kept gone (record { 0 = p.1 }) sound one two less lawful (omega (arith, room))
      h in
      let stays = still_open old.atoms mid.atoms (min own p.0) (max own p.0) h.fuses in
      keeps_each rest (min own p.0) mid new now (ap (λ (x : CoreSeen D). x.broken) h.same ∙ sound)
      (stays (min own p.0) one (λ same. absurd (omega (arith, same, less)))) rise.1
      (λ q there.
      (let lt = rise.0 q there in
      let was = each q (cons_later p rest q there) in
      let differs = was.1 in (
        stays q.0 was.0 (λ same. absurd (omega (arith, same, lt, differs))),
        λ same. absurd (omega (arith, same, lt, differs)),
      )))
      (subst IsLawful (sym (ap (λ (x : CoreSeen D). x.space) h.same))
      (lawful_merged old.space lawful kept gone (λ same. absurd (omega (arith, same, less)))))
      (let turns = ap (λ (x : CoreSeen D). owed x.turns) h.same in
      let commit = ap (λ (x : CoreSeen D). owed_for_commit x.commit) h.same in
      let spare = ap (λ (x : CoreSeen D). x.trace.spare) h.same in
      omega (arith, room, turns, commit, spare))
      f.2

  pub keeps_all_fused : (old new : CoreSeen D) (own : ℕ) (need : Need) (others : List (ℕ × ℕ)) → IsKept r d old
      → old.broken ≡ None → AreOwners old.atoms → IsOpenAtom old.atoms own → AreOthers old.atoms own need others
      → IsLawful old.space → owed old.turns + owed_for_commit old.commit + length others ≤ old.trace.spare
      → HasFusedAll old own others new → IsKept r d new
  keeps_all_fused old new own need others k sound owners is are lawful room f =
      keeps_each others own old new k sound is are.rise
      (λ p there.
      (let one = ((are.each p.0 p.1).0 there).is_one in
      (record { atom = (owners p.1 p.0 one.owner.owns).0; unsealed = one.owner.unsealed }, one.owner.other)))
      lawful room f

-- ---- what it says of the parts

module _ {D : Type 0} where
  -- the table of atoms, and the entries that were told
  pub atoms_fused : (others : List (ℕ × ℕ)) (own : ℕ) (old new : CoreSeen D) → HasFusedAll old own others new
      → FusesAll old.atoms own others new.atoms
  atoms_fused [] own old new f = ap (λ (x : CoreSeen D). x.atoms) f
  atoms_fused (p ∷ rest) own old new f =
      (f.0.atoms, f.1.fuses, f.1.owners, atoms_fused rest (min own p.0) f.0 new f.2)

  pub entries_fused : (others : List (ℕ × ℕ)) (own : ℕ) (old new : CoreSeen D) → HasFusedAll old own others new
      → new.trace.entries ≡ fused own others old.trace.entries
  entries_fused [] own old new f = ap (λ (x : CoreSeen D). x.trace.entries) f
  entries_fused (p ∷ rest) own old new f =
      entries_fused rest (min own p.0) f.0 new f.2
      ∙ ap (fused (min own p.0) rest) (ap (λ (x : CoreSeen D). x.trace.entries) f.1.same)

  -- all else is as it was
  pub others_stay : (others : List (ℕ × ℕ)) (own : ℕ) (old new : CoreSeen D) → HasFusedAll old own others new
      → new ≡ record old { atoms = new.atoms; space = new.space; trace = new.trace }
  others_stay [] own old new f =
      f ∙ sym (ap (λ (x : CoreSeen D). record old { atoms = x.atoms; space = x.space; trace = x.trace }) f)
  others_stay (p ∷ rest) own old new f =
      others_stay rest (min own p.0) f.0 new f.2
      ∙ ap (λ (x : CoreSeen D). record x { atoms = new.atoms; space = new.space; trace = new.trace }) f.1.same

  pub spare_fused : (others : List (ℕ × ℕ)) (own : ℕ) (old new : CoreSeen D) → HasFusedAll old own others new
      → length others ≤ old.trace.spare → new.trace.spare + length others ≡ old.trace.spare
  spare_fused [] own old new f enough = let e = ap (λ (x : CoreSeen D). x.trace.spare) f in omega (arith, e)
  spare_fused (p ∷ rest) own old new f enough =
      let e = ap (λ (x : CoreSeen D). x.trace.spare) f.1.same in
      let more = spare_fused rest (min own p.0) f.0 new f.2 (omega (arith, enough, e)) in
      omega (arith, e, more, enough)
