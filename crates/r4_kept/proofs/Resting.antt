-- Where no commit is under way and no call of the device failed, the device has the content of the committed atoms, and
-- each block that is deferred is marked.
use Rattle.std.proofs.Common.{◌≡◌, ⊎_elim, ℕ, ◌<◌, Bool, true, false, cond, List, [], ◌∷◌, Option, Some, None, refl}
use Rattle.std.proofs.Common.{sym}
use Rattle.std.proofs.Common.{ap, ◌∙◌, subst}
use Rattle.std.specs.Prelude.{slice_index_or}
use Rattle.std.proofs.lemmas.Bool.{eq-eqb, or_cases, or_left}
use Rattle.r4_base.specs.Tree.{Store}
use Rattle.r4_base.specs.declared.things.AtomNo.{AtomNo}
use Rattle.r4_base.specs.Value.{Content, Value}
use Rattle.r4_base.specs.Volume.{HasVolume}
use Rattle.r4_content.specs.Locality.{commands}
use Rattle.r4_content.specs.Meaning.{greatest_size}
use Rattle.r4_durable.specs.Meaning.{Beginning, IsNamed}
use Rattle.r4_durable.specs.Sealing.{made_by}
use Rattle.r4_outside.specs.Device.{State}
use Rattle.r4_durable.proofs.r4_sealed.NewCells.{or_second}
use Rattle.r4_durable.specs.r4_sets.Session.{Layer}
use Rattle.r4_durable.specs.r4_space.Accounts.{is_atom}
use Rattle.r4_durable.specs.r4_space.Space.{claims_of, is_block, is_claimed}
use Rattle.r4_durable.specs.r4_space.declared.things.Claim.{Claim}
use Rattle.r4_history.specs.r4_trace.Folds.{after_first}
use Rattle.r4_history.specs.r4_trace.Traced.{committed_in}
use Rattle.r4_history.specs.r4_trace.declared.entry.Entry.{Entry}
use Rattle.r4_kept.specs.Kept.{HasStory, IsKept}
use Rattle.r4_kept.specs.Meaning.{IsAt, IsAtRest}
use Rattle.r4_kept.specs.Naming.{Naming, job_named, names_in}
use Rattle.r4_kept.specs.View.{CoreSeen}
use Rattle.r4_kept.specs.declared.parts.Commit.{Commit}

-- a claim is an atom's
claim_of : (claims : List Claim) (k : ℕ) → is_claimed claims k ≡ true
    → (a : AtomNo) × (is_claimed (claims_of a claims) k ≡ true)
claim_of [] k h = absurd (cc h)
claim_of (x ∷ claims) k h = ⊎_elim
    (λ here. (
      x.atom,
      ap (λ (t : Bool). is_claimed (cond t (x ∷ claims_of x.atom claims) (claims_of x.atom claims)) k)
          (eq-eqb x.atom.0 x.atom.0 refl)
          ∙ or_left (is_block k x) (is_claimed (claims_of x.atom claims) k) here,
    ))
    (λ later.
    (let one = claim_of claims k later in
    (one.0, go one.0 (is_atom one.0 x.atom) one.1)))
    (or_cases (is_block k x) (is_claimed claims k) h)
  where
    go : (a : AtomNo) (t : Bool) → is_claimed (claims_of a claims) k ≡ true
        → is_claimed (cond t (x ∷ claims_of a claims) (claims_of a claims)) k ≡ true
    go a true g = or_second (is_block k x) (is_claimed (claims_of a claims) k) g
    go a false g = g

module _ {D : Type 0} (r : Naming) (d : State) (c : CoreSeen D) (k : IsKept r d c) (b : Beginning)
    (named : IsNamed (names_in r) d.blocks b) (sound : c.broken ≡ None) (none : c.commit ≡ None) where
  abbrev h : HasStory r b d c
  h = k.story b named

  rest : IsAtRest b (job_named r.scripts) h.story.session c.space c.volume d
  rest =
      subst (λ (o : Option ℕ). IsAt b (job_named r.scripts) h.story.session c.space c.volume d h.story.flush o None)
      sound
      (subst (λ (o : Option Commit).
      IsAt b (job_named r.scripts) h.story.session c.space c.volume d h.story.flush c.broken o) none h.means.at)

  made : made_by greatest_size h.story.session (committed_in h.story.session.trace)
      ≡ after_first (commands greatest_size) b.content c.trace.entries (committed_in c.trace.entries)
  made =
      ap (λ (x : Content). after_first (commands greatest_size) x h.story.session.trace
      (committed_in h.story.session.trace)) h.means.session.start
      ∙ ap (λ (l : List Entry). after_first (commands greatest_size) b.content l (committed_in l)) h.means.trace

  pub has_content : HasVolume d.blocks d.seen
      (after_first (commands greatest_size) b.content c.trace.entries (committed_in c.trace.entries))
  has_content =
      let rests = rest.means.rests in
      subst (HasVolume d.blocks d.seen) made
      (subst (λ (n : ℕ).
      HasVolume n d.seen (made_by greatest_size h.story.session (committed_in h.story.session.trace)))
      named.size
      (record { whole = rests.whole; chain = []; log = rests.log; content = rests.has.content }))

  pub deferred_is_marked : (k : ℕ) → is_claimed c.space.deferred k ≡ true → slice_index_or c.space.marked k false ≡ true
  deferred_is_marked k claimed =
      let one = claim_of c.space.deferred k claimed in
      let gone = (rest.means.deferred one.0 k).0 one.1 in
      let rests = rest.means.rests in
      let there : rests.has.content.store k ≡ Some gone.was.0 =
      ap (λ (t : Store Value). t k) (rests.has.same_store ∙ sym (ap (λ (l : Layer). l.cells) rest.means.alone))
      ∙ gone.was.1 in
      let place = rests.has.content.places k gone.was.0 there in
      rests.here.marks k (subst (λ (n : ℕ). k < n) rests.here.count place.0) ∙ place.2
