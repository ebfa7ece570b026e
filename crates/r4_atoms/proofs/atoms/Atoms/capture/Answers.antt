use Rattle.std.proofs.Common.{◌≡◌, ◌-◌, ◌<◌, ◌≤◌, ◌∙◌, ℕ, List, eqb, cond, length, false, refl, sym, ap, Option, Some, inl, inr, arith}
use Rattle.std.proofs.lemmas.Bool.{cases_Bool, cases_eq, eq-eqb, ne_eqb}
use Rattle.r4_atoms.specs.declared.things.AtomState.{AtomState}
use Rattle.r4_atoms.specs.declared.things.Row.{Row}
use Rattle.r4_atoms.specs.Owned.{label_of}
use Rattle.r4_atoms.specs.Atoms.{AreKept, state_at}
use Rattle.r4_atoms.proofs.AtomLaws.{begun_within, own_label, owner_raw, unsealed_at}
use Rattle.r4_atoms.proofs.KeptLaws.{kept_entries}
use Rattle.r4_atoms.proofs.atoms.Atoms.capture.Goals as goal

kept_captured : (names : List ℕ) (rows : List Row) (states : List AtomState) (entries entries' : List (ℕ × ℕ)) (low : ℕ) → AreKept names rows states entries low → (node atom : ℕ) → 0 < atom → atom ≤ length names
    → ((n : ℕ) → label_of n entries' ≡ cond (eqb node n) (Some atom) (label_of n entries)) → AreKept names rows states entries' low
kept_captured names rows states entries entries' low kept node atom some within labels = kept_entries names rows states entries entries' low kept (λ n t found. elim (cases_eq node n) [
  | inl same ↦
      let e : label_of n entries' ≡ Some atom = rw (eq-eqb node n same) at (labels n) in
      let is : Some atom ≡ Some t = sym e ∙ found in
      let t_is : atom ≡ t = cc in
      (omega arith, omega arith)
  | inr apart ↦
      let e : label_of n entries' ≡ label_of n entries = rw (ne_eqb node n apart) at (labels n) in
      kept.begun n t (sym e ∙ found)
])

pub invariant_of-self-2 : goal.invariant_of-self-2
invariant_of-self-2 c =
    let i = c.self.inside in
    let k = c.self.invariant.0 in
    let within = begun_within _ _ _ _ _ _ _ c.self.invariant.0 _ c.self.view_is c.args.atom.0 c.requires.atom.begun in
    let some = c.requires.atom.begun.some in
    let labels : (q : ℕ) → label_of q c.set.new.self.entries ≡ cond (eqb c.args.node.0 q) (Some c.args.atom.0) (label_of q i.owners.entries) =
    λ q. c.set.ensures.entries q ∙ ap (λ (o : Option ℕ). cond (eqb c.args.node.0 q) (Some c.args.atom.0) o) (c.room.ensures.entries q) in (
      kept_captured i.forest.names i.rows.items i.states.items i.owners.entries c.set.new.self.entries i.low k c.args.node.0 c.args.atom.0 some (omega arith) labels,
      c.self.invariant.1,
      c.self.invariant.2,
    )

pub returns-clause-owners : goal.returns-clause-owners
returns-clause-owners c n =
    let i = c.self.inside in
    let k = c.self.invariant.0 in
    let node : ℕ = c.args.node.0 in
    let atom : ℕ = c.args.atom.0 in
    let within = begun_within _ _ _ _ _ _ _ c.self.invariant.0 _ c.self.view_is c.args.atom.0 c.requires.atom.begun in
    let some = c.requires.atom.begun.some in
    let labels : (q : ℕ) → label_of q c.set.new.self.entries ≡ cond (eqb node q) (Some atom) (label_of q i.owners.entries) =
    λ q. c.set.ensures.entries q ∙ ap (λ (o : Option ℕ). cond (eqb node q) (Some atom) o) (c.room.ensures.entries q) in
    let kept = kept_captured i.forest.names i.rows.items i.states.items i.owners.entries c.set.new.self.entries i.low k node atom some (omega arith) labels in
    let unsealed = unsealed_at _ _ _ _ _ _ _ c.self.invariant.0 _ c.self.view_is atom c.requires.unsealed in
    let clean : (state_at i.states.items (atom - 1)).cleaned ≡ false = elim (cases_Bool (state_at i.states.items (atom - 1)).cleaned) [
      | inl was ↦ let h = k.sound_clean (atom - 1) within was in absurd (cc)
      | inr not_yet ↦ not_yet
    ] in
    let own = own_label _ _ _ _ _ _ _ c.self.invariant.0 _ c.self.view_is atom c.requires.atom clean in
    let old = owner_raw _ _ _ _ _ _ _ c.self.invariant.0 _ c.self.view_is n in
    let new = owner_raw _ _ _ _ _ c.set.new.self.spare i.forest.spare kept _ refl n in
    c.forget_clean.ensures.owners n ∙ new ∙ elim (cases_eq node n) [
      | inl same ↦ rw (labels n, eq-eqb node n same) own
      | inr apart ↦ rw (labels n, ne_eqb node n apart) (sym old)
    ]
