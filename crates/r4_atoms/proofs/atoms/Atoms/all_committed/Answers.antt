use Rattle.std.proofs.Common.{◌≡◌, ℕ, ◌<◌, ◌∙◌, sym, ap, true, inl, inr, arith}
use Rattle.std.proofs.lemmas.Bool.{cases_eq, cases_lt}
use Rattle.r4_atoms.specs.Atoms.{atom_of, is_committed, txn_of}
use Rattle.r4_atoms.proofs.AtomLaws.{at_before, at_last, length-scripts_seen, low_committed}
use Rattle.r4_atoms.proofs.atoms.Atoms.all_committed.Goals as goal

pub loop-at-init : goal.loop-at-init
loop-at-init c =
    let found = at_last _ _ _ _ _ _ _ c.self.invariant.0 _ c.self.view_is c.self.inside.scripts.scripts c.self.invariant.2.same c.args.script.0 c.last-at.result c.last-at.ensures in
    record { place = found.0; done = λ t begun above script. absurd (found.1 t begun above script) }

pub before-at-requires-clause-within : goal.before-at-requires-clause-within
before-at-requires-clause-within c =
    let long = length-scripts_seen _ _ _ _ _ _ _ c.self.invariant.0 _ c.self.view_is c.self.inside.scripts.scripts c.self.invariant.2.same in
    omega (arith, c.loop-at.invariant.place.within)

pub loop-at-preserved : goal.loop-at-preserved
loop-at-preserved c =
    let at : ℕ = c.loop-at.at in
    let some : 0 < at = omega (arith, c.loop-at-test.true) in
    let found = at_before _ _ _ _ _ _ _ c.self.invariant.0 _ c.self.view_is c.self.inside.scripts.scripts c.self.invariant.2.same c.args.script.0 at c.before-at.result some c.loop-at.invariant.place c.before-at.ensures in
    let here : (txn_of c.args.self.now at).script ≡ c.args.script.0 → is_committed c.args.self.now (atom_of c.args.self.now at) ≡ true = rw c.if-is_uncommitted.false at c.is_uncommitted.ensures in
    record {
      place = found.0;
      done = λ t begun above script. elim (cases_lt at t) [
        | inl later ↦ c.loop-at.invariant.done t begun later script
        | inr below ↦ elim (cases_eq t at) [
          | inl same ↦ ap (λ (x : ℕ). is_committed c.args.self.now (atom_of c.args.self.now x)) same ∙ here (ap (λ (x : ℕ). (txn_of c.args.self.now x).script) (sym same) ∙ script)
          | inr other ↦ absurd (found.1 t begun above (omega arith) script)
        ]
      ];
    }

pub returns : goal.returns
returns c t begun script = elim (cases_lt c.loop-at.at t) [
  | inl above ↦ c.loop-at.invariant.done t begun above script
  | inr below ↦ (low_committed _ _ _ _ _ _ _ c.self.invariant.0 _ c.self.view_is t begun (omega (arith, c.loop-at-test.false))).0
]
