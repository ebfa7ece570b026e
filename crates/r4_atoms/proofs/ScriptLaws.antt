-- The transactions of each script, as another one is added.
use Rattle.std.proofs.Common.{◌≡◌, ◌≢◌, ℕ, ◌+◌, ◌-◌, ◌<◌, ◌≤◌, eqb, cond, List, [], ◌∷◌, ◌++◌, length, Some, sym, ap, subst, ◌∙◌, inl, inr, arith}
use Rattle.std.proofs.lemmas.Bool.{cases_eq, eq-eqb, ne_eqb}
use Rattle.std.proofs.lemmas.List.{get_or_append_left, get_or_push, length-map, length_push, map-append}
use Rattle.r4_atoms.specs.declared.scripts.Begun.{Begun}
use Rattle.r4_atoms.specs.Owned.{label_of}
use Rattle.r4_atoms.specs.Scripts.{AreLinked, begun_at, IsLatest, no_begun, or_none, script_of, scripts_of}

pub length-scripts : (begun : List Begun) → length (scripts_of begun) ≡ length begun
length-scripts begun = length-map begun script_of

pub scripts-push : (begun : List Begun) (b : Begun) → scripts_of (begun ++ b ∷ []) ≡ scripts_of begun ++ b.script ∷ []
scripts-push begun b = map-append script_of begun (b ∷ [])

-- the last transaction of a script, by what its script leads to
pub latest_seen : (begun : List Begun) (last : List (ℕ × ℕ)) (scripts : List ℕ) (script t : ℕ) → AreLinked begun last → scripts_of begun ≡ scripts → or_none (label_of script last) ≡ t → IsLatest scripts script (length scripts) t
latest_seen begun last scripts script t linked same found =
    let here = subst (λ (x : ℕ). IsLatest (scripts_of begun) script (length begun) x) found (linked.latest script) in
    let whole = subst (λ (k : ℕ). IsLatest (scripts_of begun) script k t) (sym (length-scripts begun)) here in
    subst (λ (ts : List ℕ). IsLatest ts script (length ts) t) same whole

-- and in the rows
pub latest_here : (begun : List Begun) (scripts : List ℕ) (script t : ℕ) → scripts_of begun ≡ scripts → IsLatest scripts script (length scripts) t → IsLatest (scripts_of begun) script (length begun) t
latest_here begun scripts script t same is =
    let there = subst (λ (ts : List ℕ). IsLatest ts script (length ts) t) (sym same) is in
    subst (λ (k : ℕ). IsLatest (scripts_of begun) script k t) (length-scripts begun) there

pub linked_same : (begun : List Begun) (last last' : List (ℕ × ℕ)) → AreLinked begun last → ((q : ℕ) → label_of q last' ≡ label_of q last) → AreLinked begun last'
linked_same begun last last' linked same = record {
  latest = λ script. subst (λ (x : ℕ). IsLatest (scripts_of begun) script (length begun) x) (ap or_none (sym (same script))) (linked.latest script);
  before = linked.before;
}

-- one more transaction, which is none of the first ones
latest_more : (scripts : List ℕ) (next script k t : ℕ) → k ≤ length scripts → IsLatest scripts script k t → IsLatest (scripts ++ next ∷ []) script k t
latest_more scripts next script k t inside is = record {
  within = is.within;
  own = λ some. get_or_append_left scripts _ 0 (t - 1) (omega (arith, is.within)) ∙ is.own some;
  last = λ i from below e. is.last i from below (sym (get_or_append_left scripts _ 0 i (omega arith)) ∙ e);
}

-- it is of another script
latest_other : (scripts : List ℕ) (next script t : ℕ) → script ≢ next → IsLatest scripts script (length scripts) t → IsLatest (scripts ++ next ∷ []) script (length scripts + 1) t
latest_other scripts next script t other is = record {
  within = omega (arith, is.within);
  own = λ some. get_or_append_left scripts _ 0 (t - 1) (omega (arith, is.within)) ∙ is.own some;
  last = λ i from below e. elim (cases_eq i (length scripts)) [
    | inl here ↦ other (sym e ∙ get_or_push scripts next 0 i (sym here))
    | inr there ↦ is.last i from (omega arith) (sym (get_or_append_left scripts _ 0 i (omega arith)) ∙ e)
  ];
}

-- or of this one
latest_next : (scripts : List ℕ) (script : ℕ) → IsLatest (scripts ++ script ∷ []) script (length scripts + 1) (length scripts + 1)
latest_next scripts script = record {
  within = omega arith;
  own = λ some. get_or_push scripts script 0 (length scripts + 1 - 1) (omega arith);
  last = λ i from below e. absurd (omega arith);
}

pub linked_more : (begun : List Begun) (last last' : List (ℕ × ℕ)) (script before : ℕ) → AreLinked begun last → IsLatest (scripts_of begun) script (length begun) before
    → ((q : ℕ) → label_of q last' ≡ cond (eqb script q) (Some (length begun + 1)) (label_of q last)) → AreLinked (begun ++ (record { script = script; before = before }) ∷ []) last'
linked_more begun last last' script before linked is set =
    let b : Begun = record { script = script; before = before } in
    let scripts = scripts-push begun b in
    let long = length-scripts begun in
    let longer = length_push begun b in
    record {
      latest = λ q. elim (cases_eq script q) [
        | inl same ↦
            let e : or_none (label_of q last') ≡ length begun + 1 = ap or_none (rw (eq-eqb script q same) at (set q)) in
            let next = latest_next (scripts_of begun) script in
            rw (scripts, longer, e, ← same) (subst (λ (n : ℕ). IsLatest (scripts_of begun ++ script ∷ []) script (n + 1) (n + 1)) long next)
        | inr apart ↦
            let e : label_of q last' ≡ label_of q last = rw (ne_eqb script q apart) at (set q) in
            let was = subst (λ (n : ℕ). IsLatest (scripts_of begun) q n (or_none (label_of q last))) (sym long) (linked.latest q) in
            let next = latest_other (scripts_of begun) script q (or_none (label_of q last)) (λ s. apart (sym s)) was in
            rw (scripts, longer, e) (subst (λ (n : ℕ). IsLatest (scripts_of begun ++ script ∷ []) q (n + 1) (or_none (label_of q last))) long next)
      ];
      before = λ i within. elim (cases_eq i (length begun)) [
        | inl here ↦
            let row : begun_at (begun ++ b ∷ []) i ≡ b = get_or_push begun b no_begun i (sym here) in
            rw (scripts, row) (latest_more (scripts_of begun) script script i before (omega arith) (subst (λ (k : ℕ). IsLatest (scripts_of begun) script k before) (sym here) is))
        | inr there ↦
            let inside : i < length begun = omega arith in
            let row : begun_at (begun ++ b ∷ []) i ≡ begun_at begun i = get_or_append_left begun _ no_begun i inside in
            rw (scripts, row) (latest_more (scripts_of begun) script (begun_at begun i).script i (begun_at begun i).before (omega arith) (linked.before i inside))
      ];
    }
