-- An atom owns cells, one after another.
use Rattle.std.proofs.Common.{◌≡◌, ◌-◌, ◌||◌, ◌++◌, ◌==◌, ◌∙◌, ℕ, List, Bool, Option, Some}
use Rattle.std.proofs.Common.{arith, false, get_or, refl, sym, true, ap}
use Rattle.std.specs.Prelude.{if◌then◌else◌, slice_set}
use Rattle.std.proofs.lemmas.List.{length-append}
use Rattle.std.proofs.lemmas.List.Folds.{list_any-append}
use Rattle.r4_atoms.specs.Atoms.{AtomsSeen, new_atom, owner_of, state_of, with_state}
use Rattle.r4_atoms.specs.declared.things.Account.{Account}
use Rattle.r4_atoms.specs.declared.things.AtomState.{AtomState}
use Rattle.r4_done.specs.r4_buffer.Changed.{has_name}
use Rattle.r4_cell.specs.Seen.{CellSeen}
use Rattle.r4_accounting.specs.Accounting.{HasOwned, HasTakenOver}
use Rattle.r4_done.proofs.r4_kept.States.{owners_same}

-- either of two tests, with the same outcome
either : (x y : Bool) (a b : Option ℕ) → (if y then a else (if x then a else b)) ≡ (if x || y then a else b)
either true true a b = refl
either true false a b = refl
either false true a b = refl
either false false a b = refl

pub owned_both : (s t u : AtomsSeen) (atom : ℕ) (xs ys : List CellSeen) → HasOwned s t atom xs
    → HasOwned t u atom ys → HasOwned s u atom (xs ++ ys)
owned_both s t u atom xs ys h k = record {
  txns = k.txns ∙ h.txns;
  atoms = k.atoms ∙ h.atoms;
  owners = λ n. k.owners n
      ∙ ap (λ (o : Option ℕ). if has_name ys n then Some atom else o) (h.owners n)
      ∙ either (has_name xs n) (has_name ys n) (Some atom) (owner_of s n)
      ∙ ap (λ (b : Bool). if b then Some atom else owner_of s n)
      (sym (list_any-append (λ (c : CellSeen). c.id == n) xs ys));
  spare =
      let first = h.spare in
      let second = k.spare in
      let all = length-append xs ys in
      omega (arith, first, second, all);
}

-- and its account is set
pub taken_over : (s t u : AtomsSeen) (atom : ℕ) (account : Account) (xs ys : List CellSeen) → HasOwned s t atom xs
    → HasOwned t u atom ys
    → HasTakenOver s (with_state u atom (record (state_of u atom) { account = account })) atom account xs ys
taken_over s t u atom account xs ys h k =
    let both = owned_both s t u atom xs ys h k in
    let all = length-append xs ys in
    let room = both.spare in
    record {
      txns = both.txns;
      states = ap (λ (l : List AtomState).
          slice_set l (atom - 1) (record (get_or l (atom - 1) new_atom) { account = account })) both.atoms;
      owners = λ n. owners_same u atom (record (state_of u atom) { account = account }) refl n
          ∙ both.owners n
          ∙ ap (λ (b : Bool). if b then Some atom else owner_of s n)
          (list_any-append (λ (c : CellSeen). c.id == n) xs ys);
      spare = omega (arith, all, room);
    }
