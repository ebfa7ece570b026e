-- What the entries of a table say.
use Rattle.std.proofs.Common.{◌≡◌, ℕ, ◌≤◌, Bool, true, false, List, [], ◌∷◌, refl, arith}
use Rattle.std.specs.Prelude.{Contains, ◌==◌, ◌&&◌, if◌then◌else◌}
use Rattle.std.proofs.lemmas.Bool.{and_parts, eqb-true}
use Rattle.r4_extent_put.proofs.r4_extent_change.r4_measure.r4_patch.Members.{here, later}
use Rattle.r4_allowed.specs.Table.{budget_of}
use Rattle.r4_allowed.specs.declared.table.Allowance.{Allowance}

-- An entry of the table has so many for a level and a number.
pub record HasEntry (table : List Allowance) (l i n : ℕ) : Type 0 where
  pub entry : Allowance
  pub member : Contains table entry
  pub level : entry.level ≡ l
  pub id : entry.id.0 ≡ i
  pub most : entry.most ≡ n

pub entry_of : (table : List Allowance) (l i : ℕ) → 1 ≤ budget_of table l i
    → HasEntry table l i (budget_of table l i)
entry_of [] l i some = absurd (omega (arith, some))
entry_of (a ∷ table) l i some = by (λ h. entry_of table l i h) ((a.level == l) && (a.id.0 == i)) refl some
  where
    by : (1 ≤ budget_of table l i → HasEntry table l i (budget_of table l i)) → (v : Bool)
        → ((a.level == l) && (a.id.0 == i)) ≡ v → 1 ≤ (if v then a.most else budget_of table l i)
        → HasEntry (a ∷ table) l i (if v then a.most else budget_of table l i)
    by rest true is some =
        let (level, id) = and_parts (a.level == l) (a.id.0 == i) is in
        record {
          entry = a;
          member = here a table;
          level = eqb-true a.level l level;
          id = eqb-true a.id.0 i id;
          most = refl;
        }
    by rest false is some =
        let e = rest some in
        record {
          entry = e.entry;
          member = later a e.entry table e.member;
          level = e.level;
          id = e.id;
          most = e.most;
        }
