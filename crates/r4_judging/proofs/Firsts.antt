-- The first of the cells that are misnamed, of more names and of more cells.
use Rattle.std.proofs.Common.{◌≡◌, ◌⊎◌, inl, inr, ◌<◌, ◌≤◌, Bool, true, false, List, [], ◌++◌, refl, arith}
use Rattle.std.specs.Prelude.{Contains, Option, Some, None, nat_lt, if◌then◌else◌}
use Rattle.std.proofs.lemmas.Bool.Decides.{nat_tests}
use Rattle.std.proofs.lemmas.List.Elements.{Contains-append_cases, Contains-append_left, Contains-append_right}
use Rattle.r4_base.specs.Key.{rank}
use Rattle.r4_base.specs.Tree.{Name}
use Rattle.r4_base.specs.declared.items.CellFault.{CellFault}
use Rattle.r4_base.proofs.Choices.{nothing_in}
use Rattle.r4_cell.specs.Seen.{CellSeen}
use Rattle.r4_judging.specs.Judging.{IsFirst, IsFirstOf, IsJudged, Misnames, first_of, turn, turn_of}
use Rattle.r4_judging.specs.declared.misfit.Misfit.{Misfit}

-- ---- of any kind

module _ (P Q : CellSeen → CellFault → Type 0) (to : (c : CellSeen) (f : CellFault) → P c f → Q c f)
    (back : (c : CellSeen) (f : CellFault) → Q c f → P c f) where
  pub same_first : (o : Option Misfit) → IsFirstOf P o → IsFirstOf Q o
  same_first None h = λ c f is. h c f (back c f is)
  same_first (Some m) h = record {
    cell = h.cell;
    is = to h.cell m.fault h.is;
    id = h.id;
    level = h.level;
    lo = h.lo;
    first = λ c f is. h.first c f (back c f is);
  }

module _ (P Q : CellSeen → CellFault → Type 0) where
  abbrev Both : CellSeen → CellFault → Type 0
  Both c f = P c f ⊎ Q c f

  left : (m : Misfit) → IsFirst P m → ((c : CellSeen) (f : CellFault) → Q c f → turn_of m ≤ turn c.level (rank c.lo) f)
      → IsFirst Both m
  left m h other = record {
    cell = h.cell;
    is = inl h.is;
    id = h.id;
    level = h.level;
    lo = h.lo;
    first = λ c f is. elim is [ inl p ↦ h.first c f p | inr q ↦ other c f q ];
  }

  right : (m : Misfit) → IsFirst Q m → ((c : CellSeen) (f : CellFault) → P c f → turn_of m ≤ turn c.level (rank c.lo) f)
      → IsFirst Both m
  right m h other = record {
    cell = h.cell;
    is = inr h.is;
    id = h.id;
    level = h.level;
    lo = h.lo;
    first = λ c f is. elim is [ inl p ↦ other c f p | inr q ↦ h.first c f q ];
  }

  pub either_first : (a b : Option Misfit) → IsFirstOf P a → IsFirstOf Q b → IsFirstOf Both (first_of a b)
  either_first None None h g = λ c f is. elim is [ inl p ↦ h c f p | inr q ↦ g c f q ]
  either_first None (Some n) h g = right n g (λ c f p. absurd (h c f p))
  either_first (Some m) None h g = left m h (λ c f q. absurd (g c f q))
  either_first (Some m) (Some n) h g = by (nat_lt (turn_of n) (turn_of m)) refl
    where
      by : (t : Bool) → nat_lt (turn_of n) (turn_of m) ≡ t → IsFirstOf Both (if t then Some n else Some m)
      by true is = right n g
          (λ c f p. let lt : turn_of n < turn_of m = grind (arith, nat_tests, is) in let le = h.first c f p in omega
          (arith, lt, le))
      by false is = left m h
          (λ c f q. let ge : turn_of m ≤ turn_of n = grind (arith, nat_tests, is) in let le = g.first c f q in omega
          (arith, ge, le))

-- ---- of more names, and of more cells

pub judged_names : (ns ms : List Name) (met : List CellSeen) (a b : Option Misfit) → IsJudged ns met a
    → IsJudged ms met b → IsJudged (ns ++ ms) met (first_of a b)
judged_names ns ms met a b h g =
    same_first (λ c f. Misnames ns met c f ⊎ Misnames ms met c f) (Misnames (ns ++ ms) met) to back (first_of a b)
    (either_first (Misnames ns met) (Misnames ms met) a b h g)
  where
    to : (c : CellSeen) (f : CellFault) → Misnames ns met c f ⊎ Misnames ms met c f → Misnames (ns ++ ms) met c f
    to c f (inl m) = record {
      among = m.among;
      name = m.name;
      named = Contains-append_left ns ms m.name m.named;
      id = m.id;
      fault = m.fault;
    }
    to c f (inr m) = record {
      among = m.among;
      name = m.name;
      named = Contains-append_right ns ms m.name m.named;
      id = m.id;
      fault = m.fault;
    }

    back : (c : CellSeen) (f : CellFault) → Misnames (ns ++ ms) met c f → Misnames ns met c f ⊎ Misnames ms met c f
    back c f m = elim (Contains-append_cases ns ms m.name m.named) [
      | inl at ↦ inl (record { among = m.among; name = m.name; named = at; id = m.id; fault = m.fault })
      | inr at ↦ inr (record { among = m.among; name = m.name; named = at; id = m.id; fault = m.fault })
    ]

pub judged_cells : (ns : List Name) (ks ms : List CellSeen) (a b : Option Misfit) → IsJudged ns ks a → IsJudged ns ms b
    → IsJudged ns (ks ++ ms) (first_of a b)
judged_cells ns ks ms a b h g =
    same_first (λ c f. Misnames ns ks c f ⊎ Misnames ns ms c f) (Misnames ns (ks ++ ms)) to back (first_of a b)
    (either_first (Misnames ns ks) (Misnames ns ms) a b h g)
  where
    to : (c : CellSeen) (f : CellFault) → Misnames ns ks c f ⊎ Misnames ns ms c f → Misnames ns (ks ++ ms) c f
    to c f (inl m) = record
        { among = Contains-append_left ks ms c m.among; name = m.name; named = m.named; id = m.id; fault = m.fault }
    to c f (inr m) = record
        { among = Contains-append_right ks ms c m.among; name = m.name; named = m.named; id = m.id; fault = m.fault }

    back : (c : CellSeen) (f : CellFault) → Misnames ns (ks ++ ms) c f → Misnames ns ks c f ⊎ Misnames ns ms c f
    back c f m = elim (Contains-append_cases ks ms c m.among) [
      | inl at ↦ inl (record { among = at; name = m.name; named = m.named; id = m.id; fault = m.fault })
      | inr at ↦ inr (record { among = at; name = m.name; named = m.named; id = m.id; fault = m.fault })
    ]

-- no names misname, and no cell is misnamed where there is none
pub no_names : (met : List CellSeen) → IsJudged [] met None
no_names met c f m = nothing_in m.name m.named

pub no_cells : (ns : List Name) → IsJudged ns [] None
no_cells ns c f m = nothing_in c m.among

-- of other cells, of which those that are named are the same
pub judged_of : (ns : List Name) (ks ms : List CellSeen) (o : Option Misfit)
    → ((c : CellSeen) → Contains ks c → Contains ms c)
    → ((c : CellSeen) (n : Name) → Contains ms c → Contains ns n → n.id ≡ c.id → Contains ks c) → IsJudged ns ks o
    → IsJudged ns ms o
judged_of ns ks ms o to back h =
    same_first (Misnames ns ks) (Misnames ns ms)
    (λ c f m. record { among = to c m.among; name = m.name; named = m.named; id = m.id; fault = m.fault })
    (λ c f m. record
    { among = back c m.name m.among m.named m.id; name = m.name; named = m.named; id = m.id; fault = m.fault }) o h
