-- What is held for the nodes that a cell names is what these ask for.
use Rattle.std.proofs.Common.{◌≡◌, ◌≢◌, ◌⊎◌, inl, inr, ℕ, zero, suc, ◌+◌, ◌-◌, ◌<◌, ◌≤◌, Bool, true, false, List, [], ◌∷◌, ◌++◌, length, take, refl, sym, ap, subst, ◌∙◌, arith}
use Rattle.std.specs.Prelude.{Contains, Option, Some, None, ◌==◌, if◌then◌else◌, slice_get}
use Rattle.std.proofs.lemmas.Bool.{cases_eq, eqb-true}
use Rattle.std.proofs.lemmas.Option.{same_Some}
use Rattle.r4_base.specs.Tree.{Fits, Name, Node, Root, Store}
use Rattle.r4_base.specs.Value.{Value}
use Rattle.r4_search.specs.r4_cell.Patch.{HaveNames, by_name}
use Rattle.r4_search.specs.r4_cell.Seen.{CellSeen, node_of}
use Rattle.r4_reach.specs.r4_patch.Part.{IsPart}
use Rattle.r4_reach.proofs.r4_patch.Members.{absent, found, here, later}
use Rattle.r4_reach.specs.Demand.{Demand, ask, ask_of, heard, heard_one}
use Rattle.r4_reach.specs.Needs.{Ask}
use Rattle.r4_marking.specs.Marks.{AreAsks, AreLevels, AreMet, IsNoted, heard_by_id}

pub heard_same : (d : Demand Ask) (t : Store Value) (l : ℕ) (f : ℕ → Option Ask) (ns : List Name) → ((n : Name) → Contains ns n → 1 ≤ n.level → f n.id ≡ ask_of (ask d t l) (t n.id)) → heard_by_id f ns ≡ heard (ask d t l) t ns
heard_same d t l f [] h = refl
heard_same d t l f (n ∷ ns) h = by (n.level == 0) refl (heard_same d t l f ns (λ m at. h m (later n m ns at)))
  where
    by : (b : Bool) → (n.level == 0) ≡ b → heard_by_id f ns ≡ heard (ask d t l) t ns → heard_by_id f (n ∷ ns) ≡ heard (ask d t l) t (n ∷ ns)
    by true is rest = rw is rest
    by false is rest = rw is (λ i. heard_one n (h n (here n ns) (some is) i) (rest i))
      where
        some : (n.level == 0) ≡ false → 1 ≤ n.level
        some is = grind (arith, is)
