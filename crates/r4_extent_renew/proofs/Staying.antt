-- What may still come of a set in which data blocks got other bytes.
use Rattle.std.proofs.Common.{◌≡◌, inl, inr, ℕ, ◌+◌, List, [], ◌∷◌, sym, ap, subst, ◌∙◌, arith}
use Rattle.std.specs.Prelude.{Contains, Some}
use Rattle.std.specs.Option.{option_map, unwrap_or}
use Rattle.std.proofs.lemmas.List.Sums.{sum_by-cons}
use Rattle.r4_base.specs.Tree.{Node, Root, Store}
use Rattle.r4_base.specs.Value.{Value}
use Rattle.r4_twig_work.specs.r4_cell.Patch.{by_name, place, root_of_pair}
use Rattle.r4_twig_work.specs.r4_cell.Seen.{CellSeen}
use Rattle.r4_twig_work.specs.r4_cell.declared.change.Fresh.{Fresh}
use Rattle.r4_content.specs.Edited.{Edits}
use Rattle.r4_twig_work.specs.r4_measure.Budget.{AreSeen, Budget, IsBudget, cells_from}
use Rattle.r4_twig_work.specs.r4_measure.Measured.{IsMeasured}
use Rattle.r4_twig_work.proofs.r4_measure.Placed.{placed_few, placed_measured}
use Rattle.r4_twig_work.specs.r4_patch.Joining.{patch_of_change}
use Rattle.r4_twig_work.proofs.r4_patch.Members.{cases, found, here, later, none}
use Rattle.r4_twig_work.proofs.r4_patch.Placed.{over_from}
use Rattle.r4_twig_work.proofs.r4_path.Rising.{level_is}
use Rattle.r4_twig_work.specs.Renewing.{IsRenewed, renewing}
use Rattle.r4_twig_work.specs.r4_work.Working.{now_of, root_of, standing}
use Rattle.r4_twig_work.specs.r4_work.declared.working.WorkingSet.{WorkingSet}
use Rattle.r4_extent_renew.specs.Overwriting.{AreOverwritten, IsStandingBlock, StaysMeasured}

news_low : (e : Edits) (olds news : List CellSeen) → AreOverwritten e olds news → (c : CellSeen) → Contains news c → c.level ≡ 0
news_low e [] news is c at = absurd (none c (subst (λ xs. Contains xs c) is at))
news_low e (o ∷ os) news (d, ds, is, one, rest) c at = elim (cases d c ds (subst (λ xs. Contains xs c) is at)) [
  | inl same ↦ ap (λ (x : CellSeen). x.level) same ∙ one.level
  | inr more ↦ news_low e os ds rest c more
]

-- of the new ones may come what might come of the old ones
same_most : (e : Edits) (b : Budget) (olds news : List CellSeen) → AreOverwritten e olds news → ((c : CellSeen) → Contains olds c → c.level ≡ 0) → cells_from b news ≡ cells_from b olds
same_most e b [] news is low = ap (cells_from b) is
same_most e b (o ∷ os) news (d, ds, is, one, rest) low =
    let h = same_most e b os ds rest (λ c m. low c (later o c os m)) in
    let a = sum_by-cons (λ (c : CellSeen). 1 + b c.level c.id) d ds in
    let z = sum_by-cons (λ (c : CellSeen). 1 + b c.level c.id) o os in
    let level : d.level ≡ o.level = one.level ∙ sym (low o (here o os)) in
    let same : b d.level d.id ≡ b o.level o.id = λ i. b (level i) (one.number i) in
    let n = ap (cells_from b) is in
    omega (arith, a, z, same, n, h)

module _ (e : Edits) (t : Store Value) (r : Root) (f : Fresh) (w now : WorkingSet) (b : Budget) (olds news : List CellSeen) (each : (c : CellSeen) → Contains olds c → IsStandingBlock w c)
    (made : AreOverwritten e olds news) (is : IsRenewed t r f w now olds news) (m : IsMeasured t r f w b) where
  new_low : (i : ℕ) (c : Node Value) → by_name news i ≡ Some c → c.level ≡ 0
  new_low i c named =
      let (x, at, id, says) = found news i c named in
      ap (λ (n : Node Value). n.level) says ∙ (level_is x ∙ news_low e olds news made x at)

  budget : IsBudget (place (patch_of_change (renewing olds news)) (now_of w t)) (root_of w r) b
  budget = record {
    bears = λ i c l at up low. elim (over_from (by_name news i) (by_name olds i) (now_of w t i) c at) [
      | inl new ↦ let z = new_low i c new in absurd (omega (arith, z, up))
      | inr was ↦ m.budget.bears i c l was.2 up low
    ];
    small = m.budget.small;
    root = m.budget.root;
  }

  seen : AreSeen (place (patch_of_change (renewing olds news)) (now_of w t))
  seen i c at = elim (over_from (by_name news i) (by_name olds i) (now_of w t i) c at) [
    | inl new ↦ let (x, in_news, id, says) = found news i c new in (x, says)
    | inr was ↦ m.seen i c was.2
  ]

  stood : (c : CellSeen) → Contains olds c → Contains (standing w) c
  stood c at = (each c at).stands

  pub stays_measured : StaysMeasured t r f w now b
  stays_measured = record {
    measured = placed_measured t r f w b m now f (renewing olds news) is.change is.meets stood is.put is.working b budget seen m.height (λ l i old. omega arith);
    few =
        let most = same_most e b olds news made (λ c at. (each c at).level) in
        let h = placed_few t r f w b m now f (renewing olds news) is.change is.meets stood is.put is.working b budget seen m.height (λ l i old. omega arith) 0 (omega (arith, most)) in
        omega (arith, h);
    root = ap (λ o. unwrap_or (option_map root_of_pair o) r) is.put.followed.root;
  }
