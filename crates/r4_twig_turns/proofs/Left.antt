-- What is left of a budget after a twig was packed anew: of a cell that the change does not make, as much as before.
use Rattle.std.proofs.Common.{◌≡◌, ◌⊎◌, inl, inr, ℕ, ◌+◌, ◌^◌, ◌<◌, ◌≤◌, List, [], ◌∷◌, ◌++◌, drop, length, take, refl, ap, sym, subst, ◌∙◌, arith}
use Rattle.std.specs.Prelude.{Contains, Option, Some}
use Rattle.std.specs.Option.{option_map}
use Rattle.std.proofs.lemmas.Bool.{cases_lt}
use Rattle.std.proofs.lemmas.List.Elements.{Contains-append_cases, Contains-append_left, Contains-append_right}
use Rattle.std.proofs.lemmas.List.Sums.{sum_by-append, sum_by-cons}
use Rattle.std.proofs.lemmas.List.{length-append}
use Rattle.r4_base.specs.Key.{rank}
use Rattle.r4_base.specs.Node.{items_of}
use Rattle.r4_base.specs.Tree.{Root, Store}
use Rattle.r4_base.specs.Value.{Value}
use Rattle.r4_twig_work.specs.r4_branch.Pieces.{twig_bytes}
use Rattle.r4_twig_work.specs.r4_branch.declared.piece.TwigPiece.{TwigPiece}
use Rattle.r4_twig_work.specs.r4_cell.Patch.{place, root_after, root_of_pair}
use Rattle.r4_twig_work.specs.r4_cell.Seen.{CellSeen, node_of}
use Rattle.r4_twig_work.specs.r4_cell.declared.change.Change.{Change}
use Rattle.r4_twig_work.specs.r4_cell.declared.change.Fresh.{Fresh}
use Rattle.r4_twig_work.proofs.r4_patch.Members.{found, here, later}
use Rattle.r4_twig_work.specs.r4_patch.Joining.{ids_of, patch_of_change}
use Rattle.r4_twig_work.specs.r4_patch.Part.{IsPart}
use Rattle.r4_twig_work.proofs.r4_path.Begun.{ascends_take}
use Rattle.r4_twig_work.proofs.r4_path.Rising.{count_within, follow_within}
use Rattle.r4_twig_work.specs.r4_path.Nodes.{IsPointable}
use Rattle.r4_twig_work.specs.r4_path.Steps.{Ascends, IsFree, Step, fresh_ids, news, olds}
use Rattle.r4_twig_work.specs.r4_measure.Budget.{AreSeen, Budget, IsBudget, IsFresh, cells_from, most_from}
use Rattle.r4_twig_work.specs.r4_measure.Grafting.{AreGraftsIn, Beside, IsQuietBelow, comes_below}
use Rattle.r4_twig_work.proofs.r4_measure.Climb.{in_left, in_right}
use Rattle.r4_twig_work.proofs.r4_measure.Grafted.{none_below}
use Rattle.r4_twig_work.proofs.r4_measure.Kept.{IsLift, IsLiftOf, lifted_budget, not_named}

-- each cell counts for one at least
pub long_sum : (b : Budget) (cells : List CellSeen) → length cells ≤ cells_from b cells
long_sum b [] = omega arith
long_sum b (c ∷ cs) = let a = sum_by-cons (λ (z : CellSeen). 1 + b z.level z.id) c cs in let h = long_sum b cs in omega (arith, a, h)

module _ (now : Store Value) (r : Root) (it : IsPart now r) (seen : AreSeen now) (f after : Fresh) (free : IsFree f.next f.end now) (unplaced : 2 ^ 63 ≤ f.next) (high : f.end < 2 ^ 64) (able : IsPointable r.id)
    (b : Budget) (is : IsBudget now r b) (twig : CellSeen) (ups : List CellSeen) (qs : List TwigPiece) (x : Beside) (d : Change) (g : AreGraftsIn now r b twig ups qs x f after d) where
  abbrev s : Step
  s = g.grafts.grafts.lowest

  abbrev more : List Step
  more = g.grafts.grafts.more

  abbrev over : Option CellSeen
  over = g.grafts.grafts.over

  old_is : s.old ≡ twig
  old_is = g.grafts.grafts.level.row.old

  s_level : s.old.level ≡ 2
  s_level = ap (λ (c : CellSeen). c.level) old_is ∙ g.grafts.level

  first : ids_of s.new ≡ s.old.id ∷ ids_of (drop 1 s.new)
  first = g.grafts.grafts.level.row.first ∙ ap (λ (c : CellSeen). c.id ∷ ids_of (drop 1 s.new)) (sym old_is)

  long : (cells : List CellSeen) → 1 ≤ length cells → length cells ≡ 1 + length (drop 1 cells)
  long [] h = absurd (omega (arith, h))
  long (c ∷ cs) h = omega arith

  come : length (drop 1 s.new) ≤ b 2 s.old.id
  come =
      let same : b 2 s.old.id ≡ b 2 twig.id = ap (λ (c : CellSeen). b 2 c.id) old_is in
      elim (cases_lt 4068 (twig_bytes qs)) [
        | inl past ↦
            let n = g.grafts.grafts.level.several past in
            let l = long s.new (omega (arith, n)) in
            elim g.come [ inl fits ↦ absurd (omega (arith, past, fits)) | inr h ↦ omega (arith, n, l, h, same) ]
        | inr fits ↦ let n = g.grafts.grafts.level.one fits in let l = long s.new (omega (arith, n)) in omega (arith, n, l)
      ]

  fresh : (i : ℕ) → Contains (fresh_ids (s ∷ more) over) i → IsFresh f i
  fresh i member =
      let w = count_within g.grafts.mid.next (fresh_ids (s ∷ more) over) i g.grafts.grafts.counts member in
      let n = ap (λ (y : Fresh). y.next) g.grafts.grafts.number in
      let t = g.grafts.took in
      let a = g.grafts.takes in
      (omega (arith, w, t), omega (arith, w, n, a))

  ups_stand : Ascends now (Some s.old) (olds more)
  ups_stand = subst (λ cells. Ascends now (Some s.old) cells) (sym g.grafts.grafts.ups_are)
      (subst (λ (c : CellSeen). Ascends now (Some c) (take (length more) ups)) (sym old_is) (ascends_take now (Some twig) (length more) ups g.path.3))

  lift : IsLift now r f b 2 s more over
  lift = record {
    low = omega arith;
    first = first;
    level = s_level;
    levels = λ c m. (follow_within 2 (rank twig.lo) (rank twig.hi) s.new c g.grafts.grafts.level.row.ranges m).level_as;
    come = come;
    fresh = fresh;
    climbs = g.grafts.grafts.climbs;
    keep = g.grafts.grafts.keep;
    needed = g.grafts.grafts.needed;
    rows = g.grafts.grafts.rows;
    ends = g.grafts.grafts.ends r g.enough;
    stands = subst (λ (c : CellSeen). now c.id ≡ Some (node_of c)) (sym old_is) g.path.0;
    ups = ups_stand;
    own = λ c m member two some. inr (inl (none_below (b m) (λ i. g.quiet m i (omega (arith, two))) (items_of c.block)));
  }

  new_are : d.new ≡ (x.below.new ++ (s.new ++ news more over)) ++ x.blocks
  new_are = ap (λ (c : Change). c.new) g.grafts.is
      ∙ ap (λ cells. cells ++ x.blocks) (g.grafts.below_is.new_is ∙ ap (λ cells. x.below.new ++ cells) g.grafts.grafts.levels.new)

  old_are : d.old ≡ x.below.old ++ (s.old ∷ olds more)
  old_are = ap (λ (c : Change). c.old) g.grafts.is ∙ (g.grafts.below_is.old_is ∙ ap (λ cells. x.below.old ++ cells) g.grafts.grafts.levels.old)

  root_are : d.root ≡ g.grafts.change.root
  root_are = ap (λ (c : Change). c.root) g.grafts.is ∙ g.grafts.below_is.root_is

  abbrev ours : List CellSeen
  ours = s.new ++ news more over

  either : (c : CellSeen) → Contains ((x.below.new ++ ours) ++ x.blocks) c → Contains (comes_below x) c ⊎ Contains ours c
  either c m = elim (Contains-append_cases (x.below.new ++ ours) x.blocks c m) [
    | inl front ↦ elim (Contains-append_cases x.below.new ours c front) [
      | inl leaf ↦ inl (Contains-append_left x.below.new x.blocks c leaf)
      | inr mine ↦ inr mine
    ]
    | inr block ↦ inl (Contains-append_right x.below.new x.blocks c block)
  ]

  of : IsLiftOf (patch_of_change d) (comes_below x) s more over
  of = record {
    low = g.grafts.low;
    from = λ i n o. let (c, member, id_is, says) = found d.new i n o in (c, either c (subst (λ cs. Contains cs c) new_are member), id_is, says);
    all = λ i o m. not_named d.new i o (subst (λ cs. Contains (ids_of cs) i) (sym new_are) (in_left (x.below.new ++ ours) x.blocks i (in_right x.below.new ours i m)));
    root = ap (option_map root_of_pair) (root_are ∙ g.grafts.grafts.levels.pair);
  }

  -- cells of which nothing comes
  alone : (c2 : Budget) → IsQuietBelow c2 → (cells : List CellSeen) → ((c : CellSeen) → Contains cells c → c.level ≤ 1) → cells_from c2 cells ≡ length cells
  alone c2 quiet [] low = refl
  alone c2 quiet (c ∷ cs) low =
      let a = sum_by-cons (λ (y : CellSeen). 1 + c2 y.level y.id) c cs in
      let z = quiet c.level c.id (low c (here c cs)) in
      let rest = alone c2 quiet cs (λ y m. low y (later c y cs m)) in
      omega (arith, a, z, rest)

  pub left_budget : (c2 : Budget) × IsBudget (place (patch_of_change d) now) (root_after (patch_of_change d) r) c2 × ((k i : ℕ) → (IsFresh f i → ⊥) → c2 k i ≤ b k i) × IsQuietBelow c2
      × ((k i : ℕ) → (Contains (ids_of d.new) i → ⊥) → c2 k i ≡ b k i) × (most_from c2 (root_after (patch_of_change d) r) d.new + length x.below.old ≤ most_from b r d.old + length (comes_below x)) × (b r.height r.id ≡ 0 → (root_after (patch_of_change d) r ≡ r) × (c2 r.height r.id ≡ 0))
  left_budget =
      let (c2, budget, same, less, few, stays, low) = lifted_budget now r it seen f free unplaced high able b is 2 s more over lift (patch_of_change d) (comes_below x) of in
      let quiet : IsQuietBelow c2 = λ l i at. ap (λ g2. g2 i) (low l (omega (arith, at))) ∙ g.quiet l i at in
      let e = ap (cells_from c2) new_are in
      let e1 = sum_by-append (λ (c : CellSeen). 1 + c2 c.level c.id) (x.below.new ++ ours) x.blocks in
      let e2 = sum_by-append (λ (c : CellSeen). 1 + c2 c.level c.id) x.below.new ours in
      let z1 = alone c2 quiet x.below.new (λ c m. g.grafts.low c (Contains-append_left x.below.new x.blocks c m)) in
      let z2 = alone c2 quiet x.blocks (λ c m. g.grafts.low c (Contains-append_right x.below.new x.blocks c m)) in
      let n = length-append x.below.new x.blocks in
      let o = ap (cells_from b) old_are in
      let o1 = sum_by-append (λ (c : CellSeen). 1 + b c.level c.id) x.below.old (s.old ∷ olds more) in
      let gone = long_sum b x.below.old in (
        c2,
        budget,
        less,
        quiet,
        (λ k i out. same k i (λ m. out (subst (λ cs. Contains (ids_of cs) i) (sym new_are) (in_left (x.below.new ++ ours) x.blocks i (in_right x.below.new ours i m))))),
        omega (arith, few, e, e1, e2, z1, z2, n, o, o1, gone),
        stays,
      )
