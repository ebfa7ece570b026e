-- A squeezed slum and its parent are a change of rows.
use Rattle.std.proofs.Common.{◌≡◌, inl, inr, ℕ, suc, ◌<◌, ◌≤◌, List, [], ◌∷◌, ◌++◌, length, take, refl, sym, ap}
use Rattle.std.proofs.Common.{subst, ◌∙◌, arith}
use Rattle.std.specs.Prelude.{false, Contains, None, Some}
use Rattle.std.proofs.lemmas.List.Elements.{Contains-append_cases, Contains-append_left, Contains-append_right}
use Rattle.r4_base.specs.Key.{rank}
use Rattle.r4_base.specs.Tree.{IsNode, Root, Store}
use Rattle.r4_base.specs.Value.{Value}
use Rattle.r4_patch.specs.Effect.{HasEffect}
use Rattle.r4_cell.specs.Patch.{IsChange}
use Rattle.r4_cell.specs.Seen.{CellSeen, node_of}
use Rattle.r4_patch.specs.Joining.{ids_of}
use Rattle.r4_patch.specs.Part.{MeetsPart}
use Rattle.r4_patch.proofs.PartCells.{one_above}
use Rattle.r4_path.specs.Steps.{Follow, name_of}
use Rattle.r4_patch.proofs.Members.{Distinct, have_names, here, none}
use Rattle.r4_path.proofs.Rising.{follow_within, id_member, level_is, lo_is, hi_is}
use Rattle.r4_rows.specs.Rows.{EndsIn, IsPlainRowChange, IsRow, IsRowChange, Mounts, Row, no_row}
use Rattle.r4_rows.specs.Slum.{IsSlum, IsSqueezed, slum_patch}
use Rattle.r4_path.proofs.TwigBelow.{id_cell}
use Rattle.r4_rows.proofs.RowCells.{rows_change, rows_meet}
use Rattle.r4_rows.proofs.RowUnits.{cells_effect, in_units, of_units, plain_rows, same_bool}
use Rattle.r4_rows.specs.Units.{UnitOf}
use Rattle.r4_patch.specs.Effect.{Placed}
use Rattle.std.proofs.lemmas.Bool.{cases_lt}
use Rattle.r4_rows.proofs.Lists.{distinct_left, in_take, naming_one, one_naming, one_of}
use Rattle.r4_rows.proofs.Stacked.{Stands, moved, rows_distinct}

-- ---- numbers

-- the cells have the first numbers of others, and one more has the last one's
fewer_distinct : (slum : List CellSeen) (parent : CellSeen) (cells : List CellSeen) (over : CellSeen)
    → Distinct (slum ++ parent ∷ [])
    → ids_of cells ≡ take (length cells) (ids_of slum) → over.id ≡ parent.id → Distinct (cells ++ over ∷ [])
fewer_distinct slum parent [] over d ids id = (λ y at. absurd (none y at), tt)
fewer_distinct [] parent (c ∷ cells) over d ids id = absurd cc
fewer_distinct (x ∷ slum) parent (c ∷ cells) over (first, rest) ids id =
    let head : c.id ≡ x.id = cc in
    let tail : ids_of cells ≡ take (length cells) (ids_of slum) = cc in (
      λ y at same. elim (Contains-append_cases cells (over ∷ []) y at) [
        | inl mine ↦
            let among = in_take (length cells) (ids_of slum) y.id
            (subst (λ is. Contains is y.id) tail (id_member cells y mine)) in
            let (o, mo, e) = id_cell slum y.id among in
            first o (Contains-append_left slum (parent ∷ []) o mo) (sym head ∙ (same ∙ sym e))
        | inr last ↦
            let e = ap (λ (z : CellSeen). z.id) (one_of over y last) in
            first parent (Contains-append_right slum (parent ∷ []) parent (here parent []))
            (sym head ∙ (same ∙ (e ∙ id)))
      ],
      fewer_distinct slum parent cells over rest tail id,
    )

follow_some : (level from to : ℕ) (cells : List CellSeen) → Follow level from to cells → from < to → (c : CellSeen)
    × Contains cells c
follow_some level from to [] e lt = absurd (omega (arith, e, lt))
follow_some level from to (c ∷ cells) f lt = (c, here c cells)

module _ (t : Store Value) (r : Root) (slum cells : List CellSeen) (parent over : CellSeen)
    (is : IsSlum t r slum parent)
    (sq : IsSqueezed slum parent cells over) where
  abbrev row : Row
  row = record { old = slum; new = cells }

  abbrev top : Row
  top = record { old = parent ∷ []; new = over ∷ [] }

  parent_node : IsNode (node_of parent)
  parent_node = is.part.nodes parent.id (node_of parent) is.above

  parent_level : parent.level ≡ suc is.level
  parent_level =
      let (c, mc) = follow_some is.level is.from is.to slum is.follow is.some in
      let cl = (follow_within is.level is.from is.to slum c is.follow mc).level_as in
      let low = is.branch in
      let up = one_above (node_of parent) (name_of c) parent_node (is.named c mc) (omega (arith, cl, low)) in
      let pl = level_is parent in
      omega (arith, up, pl, cl)

  parent_range : rank parent.lo < rank parent.hi
  parent_range =
      let lo = lo_is parent in
      let hi = hi_is parent in
      let lt = parent_node.nonempty in
      omega (arith, lo, hi, lt)

  lowest : IsRow t is.level no_row row
  lowest = record {
    from = is.from;
    to = is.to;
    were = is.follow;
    are = sq.ranges is.level is.from is.to is.follow;
    there = is.there;
    leads = λ c at. absurd (none c at);
    names = λ n. (
      λ h. inl ((sq.names n).0 h, λ g. none g.0 g.1),
      λ h. elim h [ inl g ↦ (sq.names n).1 g.0 | inr g ↦ absurd (none g.0 g.1) ],
    );
  }

  upper : IsRow t (suc is.level) row top
  upper =
      let lt = parent_range in
      let lo = sq.lo in
      let hi = sq.hi in
      record {
        from = rank parent.lo;
        to = rank parent.hi;
        were = (parent_level, refl, lt, refl);
        are = (sq.level ∙ parent_level, lo, omega (arith, lt, hi), hi);
        there = λ c at. subst (λ (z : CellSeen). t z.id ≡ Some (node_of z)) (sym (one_of parent c at)) is.above;
        leads = λ c at. one_naming parent (name_of c) (is.named c at);
        names = λ n. (
          λ h. elim ((sq.pointers n).0 (naming_one over n h)) [
            | inl g ↦ inl (one_naming parent n g.0, g.1)
            | inr g ↦ inr g
          ],
          λ h. one_naming over n ((sq.pointers n).1
              (elim h [ inl g ↦ inl (naming_one parent n g.0, g.1) | inr g ↦ inr g ])),
        );
      }

  mounts : 2 ≤ is.level → Mounts t (suc is.level) row (top ∷ [])
  mounts two = (upper, λ e. absurd (omega (arith, e, two)), tt)

  olds_once : Distinct (slum ++ parent ∷ [])
  olds_once = rows_distinct t is.level no_row (row ∷ (top ∷ [])) (λ m u v h. by_place m u v h)
    where
      by_place : (m : ℕ) (u v : Row) → Stands is.level no_row (row ∷ (top ∷ [])) m u v → IsRow t m u v
      by_place m u v (inl (em, eu, ev)) = moved t is.level m no_row u row v em eu ev lowest
      by_place m u v (inr (inl (em, eu, ev))) = moved t (suc is.level) m row u top v em eu ev upper
      by_place m u v (inr (inr h)) = absurd h

  ends : EndsIn r row (top ∷ []) None
  ends = record { was = parent; is = over; old = refl; new = refl; id = sq.id }

  old_ids : (c : CellSeen) → Contains (cells ++ over ∷ []) c → Contains (ids_of (slum ++ parent ∷ [])) c.id
  old_ids c at = elim (Contains-append_cases cells (over ∷ []) c at) [
    | inl mine ↦
        let among = in_take (length cells) (ids_of slum) c.id
        (subst (λ (xs : List ℕ). Contains xs c.id) sq.ids (id_member cells c mine)) in
        let (o, mo, e) = id_cell slum c.id among in
        subst (Contains (ids_of (slum ++ parent ∷ []))) e
        (id_member (slum ++ parent ∷ []) o (Contains-append_left slum (parent ∷ []) o mo))
    | inr last ↦
        let e = ap (λ (z : CellSeen). z.id) (one_of over c last) ∙ sq.id in
        subst (Contains (ids_of (slum ++ parent ∷ []))) (sym e)
        (id_member (slum ++ parent ∷ []) parent (Contains-append_right slum (parent ∷ []) parent (here parent [])))
  ]

  news_once : Distinct (cells ++ over ∷ [])
  news_once = fewer_distinct slum parent cells over olds_once sq.ids sq.id

  -- above the leaves: rows alone
  plain : 2 ≤ is.level → IsPlainRowChange t r is.level row (top ∷ []) None
  plain two = record {
    part = is.part;
    branch = is.branch;
    lowest = lowest;
    mounts = mounts two;
    ends = ends;
    nodes = sq.nodes;
    new_names = have_names (cells ++ over ∷ []) news_once;
    each = λ c at. inl (old_ids c at);
  }

  high_rows : 2 ≤ is.level → IsRowChange t r is.level no_row row (top ∷ []) None
  high_rows two = plain_rows t r is.level row (top ∷ []) None (plain two)

  -- leaves: what goes and comes below a twig
  old_level : (c : CellSeen) → Contains slum c → c.level ≡ is.level
  old_level c at = (follow_within is.level is.from is.to slum c is.follow at).level_as

  new_level : (c : CellSeen) → Contains cells c → c.level ≡ is.level
  new_level c at = (follow_within is.level is.from is.to cells c
      (sq.ranges is.level is.from is.to is.follow) at).level_as

  low_rows : is.level ≡ 1 → IsRowChange t r 2 row top [] None
  low_rows one = record {
    part = is.part;
    branch = omega arith;
    gone = is.there;
    low_old = λ c at. let l = old_level c at in omega (arith, l, one);
    low_new = λ c at. let l = new_level c at in omega (arith, l, one);
    lowest = subst (λ n. IsRow t n row top) (ap suc one) upper;
    mounts = tt;
    ends = record { was = parent; is = over; old = refl; new = refl; id = sq.id };
    nodes = sq.nodes;
    old_names = have_names slum (distinct_left slum (parent ∷ []) olds_once);
    new_names = have_names (cells ++ over ∷ []) news_once;
    each = λ c at. inl (old_ids c at);
  }

  unit_before : (k : ℕ) (u : Placed Value) → UnitOf (cells ++ over ∷ []) k u → UnitOf (slum ++ parent ∷ []) k u
  unit_before k u (x, mx, member, kind) = elim (Contains-append_cases cells (over ∷ []) x mx) [
    | inl mine ↦
        let (y, my, in_y) = of_units slum (k, u.0)
        (subst (λ (us : List (ℕ × Value)). Contains us (k, u.0)) sq.units (in_units cells x (k, u.0) mine member)) in (
          y,
          Contains-append_left slum (parent ∷ []) y my,
          in_y,
          same_bool x.level y.level u.1 (new_level x mine ∙ sym (old_level y my)) kind,
        )
    | inr last ↦
        let e = one_of over x last in (
          parent,
          Contains-append_right slum (parent ∷ []) parent (here parent []),
          subst (λ (us : List (ℕ × Value)). Contains us (k, u.0)) sq.own
              (subst (λ (z : CellSeen). Contains (node_of z).units (k, u.0)) e member),
          same_bool x.level parent.level u.1 (ap (λ (z : CellSeen). z.level) e ∙ sq.level) kind,
        )
  ]

  unit_after : (k : ℕ) (u : Placed Value) → UnitOf (slum ++ parent ∷ []) k u → UnitOf (cells ++ over ∷ []) k u
  unit_after k u (x, mx, member, kind) = elim (Contains-append_cases slum (parent ∷ []) x mx) [
    | inl mine ↦
        let (y, my, in_y) = of_units cells (k, u.0)
        (subst (λ (us : List (ℕ × Value)). Contains us (k, u.0)) (sym sq.units) (in_units slum x (k, u.0) mine member))
        in (
          y,
          Contains-append_left cells (over ∷ []) y my,
          in_y,
          same_bool x.level y.level u.1 (old_level x mine ∙ sym (new_level y my)) kind,
        )
    | inr last ↦
        let e = one_of parent x last in (
          over,
          Contains-append_right cells (over ∷ []) over (here over []),
          subst (λ (us : List (ℕ × Value)). Contains us (k, u.0)) (sym sq.own)
              (subst (λ (z : CellSeen). Contains (node_of z).units (k, u.0)) e member),
          same_bool x.level over.level u.1 (ap (λ (z : CellSeen). z.level) e ∙ sym sq.level) kind,
        )
  ]

  is_leaf : is.level < 2 → is.level ≡ 1
  is_leaf less = let one = is.branch in omega (arith, less, one)

  pub squeezed_change : IsChange (slum ++ parent ∷ []) (cells ++ over ∷ []) None
  squeezed_change = elim (cases_lt is.level 2) [
    | inl less ↦ rows_change t r 2 row top [] None (low_rows (is_leaf less))
    | inr two ↦ rows_change t r is.level no_row row (top ∷ []) None (high_rows two)
  ]

  pub squeezed_meets : MeetsPart (slum_patch slum parent cells over) t r
  squeezed_meets = elim (cases_lt is.level 2) [
    | inl less ↦ rows_meet t r 2 row top [] None (low_rows (is_leaf less))
    | inr two ↦ rows_meet t r is.level no_row row (top ∷ []) None (high_rows two)
  ]

  pub squeezed_effect : HasEffect (slum_patch slum parent cells over) (λ k. false) (λ k. None)
  squeezed_effect = cells_effect (slum ++ parent ∷ []) (cells ++ over ∷ []) None (λ k. false)
      (λ k. None) olds_once news_once (record {
        held = λ k e. absurd cc;
        there = λ k u e. absurd cc;
        others = λ k u out. (unit_before k u, unit_after k u);
      })
