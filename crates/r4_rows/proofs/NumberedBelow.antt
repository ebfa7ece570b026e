-- Rows with old numbers and then the next ones, over what comes below with others.
use Rattle.std.proofs.Common.{◌≡◌, ◌≢◌, ◌⊎◌, inl, inr, ℕ, ◌≤◌, List, ◌∷◌, sym, subst, ◌∙◌}
use Rattle.std.proofs.Common.{arith}
use Rattle.std.specs.Prelude.{Contains, Option, Some}
use Rattle.std.proofs.lemmas.List.Elements.{Contains-append_cases, Contains-append_left, Contains-append_right}
use Rattle.std.proofs.lemmas.Option.{none-some}
use Rattle.r4_base.specs.Tree.{Root, Store}
use Rattle.r4_base.specs.Value.{Value}
use Rattle.r4_cell.specs.Seen.{CellSeen, node_of}
use Rattle.r4_patch.specs.Joining.{ids_of}
use Rattle.r4_path.specs.Twigs.{IsUnused}
use Rattle.r4_patch.proofs.Members.{Distinct, distinct, distinct_append, have_names}
use Rattle.r4_path.proofs.Rising.{follow_within, id_member}
use Rattle.r4_rows.specs.Numbers.{IsNumberedChange}
use Rattle.r4_rows.specs.Rows.{IsRowChange, Row, all_news, all_olds, news_in, olds_in}
use Rattle.r4_path.proofs.TwigBelow.{id_cell}
use Rattle.r4_rows.proofs.Numbered.{not_free, numbered_distinct, numbered_each, where_from}
use Rattle.r4_rows.proofs.Stacked.{at_least, old_in, row_with, rows_distinct, same_level}

module _ (t : Store Value) (r : Root) (level n to : ℕ) (b s : Row) (more : List Row) (over : Option CellSeen)
    (is : IsNumberedChange t r level n to b s more over) where
  -- an old cell of the rows: it stands there, above what goes below
  old_high : (q : CellSeen) → Contains (olds_in (s ∷ more)) q → (2 ≤ q.level) × (t q.id ≡ Some (node_of q))
  old_high q mq =
      let (m, u, v, h, in_v) = old_in level b (s ∷ more) q mq in
      let up = row_with t level b s more m u v is.lowest is.mounts h in
      let le = at_least level b (s ∷ more) m u v h in
      let same = (follow_within m up.from up.to v.old q up.were in_v).level_as in
      let two = is.branch in
      (omega (arith, le, same, two), up.there q in_v)

  olds_once : Distinct (olds_in (s ∷ more))
  olds_once = rows_distinct t level b (s ∷ more) (λ m u v h. row_with t level b s more m u v is.lowest is.mounts h)

  apart : (x y : CellSeen) → Contains b.new x → Contains (news_in (s ∷ more) over) y → x.id ≢ y.id
  apart x y mx my same = elim (is.below.each x mx) [
    | inl old_x ↦
        let (o, mo, e) = id_cell b.old x.id old_x in
        let low = is.low_old o mo in
        elim (where_from n to (s ∷ more) over y is.numbers my) [
          | inl old_y ↦
              let (q, mq, f) = id_cell (olds_in (s ∷ more)) y.id old_y in
              let high = old_high q mq in
              let l = same_level t o q (is.gone o mo) high.1 (e ∙ (same ∙ sym f)) in
              let two = high.0 in
              omega (arith, low, two, l)
          | inr new_y ↦ not_free t n to y.id o is.free (is.gone o mo) (e ∙ same) new_y.0 new_y.1
        ]
    | inr other ↦
        let (unused, out) = other in
        elim (where_from n to (s ∷ more) over y is.numbers my) [
          | inl old_y ↦
              let (q, mq, f) = id_cell (olds_in (s ∷ more)) y.id old_y in
              none-some (node_of q)
              (sym unused.0 ∙ subst (λ j. t j ≡ Some (node_of q)) (f ∙ sym same) (old_high q mq).1)
          | inr new_y ↦ elim out [
            | inl less ↦ omega (arith, new_y, less, same)
            | inr more_than ↦ omega (arith, new_y, more_than, same)
          ]
        ]
  ]

  news_once : Distinct (all_news b s more over)
  news_once = distinct_append b.new (news_in (s ∷ more) over) (distinct b.new is.below.new)
      (numbered_distinct t n to (s ∷ more) over is.numbers olds_once (λ c at. (old_high c at).1) is.free) apart

  -- a number that is an old cell's of these, among all old ones
  low_id : (i : ℕ) → Contains (ids_of b.old) i → Contains (ids_of (all_olds b s more)) i
  low_id i at =
      let (o, mo, e) = id_cell b.old i at in
      subst (Contains (ids_of (all_olds b s more))) e
      (id_member (all_olds b s more) o (Contains-append_left b.old (olds_in (s ∷ more)) o mo))

  row_id : (i : ℕ) → Contains (ids_of (olds_in (s ∷ more))) i → Contains (ids_of (all_olds b s more)) i
  row_id i at =
      let (o, mo, e) = id_cell (olds_in (s ∷ more)) i at in
      subst (Contains (ids_of (all_olds b s more))) e
      (id_member (all_olds b s more) o (Contains-append_right b.old (olds_in (s ∷ more)) o mo))

  each : (c : CellSeen) → Contains (all_news b s more over) c
      → Contains (ids_of (all_olds b s more)) c.id ⊎ IsUnused t c.id
  each c at = elim (Contains-append_cases b.new (news_in (s ∷ more) over) c at) [
    | inl low ↦ elim (is.below.each c low) [ inl old ↦ inl (low_id c.id old) | inr other ↦ inr other.0 ]
    | inr high ↦ elim (numbered_each t n to (s ∷ more) over is.numbers is.free c high) [
      | inl old ↦ inl (row_id c.id old)
      | inr unused ↦ inr unused
    ]
  ]

  pub numbered_change : IsRowChange t r level b s more over
  numbered_change = record {
    part = is.part;
    branch = (let two = is.branch in omega (arith, two));
    gone = is.gone;
    low_old = is.low_old;
    low_new = is.low_new;
    lowest = is.lowest;
    mounts = is.mounts;
    ends = is.ends;
    nodes = is.nodes;
    old_names = is.below.old;
    new_names = have_names (all_news b s more over) news_once;
    each = each;
  }
