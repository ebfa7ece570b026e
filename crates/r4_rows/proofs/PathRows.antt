-- A change along a path is one of rows of one old cell each.
use Rattle.std.proofs.Common.{◌≡◌, inl, inr, ℕ, suc, ◌<◌, ◌≤◌, List, [], ◌∷◌, ◌++◌, drop, map, refl, sym, ap, subst}
use Rattle.std.proofs.Common.{◌∙◌, arith}
use Rattle.std.specs.Prelude.{◌↔◌, Contains, Option, None, Some}
use Rattle.r4_base.specs.Key.{rank}
use Rattle.r4_base.specs.Tree.{IsNode, Name, Root, Span, Store}
use Rattle.r4_base.specs.Value.{Value}
use Rattle.r4_cell.specs.Patch.{HaveNames}
use Rattle.r4_cell.specs.Seen.{CellSeen, node_of}
use Rattle.r4_patch.specs.Joining.{ids_of}
use Rattle.r4_patch.specs.Part.{IsPart}
use Rattle.r4_patch.proofs.PartCells.{one_above}
use Rattle.r4_path.specs.Steps.{AreNaming, AreSpanning, Ascends, Climbs, Ends, Follow, IsPathChange, IsStep, Step}
use Rattle.r4_path.specs.Steps.{fresh_ids, name_of, news, olds}
use Rattle.r4_patch.proofs.Members.{have_names, here, none}
use Rattle.r4_path.proofs.OnPath.{distinct_news, new_id, stands_old}
use Rattle.r4_path.proofs.Rising.{count_within, hi_is, id_member, level_is, lo_is}
use Rattle.r4_rows.specs.Rows.{EndsIn, EndsRow, IsRow, IsRowChange, KeepsSpans, Mounts, news_in, no_row, olds_in}
use Rattle.r4_rows.proofs.Lists.{naming_one, one_naming, one_of}
use Rattle.r4_rows.specs.Steps.{row_of_step}
use Rattle.r4_rows.proofs.RowUnits.{plain_rows}

pub olds_same : (steps : List Step) → olds_in (map row_of_step steps) ≡ olds steps
olds_same [] = refl
olds_same (s ∷ steps) = ap (λ (cs : List CellSeen). s.old ∷ cs) (olds_same steps)

pub news_same : (steps : List Step) (over : Option CellSeen) → news_in (map row_of_step steps) over ≡ news steps over
news_same [] None = refl
news_same [] (Some c) = refl
news_same (s ∷ steps) over = ap (λ (cs : List CellSeen). s.new ++ cs) (news_same steps over)

pub names_one : (c : CellSeen) (n : Name) → AreNaming (c ∷ []) n ↔ Contains (node_of c).names n
names_one c n = (naming_one c n, one_naming c n)

spanning_one : (c : CellSeen) (n : Span) → AreSpanning (c ∷ []) n ↔ Contains (node_of c).spans n
spanning_one c n = (
  λ h. let (x, mx, member) = h in subst (λ (z : CellSeen). Contains (node_of z).spans n) (one_of c x mx) member,
  λ h. (c, here c [], h),
)

pub step_range : (c : CellSeen) → IsNode (node_of c) → rank c.lo < rank c.hi
step_range c ok = let lo = lo_is c in let hi = hi_is c in let lt = ok.nonempty in omega (arith, lo, hi, lt)

module _ (t : Store Value) (r : Root) (part : IsPart t r) where
  lowest_row : (s : Step) → t s.old.id ≡ Some (node_of s.old) → IsStep None s
      → IsRow t s.old.level no_row (row_of_step s)
  lowest_row s at step = record {
    from = rank s.old.lo;
    to = rank s.old.hi;
    were = (refl, refl, step_range s.old (part.nodes s.old.id (node_of s.old) at), refl);
    are = step.ranges;
    there = λ c mc. subst (λ (z : CellSeen). t z.id ≡ Some (node_of z)) (sym (one_of s.old c mc)) at;
    leads = λ c mc. absurd (none c mc);
    names = λ n. (
      λ h. inl ((names_one s.old n).1 ((step.names n).0 h), λ g. none g.0 g.1),
      λ h. elim h [
        | inl g ↦ (step.names n).1 ((names_one s.old n).0 g.0)
        | inr g ↦ absurd (none g.0 g.1)
      ],
    );
  }

  row_over : (b u : Step) (l : ℕ) → u.old.level ≡ l → t u.old.id ≡ Some (node_of u.old)
      → Contains (node_of u.old).names (name_of b.old)
      → IsStep (Some b) u → IsRow t l (row_of_step b) (row_of_step u)
  row_over b u l level at leads step = record {
    from = rank u.old.lo;
    to = rank u.old.hi;
    were = (level, refl, step_range u.old (part.nodes u.old.id (node_of u.old) at), refl);
    are = subst (λ m. Follow m (rank u.old.lo) (rank u.old.hi) u.new) level step.ranges;
    there = λ c mc. subst (λ (z : CellSeen). t z.id ≡ Some (node_of z)) (sym (one_of u.old c mc)) at;
    leads = λ c mc. (names_one u.old (name_of c)).1
        (subst (λ (z : CellSeen). Contains (node_of u.old).names (name_of z)) (sym (one_of b.old c mc)) leads);
    names = λ n. (
      λ h. elim ((step.names n).0 h) [
        | inl g ↦ inl (
          (names_one u.old n).1 g.0,
          λ k. let (x, mx, e) = k in g.1 (e ∙ ap name_of (one_of b.old x mx)),
        )
        | inr g ↦ inr g
      ],
      λ h. (step.names n).1 (elim h [
        | inl g ↦ inl ((names_one u.old n).0 g.0, λ e. g.1 (b.old, here b.old [], e))
        | inr g ↦ inr g
      ]),
    );
  }

  spans_over : (b u : Step) → IsStep (Some b) u → KeepsSpans (row_of_step u)
  spans_over b u step x = (
    λ h. (spanning_one u.old x).1 ((step.spans x).0 h),
    λ h. (step.spans x).1 ((spanning_one u.old x).0 h),
  )

  pub mounts_over : (b : Step) (l : ℕ) (steps : List Step) → b.old.level ≡ l → 1 ≤ l
      → Ascends t (Some b.old) (olds steps)
      → Climbs (Some b) steps → Mounts t (suc l) (row_of_step b) (map row_of_step steps)
  mounts_over b l [] level low path climbs = tt
  mounts_over b l (u ∷ us) level low (at, one, leads, rest) (step, more) =
      let up = one_above (node_of u.old) (name_of b.old) (part.nodes u.old.id (node_of u.old) at) leads
      (omega (arith, level, low)) in
      let ul = level_is u.old in
      let here_level : u.old.level ≡ suc l = omega (arith, up, ul, level) in (
        row_over b u (suc l) here_level at leads step,
        λ e. spans_over b u step,
        mounts_over u (suc l) us here_level (omega arith) rest more,
      )

head_id : (s : Step) (c : CellSeen) → ids_of s.new ≡ s.old.id ∷ ids_of (drop 1 s.new) → s.new ≡ c ∷ [] → c.id ≡ s.old.id
head_id s c first e =
    let one : ids_of (c ∷ []) ≡ s.old.id ∷ ids_of (drop 1 (c ∷ [])) = subst
    (λ (cells : List CellSeen). ids_of cells ≡ s.old.id ∷ ids_of (drop 1 cells)) e first in
    cc

pub last_ends : (r : Root) (s : Step) (over : Option CellSeen) → ids_of s.new ≡ s.old.id ∷ ids_of (drop 1 s.new)
    → Ends r (s ∷ []) over
    → EndsRow r (row_of_step s) over
last_ends r s None first (c, e) = record { was = s.old; is = c; old = refl; new = e; id = head_id s c first e }
last_ends r s (Some c) first root = record {
  was = s.old;
  old = refl;
  id = root.was;
  level = root.level;
  lo = root.lo;
  hi = root.hi;
  names = λ n. (
    λ h. (root.names n).0 ((names_one c n).0 h),
    λ h. (names_one c n).1 ((root.names n).1 h),
  );
  spans = λ x h. root.spans x ((spanning_one c x).0 h);
}

pub ends_over : (r : Root) (b : Option Step) (s : Step) (more : List Step) (over : Option CellSeen)
    → Climbs b (s ∷ more)
    → Ends r (s ∷ more) over → EndsIn r (row_of_step s) (map row_of_step more) over
ends_over r b s [] over (step, rest) ends = last_ends r s over step.first ends
ends_over r b s (u ∷ us) over (step, rest) ends = ends_over r (Some s) u us over rest ends

-- A change along a path is a change of rows.
pub path_rows : (t : Store Value) (r : Root) (from : ℕ) (s : Step) (more : List Step) (over : Option CellSeen)
    → IsPathChange t r from (s ∷ more) over
    → IsRowChange t r s.old.level no_row (row_of_step s) (map row_of_step more) over
path_rows t r from s more over is =
    let (at, one, leads, rest) = is.path in
    let (step, climbs) = is.climbs in
    let same = news_same (s ∷ more) over in
    let olds_are = olds_same (s ∷ more) in
    plain_rows t r s.old.level (row_of_step s) (map row_of_step more) over (record {
      part = is.part;
      branch = one;
      lowest = lowest_row t r is.part s at step;
      mounts = mounts_over t r is.part s s.old.level more refl one rest climbs;
      ends = ends_over r None s more over is.climbs is.ends;
      nodes = λ c mc. is.nodes c (subst (λ (cs : List CellSeen). Contains cs c) same mc);
      new_names = subst HaveNames (sym same) (have_names (news (s ∷ more) over)
          (distinct_news t r is.part None (s ∷ more) over from is.path is.climbs is.counts is.free));
      each = λ c mc. elim (new_id None (s ∷ more) over c is.climbs
          (subst (λ (cs : List CellSeen). Contains cs c) same mc)) [
            | inl h ↦
                let (b, u, st, id) = h in
                inl (subst (λ (cs : List CellSeen). Contains (ids_of cs) c.id) (sym olds_are)
                (subst (Contains (ids_of (olds (s ∷ more)))) (sym id)
                (id_member (olds (s ∷ more)) u.old (stands_old None (s ∷ more) b u st))))
            | inr fresh ↦
                let w = count_within from (fresh_ids (s ∷ more) over) c.id is.counts fresh in
                inr (is.free.cells c.id w.0 w.1, is.free.names c.id w.0 w.1)
          ];
    })
