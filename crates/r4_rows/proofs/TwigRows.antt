-- A change of a twig, and of what is below it, is one of rows.
use Rattle.std.proofs.Common.{◌≡◌, ◌⊎◌, inl, inr, ℕ, ◌≤◌, List, [], ◌∷◌, ◌++◌, drop, map, refl, sym, ap, subst, ◌∙◌}
use Rattle.std.proofs.Common.{arith}
use Rattle.std.specs.Prelude.{Contains, Option, Some}
use Rattle.std.proofs.lemmas.List.Elements.{Contains-append_cases, Contains-append_left, Contains-append_right}
use Rattle.r4_base.specs.Key.{rank}
use Rattle.r4_base.specs.Tree.{IsNode, Root, Store}
use Rattle.r4_base.specs.Value.{Value}
use Rattle.r4_cell.specs.Patch.{HaveNames}
use Rattle.r4_cell.specs.Seen.{CellSeen, node_of}
use Rattle.r4_patch.specs.Joining.{ids_of}
use Rattle.r4_path.specs.Steps.{Climbs, Ends, Follow, Step, fresh_ids, name_of, news, olds}
use Rattle.r4_path.specs.Twigs.{Below, IsTwigChange, IsUnused}
use Rattle.r4_patch.proofs.Members.{cases, here, later}
use Rattle.r4_path.proofs.OnPath.{new_id, stands_old}
use Rattle.r4_path.proofs.Rising.{follow_within, id_member, level_is}
use Rattle.r4_path.proofs.TwigPatch.{change_is}
use Rattle.r4_rows.specs.Rows.{EndsIn, IsRow, IsRowChange, news_in, olds_in}
use Rattle.r4_rows.specs.Steps.{row_below, row_of_step}
use Rattle.r4_path.proofs.TwigBelow.{id_cell}
use Rattle.r4_rows.proofs.PathRows.{ends_over, last_ends, mounts_over, names_one, news_same, olds_same, step_range}
use Rattle.r4_rows.proofs.Lists.{one_of}

-- a cell that a twig names is a leaf or a data block
low_named : (c x : CellSeen) → IsNode (node_of c) → c.level ≡ 2 → Contains (node_of c).names (name_of x) → x.level ≤ 1
low_named c x ok two member =
    let l = level_is c in
    elim (ok.below (name_of x) member) [
      | inl h ↦ omega (arith, h, l, two)
      | inr h ↦ let zero_is = h.1 in omega (arith, zero_is)
    ]

follow_level : (level lo hi : ℕ) (cells : List CellSeen) (x : CellSeen) → Follow level lo hi cells
    → Contains cells x → x.level ≡ level
follow_level level lo hi cells x f at = (follow_within level lo hi cells x f at).level_as

module _ (t : Store Value) (r : Root) (b : Below) (s : Step) (more : List Step) (over : Option CellSeen)
    (is : IsTwigChange t r b s more over) where
  there : t s.old.id ≡ Some (node_of s.old)
  there = is.path.0

  twig_node : IsNode (node_of s.old)
  twig_node = is.part.nodes s.old.id (node_of s.old) there

  new_level : (x : CellSeen) → Contains s.new x → x.level ≡ 2
  new_level x at = follow_level s.old.level (rank s.old.lo) (rank s.old.hi) s.new x is.step.ranges at ∙ is.step.level

  new_node : (x : CellSeen) → Contains s.new x → IsNode (node_of x)
  new_node x at = is.nodes x
      (Contains-append_right b.new (news (s ∷ more) over) x (Contains-append_left s.new (news more over) x at))

  lowest : IsRow t 2 (row_below b) (row_of_step s)
  lowest = record {
    from = rank s.old.lo;
    to = rank s.old.hi;
    were = (is.step.level, refl, step_range s.old twig_node, refl);
    are = subst (λ m. Follow m (rank s.old.lo) (rank s.old.hi) s.new) is.step.level is.step.ranges;
    there = λ c mc. subst (λ (z : CellSeen). t z.id ≡ Some (node_of z)) (sym (one_of s.old c mc)) there;
    leads = λ c mc. (names_one s.old (name_of c)).1 (is.step.goes c mc);
    names = λ n. (
      λ h. elim ((is.step.names n).0 h) [ inl g ↦ inl ((names_one s.old n).1 g.0, g.1) | inr g ↦ inr g ],
      λ h. (is.step.names n).1 (elim h [ inl g ↦ inl ((names_one s.old n).0 g.0, g.1) | inr g ↦ inr g ]),
    );
  }

  ends : EndsIn r (row_of_step s) (map row_of_step more) over
  ends = by_more more is.climbs is.ends
    where
      by_more : (more : List Step) → Climbs (Some s) more → Ends r (s ∷ more) over
          → EndsIn r (row_of_step s) (map row_of_step more) over
      by_more [] climbs e = last_ends r s over is.step.first e
      by_more (u ∷ us) climbs e = ends_over r (Some s) u us over climbs e

  old_id : (i : ℕ) → Contains (ids_of (olds (s ∷ more))) i
      → Contains (ids_of (b.old ++ olds_in (row_of_step s ∷ map row_of_step more))) i
  old_id i at =
      let (o, mo, e) = id_cell (olds (s ∷ more)) i at in
      subst (Contains (ids_of (b.old ++ olds_in (row_of_step s ∷ map row_of_step more)))) e
      (id_member (b.old ++ olds_in (row_of_step s ∷ map row_of_step more)) o
      (Contains-append_right b.old (olds_in (row_of_step s ∷ map row_of_step more)) o
      (subst (λ (cs : List CellSeen). Contains cs o) (sym (olds_same (s ∷ more))) mo)))

  low_id : (i : ℕ) → Contains (ids_of b.old) i
      → Contains (ids_of (b.old ++ olds_in (row_of_step s ∷ map row_of_step more))) i
  low_id i at =
      let (o, mo, e) = id_cell b.old i at in
      subst (Contains (ids_of (b.old ++ olds_in (row_of_step s ∷ map row_of_step more)))) e
      (id_member (b.old ++ olds_in (row_of_step s ∷ map row_of_step more)) o
      (Contains-append_left b.old (olds_in (row_of_step s ∷ map row_of_step more)) o mo))

  up_id : (c : CellSeen) → Contains (news (s ∷ more) over) c
      → Contains (ids_of (b.old ++ olds_in (row_of_step s ∷ map row_of_step more))) c.id ⊎ IsUnused t c.id
  up_id c mc = elim (Contains-append_cases s.new (news more over) c mc) [
    | inl mine ↦ elim (cases s.old.id c.id (ids_of (drop 1 s.new))
        (subst (λ ids. Contains ids c.id) is.step.first (id_member s.new c mine))) [
          | inl same ↦ inl (old_id c.id
              (subst (Contains (ids_of (olds (s ∷ more)))) (sym same) (here s.old.id (ids_of (olds more)))))
          | inr fresh ↦ inr (is.numbers.unused c.id
              (Contains-append_left (ids_of (drop 1 s.new)) (fresh_ids more over) c.id fresh))
        ]
    | inr beyond ↦ elim (new_id (Some s) more over c is.climbs beyond) [
      | inl h ↦
          let (a, u, st, same) = h in
          inl (old_id c.id (later s.old.id c.id (ids_of (olds more))
          (subst (Contains (ids_of (olds more))) (sym same)
          (id_member (olds more) u.old (stands_old (Some s) more a u st)))))
      | inr fresh ↦ inr (is.numbers.unused c.id
          (Contains-append_right (ids_of (drop 1 s.new)) (fresh_ids more over) c.id fresh))
    ]
  ]

  twig_rows : HaveNames (b.new ++ news (s ∷ more) over)
      → IsRowChange t r 2 (row_below b) (row_of_step s) (map row_of_step more) over
  twig_rows once =
      let same = news_same (s ∷ more) over in
      let all = ap (λ (cs : List CellSeen). b.new ++ cs) same in
      record {
        part = is.part;
        branch = omega arith;
        gone = is.gone;
        low_old = λ c mc. low_named s.old c twig_node is.step.level (is.step.goes c mc);
        low_new = λ c mc.
            let (x, mx, member) = (is.step.names (name_of c)).1 (inr (c, mc, refl)) in
            low_named x c (new_node x mx) (new_level x mx) member;
        lowest = lowest;
        mounts = mounts_over t r is.part s 2 more is.step.level (omega arith) is.path.3 is.climbs;
        ends = ends;
        nodes = λ c mc. is.nodes c (subst (λ (cs : List CellSeen). Contains cs c) all mc);
        old_names = is.numbers.old;
        new_names = subst HaveNames (sym all) once;
        each = λ c mc. elim (Contains-append_cases b.new (news_in (row_of_step s ∷ map row_of_step more) over) c mc) [
          | inl low ↦ elim (is.numbers.each c low) [ inl again ↦ inl (low_id c.id again) | inr new ↦ inr new.0 ]
          | inr up ↦ up_id c (subst (λ (cs : List CellSeen). Contains cs c) same up)
        ];
      }

pub twig_change_rows : (t : Store Value) (r : Root) (b : Below) (s : Step) (more : List Step) (over : Option CellSeen)
    → IsTwigChange t r b s more over → IsRowChange t r 2 (row_below b) (row_of_step s) (map row_of_step more) over
twig_change_rows t r b s more over is =
    let change = change_is t r b s more over is in
    twig_rows t r b s more over is change.new_names
