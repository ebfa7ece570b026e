-- From the cells that were met and the marks to a reach.
use Rattle.std.proofs.Common.{◌≡◌, ◌⊎◌, inl, inr, ℕ, ◌+◌, ◌<◌, ◌≤◌, Bool, true, false, List, [], ◌∷◌}
use Rattle.std.proofs.Common.{refl, sym, ap, subst, ◌∙◌, arith}
use Rattle.std.specs.Prelude.{◌↔◌, ◌≢◌, ◌||◌, ◌&&◌, ◌==◌, nat_le, not, AllPairs, Contains, IsSome, Option, Some, None}
use Rattle.std.specs.Prelude.{slice_index_or, sum_by}
use Rattle.std.proofs.lemmas.Bool.{eqb-true}
use Rattle.std.proofs.lemmas.Bool.Decides.{nat_tests}
use Rattle.std.proofs.lemmas.List.Elements.{All-contains, All-weaker}
use Rattle.std.proofs.lemmas.List.Sums.{sum_by-cons}
use Rattle.std.proofs.lemmas.Option.{same_Some}
use Rattle.r4_base.specs.Key.{least, top}
use Rattle.r4_base.specs.Tree.{Node, Root as TreeRoot, Store}
use Rattle.r4_base.specs.Value.{Value}
use Rattle.r4_cell.specs.Patch.{HaveNames, by_name, root_of_pair}
use Rattle.r4_cell.specs.Seen.{CellSeen, node_of}
use Rattle.r4_cell.specs.declared.change.Root.{Root}
use Rattle.r4_content.specs.Edited.{Edits, Intervals, Pairs, changed, is_in}
use Rattle.r4_content.specs.declared.command.Command.{Command}
use Rattle.r4_content.proofs.EditLaws.{in_append}
use Rattle.r4_judging.specs.Judging.{IsSound}
use Rattle.r4_bodies.specs.r4_leaf_demands.Leaves.{AreOfLeaves, IsInLeaves, leaf_demand}
use Rattle.r4_bodies.proofs.r4_leaf_demands.Alike.{asks_as, marks_same}
use Rattle.r4_bodies.proofs.r4_leaf_demands.Weighed.{sound as weighed}
use Rattle.r4_touching.specs.r4_leaf_edits.Made.{spread_keys}
use Rattle.r4_judging.specs.r4_marking.Marks.{AreMarks, KeepsOrder}
use Rattle.r4_touching.specs.r4_patch.Part.{IsPart}
use Rattle.r4_touching.proofs.r4_patch.Members.{distinct, here, later, there}
use Rattle.r4_touching.proofs.r4_path.Rising.{level_is}
use Rattle.r4_touching.specs.r4_reach.Answer.{IsSeenIn as SeesAll}
use Rattle.r4_touching.specs.r4_reach.Demand.{Demand, ask, ask_of}
use Rattle.r4_touching.specs.r4_reach.Leaves.{LieInLeaves, more_in, more_of, rise_of}
use Rattle.r4_touching.specs.r4_reach.Needs.{Ask, changes_pieces, demand_of, demand_on, is_touched, twig_turns}
use Rattle.r4_touching.specs.r4_reach.Reach.{HasTouched, IsRootAsking}
use Rattle.r4_touching.specs.r4_reach.Touched.{Body, body_on, changes_on, edits_on, kind_reads, reads_on}
use Rattle.r4_search.specs.Pool.{PoolState}
use Rattle.r4_touching.specs.r4_seeing.Looking.{AreFound, met_cells}
use Rattle.r4_spared.specs.Spared.{MayStandAll, Spares}
use Rattle.r4_spared.proofs.Answered.{all_accepted}
use Rattle.r4_spared.proofs.Spared.{all_spared}
use Rattle.r4_spared.specs.r4_suited.Suited.{IsAccepted}
use Rattle.r4_spared.specs.r4_work.Order.{AreInOrder, place}
use Rattle.r4_reaching.specs.Answers.{asked_by, has_to_lie}
use Rattle.r4_reaching.specs.Gathering.{IsPartMet}
use Rattle.r4_reaching.specs.Reaching.{IsSeenPart, StaysInLeaves}
use Rattle.r4_reaching.proofs.Alike.{marks_alike, same_ask}
use Rattle.r4_reaching.proofs.Found.{found_listed}
use Rattle.r4_reaching.proofs.Standing.{all_touched, seen_stands}

-- ---- order

compare : (m n : ℕ) → (m < n) ⊎ (n ≤ m)
compare m n = grind (arith, nat_tests)

leb : (m n : ℕ) → m ≤ n → nat_le m n ≡ true
leb m n h = grind (arith, nat_tests, h)

le_of : (m n : ℕ) → nat_le m n ≡ true → m ≤ n
le_of m n h = grind (arith, nat_tests, h)

pub chosen_rise : (cells chosen : List CellSeen) → KeepsOrder cells chosen → AreInOrder cells → AreInOrder chosen
chosen_rise cells chosen keeps order i j d le within = elim (compare i j) [
  | inl less ↦
      le_of (place (slice_index_or chosen i d)) (place (slice_index_or chosen j d)) (pairs i j d less within)
  | inr more ↦
      let same : i ≡ j = omega (arith, le, more) in
      subst (λ (k : ℕ). place (slice_index_or chosen i d) ≤ place (slice_index_or chosen k d)) same (omega arith)
]
  where
    in_place : CellSeen → CellSeen → Bool
    in_place c e = nat_le (place c) (place e)

    pairs : AllPairs (λ (c e : CellSeen). in_place c e ≡ true) chosen
    pairs = keeps in_place (λ a b x less in_cells. leb (place (slice_index_or cells a x))
        (place (slice_index_or cells b x)) (order a b x (omega (arith, less)) in_cells))

pub chosen_once : (cells chosen : List CellSeen) → KeepsOrder cells chosen → HaveNames cells → HaveNames chosen
chosen_once cells chosen keeps once i j d less within =
    differ_of (slice_index_or chosen i d).id (slice_index_or chosen j d).id (pairs i j d less within)
  where
    differ : CellSeen → CellSeen → Bool
    differ c e = not (c.id == e.id)

    differ_by : (m n : ℕ) → m ≢ n → not (m == n) ≡ true
    differ_by m n h = grind (arith, nat_tests, h)

    differ_of : (m n : ℕ) → not (m == n) ≡ true → m ≢ n
    differ_of m n h = λ same. absurd (grind (arith, nat_tests, h, same))

    pairs : AllPairs (λ (c e : CellSeen). differ c e ≡ true) chosen
    pairs = keeps differ (λ a b x before in_cells. differ_by (slice_index_or cells a x).id (slice_index_or cells b x).id
        (once a b x before in_cells))

-- ---- what is asked for in all

more_congruent : (f g : CellSeen → Option Ask) (cells : List CellSeen)
    → ((c : CellSeen) → Contains cells c → f c ≡ g c)
    → sum_by (λ (c : CellSeen). more_of (f c)) cells ≡ sum_by (λ (c : CellSeen). more_of (g c)) cells
more_congruent f g [] same = refl
more_congruent f g (c ∷ cells) same =
    let rest = more_congruent f g cells (λ x at. same x (later c x cells at)) in
    let first = ap more_of (same c (here c cells)) in
    sum_by-cons (λ (x : CellSeen). more_of (f x)) c cells
    ∙ ((λ i. first i + rest i) ∙ sym (sum_by-cons (λ (x : CellSeen). more_of (g x)) c cells))

-- ---- bodies

pub none_spread : (b : Option Body) → IsInLeaves b → spread_keys b ≡ None
none_spread None h = refl
none_spread (Some b) h = rw h refl

or_right : (a b : Bool) → b ≡ true → (a || b) ≡ true
or_right true b h = refl
or_right false b h = h

pub or_left_true : (a b : Bool) → a ≡ true → (a || b) ≡ true
or_left_true true b h = refl
or_left_true false b h = absurd cc

or_cases : (a b : Bool) → (a || b) ≡ true → (a ≡ true) ⊎ (b ≡ true)
or_cases true b h = inl refl
or_cases false b h = inr h

-- ---- from the cells that were met

module _ (p : PoolState) (root : Root) (c : Command) (s : Pairs) (known : Intervals) (met : List CellSeen)
    (at : IsPartMet p root met) (found : AreFound (met_cells p) known s)
    (looked : (k : ℕ) → is_in (asked_by c s) k ≡ true → least ≤ k → k < top → is_in known k ≡ true) where
  abbrev t : Store Value
  t = by_name met

  abbrev r : TreeRoot
  r = root_of_pair root

  abbrev e : Edits
  e = edits_on c s

  abbrev b : Option Body
  b = body_on c s false

  abbrev pub D : Demand Ask
  D = demand_on c s false

  part : IsPart t r
  part = at.met.part

  pub seen_part : IsSeenPart t r known s
  seen_part = record { part = part; found = found_listed p met known s at.store found }

  pub sees : SeesAll c s t
  sees = record {
    rises = found.rises;
    agrees = λ k v on. seen_stands t r known s seen_part (asked_by c s) looked k v on;
  }

  pub stand : MayStandAll met
  stand = record {
    accepted = All-weaker IsSound IsAccepted (λ x h. h.stands) met at.sound;
    whole = λ x among. (All-contains IsSound met x at.sound among).whole;
    names = at.met.names;
  }

  module _ (leaves : IsInLeaves b) (lie : LieInLeaves t (has_to_lie c s)) where
    pub lie_changed : LieInLeaves t (is_in (changed e))
    lie_changed k on low high = lie k (or_right (is_in (kind_reads b) k) (is_in (changed e) k) on) low high

    pub lie_read : LieInLeaves t (is_in (kind_reads b))
    lie_read k on low high = lie k (or_left_true (is_in (kind_reads b) k) (is_in (changed e) k) on) low high

    spares : Spares b e t
    spares = all_spared t r b e part (all_accepted met stand) (none_spread b leaves) lie_changed

    module _ (own : changes_on c s false ≡ changed e) where
      stays : StaysInLeaves D t known
      stays = record {
        reads = λ k on low high. elim (or_cases (is_in (asked_by c s) k) (is_in (kind_reads b) k)
            (sym (in_append (asked_by c s) (kind_reads b) k) ∙ on)) [
              | inl question ↦ inl (looked k question low high)
              | inr tells ↦ inr (lie_read k tells low high)
            ];
        changes = λ k on low high. lie_changed k (sym (ap (λ rs. is_in rs k) own) ∙ on) low high;
        still = λ i n is turns. no_turn i n is turns;
      }
        where
          no_turn : (i : ℕ) (n : Node Value) → t i ≡ Some n
              → twig_turns b e (changes_on c s false) n ≡ true → ⊥
          no_turn i n is turns = by_tests (is_touched (changes_on c s false) n) (n.level == 2) refl turns
            where
              by_tests : (x y : Bool) → (n.level == 2) ≡ y → (x && (y && changes_pieces b e n)) ≡ true → ⊥
              by_tests true true two so = absurd (let none = spares.still i n is (eqb-true n.level 2 two) in
                  let both = sym none ∙ so in cc)
              by_tests true false other so = absurd cc
              by_tests false y other so = absurd cc

      pub has : HasTouched D t
      has = all_touched t r known s seen_part D stays

      -- ---- what is read and written

      module _ (reads writes : List CellSeen) (held : Intervals)
          (same_reads : (k : ℕ) → least ≤ k → k < top → is_in held k ≡ is_in (reads_on c s false) k)
          (rises : Option Ask) (m : AreMarks (leaf_demand e held) met r reads writes rises) where
        of_leaves : AreOfLeaves b e met r
        of_leaves = record {
          part = part;
          fits = λ x among high. (weighed x (omega (arith, high)) (All-contains IsSound met x at.sound among).whole
              (All-contains IsSound met x at.sound among).stands).fits;
          in_leaves = leaves;
          still = λ x among two. spares.still x.id (node_of x) (there met x (distinct met at.met.names) among)
              (level_is x ∙ two);
        }

        -- with the keys that are held, and with those that the command reads
        abbrev E : Demand Ask
        E = demand_of b e held (changed e)

        abbrev F : Demand Ask
        F = demand_of b e (reads_on c s false) (changed e)

        same_demand : F ≡ D
        same_demand = ap (λ rs. demand_of b e (reads_on c s false) rs) (sym own)

        pub marks : AreMarks D met r reads writes rises
        marks = subst (λ d. AreMarks d met r reads writes rises) same_demand
            (marks_alike E (is_in (reads_on c s false)) met r reads writes rises part same_reads
            (marks_same b e held met r of_leaves reads writes rises m))

        asks_one : (x : CellSeen) → Contains writes x
            → ask (leaf_demand e held) t x.level (node_of x) ≡ ask D t x.level (node_of x)
        asks_one x among =
            asks_as b e held met r of_leaves at.met.names x ((m.written.are x).0 among).0
            ∙ (ap (λ f. f (node_of x)) (same_ask E (is_in (reads_on c s false)) t x.level)
            ∙ ap (λ d. ask d t x.level (node_of x)) same_demand)

        pub more_same : more_in (leaf_demand e held) t writes ≡ more_in D t writes
        more_same = more_congruent (λ x. ask (leaf_demand e held) t x.level (node_of x))
            (λ x. ask D t x.level (node_of x)) writes asks_one

        pub rise_same : rise_of rises ≡ rise_of (ask_of (ask D t r.height) (t r.id))
        rise_same =
            by_ask (ask D t r.height part.root_node) refl
            ∙ sym (ap (λ o. rise_of (ask_of (ask D t r.height) o)) part.root_is)
          where
            by_none : (o : Option Ask) → rises ≡ o → ask D t r.height part.root_node ≡ None → rise_of o ≡ 0
            by_none None is none = refl
            by_none (Some a) is none = absurd
                (let (n, there_is, asks) = (marks.rising a).0 is in
                let one : n ≡ part.root_node = same_Some n part.root_node (sym there_is ∙ part.root_is) in
                let both = sym none ∙ (sym (ap (ask D t r.height) one) ∙ asks) in cc)

            by_ask : (o : Option Ask) → ask D t r.height part.root_node ≡ o → rise_of rises ≡ rise_of o
            by_ask None none = by_none rises refl none
            by_ask (Some a) asks = ap rise_of ((marks.rising a).1 (part.root_node, part.root_is, asks))

        pub root_asks : (o : Option Root) → (IsSome o ↔ IsSome rises)
            → IsSome o ↔ ((a : Ask) × IsRootAsking D t r a)
        root_asks o same = (
          (λ some. by_rises rises refl (same.0 some)),
          (λ asks. same.1 (let (a, is) = asks in is_some a ((marks.rising a).1 is))),
        )
          where
            by_rises : (x : Option Ask) → rises ≡ x → IsSome x → (a : Ask) × IsRootAsking D t r a
            by_rises None is none = absurd (let no = none in cc)
            by_rises (Some a) is some = (a, (marks.rising a).0 is)

            is_some : (a : Ask) → rises ≡ Some a → IsSome rises
            is_some a is = subst IsSome (sym is) refl
