-- Leaves beside twigs that turn, met one after another.
use Rattle.std.proofs.Common.{◌≡◌, ◌⊎◌, inl, inr, ℕ, zero, suc, ◌+◌, ◌<◌, ◌≤◌, Bool, true, false, List, [], ◌∷◌, ◌++◌, map}
use Rattle.std.proofs.Common.{get_or, refl, sym, ap, subst, ◌∙◌, arith}
use Rattle.std.proofs.Math.Seq.{take-suc}
use Rattle.std.proofs.lemmas.List.{map-append, take_all}
use Rattle.std.proofs.lemmas.List.Elements.{Contains-append_cases}
use Rattle.std.specs.Arc.{arc_value}
use Rattle.std.specs.Prelude.{length, take}
use Rattle.std.specs.Prelude.{◌&&◌, ◌==◌, Contains, Option, Some, None, nat_lt}
use Rattle.std.proofs.lemmas.Bool.{and_parts, eqb-true}
use Rattle.std.proofs.lemmas.Option.{same_Some}
use Rattle.r4_base.specs.Tree.{Name}
use Rattle.r4_extent_commands.specs.r4_cell.Seen.{CellSeen, node_of}
use Rattle.r4_extent_commands.specs.r4_cell.declared.change.Root.{Root}
use Rattle.r4_content.specs.Edited.{Edits, Intervals}
use Rattle.r4_extent_reaching.specs.r4_extent_touching.Holding.{AreLeftMet, StopsLeft}
use Rattle.r4_extent_reaching.proofs.r4_extent_touching.Left.{left_stops}
use Rattle.r4_extent_reaching.proofs.r4_judging.Below.{name_below}
use Rattle.r4_outside.specs.Device.{State}
use Rattle.r4_extent_reaching.proofs.r4_touching.r4_patch.Members.{cases, here, later, none}
use Rattle.r4_extent_asks.proofs.r4_path.Rising.{level_is}
use Rattle.r4_extent_reaching.specs.r4_touching.r4_reach.Needs.{changes_pieces, going_of, is_touched}
use Rattle.r4_extent_reaching.specs.r4_touching.r4_reach.Touched.{Body}
use Rattle.r4_extent_reaching.specs.r4_reaching.Gathering.{AreAllMet}
use Rattle.r4_extent_asks.specs.r4_search.Pool.{Goes, IsNamed, LeavesDevice, PoolState}
use Rattle.r4_extent_asks.specs.r4_search.declared.pool.FetchFault.{FetchFault}
use Rattle.r4_extent_asks.proofs.r4_search.Walks.{goes_same}
use Rattle.r4_extent_asks.specs.r4_search.Keeping.{Shared}
use Rattle.r4_extent_asks.specs.r4_search.Path.{root_name}
use Rattle.r4_extent_reaching.specs.r4_touching.r4_seeing.Looking.{AreHung, IsNamedByMet}
use Rattle.r4_extent_reach.specs.Meeting.{AreBesideMet, GoesOn, MeetsBeside, MeetsBesideOne, StopsAtLeft, StopsBesideOf}
use Rattle.r4_extent_reach.specs.Meeting.{turns_by}

-- only a twig turns
pub turns_twig : (b : Option Body) (e : Edits) (rs : Intervals) (x : CellSeen) → turns_by b e rs x ≡ true → x.level ≡ 2
turns_twig b e rs x on =
    let n = node_of x in
    let (touched, rest) = and_parts (is_touched rs n) ((n.level == 2) && changes_pieces b e n) on in
    let (two, changes) = and_parts (n.level == 2) (changes_pieces b e n) rest in
    sym (level_is x) ∙ eqb-true n.level 2 two

-- ---- over more cells

pub left_on : (p q : PoolState) (c : CellSeen) (key : ℕ) → Goes p q → AreLeftMet p c key → AreLeftMet q c key
left_on p q c key g h n named node at = let (x, is) = h n named node at in (x, g.met n.id x is)

pub one_none : (turns : CellSeen → Bool) (c : CellSeen) (p : PoolState) → MeetsBesideOne turns c p p
one_none turns c p i x is was = absurd (let both = sym is ∙ was in cc)

pub each_none : (turns : CellSeen → Bool) (cells : List CellSeen) (p : PoolState) → MeetsBeside turns cells p p
each_none turns cells p i x is was = absurd (let both = sym is ∙ was in cc)

-- the cells of these
abbrev pub seen_of : List Shared → List CellSeen
seen_of xs = map (λ c. arc_value c) xs

pub item_among : (xs : List Shared) (i : ℕ) (x : Shared) → i < length xs → x ≡ get_or xs i x
    → Contains (seen_of xs) (arc_value x)
item_among [] i x less is = absurd (omega (arith, less))
item_among (y ∷ ys) zero x less is =
    subst (λ (c : CellSeen). Contains (seen_of (y ∷ ys)) c) (sym (ap (λ (z : Shared). arc_value z) is))
    (here (arc_value y) (seen_of ys))
item_among (y ∷ ys) (suc i) x less is =
    later (arc_value y) (arc_value x) (seen_of ys) (item_among ys i x (omega (arith, less)) is)

module _ (turns : CellSeen → Bool) (key : ℕ) where
  module _ (cells : List CellSeen) (c : CellSeen) (among : Contains cells c) (old mid new : PoolState)
      (f : Goes old mid) (g : Goes mid new) where
    pub only_next : MeetsBeside turns cells old mid → MeetsBesideOne turns c mid new → MeetsBeside turns cells old new
    only_next h k i x is was = by (mid.met i) refl
      where
        by : (o : Option CellSeen) → mid.met i ≡ o → (d : CellSeen) × Contains cells d × (turns d ≡ true)
            × ((n : Name) × Contains (node_of d).names n × IsNamed n x)
        by (Some y) then =
            let same : y ≡ x = same_Some y x (sym (g.met i y then) ∙ is) in
            h i x (then ∙ ap (λ (z : CellSeen). Some z) same) was
        by None then = let (on, named) = k i x is then in (c, among, on, named)

    pub stops_next : (e : FetchFault) → (turns c ≡ true) × StopsLeft c key mid e new
        → StopsBesideOf turns cells key old e new
    stops_next e (on, stops) = (c, among, on, left_stops c key old mid new f g e stops)

  module _ (xs : List Shared) (i : ℕ) (x : Shared) (less : i < length xs) (is : x ≡ get_or xs i x) where
    up_to : seen_of (take (i + 1) xs) ≡ seen_of (take i xs) ++ (arc_value x ∷ [])
    up_to =
        let next : i + 1 ≡ suc i = omega arith in
        ap (λ (n : ℕ). seen_of (take n xs)) next
        ∙ ap seen_of (take-suc xs i x less ∙ ap (λ (y : Shared). take i xs ++ (y ∷ [])) (sym is))
        ∙ map-append (λ (y : Shared). arc_value y) (take i xs) (x ∷ [])

    pub met_next : (p q : PoolState) → Goes p q
        → ((c : CellSeen) → Contains (seen_of (take i xs)) c → turns c ≡ true → AreLeftMet p c key)
        → (turns (arc_value x) ≡ true → AreLeftMet q (arc_value x) key)
        → (c : CellSeen) → Contains (seen_of (take (i + 1) xs)) c → turns c ≡ true → AreLeftMet q c key
    met_next p q g h k c at on = elim (Contains-append_cases (seen_of (take i xs)) (arc_value x ∷ []) c
        (subst (λ (ys : List CellSeen). Contains ys c) up_to at)) [
          | inl before ↦ left_on p q c key g (h c before on)
          | inr this ↦ elim (cases (arc_value x) c [] this) [
            | inl same ↦ subst (λ (d : CellSeen). AreLeftMet q d key) (sym same) (k (ap turns (sym same) ∙ on))
            | inr more ↦ absurd (none c more)
          ]
        ]

  pub met_none : (xs : List Shared) (p : PoolState) (c : CellSeen) → Contains (seen_of (take 0 xs)) c → turns c ≡ true
      → AreLeftMet p c key
  met_none xs p c at on = absurd (none c at)

  pub met_all : (xs : List Shared) (i : ℕ) (p : PoolState) → length xs ≤ i
      → ((c : CellSeen) → Contains (seen_of (take i xs)) c → turns c ≡ true → AreLeftMet p c key)
      → (c : CellSeen) → Contains (seen_of xs) c → turns c ≡ true → AreLeftMet p c key
  met_all xs i p past h c at on =
      h c (subst (λ (ys : List Shared). Contains (seen_of ys) c) (sym (take_all i xs past)) at) on

-- ---- all cells that were met

module _ (turns : CellSeen → Bool) (cells : List CellSeen) (d f : State) (root : Root) (old new : PoolState)
    (are : AreAllMet old.met cells) (device : LeavesDevice d f) (g : Goes old new)
    (only : MeetsBeside turns cells old new) where
  hung_on : AreHung old root → AreHung new root
  hung_on h = record {
    numbers = λ i x is. number i x is (old.met i) refl;
    hung = λ i x is. hangs i x is (old.met i) refl;
  }
    where
      number : (i : ℕ) (x : CellSeen) → new.met i ≡ Some x → (o : Option CellSeen) → old.met i ≡ o → x.id ≡ i
      number i x is (Some y) was =
          let same : y ≡ x = same_Some y x (sym (g.met i y was) ∙ is) in
          ap (λ (z : CellSeen). z.id) (sym same) ∙ h.numbers i y was
      number i x is None was = g.added_met i x is was

      hangs : (i : ℕ) (x : CellSeen) → new.met i ≡ Some x → (o : Option CellSeen) → old.met i ≡ o
          → IsNamed (root_name root) x ⊎ IsNamedByMet new x
      hangs i x is (Some y) was =
          let same : y ≡ x = same_Some y x (sym (g.met i y was) ∙ is) in
          subst (λ (z : CellSeen). IsNamed (root_name root) z ⊎ IsNamedByMet new z) same (elim (h.hung i y was) [
            | inl top ↦ inl top
            | inr up ↦ inr (record {
              up = up.up;
              met = g.met up.up.id up.up up.met;
              name = up.name;
              named = up.named;
              is = up.is;
            })
          ])
      hangs i x is None was =
          let (c, among, on, names) = only i x is was in
          let (n, named, at) = names in
          inr (record {
            up = c;
            met = g.met c.id c ((are.are c).0 among);
            name = n;
            named = named;
            is = at;
          })

  pub goes_beside : GoesOn d f root old new
  goes_beside = record { device = device; goes = g; hung = hung_on }

-- what is met for the twigs is no twig
module _ (b : Option Body) (e : Edits) (rs : Intervals) (cells : List CellSeen) (old new : PoolState)
    (are : AreAllMet old.met cells) (g : Goes old new)
    (only : MeetsBeside (turns_by b e rs) cells old new) where
  pub all_beside : ((c : CellSeen) → Contains cells c → turns_by b e rs c ≡ true → AreLeftMet new c (going_of b).0)
      → AreBesideMet b e rs new
  all_beside met x is on go = by (old.met x.id) refl
    where
      by : (o : Option CellSeen) → old.met x.id ≡ o → AreLeftMet new x (going_of b).0
      by (Some y) was =
          let same : y ≡ x = same_Some y x (sym (g.met x.id y was) ∙ is) in
          met x ((are.are x).1 (was ∙ ap (λ (z : CellSeen). Some z) same)) on
      by None was =
          let (c, among, turns, names) = only x.id x is was in
          let (n, named, at) = names in
          let two = turns_twig b e rs c turns in
          let other = turns_twig b e rs x on in
          let lower = (name_below c n named).below in
          let level = at.level in
          absurd (omega (arith, two, other, lower, level))

  pub stops_at_left : (f : FetchFault) → nat_lt (going_of b).0 (going_of b).1 ≡ true
      → StopsBesideOf (turns_by b e rs) cells (going_of b).0 old f new → StopsAtLeft b e rs old f new
  stops_at_left f go (c, among, on, stops) = record {
    mid = old;
    goes = goes_same old;
    twig = c;
    met = (are.are c).0 among;
    turns = on;
    go = go;
    stops = stops;
  }

-- where none go nothing is asked for
pub none_go : (b : Option Body) (e : Edits) (rs : Intervals) (p : PoolState)
    → nat_lt (going_of b).0 (going_of b).1 ≡ false → AreBesideMet b e rs p
none_go b e rs p off x is on go = absurd (let both = sym go ∙ off in cc)
