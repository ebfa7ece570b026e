-- The other open atoms that own nodes of a reach are those that were found.
use Rattle.std.proofs.Common.{◌≡◌, ⊎_elim, ℕ, ◌+◌, ◌≤◌, Bool, true, false, true≢false, eqb, cond, ◌||◌, Option, Some}
use Rattle.std.proofs.Common.{None, List, [], ◌∷◌, ◌++◌, length, length-append, refl, sym, ◌∙◌, ap, subst, arith}
use Rattle.std.specs.Prelude.{Contains, filter_map}
use Rattle.std.specs.List.{cons_option, dedup}
use Rattle.std.specs.List.Sorted.{IsPermutation}
use Rattle.std.proofs.lemmas.Bool.{cond-false, eq-eqb, ne_eqb, or_from, or_parts}
use Rattle.std.proofs.lemmas.List.{length-map, map-append}
use Rattle.std.proofs.lemmas.List.Sorted.{Contains-permutation, IsPermutation-sym}
use Rattle.std.proofs.lemmas.List.Kept.{Contains-from_dedup}
use Rattle.r4_atoms.specs.Atoms.{AtomsSeen, IsOtherOwner, is_sealed, numbers, owner_of}
use Rattle.r4_base.proofs.Choices.{nothing_in}
use Rattle.r4_base.specs.declared.things.NodeId.{NodeId}
use Rattle.r4_history.specs.Held.{Need, nodes_of}
use Rattle.r4_history.specs.Serving.{AreOthers, IsLeastOwned, IsOwnerInReach}
use Rattle.r4_history.proofs.ServingSteps.{cons_cases, cons_here, cons_later}
use Rattle.r4_others.specs.declared.finding.Other.{Other}
use Rattle.r4_others.specs.Others.{other_of, other_owner, pairs_of}
use Rattle.r4_others.proofs.Firsts.{AreOrdered, least, member_from, member_of, rises, same, stays}

abbrev pub atom_in : Other → ℕ
atom_in o = o.atom.0

abbrev pub node_in : Other → ℕ
node_in o = o.node.0

abbrev pub by_atom : Other → Other → Bool
by_atom = same atom_in

abbrev other_at : (a n : ℕ) → Other
other_at a n = record { atom = record { 0 = a }; node = record { 0 = n } }

-- ---- what is found in a list

found_from : {X : Type 0} {Y : Type 0} (h : X → Option Y) (xs : List X) (y : Y) → Contains (filter_map h xs) y
    → (x : X) × Contains xs x × (h x ≡ Some y)
found_from h [] y c = absurd (nothing_in y c)
found_from {X} {Y} h (x ∷ xs) y c =
    by (h x) refl (λ there. (let r = found_from h xs y there in (r.0, cons_later x xs r.0 r.1, r.2))) c
  where
    by : (o : Option Y) → h x ≡ o
        → (Contains (filter_map h xs) y → (z : X) × Contains (x ∷ xs) z × (h z ≡ Some y))
        → Contains (cons_option o (filter_map h xs)) y → (z : X) × Contains (x ∷ xs) z × (h z ≡ Some y)
    by None is rest there = rest there
    by (Some v) is rest there =
        ⊎_elim (λ here. (x, cons_here x xs, is ∙ ap Some here)) rest (cons_cases v (filter_map h xs) y there)

found_of : {X : Type 0} {Y : Type 0} (h : X → Option Y) (xs : List X) (x : X) (y : Y) → Contains xs x
    → h x ≡ Some y → Contains (filter_map h xs) y
found_of h [] x y c is = absurd (nothing_in x c)
found_of {X} {Y} h (z ∷ zs) x y c is =
    ⊎_elim (λ here. subst (λ (o : Option Y). Contains (cons_option o (filter_map h zs)) y) (sym (ap h here ∙ is))
    (cons_here y (filter_map h zs)))
    (λ later. more (h z) (found_of h zs x y later is)) (cons_cases z zs x c)
  where
    more : (o : Option Y) → Contains (filter_map h zs) y → Contains (cons_option o (filter_map h zs)) y
    more None there = there
    more (Some v) there = cons_later v (filter_map h zs) y there

length_found : {X : Type 0} {Y : Type 0} (h : X → Option Y) (xs : List X) → length (filter_map h xs) ≤ length xs
length_found h [] = omega arith
length_found {X} {Y} h (x ∷ xs) = by (h x) (length_found h xs)
  where
    by : (o : Option Y) → length (filter_map h xs) ≤ length xs
        → length (cons_option o (filter_map h xs)) ≤ length (x ∷ xs)
    by None le = omega arith
    by (Some v) le = omega arith

-- no more of them stay than nodes were looked at
pub few_pairs : (h : NodeId → Option Other) (reads writes : List NodeId) (found kept : List Other)
    → found ≡ filter_map h (reads ++ writes) → length kept ≤ length found
    → length (pairs_of kept) ≤ length reads + length writes
few_pairs h reads writes found kept is le =
    let pairs : length (pairs_of kept) ≡ length kept = length-map kept (λ (o : Other). (atom_in o, node_in o)) in
    let few = length_found h (reads ++ writes) in
    let all = length-append reads writes in
    let same_length = ap length is in
    omega arith

-- ---- what is found of one node

-- a test that lets something through failed
passed : (t : Bool) (v o : Other) → cond t None (Some v) ≡ Some o → (t ≡ false) × (v ≡ o)
passed true v o e = absurd cc
passed false v o e = (refl, cc)

module _ (s : AtomsSeen) (own : ℕ) where
  owner_from : (n : NodeId) (by : Option ℕ) (o : Other) → owner_of s n.0 ≡ by → other_of s own n by ≡ Some o
      → IsOtherOwner s own n.0 o.atom × (o.node ≡ n)
  owner_from n None o is e = absurd cc
  owner_from n (Some a) o is e =
      let (neither, at) = passed (eqb a own || is_sealed s a) (other_at a n.0) o e in
      let (other, unsealed) = or_parts (eqb a own) (is_sealed s a) neither in
      let named : a ≡ o.atom.0 = ap (λ (v : Other). v.atom.0) at in (
        record {
          owns = is ∙ ap Some named;
          other = λ same_one. true≢false (sym (eq-eqb a own (named ∙ same_one)) ∙ other);
          unsealed = subst (λ (b : ℕ). is_sealed s b ≡ false) named unsealed;
        },
        ap (λ (v : Other). v.node) (sym at),
      )

  owner_of_node : (n : NodeId) (a : ℕ) → IsOtherOwner s own n.0 (record { 0 = a })
      → other_owner s own n ≡ Some (other_at a n.0)
  owner_of_node n a is =
      ap (other_of s own n) is.owns
      ∙ cond-false (eqb a own || is_sealed s a) None (Some (other_at a n.0))
      (or_from (eqb a own) (is_sealed s a) (ne_eqb a own is.other) is.unsealed)

  module _ (need : Need) where
    abbrev pub found : List Other
    found = filter_map (other_owner s own) (need.reads ++ need.writes)

    joined : numbers (need.reads ++ need.writes) ≡ nodes_of need
    joined = map-append (λ (n : NodeId). n.0) need.reads need.writes

    in_reach : (o : Other) → Contains found o → IsOwnerInReach s own need o.atom.0 o.node.0
    in_reach o c =
        let (n, there, is) = found_from (other_owner s own) (need.reads ++ need.writes) o c in
        let (owned, at) = owner_from n (owner_of s n.0) o refl is in
        record {
          reached = subst (λ (m : NodeId). Contains (nodes_of need) m.0) (sym at)
              (subst (λ (l : List ℕ). Contains l n.0) joined
              (member_of (λ (m : NodeId). m.0) (need.reads ++ need.writes) n there));
          owner = subst (λ (m : NodeId). IsOtherOwner s own m.0 o.atom) (sym at) owned;
        }

    from_reach : (a n : ℕ) → IsOwnerInReach s own need a n
        → Contains found (other_at a n)
    from_reach a n is =
        let there = subst (λ (l : List ℕ). Contains l n) (sym joined) is.reached in
        let (m, listed, at) = member_from (λ (m : NodeId). m.0) (need.reads ++ need.writes) n there in
        let name : m ≡ record { 0 = n } = ap (λ (k : ℕ). record { 0 = k }) at in
        found_of (other_owner s own) (need.reads ++ need.writes) (record { 0 = n }) (other_at a n)
        (subst (Contains (need.reads ++ need.writes)) name listed) (owner_of_node (record { 0 = n }) a is.owner)

    -- the first of each atom, of all that were found, once they are in order
    module _ (xs : List Other) (moved : IsPermutation found xs) (up : AreOrdered atom_in node_in xs) where
      kept_in_reach : (o : Other) → Contains xs o → IsOwnerInReach s own need o.atom.0 o.node.0
      kept_in_reach o c = in_reach o (Contains-permutation xs found o (IsPermutation-sym found xs moved) c)

      listed : (a n : ℕ) → IsOwnerInReach s own need a n
          → Contains xs (other_at a n)
      listed a n is = Contains-permutation found xs _ moved (from_reach a n is)

      is_least : (a n : ℕ) → Contains (pairs_of (dedup by_atom xs)) (a, n) → IsLeastOwned s own need a n
      is_least a n c =
          let (o, kept, at) = member_from (λ (o : Other). (o.atom.0, o.node.0)) (dedup by_atom xs) (a, n) c in
          let atom_is : o.atom.0 ≡ a = ap (λ (p : ℕ × ℕ). p.0) at in
          let node_is : o.node.0 ≡ n = ap (λ (p : ℕ × ℕ). p.1) at in
          record {
            is_one = subst (λ (p : ℕ × ℕ). IsOwnerInReach s own need p.0 p.1) at
                (kept_in_reach o (Contains-from_dedup by_atom xs o kept));
            least = λ m is.
                (let le = least atom_in node_in xs up o (other_at a m) kept (listed a m is) atom_is in
                omega (arith, le, node_is));
          }

      is_kept : (a n : ℕ) → IsLeastOwned s own need a n → Contains (pairs_of (dedup by_atom xs)) (a, n)
      is_kept a n is =
          let there = listed a n is.is_one in
          let (y, kept, alike) = stays atom_in xs (other_at a n) there in
          let low = least atom_in node_in xs up y (other_at a n) kept there alike in
          let reached = kept_in_reach y (Contains-from_dedup by_atom xs y kept) in
          let high = is.least y.node.0 (subst (λ (b : ℕ). IsOwnerInReach s own need b y.node.0) alike reached) in
          let node_is : y.node.0 ≡ n = omega (arith, low, high) in
          let pair : (y.atom.0, y.node.0) ≡ (a, n) = cc in
          subst (Contains (pairs_of (dedup by_atom xs))) {x = (y.atom.0, y.node.0)} {y = (a, n)} pair
          (member_of (λ (o : Other). (o.atom.0, o.node.0)) (dedup by_atom xs) y kept)

      pub are_others : AreOthers s own need (pairs_of (dedup by_atom xs))
      are_others = record {
        rise = rises atom_in node_in xs up;
        each = λ a n. (is_least a n, is_kept a n);
      }
