-- A change that follows another one, by lists of cells.
use Rattle.std.specs.Prelude.{◌≡◌, ◌≢◌, ℕ, ◌==◌, ◌⊎◌, if◌then◌else◌, not, ◌||◌, Bool, true, false, List, [], ◌∷◌, ◌++◌, Contains, None, Option, Some}
use Rattle.std.specs.List.{filter}
use mathlib.Core.Path.{refl, sym, ap, subst, ◌∙◌}
use mathlib.Core.Logic.{inl, inr}
use native.Mathlib.Omega.{arith}
use Rattle.std.specs.Option.{option_map, option_or}
use Rattle.std.proofs.lemmas.Bool.{eqb-true, eq-eqb}
use Rattle.std.proofs.lemmas.Option.{none-some}
use Rattle.r4_base.specs.Tree.{Node, Store, Root}
use Rattle.r4_base.specs.Value.{Value}
use Rattle.r4_base.proofs.Trees.{not_both}
use Rattle.r4_cell.specs.Seen.{CellSeen, node_of}
use Rattle.r4_cell.specs.Patch.{Patch, over, place, root_after, IsPatch, captured, last_root, join, by_name, root_of_pair, patch_of, HaveNames, IsChange}
use Rattle.r4_cell.specs.declared.change.Root.{Root as RootPair}
use Rattle.r4_cell.specs.declared.change.Change.{Change}
use Rattle.r4_patch.specs.Joining.{ids_of, patch_of_change}
use Rattle.r4_patch.specs.Part.{MeetsPart}
use Rattle.r4_patch.proofs.Joined.{place_joined, root_joined}
use Rattle.r4_patch.proofs.Members.{Distinct, absent, cases, distinct_append, found, have_names, here, later, none, there}
use Rattle.r4_patch.proofs.Members.{distinct}
use Rattle.r4_patch.specs.Following.{AreInTurn, IsFollowed, is_among, without}
use Rattle.r4_patch.proofs.PatchesFollow.{follow_meets, follow_patch}

-- ---- cells that are left out

pub among_or_not : (ids : List ℕ) (i : ℕ) → (is_among ids i ≡ true) ⊎ (is_among ids i ≡ false)
among_or_not ids i = two (is_among ids i)
  where
    two : (b : Bool) → (b ≡ true) ⊎ (b ≡ false)
    two true = inl refl
    two false = inr refl

or_true : (a b : Bool) → a || b ≡ true → (a ≡ true) ⊎ (b ≡ true)
or_true true b h = inl refl
or_true false b h = inr h

or_left : (a b : Bool) → a ≡ true → a || b ≡ true
or_left true b h = refl
or_left false b h = grind (arith, h)

or_right : (a b : Bool) → b ≡ true → a || b ≡ true
or_right true b h = refl
or_right false b h = h

-- a number among those of cells is one of a cell's
pub cell_among : (cells : List CellSeen) (i : ℕ) → is_among (ids_of cells) i ≡ true → (x : CellSeen) × Contains cells x × (x.id ≡ i)
cell_among [] i h = grind (arith, h)
cell_among (y ∷ ys) i h = elim (or_true (y.id == i) (is_among (ids_of ys) i) h) [
  | inl g ↦ (y, here y ys, eqb-true y.id i g)
  | inr g ↦ let (x, at, is) = cell_among ys i g in (x, later y x ys at, is)
]

pub among_cell : (cells : List CellSeen) (i : ℕ) (x : CellSeen) → Contains cells x → x.id ≡ i → is_among (ids_of cells) i ≡ true
among_cell [] i x at is = absurd (none x at)
among_cell (y ∷ ys) i x at is = elim (cases y x ys at) [
  | inl same ↦ or_left (y.id == i) (is_among (ids_of ys) i) (eq-eqb y.id i (ap (λ z. z.id) (sym same) ∙ is))
  | inr more ↦ or_right (y.id == i) (is_among (ids_of ys) i) (among_cell ys i x more is)
]

in_pass : (b : Bool) (y x : CellSeen) (ys rest : List CellSeen) (test : CellSeen → Bool) → test y ≡ b → (Contains rest x → Contains ys x × (test x ≡ true)) → Contains (if b then y ∷ rest else rest) x → Contains (y ∷ ys) x × (test x ≡ true)
in_pass true y x ys rest test e more h = elim (cases y x rest h) [
  | inl same ↦ (subst (Contains (y ∷ ys)) (sym same) (here y ys), ap test same ∙ e)
  | inr beyond ↦ let (a, b) = more beyond in (later y x ys a, b)
]
in_pass false y x ys rest test e more h = let (a, b) = more h in (later y x ys a, b)

in_filter : (test : CellSeen → Bool) (cells : List CellSeen) (x : CellSeen) → Contains (filter test cells) x → Contains cells x × (test x ≡ true)
in_filter test [] x at = absurd (none x at)
in_filter test (y ∷ ys) x at = in_pass (test y) y x ys (filter test ys) test refl (in_filter test ys x) at

to_pass : (b : Bool) (y x : CellSeen) (ys rest : List CellSeen) (test : CellSeen → Bool) → test y ≡ b → test x ≡ true → (Contains ys x → Contains rest x) → Contains (y ∷ ys) x → Contains (if b then y ∷ rest else rest) x
to_pass true y x ys rest test is e more at = elim (cases y x ys at) [
  | inl same ↦ subst (Contains (y ∷ rest)) (sym same) (here y rest)
  | inr beyond ↦ later y x rest (more beyond)
]
to_pass false y x ys rest test is e more at = elim (cases y x ys at) [
  | inl same ↦ absurd (let no_test : test x ≡ false = ap test same ∙ is in grind (arith, no_test, e))
  | inr beyond ↦ more beyond
]

to_filter : (test : CellSeen → Bool) (cells : List CellSeen) (x : CellSeen) → Contains cells x → test x ≡ true → Contains (filter test cells) x
to_filter test [] x at e = absurd (none x at)
to_filter test (y ∷ ys) x at e = to_pass (test y) y x ys (filter test ys) test refl e (λ h. to_filter test ys x h e) at

pass_distinct : (b : Bool) (y : CellSeen) (rest : List CellSeen) → ((x : CellSeen) → Contains rest x → y.id ≢ x.id) → Distinct rest → Distinct (if b then y ∷ rest else rest)
pass_distinct true y rest first d = (first, d)
pass_distinct false y rest first d = d

filter_distinct : (test : CellSeen → Bool) (cells : List CellSeen) → Distinct cells → Distinct (filter test cells)
filter_distinct test [] d = d
filter_distinct test (y ∷ ys) (first, rest) = pass_distinct (test y) y (filter test ys) (λ x at. first x (in_filter test ys x at).0) (filter_distinct test ys rest)

not_true : (b : Bool) → not b ≡ true → b ≡ false
not_true false h = refl
not_true true h = grind (arith, h)

not_false : (b : Bool) → b ≡ false → not b ≡ true
not_false false h = refl
not_false true h = grind (arith, h)

pub in_without : (ids : List ℕ) (cells : List CellSeen) (x : CellSeen) → Contains (without ids cells) x → Contains cells x × (is_among ids x.id ≡ false)
in_without ids cells x at = let (a, b) = in_filter (λ c. not (is_among ids c.id)) cells x at in (a, not_true (is_among ids x.id) b)

pub to_without : (ids : List ℕ) (cells : List CellSeen) (x : CellSeen) → Contains cells x → is_among ids x.id ≡ false → Contains (without ids cells) x
to_without ids cells x at e = to_filter (λ c. not (is_among ids c.id)) cells x at (not_false (is_among ids x.id) e)

-- ---- cells by name

-- what is found among cells of different names, from which some are left out
found_without : (ids : List ℕ) (cells : List CellSeen) (i : ℕ) → Distinct cells → is_among ids i ≡ false → by_name (without ids cells) i ≡ by_name cells i
found_without ids cells i d out = elim (some_or_none (by_name cells i)) [
  | inl h ↦
      let (x, at, is, says) = found cells i h.0 h.1 in
      let kept : Contains (without ids cells) x = to_without ids cells x at (ap (is_among ids) is ∙ out) in
      let dw : Distinct (without ids cells) = filter_distinct (λ c. not (is_among ids c.id)) cells d in
      subst (λ n. by_name (without ids cells) n ≡ Some (node_of x)) is (there (without ids cells) x dw kept) ∙ ap Some (sym says) ∙ sym h.1
  | inr h ↦ absent (without ids cells) i (λ x at is. let (a, _) = in_without ids cells x at in none-some (node_of x) (sym h ∙ subst (λ n. by_name cells n ≡ Some (node_of x)) is (there cells x d a))) ∙ sym h
]
  where
    some_or_none : (o : Option (Node Value)) → ((c : Node Value) × (o ≡ Some c)) ⊎ (o ≡ None)
    some_or_none (Some c) = inl (c, refl)
    some_or_none None = inr refl

lost_without : (ids : List ℕ) (cells : List CellSeen) (i : ℕ) → is_among ids i ≡ true → by_name (without ids cells) i ≡ None
lost_without ids cells i out = absent (without ids cells) i (λ x at is. let (_, b) = in_without ids cells x at in let c : is_among ids x.id ≡ true = ap (is_among ids) is ∙ out in grind (arith, b, c))

either : (b : Bool) (v : Node Value) (whole rest more : Option (Node Value)) → whole ≡ option_or rest more → (if b then Some v else whole) ≡ option_or (if b then Some v else rest) more
either true v whole rest more e = refl
either false v whole rest more e = e

by_name_append : (xs ys : List CellSeen) (i : ℕ) → by_name (xs ++ ys) i ≡ option_or (by_name xs i) (by_name ys i)
by_name_append [] ys i = refl
by_name_append (x ∷ xs) ys i = either (x.id == i) (node_of x) (by_name (xs ++ ys) i) (by_name xs i) (by_name ys i) (by_name_append xs ys i)

-- whether a cell is found, by the numbers
pub none_by_name : (cells : List CellSeen) (i : ℕ) → is_among (ids_of cells) i ≡ false → by_name cells i ≡ None
none_by_name cells i h = absent cells i (λ x at is. let c = among_cell cells i x at is in grind (arith, h, c))

pub some_by_name : (cells : List CellSeen) (i : ℕ) → Distinct cells → is_among (ids_of cells) i ≡ true → (x : CellSeen) × Contains cells x × (x.id ≡ i) × (by_name cells i ≡ Some (node_of x))
some_by_name cells i d h =
    let (x, at, is) = cell_among cells i h in
    (x, at, is, subst (λ n. by_name cells n ≡ Some (node_of x)) is (there cells x d at))

module _ {V : Type 0} where
  captured_made : (po pn qo r : Option (Node V)) (c : Node V) → pn ≡ Some c → r ≡ None → option_or po r ≡ captured po pn qo
  captured_made (Some x) pn qo r c e h = refl
  captured_made None (Some d) qo r c e h = h
  captured_made None None qo r c e h = absurd (none-some c e)

  captured_other : (po pn qo r : Option (Node V)) → pn ≡ None → r ≡ qo → option_or po r ≡ captured po pn qo
  captured_other (Some x) pn qo r e h = refl
  captured_other None None qo r e h = h
  captured_other None (Some d) qo r e h = absurd (none-some d (sym e))

  over_gone : (qn qo pn r : Option (Node V)) (c : Node V) → qo ≡ Some c → r ≡ None → option_or qn r ≡ over qn qo pn
  over_gone (Some x) qo pn r c e h = refl
  over_gone None (Some d) pn r c e h = h
  over_gone None None pn r c e h = absurd (none-some c e)

  over_other : (qn qo pn r : Option (Node V)) → qo ≡ None → r ≡ pn → option_or qn r ≡ over qn qo pn
  over_other (Some x) qo pn r e h = refl
  over_other None None pn r e h = h
  over_other None (Some d) pn r e h = absurd (none-some d (sym e))

  placed_old : (n o w : Option (Node V)) (c : Node V) → n ≡ None → o ≡ Some c → over n o w ≡ None
  placed_old None (Some d) w c e h = refl
  placed_old None None w c e h = absurd (none-some c h)
  placed_old (Some d) o w c e h = absurd (none-some d (sym e))

  placed_new : (n o w : Option (Node V)) (c : Node V) → n ≡ Some c → over n o w ≡ Some c
  placed_new (Some d) o w c e = e
  placed_new None o w c e = absurd (none-some c e)

root_joined_pair : (a b : Option RootPair) → option_map root_of_pair (option_or b a) ≡ last_root (option_map root_of_pair a) (option_map root_of_pair b)
root_joined_pair a (Some r) = refl
root_joined_pair a None = refl

-- ---- the change

module _ (one two c : Change) (t : Store Value) (root : Root) (turn : AreInTurn one two t root) (is : IsFollowed one two c) where
  abbrev p : Patch Value
  p = patch_of_change one

  abbrev q : Patch Value
  q = patch_of_change two

  old_one : Distinct one.old
  old_one = distinct one.old turn.one_is.old_names

  new_one : Distinct one.new
  new_one = distinct one.new turn.one_is.new_names

  old_two : Distinct two.old
  old_two = distinct two.old turn.two_is.old_names

  new_two : Distinct two.new
  new_two = distinct two.new turn.two_is.new_names

  old_same : (i : ℕ) → by_name (one.old ++ without (ids_of one.new) two.old) i ≡ captured (p.old i) (p.new i) (q.old i)
  old_same i = by_name_append one.old (without (ids_of one.new) two.old) i ∙ elim (among_or_not (ids_of one.new) i) [
    | inl h ↦ let (x, _, _, e) = some_by_name one.new i new_one h in captured_made (p.old i) (p.new i) (q.old i) (by_name (without (ids_of one.new) two.old) i) (node_of x) e (lost_without (ids_of one.new) two.old i h)
    | inr h ↦ captured_other (p.old i) (p.new i) (q.old i) (by_name (without (ids_of one.new) two.old) i) (none_by_name one.new i h) (found_without (ids_of one.new) two.old i old_two h)
  ]

  new_same : (i : ℕ) → by_name (two.new ++ without (ids_of two.old) one.new) i ≡ over (q.new i) (q.old i) (p.new i)
  new_same i = by_name_append two.new (without (ids_of two.old) one.new) i ∙ elim (among_or_not (ids_of two.old) i) [
    | inl h ↦ let (x, _, _, e) = some_by_name two.old i old_two h in over_gone (q.new i) (q.old i) (p.new i) (by_name (without (ids_of two.old) one.new) i) (node_of x) e (lost_without (ids_of two.old) one.new i h)
    | inr h ↦ over_other (q.new i) (q.old i) (p.new i) (by_name (without (ids_of two.old) one.new) i) (none_by_name two.old i h) (found_without (ids_of two.old) one.new i new_one h)
  ]

  of_lists : patch_of_change c ≡ patch_of (one.old ++ without (ids_of one.new) two.old) (two.new ++ without (ids_of two.old) one.new) (option_or two.root one.root)
  of_lists = λ j. patch_of (is.old j) (is.new j) (is.root j)

  of_joined : patch_of (one.old ++ without (ids_of one.new) two.old) (two.new ++ without (ids_of two.old) one.new) (option_or two.root one.root) ≡ join p q
  of_joined = λ j. record { old = λ i. old_same i j; new = λ i. new_same i j; root = root_joined_pair one.root two.root j }

  pub followed_same : patch_of_change c ≡ join p q
  followed_same = of_lists ∙ of_joined

  -- an old cell of the first that it does not make anew is no old cell of the second
  old_apart : (x y : CellSeen) → Contains one.old x → Contains (without (ids_of one.new) two.old) y → x.id ≢ y.id
  old_apart x y at_x at_y e =
      let (in_two, out) = in_without (ids_of one.new) two.old y at_y in
      let po : p.old y.id ≡ Some (node_of x) = subst (λ n. by_name one.old n ≡ Some (node_of x)) e (there one.old x old_one at_x) in
      let gone : place p t y.id ≡ None = placed_old (p.new y.id) (p.old y.id) (t y.id) (node_of x) (none_by_name one.new y.id out) po in
      not_both (place p t) y.id (node_of y) gone (turn.two_meets.meets.has_old y.id (node_of y) (there two.old y old_two in_two))

  -- a new cell of the first that the second leaves is no new cell of the second
  new_apart : (x y : CellSeen) → Contains two.new x → Contains (without (ids_of two.old) one.new) y → x.id ≢ y.id
  new_apart x y at_x at_y e =
      let (in_one, out) = in_without (ids_of two.old) one.new y at_y in
      let qn : q.new y.id ≡ Some (node_of x) = subst (λ n. by_name two.new n ≡ Some (node_of x)) e (there two.new x new_two at_x) in
      not_both (place p t) y.id (node_of y) (turn.two_meets.meets.free y.id (node_of x) qn (none_by_name two.old y.id out)) (placed_new (p.new y.id) (p.old y.id) (t y.id) (node_of y) (there one.new y new_one in_one))

  pub followed_change : IsChange c.old c.new c.root
  followed_change = record {
    old_names = subst HaveNames (sym is.old) (have_names (one.old ++ without (ids_of one.new) two.old) (distinct_append one.old (without (ids_of one.new) two.old) old_one (filter_distinct (λ x. not (is_among (ids_of one.new) x.id)) two.old old_two) old_apart));
    new_names = subst HaveNames (sym is.new) (have_names (two.new ++ without (ids_of two.old) one.new) (distinct_append two.new (without (ids_of two.old) one.new) new_two (filter_distinct (λ x. not (is_among (ids_of two.old) x.id)) one.new new_one) new_apart));
    patch = subst (λ x. IsPatch x) (sym followed_same) (follow_patch p q t root turn.part turn.one_is.patch turn.one_meets turn.two_is.patch turn.two_meets);
  }

  pub followed_meets : MeetsPart (patch_of_change c) t root
  followed_meets = subst (λ x. MeetsPart x t root) (sym followed_same) (follow_meets p q t root turn.part turn.one_is.patch turn.one_meets turn.two_is.patch turn.two_meets)

  pub followed_cells : place (patch_of_change c) t ≡ place q (place p t)
  followed_cells = ap (λ x. place x t) followed_same ∙ place_joined p q t root turn.one_meets.meets

  pub followed_root : root_after (patch_of_change c) root ≡ root_after q (root_after p root)
  followed_root = ap (λ x. root_after x root) followed_same ∙ root_joined p q root
