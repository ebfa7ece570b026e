-- Two changes as one, by the patches that they are.
use Rattle.std.specs.Prelude.{◌≡◌, ◌≢◌, ℕ, zero, suc, ◌<◌, ◌==◌, ◌⊎◌, if◌then◌else◌, Bool, true, false, List, [], ◌∷◌, ◌++◌, length, Contains, All, None, Option, Some}
use Rattle.std.specs.List.{slice_index_or}
use mathlib.Core.Path.{refl, sym, ap, subst, ◌∙◌}
use mathlib.Core.Logic.{inl, inr}
use native.Mathlib.Omega.{arith}
use Rattle.std.specs.Option.{option_map, option_or}
use Rattle.std.proofs.lemmas.Bool.{eqb-true}
use Rattle.std.proofs.lemmas.Option.{none-some}
use Rattle.std.proofs.lemmas.List.Elements.{All-append}
use Rattle.std.proofs.lemmas.List.Kept.{AllPairs-cons}
use Rattle.r4_base.specs.Tree.{Node, Store, Root}
use Rattle.r4_base.specs.Value.{Value}
use Rattle.r4_cell.specs.Seen.{CellSeen, node_of}
use Rattle.r4_cell.specs.Patch.{Patch, over, place, root_after, IsPatch, Meets, Apart, captured, last_root, join, by_name, root_of_pair, patch_of, HaveNames, IsChange}
use Rattle.r4_cell.specs.declared.change.Root.{Root as RootPair}
use Rattle.r4_cell.specs.declared.change.Change.{Change}
use Rattle.r4_patch.specs.Joining.{ids_of, AreApart, IsJoined, AreOfOneTree, patch_of_change}
use Rattle.r4_patch.specs.Part.{AreOfOnePart, IsUnnamed}
use Rattle.r4_patch.proofs.PartCells.{tree_is_part}
use Rattle.r4_patch.proofs.Union.{apart_join, unnamed_join}
use Rattle.r4_patch.proofs.Sets.{meets_after}
use Rattle.r4_patch.proofs.Joined.{meets_joined, place_joined, root_joined}

-- ---- cells of two lists, by name

either : (b : Bool) (v : Node Value) (whole rest more : Option (Node Value)) → whole ≡ option_or rest more → (if b then Some v else whole) ≡ option_or (if b then Some v else rest) more
either true v whole rest more e = refl
either false v whole rest more e = e

by_name_append : (xs ys : List CellSeen) (i : ℕ) → by_name (xs ++ ys) i ≡ option_or (by_name xs i) (by_name ys i)
by_name_append [] ys i = refl
by_name_append (x ∷ xs) ys i = either (x.id == i) (node_of x) (by_name (xs ++ ys) i) (by_name xs i) (by_name ys i) (by_name_append xs ys i)

first_or_later : {P : Type 0} (b : Bool) (v c : Node Value) (rest : Option (Node Value)) → (b ≡ true → P) → (rest ≡ Some c → P) → (if b then Some v else rest) ≡ Some c → P
first_or_later true v c rest first later e = first refl
first_or_later false v c rest first later e = later e

contains_first : (x : ℕ) (xs : List ℕ) → Contains (x ∷ xs) x
contains_first x xs = (zero, omega arith, refl)

contains_later : (y x : ℕ) (xs : List ℕ) → Contains xs x → Contains (y ∷ xs) x
contains_later y x xs (k, l, e) = (suc k, omega (arith, l), e)

-- the name of a cell that is found stands among the names
named : (cells : List CellSeen) (i : ℕ) (c : Node Value) → by_name cells i ≡ Some c → Contains (ids_of cells) i
named [] i c e = absurd (none-some c e)
named (x ∷ xs) i c e =
    first_or_later (x.id == i) (node_of x) c (by_name xs i)
    (λ is. subst (λ n. Contains (x.id ∷ ids_of xs) n) (eqb-true x.id i is) (contains_first x.id (ids_of xs)))
    (λ found. contains_later x.id i (ids_of xs) (named xs i c found))
    e

not_shared : (xs ys : List CellSeen) → AreApart xs ys → (i : ℕ) (c d : Node Value) → by_name xs i ≡ Some c → by_name ys i ≡ Some d → ⊥
not_shared xs ys apart i c d a b = apart i (named xs i c a) (named ys i d b)

id_at : (ys : List CellSeen) (k : ℕ) (d : CellSeen) → k < length ys → Contains (ids_of ys) (slice_index_or ys k d).id
id_at [] k d l = absurd (omega (arith, l))
id_at (y ∷ ys) zero d l = contains_first y.id (ids_of ys)
id_at (y ∷ ys) (suc k) d l = contains_later y.id (slice_index_or ys k d).id (ids_of ys) (id_at ys k d (omega (arith, l)))

abbrev Differ : CellSeen → CellSeen → Type 0
Differ c d = c.id ≢ d.id

have_names : (xs ys : List CellSeen) → HaveNames xs → HaveNames ys → AreApart xs ys → HaveNames (xs ++ ys)
have_names [] ys hx hy apart = hy
have_names (x ∷ xs) ys hx hy apart =
    let among : All (Differ x) xs = λ k d l. hx zero (suc k) d (omega arith) (omega (arith, l)) in
    let beyond : All (Differ x) ys = λ k d l e. apart x.id (contains_first x.id (ids_of xs)) (subst (Contains (ids_of ys)) (sym e) (id_at ys k d l)) in
    let rest : HaveNames xs = λ i j d less l. hx (suc i) (suc j) d (omega (arith, less)) (omega (arith, l)) in
    AllPairs-cons Differ x (xs ++ ys) (All-append (Differ x) xs ys among beyond) (have_names xs ys rest hy (λ i a b. apart i (contains_later x.id i (ids_of xs) a) b))

apart_back : (xs ys : List CellSeen) → AreApart xs ys → AreApart ys xs
apart_back xs ys apart i a b = apart i b a

-- ---- the two patches

module _ {V : Type 0} where
  leaves_one : (po pn qo qn w : Option (Node V)) → ((c : Node V) → po ≡ Some c → w ≡ Some c) → ((c : Node V) → pn ≡ Some c → po ≡ None → w ≡ None) → ((c : Node V) → qo ≡ Some c → w ≡ Some c) → ((c : Node V) → qn ≡ Some c → qo ≡ None → w ≡ None) → ((c d : Node V) → po ≡ Some c → qo ≡ Some d → ⊥) → ((c d : Node V) → pn ≡ Some c → qn ≡ Some d → ⊥) → ((pn ≡ None) × (po ≡ None)) ⊎ ((qn ≡ None) × (qo ≡ None))
  leaves_one None None qo qn w a b c d old new = inl (refl, refl)
  leaves_one None (Some x) None None w a b c d old new = inr (refl, refl)
  leaves_one None (Some x) None (Some y) w a b c d old new = absurd (new x y refl refl)
  leaves_one None (Some x) (Some y) qn w a b c d old new = absurd (none-some y (sym (b x refl refl) ∙ c y refl))
  leaves_one (Some x) pn None None w a b c d old new = inr (refl, refl)
  leaves_one (Some x) pn None (Some y) w a b c d old new = absurd (none-some x (sym (d y refl refl) ∙ a x refl))
  leaves_one (Some x) pn (Some y) qn w a b c d old new = absurd (old x y refl refl)

  old_joined : (po pn qo qn : Option (Node V)) → ((pn ≡ None) × (po ≡ None)) ⊎ ((qn ≡ None) × (qo ≡ None)) → option_or po qo ≡ captured po pn qo
  old_joined (Some x) pn qo qn h = refl
  old_joined None None qo qn h = refl
  old_joined None (Some x) qo qn (inl h) = absurd (none-some x (sym h.0))
  old_joined None (Some x) qo qn (inr h) = h.1

  new_joined : (po pn qo qn : Option (Node V)) → ((pn ≡ None) × (po ≡ None)) ⊎ ((qn ≡ None) × (qo ≡ None)) → option_or qn pn ≡ over qn qo pn
  new_joined po pn qo (Some x) h = refl
  new_joined po pn None None h = refl
  new_joined po pn (Some x) None (inl h) = h.0
  new_joined po pn (Some x) None (inr h) = absurd (none-some x (sym h.1))

root_joined_pair : (a b : Option RootPair) → option_map root_of_pair (option_or b a) ≡ last_root (option_map root_of_pair a) (option_map root_of_pair b)
root_joined_pair a (Some r) = refl
root_joined_pair a None = refl

module _ (one two c : Change) (t : Store Value) (root : Root) (both : AreOfOnePart one two t root) (joined : IsJoined one two c) (old_apart : AreApart one.old two.old) where
  abbrev p : Patch Value
  p = patch_of_change one

  abbrev q : Patch Value
  q = patch_of_change two

  apart : Apart p q
  apart i = leaves_one (p.old i) (p.new i) (q.old i) (q.new i) (t i) (both.one_meets.has_old i) (both.one_meets.free i) (both.two_meets.has_old i) (both.two_meets.free i) (not_shared one.old two.old old_apart i) (not_shared one.new two.new both.new_apart i)

  old_same : (i : ℕ) → by_name (one.old ++ two.old) i ≡ captured (p.old i) (p.new i) (q.old i)
  old_same i = by_name_append one.old two.old i ∙ old_joined (p.old i) (p.new i) (q.old i) (q.new i) (apart i)

  new_same : (i : ℕ) → by_name (two.new ++ one.new) i ≡ over (q.new i) (q.old i) (p.new i)
  new_same i = by_name_append two.new one.new i ∙ new_joined (p.old i) (p.new i) (q.old i) (q.new i) (apart i)

  of_lists : patch_of_change c ≡ patch_of (one.old ++ two.old) (two.new ++ one.new) (option_or two.root one.root)
  of_lists = λ j. patch_of (joined.old j) (joined.new j) (joined.root j)

  of_joined : patch_of (one.old ++ two.old) (two.new ++ one.new) (option_or two.root one.root) ≡ join p q
  of_joined = λ j. record { old = λ i. old_same i j; new = λ i. new_same i j; root = root_joined_pair one.root two.root j }

  same : patch_of_change c ≡ join p q
  same = of_lists ∙ of_joined

  after : Meets q (place p t) (root_after p root)
  after = meets_after p q t root both.one_meets both.two_meets apart

  pub joined_change : IsChange c.old c.new c.root
  joined_change = record {
    old_names = subst HaveNames (sym joined.old) (have_names one.old two.old both.one_is.old_names both.two_is.old_names old_apart);
    new_names = subst HaveNames (sym joined.new) (have_names two.new one.new both.two_is.new_names both.one_is.new_names (apart_back one.new two.new both.new_apart));
    patch = subst (λ x. IsPatch x) (sym same) (apart_join p q t root both.one_meets both.two_meets apart both.part both.one_is.patch both.two_is.patch);
  }

  pub joined_meets : Meets (patch_of_change c) t root
  joined_meets = subst (λ x. Meets x t root) (sym same) (meets_joined p q t root both.one_meets after both.part)

  pub joined_cells : place (patch_of_change c) t ≡ place q (place p t)
  joined_cells = ap (λ x. place x t) same ∙ place_joined p q t root both.one_meets

  pub joined_root : root_after (patch_of_change c) root ≡ root_after q (root_after p root)
  joined_root = ap (λ x. root_after x root) same ∙ root_joined p q root

  pub joined_unnamed : IsUnnamed (patch_of_change one) t → IsUnnamed (patch_of_change two) t → IsUnnamed (patch_of_change c) t
  joined_unnamed a b = subst (λ x. IsUnnamed x t) (sym same) (unnamed_join p q t root both.one_meets both.two_meets apart a b)

pub of_part : (one two : Change) (t : Store Value) (root : Root) → AreOfOneTree one two t root → AreOfOnePart one two t root
of_part one two t root h = record {
  part = tree_is_part t root h.tree;
  one_is = h.one_is;
  two_is = h.two_is;
  one_meets = h.one_meets;
  two_meets = h.two_meets;
  new_apart = h.new_apart;
}
