-- Of a content no object has a fault.
use Rattle.std.proofs.Common.{◌≡◌, inl, inr, ℕ, ◌+◌, ◌<◌, ◌≤◌, Bool, true, false, not, ◌&&◌, ◌||◌, ◌==◌, List, [], ◌∷◌, ◌++◌, map, Option, Some, None, refl, sym, ap, subst, ◌∙◌, arith}
use Rattle.std.specs.Prelude.{Contains, nat_le, nat_lt, if◌then◌else◌, is_some, is_none, option_and_then}
use Rattle.std.specs.List.{flat_map}
use Rattle.std.specs.Option.{option_map, option_map_or}
use Rattle.std.proofs.lemmas.Bool.{and_parts, eq-eqb, eqb-true, le-leb}
use Rattle.std.proofs.lemmas.Bool.Decides.{nat_tests}
use Rattle.r4_base.specs.Tree.{Name}
use Rattle.r4_base.specs.Volume.{HasFiles, HasIds, HasObjects, HasStat, blocks_for, is_directory, is_directory_value, links_to, object_of, root_object, stat_rank}
use Rattle.r4_base.specs.Value.{at_key}
use Rattle.r4_base.specs.declared.items.Attr.{Attr}
use Rattle.r4_base.specs.declared.items.Target.{Target}
use Rattle.r4_base.specs.declared.superblock.Super40.{Super40}
use Rattle.r4_check.specs.Walk.{found_in}
use Rattle.r4_check_objects.specs.Faults.{fault_at}
use Rattle.r4_check_objects.specs.Held.{facts_of, id_of, id_under, is_stat_data}
use Rattle.r4_check_objects.specs.Objects.{block_of, body_fits, count_faults, facts_at, facts_in, faults_under, ids_of, is_directory_at, is_lost, is_root, is_stat_of, is_unmet, judged_owner, links_fit, names_fit, object_faults, owner_of, size_fits, stats_of, sum_of, what_if, wrongs_of}
use Rattle.r4_check_objects.specs.declared.fault.What.TheVariants.{Files as FilesWrong, Id, Links, Lost, Size}
use Rattle.r4_check_objects.specs.declared.held.Facts.{Facts}
use Rattle.r4_check_objects.specs.declared.held.Held.{Held}
use Rattle.r4_check_objects.specs.declared.held.Thing.TheVariants.{Entry}
use Rattle.r4_check_laws.proofs.Contents.{AreApart, HaveOne, raw_of}
use Rattle.r4_check_laws.proofs.Counts.{and_false, directories_counted, entries_counted, links_counted, stats_counted}
use Rattle.r4_check_laws.proofs.Faultless.{facts_true, met_some, no_strays, none_or, own_of, root_own, stat_by, stat_in, target_in, untrue}
use Rattle.r4_check_laws.proofs.Filled.{extents_fit, extents_past, past_none, tails_fit, tails_past}
use Rattle.r4_check_laws.proofs.Lists.{here, later}
use Rattle.r4_check_laws.proofs.Pairs.{Mirrors, Pair, all_units}
use Rattle.r4_check_laws.proofs.Parts.{AreRead}
use Rattle.r4_check_laws.proofs.Reaching.{both_true}
use Rattle.r4_check_laws.proofs.Rights.{IsOwner, blocks_at, directories_at, entries_at, found_there, links_at, links_rule, past_at, reached_at, size_rule, strays_at, tails_at}
use Rattle.r4_check_laws.proofs.Same.{find_true, same_is}
use Rattle.r4_check_laws.proofs.Stores.{Cells, store_of}
use Rattle.r4_check_laws.proofs.Trees.{AreLinked}

is_if_true : (b x y : Bool) → b ≡ true → x ≡ true → (if b then x else y) ≡ true
is_if_true true x y e h = h
is_if_true false x y e h = absurd (cc)

is_if_false : (b x y : Bool) → b ≡ false → y ≡ true → (if b then x else y) ≡ true
is_if_false false x y e h = h
is_if_false true x y e h = absurd (cc)

all_none : (a b c d : Bool) → a ≡ false → b ≡ false → c ≡ false → d ≡ false → what_if a Size ++ (what_if b Links ++ (what_if c Lost ++ what_if d Id)) ≡ []
all_none true b c d e f g h = absurd (cc)
all_none false true c d e f g h = absurd (cc)
all_none false false true d e f g h = absurd (cc)
all_none false false false true e f g h = absurd (cc)
all_none false false false false e f g h = refl

no_flat : {X Y : Type 0} (f : X → List Y) (xs : List X) → ((x : X) → Contains xs x → f x ≡ []) → flat_map f xs ≡ []
no_flat f [] none = refl
no_flat f (x ∷ xs) none = let first = none x (here x xs) in let rest = no_flat f xs (λ y at. none y (later x xs y at)) in rw (first, rest) refl

pub judged_of : (found : List Held) (o : Target) (w : IsOwner found o) → judged_owner found o.oid.0 ≡ Some (is_root o, w.facts)
judged_of found o w =
    ap (option_and_then (λ h. option_map (λ f. (is_root (object_of h.key), f)) (facts_in h))) w.owner
    ∙ ap (option_map (λ f. (is_root (object_of w.held.key), f))) w.fact ∙ ap (λ (p : Target). Some (is_root p, w.facts)) w.object

module _ (s : Super40) (blocks : ℕ) (cells : Cells) (root : Name) (linked : AreLinked cells root) (read : AreRead blocks cells)
    (one : HaveOne (all_units cells)) (apart : AreApart (all_units cells)) (ps : List Pair) (m : Mirrors (found_in cells) (all_units cells) ps)
    (files : HasFiles (store_of cells) (raw_of (all_units cells))) (objects : HasObjects (raw_of (all_units cells))) (ids : HasIds s (raw_of (all_units cells))) where
  -- an owner, with the attributes of its object
  record IsKnown (o : Target) (w : IsOwner (found_in cells) o) : Type 0 where
    attr : Attr
    has : HasStat (raw_of (all_units cells)) o attr
    facts : w.facts ≡ facts_of attr

  known : (o : Target) (w : IsOwner (found_in cells) o) → IsKnown o w
  known o w =
      let (a, e, has, place) = stat_in s blocks cells root linked read one apart ps m files objects w.held w.facts w.there w.thing in
      record { attr = a; has = subst (λ (x : Target). HasStat (raw_of (all_units cells)) x a) w.object has; facts = e }

  directory_size : (o : Target) (w : IsOwner (found_in cells) o) (k : IsKnown o w) → is_directory k.attr ≡ true → size_fits (found_in cells) o.oid.0 (facts_of k.attr) ≡ true
  directory_size o w k dir =
      let bytes = eq-eqb k.attr.bytes k.attr.size (files.bytes o k.attr k.has) in
      let size = eq-eqb k.attr.size (entries_at (found_in cells) o.oid.0) ((objects.directories o k.attr k.has dir).0 ∙ entries_counted (found_in cells) (all_units cells) one apart ps m o) in
      size_rule (found_in cells) o.oid.0 (facts_of k.attr) ∙ both_true (k.attr.bytes == k.attr.size) _ bytes (is_if_true (is_directory k.attr) (k.attr.size == entries_at (found_in cells) o.oid.0) _ dir size)

  file_body : (o : Target) (w : IsOwner (found_in cells) o) (k : IsKnown o w) → is_directory k.attr ≡ false → (k.attr.size ≤ 1073741824) × (past_at (found_in cells) o.oid.0 ≡ 0) × (body_fits k.attr.size (tails_at (found_in cells) o.oid.0) (blocks_at (found_in cells) o.oid.0) ≡ true)
  file_body o w k file =
      let body = files.bodies o k.attr k.has file in
      let size : w.facts.size ≡ k.attr.size = ap (λ (f : Facts). f.size) k.facts in
      elim body.1 [
        | inl tails ↦
            let fit = tails_fit s blocks cells root linked read one apart ps m files objects o k.attr k.has w body.0 tails in (
              body.0,
              past_none s blocks cells root linked read one apart ps m files objects o k.attr k.has w size (tails_past s blocks cells root linked read one apart ps m files objects o k.attr k.has w body.0 tails),
              left (tails_at (found_in cells) o.oid.0) (blocks_at (found_in cells) o.oid.0) k.attr.size fit.0 fit.1,
            )
        | inr extents ↦
            let fit = extents_fit s blocks cells root linked read one apart ps m files objects o k.attr k.has w body.0 extents in (
              body.0,
              past_none s blocks cells root linked read one apart ps m files objects o k.attr k.has w size (extents_past s blocks cells root linked read one apart ps m files objects o k.attr k.has w body.0 extents),
              right (tails_at (found_in cells) o.oid.0) (blocks_at (found_in cells) o.oid.0) k.attr.size fit.0 fit.1,
            )
      ]
    where
      or_left : (a b : Bool) → a ≡ true → (a || b) ≡ true
      or_left true b e = refl
      or_left false b e = absurd (cc)

      or_right : (a b : Bool) → b ≡ true → (a || b) ≡ true
      or_right true b e = refl
      or_right false b e = e

      left : (tails extents size : ℕ) → tails ≡ size → extents ≡ 0 → body_fits size tails extents ≡ true
      left tails extents size e f = or_left (tails == size && extents == 0) _ (both_true (tails == size) (extents == 0) (eq-eqb _ _ e) (eq-eqb _ _ f))

      right : (tails extents size : ℕ) → tails ≡ 0 → extents ≡ blocks_for size → body_fits size tails extents ≡ true
      right tails extents size e f = or_right (tails == size && extents == 0) _ (both_true (tails == 0) (extents == blocks_for size) (eq-eqb _ _ e) (eq-eqb _ _ f))

  file_size : (o : Target) (w : IsOwner (found_in cells) o) (k : IsKnown o w) → is_directory k.attr ≡ false → size_fits (found_in cells) o.oid.0 (facts_of k.attr) ≡ true
  file_size o w k file =
      let bytes = eq-eqb k.attr.bytes k.attr.size (files.bytes o k.attr k.has) in
      let body = file_body o w k file in
      let small = le-leb k.attr.size 1073741824 body.0 in
      let past = eq-eqb (past_at (found_in cells) o.oid.0) 0 body.1 in
      size_rule (found_in cells) o.oid.0 (facts_of k.attr)
      ∙ both_true (k.attr.bytes == k.attr.size) _ bytes
      (is_if_false (is_directory k.attr) _ (nat_le k.attr.size 1073741824 && past_at (found_in cells) o.oid.0 == 0 && body_fits k.attr.size (tails_at (found_in cells) o.oid.0) (blocks_at (found_in cells) o.oid.0)) file
      (both_true (nat_le k.attr.size 1073741824 && past_at (found_in cells) o.oid.0 == 0) _ (both_true (nat_le k.attr.size 1073741824) (past_at (found_in cells) o.oid.0 == 0) small past) body.2))

  size_good : (o : Target) (w : IsOwner (found_in cells) o) → size_fits (found_in cells) o.oid.0 w.facts ≡ true
  size_good o w =
      let k = known o w in
      ap (size_fits (found_in cells) o.oid.0) k.facts ∙ by k (is_directory k.attr) refl
    where
      by : (k : IsKnown o w) (b : Bool) → is_directory k.attr ≡ b → size_fits (found_in cells) o.oid.0 (facts_of k.attr) ≡ true
      by k true e = directory_size o w k e
      by k false e = file_size o w k e

  targets : (h : Held) (t : Target) → Contains (found_in cells) h → h.thing ≡ Entry t → is_directory_at (found_in cells) t ≡ is_directory_value (at_key (raw_of (all_units cells)) (stat_rank t))
  targets h t at is =
      let (a, has, w, e) = target_in s blocks cells root linked read one apart ps m files objects h t at is in
      ap (λ r. option_map_or (λ f. f.directory) r false) (facts_true (found_in cells) t w ∙ ap (λ (f : Facts). Some f) e) ∙ sym (ap is_directory_value has.1)

  links_good : (o : Target) (w : IsOwner (found_in cells) o) → links_fit (found_in cells) o.oid.0 (is_root o) w.facts ≡ true
  links_good o w =
      let k = known o w in
      ap (links_fit (found_in cells) o.oid.0 (is_root o)) k.facts ∙ links_rule (found_in cells) o.oid.0 (is_root o) (facts_of k.attr) ∙ by k (is_directory k.attr) refl
    where
      counted : links_at (found_in cells) o.oid.0 ≡ links_to (raw_of (all_units cells)) o
      counted = sym (links_counted (found_in cells) (all_units cells) one apart ps m o w)

      none_named : (root : Bool) (n : ℕ) → n ≡ 0 → names_fit root n ≡ true
      none_named true n e = let t = eq-eqb n 0 e in rw t refl
      none_named false n e = let t = eq-eqb n 0 e in rw t refl

      one_named : (root : Bool) (n : ℕ) → root ≡ false → n ≡ 1 → names_fit root n ≡ true
      one_named true n e f = absurd (cc)
      one_named false n e f = let z : (n == 0) ≡ false = ap (λ (x : ℕ). x == 0) f in let t = eq-eqb n 1 f in rw (z, t) refl

      names : (k : IsKnown o w) → is_directory k.attr ≡ true → (b : Bool) → is_root o ≡ b → names_fit (is_root o) (links_at (found_in cells) o.oid.0) ≡ true
      names k dir true e = none_named (is_root o) _ (counted ∙ ap (links_to (raw_of (all_units cells))) (same_is o root_object e) ∙ objects.root_unnamed)
      names k dir false e = one_named (is_root o) _ e (counted ∙ objects.named_once o k.attr k.has dir (λ same. (let yes_root : is_root o ≡ true = ap is_root same in cc)))

      by : (k : IsKnown o w) (b : Bool) → is_directory k.attr ≡ b
          → (if is_directory k.attr then (k.attr.nlink == 2 + directories_at (found_in cells) o.oid.0 && names_fit (is_root o) (links_at (found_in cells) o.oid.0)) else (k.attr.nlink == links_at (found_in cells) o.oid.0)) ≡ true
      by k true e =
          let links = (objects.directories o k.attr k.has e).1 ∙ ap (λ (n : ℕ). 2 + n) (directories_counted (found_in cells) (all_units cells) one apart ps m targets o) in
          is_if_true (is_directory k.attr) _ _ e (both_true (k.attr.nlink == 2 + directories_at (found_in cells) o.oid.0) _ (eq-eqb _ _ links) (names k e (is_root o) refl))
      by k false e = is_if_false (is_directory k.attr) _ _ e (eq-eqb _ _ (objects.files o k.attr k.has e ∙ sym counted))

  met_good : (o : Target) (w : IsOwner (found_in cells) o) → (not (is_root o) && reached_at (found_in cells) o.oid.0 == 0) ≡ false
  met_good o w = by (is_root o) refl
    where
      never : (root : Bool) (n : ℕ) → root ≡ false → 1 ≤ n → (not root && n == 0) ≡ false
      never root n e some = and_false (not root) (n == 0) (grind (arith, nat_tests))

      root_is : (root : Bool) (t : Bool) → root ≡ true → (not root && t) ≡ false
      root_is true t e = refl
      root_is false t e = absurd (cc)

      by : (b : Bool) → is_root o ≡ b → (not (is_root o) && reached_at (found_in cells) o.oid.0 == 0) ≡ false
      by true e = root_is (is_root o) _ e
      by false e = let k = known o w in never (is_root o) _ e (met_some s blocks cells root linked read one apart ps m files objects o k.attr k.has e)

  id_good : (o : Target) (w : IsOwner (found_in cells) o) → (nat_lt o.oid.0 42 || nat_le s.oid o.oid.0) ≡ false
  id_good o w = let k = known o w in let within = ids.ids o k.attr k.has in low_high o.oid.0 within.0 within.1
    where
      low_high : (q : ℕ) → 42 ≤ q → q < s.oid → (nat_lt q 42 || nat_le s.oid q) ≡ false
      low_high q low high = none_or (nat_lt q 42) (nat_le s.oid q) (grind (arith, nat_tests)) (grind (arith, nat_tests))

  -- the owner of an id, if it has one
  owner_there : (q : ℕ) (g : Held) → owner_of (found_in cells) q ≡ Some g → (o : Target) × IsOwner (found_in cells) o × (o.oid.0 ≡ q)
  unfolding owner_of
  owner_there q g e =
      let at = found_there (is_stat_of q) (found_in cells) g e in
      let is = and_parts (is_stat_data g) (id_of g == q) (find_true (is_stat_of q) (found_in cells) g e) in
      let (f, thing) = stat_by g.thing is.0 in
      (object_of g.key, own_of s blocks cells root linked read one apart ps m files objects g f at thing, ap (id_under g.key) (sym thing) ∙ eqb-true (id_of g) q is.1)

  not_lost : (q : ℕ) → is_unmet (found_in cells) q ≡ false → is_lost (found_in cells) q ≡ false
  unfolding sum_of
  not_lost q met =
      let none : nat_lt 0 (strays_at (found_in cells) q) ≡ false = no_more (strays_at (found_in cells) q) (no_strays s blocks cells root linked read one apart ps m files objects q) in
      let there : is_none (facts_at (found_in cells) root_object) ≡ false = ap is_none (facts_true (found_in cells) root_object (root_own s blocks cells root linked read one apart ps m files objects)) in
      none_or _ _ (none_or (nat_lt 0 (strays_at (found_in cells) q)) (is_unmet (found_in cells) q) none met) (and_false (q == 42) (is_none (facts_at (found_in cells) root_object)) there)
    where
      no_more : (n : ℕ) → n ≡ 0 → nat_lt 0 n ≡ false
      no_more n e = grind (arith, nat_tests)

  owned_wrongs : (o : Target) → IsOwner (found_in cells) o → wrongs_of s (found_in cells) o.oid.0 ≡ []
  unfolding wrongs_of sum_of
  owned_wrongs o w =
      let judged = judged_of (found_in cells) o w in
      let met : is_unmet (found_in cells) o.oid.0 ≡ false = ap (λ j. option_map_or (λ p. not p.0 && reached_at (found_in cells) o.oid.0 == 0) j false) judged ∙ met_good o w in
      all_none _ _ _ _
      (ap (λ j. option_map_or (λ p. not (size_fits (found_in cells) o.oid.0 p.1)) j false) judged ∙ untrue _ (size_good o w))
      (ap (λ j. option_map_or (λ p. not (links_fit (found_in cells) o.oid.0 p.0 p.1)) j false) judged ∙ untrue _ (links_good o w))
      (not_lost o.oid.0 met)
      (and_false (is_some (owner_of (found_in cells) o.oid.0)) _ (id_good o w))

  unowned : (q : ℕ) → owner_of (found_in cells) q ≡ None → wrongs_of s (found_in cells) q ≡ []
  unfolding wrongs_of sum_of
  unowned q e =
      let judged : judged_owner (found_in cells) q ≡ None = ap (option_and_then (λ h. option_map (λ f. (is_root (object_of h.key), f)) (facts_in h))) e in
      let met : is_unmet (found_in cells) q ≡ false = ap (λ j. option_map_or (λ p. not p.0 && reached_at (found_in cells) q == 0) j false) judged in
      all_none _ _ _ _
      (ap (λ j. option_map_or (λ p. not (size_fits (found_in cells) q p.1)) j false) judged)
      (ap (λ j. option_map_or (λ p. not (links_fit (found_in cells) q p.0 p.1)) j false) judged)
      (not_lost q met)
      (ap (λ r. is_some r && (nat_lt q 42 || nat_le s.oid q)) e)

  no_wrongs : (q : ℕ) → wrongs_of s (found_in cells) q ≡ []
  no_wrongs q = by (owner_of (found_in cells) q) refl
    where
      by : (r : Option Held) → owner_of (found_in cells) q ≡ r → wrongs_of s (found_in cells) q ≡ []
      by None e = unowned q e
      by (Some g) e = let (o, w, id) = owner_there q g e in subst (λ (n : ℕ). wrongs_of s (found_in cells) n ≡ []) id (owned_wrongs o w)

  pub no_object_fault : (leaf : ℕ) → object_faults s leaf (found_in cells) ≡ []
  unfolding object_faults
  no_object_fault leaf =
      let first = no_flat (faults_under s leaf (found_in cells)) (ids_of (found_in cells)) (λ q at. ap (map (fault_at (block_of leaf (found_in cells) q))) (no_wrongs q)) in
      let count = eq-eqb s.file_count (stats_of (found_in cells)) (ids.count ∙ stats_counted (found_in cells) (all_units cells) one apart ps m) in
      let last : count_faults s (found_in cells) ≡ [] = ap (λ (b : Bool). if b then [] else (fault_at 17 FilesWrong ∷ [])) count in
      rw (first, last) refl
