-- What was found under a path is found there after a command that has other paths.
use Rattle.std.specs.Prelude.{◌≡◌, ◌-◌, ◌^◌, ◌<◌, ℕ, suc, List, [], ◌∷◌, ◌++◌, Bool, true, false, All, Option, Some}
use Rattle.std.specs.Prelude.{None, length, take, slice_index_or, if◌then◌else◌}
use Rattle.std.proofs.Common.{arith, drop-cons, get_or, inl, inr, refl, sym, ap, subst, ◌∙◌}
use Rattle.std.proofs.lemmas.Bool.{lt-ltb}
use Rattle.std.proofs.lemmas.List.{append_assoc, drop_all, take-append-drop}
use Rattle.std.proofs.lemmas.List.Elements.{All-head, All-take}
use Rattle.r4_base.specs.Value.{Byte, Content, Entry, Stat, Value, at_key}
use Rattle.r4_base.specs.Volume.{HasObjects, HasStat, is_directory, stat_rank}
use Rattle.r4_base.specs.declared.items.Attr.{Attr}
use Rattle.r4_base.specs.declared.items.Target.{Target}
use Rattle.r4_content.specs.Course.{ending, of_content}
use Rattle.r4_content.specs.Edited.{is_in}
use Rattle.r4_content.specs.Fields.{HasBytePaths, HasBytes, HasNumbers, NamesUnused}
use Rattle.r4_content.specs.Lawful.{IsLawful}
use Rattle.r4_content.specs.Meaning.{after, changes, course, is_path}
use Rattle.r4_content.specs.Objects.{entry_rank, is_dir}
use Rattle.r4_content.specs.Walk.{At, NoName, attr_in, target_in, walk}
use Rattle.r4_content.specs.Ways.{Place}
use Rattle.r4_content.specs.declared.command.Command.{Command}
use Rattle.r4_content.specs.declared.command.Command.TheVariants.{Create, Mkdir, Write, Fill, Truncate, Read}
use Rattle.r4_content.specs.declared.command.Command.TheVariants.{Stat as Ask, Names, Link, Unlink, Rmdir, Rename}
use Rattle.r4_content.specs.declared.command.Command.TheVariants.{Chmod, Chown, Times, Begin, End, Commit}
use Rattle.r4_content.proofs.EditLaws.{edited_off}
use Rattle.r4_content.proofs.Found.{Found, NotDirectory, NotThere, There, found, go_attr, small_object, start}
use Rattle.r4_content.proofs.Found.{stat_there, walk_is, walked}
use Rattle.r4_content.proofs.Losing.{one_target}
use Rattle.r4_content.proofs.OneObject.{numbers_of}
use Rattle.r4_content.proofs.SameWay.{found_object, itself_in, place_with, steps_on, target_is}
use Rattle.r4_content.proofs.Staying.{lawful_stays}
use Rattle.r4_content_rows.specs.OwnNames.{BeginsWith, BeginsWithOwn, IsLastName, IsOwnName}
use Rattle.r4_content_rows.proofs.Again.{way_again}
use Rattle.r4_content_rows.proofs.OneWay.{first_part, found_root, found_stat, joined_way, last_of, last_step, one_way}
use Rattle.r4_content_rows.proofs.OneWay.{second_part}
use Rattle.r4_content_rows.proofs.OtherNames.{others_stay}
use Rattle.r4_content_rows.proofs.SameKind.{kinds_stay}

-- ---- where a walk ends, something is found

pub found_of_walk : (m : Content) (path : List (List ℕ)) (o : Target) (a : Attr) → walk m path ≡ At o a
    → (is_path path ≡ true) × ((p : Place) × (found m path ≡ There p) × (p.here.target ≡ o) × (p.here.attr ≡ a))
found_of_walk m path o a e = by_names (is_path path) refl (sym (walk_is m path) ∙ e)
  where
    same : (t : Target) (b : Attr) → At t b ≡ At o a → (t ≡ o) × (b ≡ a)
    same t b h = (cc, cc)

    by_found : (f : Found) → found m path ≡ f → walked f ≡ At o a → (p : Place) × (found m path ≡ There p)
        × (p.here.target ≡ o) × (p.here.attr ≡ a)
    by_found (There p) at h = let (x, y) = same p.here.target p.here.attr h in (p, at, x, y)
    by_found NotDirectory at h = absurd cc
    by_found NotThere at h = absurd cc

    by_names : (b : Bool) → is_path path ≡ b → (if b then walked (found m path) else NoName) ≡ At o a
        → (is_path path ≡ true) × ((p : Place) × (found m path ≡ There p) × (p.here.target ≡ o) × (p.here.attr ≡ a))
    by_names true is h = (is, by_found (found m path) refl h)
    by_names false is h = absurd cc

-- ---- attributes as they are in another content

abbrev pub or_these : Option Attr → Attr → Attr
or_these None a = a
or_these (Some b) a = b

-- those that stand in a content, or else these
abbrev pub now_in : Content → Target → Attr → Attr
now_in n t a = or_these (attr_in (at_key n (stat_rank t))) a

-- a path that is not empty ends with its last name
pub ends_with_last : (path : List (List ℕ)) → 0 < length path
    → path ≡ take (length path - 1) path ++ slice_index_or path
    (length path - 1) [] ∷ []
ends_with_last path some =
    sym (take-append-drop (length path - 1) path)
    ∙ ap (λ (xs : List (List ℕ)). take (length path - 1) path ++ xs)
    (drop-cons path (length path - 1) [] (omega (arith, some))
    ∙ ap (λ (xs : List (List ℕ)). get_or path (length path - 1) [] ∷ xs)
    (drop_all (suc (length path - 1)) path (omega (arith, some))))

module _ (limit : ℕ) (c : Command) (m : Content) (whole : List (List ℕ)) (lt : limit < 2 ^ 64)
    (lawful : IsLawful limit m) (paths : HasBytePaths c) (unused : NamesUnused m c) (bytes : HasBytes whole)
    (other : BeginsWithOwn c whole → ⊥) where
  abbrev n : Content
  n = after limit c m

  abbrev IsBytes : List ℕ → Type 0
  IsBytes s = All (λ x. x < 256) s

  numbers : HasNumbers m
  numbers = numbers_of limit m lt lawful

  objects : HasObjects n
  objects = (lawful_stays limit c m lt lawful paths unused).0

  -- a step by one of the command's own names is a step along its path
  begins : (own xs : List (List ℕ)) (s : List ℕ) (rest : List (List ℕ)) (q : Place) → HasBytes own
      → found m xs ≡ There q → whole ≡ xs ++ s ∷ rest → is_dir q.here ≡ true → IsLastName m own q.here.target.oid.0 s
      → BeginsWith own whole
  begins [] xs s rest q own_bytes at is dir h = (whole, refl)
  begins (x ∷ own) xs s rest q own_bytes at is dir (o, a, walks, oid, last) =
      let path = x ∷ own in
      let above = take (length path - 1) path in
      let (legal, (p, p_at, target, attr)) = found_of_walk m above o a walks in
      let xs_bytes = first_part IsBytes xs (s ∷ rest) (subst HasBytes is bytes) in
      let same = one_target m lawful.objects q.here.target p.here.target q.here.attr p.here.attr
      (found_stat m lawful.objects numbers xs q at) (found_stat m lawful.objects numbers above p p_at)
      (sym oid ∙ ap (λ (t : Target). t.oid.0) (sym target)) in
      let one = one_way m lawful.objects numbers (suc (length xs)) xs above q p (omega arith) xs_bytes
      (All-take IsBytes (length path - 1) path own_bytes) at p_at same dir in
      let parts = ends_with_last path (omega arith) in (
        rest,
        is ∙ ap (λ (ys : List (List ℕ)). ys ++ s ∷ rest) one ∙ ap (λ (y : List ℕ). above ++ y ∷ rest) (sym last)
            ∙ sym (append_assoc above (slice_index_or path (length path - 1) [] ∷ []) rest)
            ∙ ap (λ (ys : List (List ℕ)). ys ++ rest) (sym parts),
      )

  own_begins : (d : Command) (xs : List (List ℕ)) (s : List ℕ) (rest : List (List ℕ)) (q : Place) → HasBytePaths d
      → found m xs ≡ There q → whole ≡ xs ++ s ∷ rest → is_dir q.here ≡ true → IsOwnName m d q.here.target.oid.0 s
      → BeginsWithOwn d whole
  own_begins (Create own oid) xs s rest q b at is dir h = begins own xs s rest q b at is dir h
  own_begins (Mkdir own oid) xs s rest q b at is dir h = begins own xs s rest q b at is dir h
  own_begins (Link from to) xs s rest q b at is dir h = begins to xs s rest q b.1 at is dir h
  own_begins (Unlink own) xs s rest q b at is dir h = begins own xs s rest q b at is dir h
  own_begins (Rmdir own) xs s rest q b at is dir h = begins own xs s rest q b at is dir h
  own_begins (Rename from to) xs s rest q b at is dir h = elim h [
    | inl g ↦ inl (begins from xs s rest q b.0 at is dir g)
    | inr g ↦ inr (begins to xs s rest q b.1 at is dir g)
  ]
  own_begins (Write path offset text) xs s rest q b at is dir h = absurd h
  own_begins (Fill path offset len byte) xs s rest q b at is dir h = absurd h
  own_begins (Truncate path size) xs s rest q b at is dir h = absurd h
  own_begins (Read path offset len) xs s rest q b at is dir h = absurd h
  own_begins (Ask path) xs s rest q b at is dir h = absurd h
  own_begins (Names path) xs s rest q b at is dir h = absurd h
  own_begins (Chmod path mode) xs s rest q b at is dir h = absurd h
  own_begins (Chown path uid gid) xs s rest q b at is dir h = absurd h
  own_begins (Times path atime mtime ctime) xs s rest q b at is dir h = absurd h
  own_begins Begin xs s rest q b at is dir h = absurd h
  own_begins End xs s rest q b at is dir h = absurd h
  own_begins Commit xs s rest q b at is dir h = absurd h

  -- so each entry on the way stays
  entry_stays : (xs : List (List ℕ)) (s : List ℕ) (rest : List (List ℕ)) (q : Place) (t : Target)
      → found m xs ≡ There q → whole ≡ xs ++ s ∷ rest → is_dir q.here ≡ true
      → at_key m (entry_rank q.here.target s) ≡ Some (Entry s t)
      → at_key n (entry_rank q.here.target s) ≡ Some (Entry s t)
  entry_stays xs s rest q t at is dir there =
      let k = entry_rank q.here.target s in
      let q_there = found_object m numbers.orderings xs q at in
      let small = (small_object q.here.target (stat_there m q.here.target q.here.attr q_there.stat).0).1 in
      let s_bytes = All-head IsBytes s rest (second_part IsBytes xs (s ∷ rest) (subst HasBytes is bytes)) in
      let keeps = others_stay limit c m q.here.target.oid.0 s lt lawful paths unused s_bytes
      (λ own. other (own_begins c xs s rest q paths at is dir own)) in
      let below = sym (lt-ltb q.here.target.oid.0 (2 ^ 60) small) in
      let now = ap (λ (b : Bool). if b then target_in s (at_key n k) else None) below ∙ keeps
      ∙ ap (λ (b : Bool). if b then target_in s (at_key m k) else None) (sym below) in
      target_is s (at_key n k) t (now ∙ ap (target_in s) there ∙ itself_in s t)

  kind : (t : Target) (a : Attr) → at_key m (stat_rank t) ≡ Some (Stat a) → is_directory (now_in n t a) ≡ is_directory a
  kind t a at = by_value (at_key n (stat_rank t)) refl
    where
      by_value : (v : Option Value) → at_key n (stat_rank t) ≡ v
          → is_directory (or_these (attr_in v) a) ≡ is_directory a
      by_value None e = refl
      by_value (Some (Stat b)) e = kinds_stay limit m c lt lawful paths unused (stat_rank t) a b at e
      by_value (Some (Entry s u)) e = refl
      by_value (Some (Byte x)) e = refl

  -- each object on the way is there
  still_there : (xs rest : List (List ℕ)) (q : Place) → found m xs ≡ There q → whole ≡ xs ++ rest → (b : Attr)
      × HasStat n q.here.target b
  still_there xs rest q at is = elim (last_of xs) [
    | inl e ↦
        let (b, stat, dir) = objects.root in (
          b,
          subst (λ (t : Target). HasStat n t b)
              (sym (found_root m lawful.objects numbers q (ap (found m) (sym e) ∙ at))) stat,
        )
    | inr (us, u, e) ↦
        let s = last_step m lawful.objects numbers us u q (ap (found m) (sym e) ∙ at) in
        let along = is ∙ ap (λ (ys : List (List ℕ)). ys ++ rest) e ∙ append_assoc us (u ∷ []) rest in
        objects.target (entry_rank s.dir.here.target u) u q.here.target
        (entry_stays us u rest s.dir q.here.target s.way along s.is s.entry)
  ]

  abbrev On : List (List ℕ) → Place → Type 0
  On rest q = (xs : List (List ℕ)) × (found m xs ≡ There q) × (whole ≡ xs ++ rest)

  found_still : (p : Place) → found m whole ≡ There p → found n whole ≡ There (place_with (now_in n) p)
  found_still p e =
      way_again m n (now_in n) p On kind
      (λ s rest q t a (xs, at, is) dir entry stat. (
        xs ++ s ∷ [],
        joined_way m xs (s ∷ []) q at
            ∙ steps_on m s [] q t a dir entry stat,
        is ∙ sym (append_assoc xs (s ∷ []) rest),
      ))
      (λ s rest q t a (xs, at, is) dir f stat there. entry_stays xs s rest q t at is dir there)
      (λ rest q (xs, at, is) f stat there. let (b, now) = still_there xs rest q at is in now.1
      ∙ ap (λ (v : Option Value). Some (Stat (or_these (attr_in v) q.here.attr))) (sym now.1))
      whole (λ a stat. ([], ap (go_attr NotDirectory (λ (b : Attr). There (start b))) stat, refl)) e

  stays : (o : Target) (a : Attr) → walk m whole ≡ At o a → (b : Attr) × (walk n whole ≡ At o b)
      × (is_in (changes limit c m) (stat_rank o) ≡ false → b ≡ a)
  stays o a walks =
      let (legal, (p, at, target, attr)) = found_of_walk m whole o a walks in
      let now = found_still p at in
      let walks_now = walk_is n whole ∙ ap (λ (b : Bool). if b then walked (found n whole) else NoName) legal
      ∙ ap walked now in
      let was = found_stat m lawful.objects numbers whole p at in (
        now_in n o a,
        walks_now ∙ ap (λ (t : Target). At t (now_in n t p.here.attr)) target
            ∙ ap (λ (b : Attr). At o (now_in n o b)) attr,
        λ off.
            let there : at_key m (stat_rank o) ≡ Some (Stat a) = ap (λ (t : Target). at_key m (stat_rank t))
            (sym target) ∙ was.1 ∙ ap (λ (b : Attr). Some (Stat b)) attr in
            ap (λ (v : Option Value). or_these (attr_in v) a)
            (edited_off (ending (course limit c) (of_content m)).edits m (stat_rank o) off ∙ there),
      )

pub paths_stay : (limit : ℕ) (c : Command) (m : Content) (path : List (List ℕ)) (o : Target) (a : Attr)
    → limit < 2 ^ 64 → IsLawful limit m → HasBytePaths c → NamesUnused m c → HasBytes path
    → (BeginsWithOwn c path → ⊥) → walk m path ≡ At o a
    → (b : Attr) × (walk (after limit c m) path ≡ At o b) × (is_in (changes limit c m) (stat_rank o) ≡ false → b ≡ a)
paths_stay limit c m path o a lt lawful paths unused bytes other walks = stays limit c m path lt lawful paths unused
    bytes other o a walks
