-- Where an entry moves, and what stood there goes: the objects of a lawful content stay lawful.
use Rattle.std.specs.Prelude.{◌≡◌, ◌≢◌, ◌⊎◌, ℕ, suc, ◌+◌, ◌-◌, ◌^◌, ◌<◌, ◌≤◌, List, Bool, true, false, ◌&&◌, All, Option, Some, None, if◌then◌else◌}
use Rattle.std.proofs.Common.{arith, inl, inr, refl, sym, ap, subst, ◌∙◌}
use Rattle.std.proofs.lemmas.Bool.{cases_lt, eq-eqb, ne_eqb}
use Rattle.std.proofs.lemmas.Option.{same_Some}
use Rattle.r4_base.specs.Key.{key_of_rank}
use Rattle.r4_base.specs.Name.{dir_of_key}
use Rattle.r4_base.specs.Value.{Value, Entry, Content, at_key}
use Rattle.r4_base.specs.Volume.{HasObjects, HasStat, IsReached, entries_in, is_directory, is_directory_value, is_entry_in, names_directory, root_object}
use Rattle.r4_base.specs.declared.items.Attr.{Attr}
use Rattle.r4_base.specs.declared.items.Target.{Target}
use Rattle.r4_content.specs.Objects.{Object, entry_less, entry_more, entry_rank, is_dir, is_same_target, link_less}
use Rattle.r4_content.specs.Ways.{entry_in}
use Rattle.r4_content.proofs.Counting.{at_least, count, here, here_no, here_yes, one_there}
use Rattle.r4_content.proofs.EditParts.{true_not_false}
use Rattle.r4_content.proofs.Gaining.{more_kind, more_links, more_size}
use Rattle.r4_content.proofs.Losing.{less_kind, less_links, less_size, named_no_root, named_once_gone, not_in_itself, one_target, rest_file, rest_of, stat_one}
use Rattle.r4_content.proofs.Ranks.{same_itself, told_same}
use Rattle.r4_content.proofs.Rewired.{IsPlaced, OnEntries, both_here, directory_in, directory_on, entry_on, here_empty, named, named_on, names_other, not_entry, rewired_lawful}
use Rattle.r4_content.proofs.Shapes.{entry_dir}

-- ---- what a directory becomes: first the old object's entry leaves it, then the moved one's, and then that comes

abbrev pub less_if : (yes d : Bool) → Attr → Attr
less_if c d a = if c then entry_less d a else a

abbrev pub more_if : (yes d : Bool) → Attr → Attr
more_if c d a = if c then entry_more d a else a

abbrev pub parent : (dir new : Target) → (over d : Bool) → Target → Attr → Attr
parent dir new over d t a = more_if (is_same_target t new) d (less_if (is_same_target t dir) d (less_if (over && is_same_target t new) d a))

abbrev pub becomes : (dir new : Target) → (over d : Bool) → (old : Object) → Target → Attr → Option Attr
becomes dir new over d old t a = if over && is_same_target t old.target then rest_of old else Some (parent dir new over d t a)

less_if_kind : (c d : Bool) (a : Attr) → is_directory (less_if c d a) ≡ is_directory a
less_if_kind true d a = less_kind d a
less_if_kind false d a = refl

more_if_kind : (c d : Bool) (a : Attr) → is_directory (more_if c d a) ≡ is_directory a
more_if_kind true d a = more_kind d a
more_if_kind false d a = refl

pub parent_kind : (dir new : Target) (over d : Bool) (t : Target) (a : Attr) → is_directory (parent dir new over d t a) ≡ is_directory a
parent_kind dir new over d t a =
    more_if_kind (is_same_target t new) d (less_if (is_same_target t dir) d (less_if (over && is_same_target t new) d a))
    ∙ less_if_kind (is_same_target t dir) d (less_if (over && is_same_target t new) d a) ∙ less_if_kind (over && is_same_target t new) d a

abbrev pub one_if : Bool → ℕ
one_if b = if b then 1 else 0

less_if_size : (c d : Bool) (a : Attr) → one_if c ≤ a.size → (less_if c d a).size + one_if c ≡ a.size
less_if_size true d a some = let e = less_size d a in omega arith
less_if_size false d a some = omega arith

more_if_size : (c d : Bool) (a : Attr) → a.size < 2 ^ 64 - 1 → (more_if c d a).size ≡ a.size + one_if c
more_if_size true d a room = more_size d a room
more_if_size false d a room = omega arith

less_if_links : (c d : Bool) (a : Attr) → one_if (c && d) ≤ a.nlink → (less_if c d a).nlink + one_if (c && d) ≡ a.nlink
less_if_links true true a some = let e = less_links true a in omega arith
less_if_links true false a some = omega arith
less_if_links false d a some = omega arith

more_if_links : (c d : Bool) (a : Attr) → ((c && d) ≡ true → a.nlink < 2 ^ 32 - 1) → (more_if c d a).nlink ≡ a.nlink + one_if (c && d)
more_if_links true true a room = more_links true a (λ e. room refl)
more_if_links true false a room = omega arith
more_if_links false d a room = omega arith

-- sizes, by whether the old object's entry leaves, the moved one's leaves, and it comes
moved_size : (c x y d : Bool) (a : Attr) → a.size < 2 ^ 64 - 1 → one_if x + one_if c ≤ a.size → (more_if y d (less_if x d (less_if c d a))).size + (one_if x + one_if c) ≡ a.size + one_if y
moved_size c x y d a room some =
    let first = less_if_size c d a (omega arith) in
    let second = less_if_size x d (less_if c d a) (omega arith) in
    let third = more_if_size y d (less_if x d (less_if c d a)) (omega arith) in
    omega arith

moved_links : (c x y d : Bool) (a : Attr) → a.nlink < 2 ^ 32 → one_if (x && d) + one_if (c && d) ≤ a.nlink → ((y && d) ≡ true → one_if (x && d) + one_if (c && d) ≡ 0 → a.nlink < 2 ^ 32 - 1)
    → (more_if y d (less_if x d (less_if c d a))).nlink + (one_if (x && d) + one_if (c && d)) ≡ a.nlink + one_if (y && d)
moved_links c x y d a fits some room =
    let first = less_if_links c d a (omega arith) in
    let second = less_if_links x d (less_if c d a) (omega arith) in
    let third = more_if_links y d (less_if x d (less_if c d a)) (enough first second) in
    omega arith
  where
    enough : (less_if c d a).nlink + one_if (c && d) ≡ a.nlink → (less_if x d (less_if c d a)).nlink + one_if (x && d) ≡ (less_if c d a).nlink → (y && d) ≡ true → (less_if x d (less_if c d a)).nlink < 2 ^ 32 - 1
    enough e f yes_more = elim (cases_lt 0 (one_if (x && d) + one_if (c && d))) [
      | inl gone ↦ omega arith
      | inr none ↦ let lt = room yes_more (omega arith) in omega arith
    ]

-- ---- what a move has to be

-- An object is there under the new name.
pub record IsOver (m : Content) (o new old : Object) (new_name : List ℕ) : Type 0 where
  pub stat : HasStat m old.target old.attr
  pub entry : at_key m (entry_rank new.target new_name) ≡ Some (Entry new_name old.target)
  pub kind : is_dir old ≡ is_dir o
  pub other : old.target ≢ o.target
  pub empty : is_dir old ≡ true → entries_in m old.target ≡ 0

pub record Moves (m n : Content) (dir o new : Object) (name new_name : List ℕ) (over : Bool) (old : Object) : Type 0 where
  pub dir_stat : HasStat m dir.target dir.attr
  pub dir_is : is_directory dir.attr ≡ true
  pub stat : HasStat m o.target o.attr
  pub new_stat : HasStat m new.target new.attr
  pub new_is : is_directory new.attr ≡ true
  pub dir_small : dir.target.oid.0 < 2 ^ 60
  pub new_small : new.target.oid.0 < 2 ^ 60
  pub bytes : All (λ x. x < 256) name
  pub new_bytes : All (λ x. x < 256) new_name
  pub entry : at_key m (entry_rank dir.target name) ≡ Some (Entry name o.target)
  pub free : over ≡ false → entry_in (at_key m (entry_rank new.target new_name)) ≡ None
  pub onto : over ≡ true → IsOver m o new old new_name
  pub rooms : (t : Target) (a : Attr) → HasStat m t a → is_directory a ≡ true → a.size < 2 ^ 64 - 1
  pub fits : (t : Target) (a : Attr) → HasStat m t a → a.nlink < 2 ^ 32
  pub few : over ≡ false → is_dir o ≡ true → is_same_target new.target dir.target ≡ false → new.attr.nlink < 2 ^ 32 - 1
  -- the content afterwards
  pub gone : at_key n (entry_rank dir.target name) ≡ None
  pub came : at_key n (entry_rank new.target new_name) ≡ Some (Entry new_name o.target)
  pub others : (k : ℕ) → k ≢ entry_rank dir.target name → k ≢ entry_rank new.target new_name → entry_in (at_key m k) ≡ entry_in (at_key n k)
  pub kept : (t : Target) (a b : Attr) → HasStat m t a → becomes dir.target new.target over (is_dir o) old t a ≡ Some b → HasStat n t b
  pub from : (t : Target) (b : Attr) → HasStat n t b → (a : Attr) × HasStat m t a × (becomes dir.target new.target over (is_dir o) old t a ≡ Some b)
  pub way : is_dir o ≡ true → (steps : ℕ) × IsReached n steps new.target

module _ (m n : Content) (dir o new : Object) (name new_name : List ℕ) (over : Bool) (old : Object) (lawful : HasObjects m) (h : Moves m n dir o new name new_name over old) where
  abbrev key : ℕ
  key = entry_rank dir.target name

  abbrev new_key : ℕ
  new_key = entry_rank new.target new_name

  abbrev become : Target → Attr → Option Attr
  become = becomes dir.target new.target over (is_dir o) old

  key_dir : dir_of_key (key_of_rank key) ≡ dir.target.oid.0
  key_dir = (entry_dir dir.target name h.dir_small h.bytes).0

  new_key_dir : dir_of_key (key_of_rank new_key) ≡ new.target.oid.0
  new_key_dir = (entry_dir new.target new_name h.new_small h.new_bytes).0

  some_entry : (s u : List ℕ) (x y : Target) → Some (Entry s x) ≡ Some (Entry u y) → x ≡ y
  some_entry s u x y e = cc

  apart : key ≢ new_key
  apart e = by_over over refl
    where
      by_over : (b : Bool) → over ≡ b → ⊥
      by_over false is = not_entry (at_key m key) name o.target (ap (λ (x : ℕ). entry_in (at_key m x)) e ∙ h.free is) h.entry
      by_over true is = let x = h.onto is in x.other (some_entry new_name name old.target o.target (sym x.entry ∙ ap (at_key m) (sym e) ∙ h.entry))

  -- the object that goes is neither directory, and is another one than what moves
  old_not_new : over ≡ true → old.target ≢ new.target
  old_not_new is e = by_kind (is_dir old) refl
    where
      x : IsOver m o new old new_name
      x = h.onto is

      by_kind : (b : Bool) → is_dir old ≡ b → ⊥
      by_kind true d =
          let (steps, reached) = lawful.reached old.target old.attr x.stat in
          not_in_itself m lawful steps old.target old.attr new_key new_name x.stat d x.entry (new_key_dir ∙ ap (λ (u : Target). u.oid.0) (sym e)) reached
      by_kind false f = true_not_false (sym h.new_is ∙ ap is_directory (stat_one m lawful new.target old.target new.attr old.attr h.new_stat x.stat (sym e)) ∙ f)

  old_not_dir : over ≡ true → old.target ≢ dir.target
  old_not_dir is e = by_kind (is_dir old) refl
    where
      x : IsOver m o new old new_name
      x = h.onto is

      by_kind : (b : Bool) → is_dir old ≡ b → ⊥
      by_kind true d =
          let none = x.empty d in
          let some = one_there (is_entry_in old.target.oid.0) m key (Entry name o.target) h.entry (eq-eqb (dir_of_key (key_of_rank key)) old.target.oid.0 (key_dir ∙ ap (λ (u : Target). u.oid.0) (sym e))) in
          absurd (omega arith)
      by_kind false f = true_not_false (sym h.dir_is ∙ ap is_directory (stat_one m lawful dir.target old.target dir.attr old.attr h.dir_stat x.stat (sym e)) ∙ f)

  -- Each object is the one that goes, or becomes what its entries make of it.
  which : (t : Target) → ((over ≡ true) × (t ≡ old.target) × ((a : Attr) → become t a ≡ rest_of old)) ⊎ (((over ≡ true → t ≢ old.target)) × ((a : Attr) → become t a ≡ Some (parent dir.target new.target over (is_dir o) t a)))
  which t = by_test over (is_same_target t old.target) refl refl
    where
      pick : (b : Bool) (t : Target) (a : Attr) → (over && is_same_target t old.target) ≡ b → become t a ≡ (if b then rest_of old else Some (parent dir.target new.target over (is_dir o) t a))
      pick b t a e = ap (λ (c : Bool). if c then rest_of old else Some (parent dir.target new.target over (is_dir o) t a)) e

      by_test : (p q : Bool) → over ≡ p → is_same_target t old.target ≡ q
          → ((over ≡ true) × (t ≡ old.target) × ((a : Attr) → become t a ≡ rest_of old)) ⊎ (((over ≡ true → t ≢ old.target)) × ((a : Attr) → become t a ≡ Some (parent dir.target new.target over (is_dir o) t a)))
      by_test true true e f = inl (e, told_same t old.target f, λ a. pick true t a (ap (λ (c : Bool). c && is_same_target t old.target) e ∙ f))
      by_test true false e f = inr ((λ y same. true_not_false (sym (same_itself t) ∙ ap (is_same_target t) same ∙ f)), λ a. pick false t a (ap (λ (c : Bool). c && is_same_target t old.target) e ∙ f))
      by_test false q e f = inr ((λ y. absurd (true_not_false (sym y ∙ e))), λ a. pick false t a (ap (λ (c : Bool). c && is_same_target t old.target) e))

  -- what stays: a file that lost a link, or what its entries make of it
  stays_as : (t : Target) (a b : Attr) → HasStat m t a → become t a ≡ Some b
      → ((over ≡ true) × (t ≡ old.target) × (a ≡ old.attr) × (is_dir old ≡ false) × (2 ≤ old.attr.nlink) × (b ≡ link_less a)) ⊎ ((over ≡ true → t ≢ old.target) × (b ≡ parent dir.target new.target over (is_dir o) t a))
  stays_as t a b there e = elim (which t) [
    | inl (is, same, gone) ↦
        let (file, some, left) = rest_file old b (sym (gone a) ∙ e) in
        let attr = stat_one m lawful t old.target a old.attr there (h.onto is).stat same in
        inl (is, same, attr, file, some, left ∙ ap link_less (sym attr))
    | inr (other, goes) ↦ inr (other, sym (same_Some (parent dir.target new.target over (is_dir o) t a) b (sym (goes a) ∙ e)))
  ]

  stays_unless : (t : Target) (a : Attr) → (over ≡ true → t ≡ old.target → rest_of old ≡ None → ⊥) → (b : Attr) × (become t a ≡ Some b)
  stays_unless t a f = elim (which t) [
    | inl (is, same, gone) ↦ let (b, left) = is_some (rest_of old) (f is same) in (b, gone a ∙ left)
    | inr (other, goes) ↦ (parent dir.target new.target over (is_dir o) t a, goes a)
  ]
    where
      is_some : (v : Option Attr) → (v ≡ None → ⊥) → (b : Attr) × (v ≡ Some b)
      is_some None g = absurd (g refl)
      is_some (Some b) g = (b, refl)

  stays : (k : ℕ) (s : List ℕ) (t : Target) (a : Attr) → k ≢ new_key → at_key m k ≡ Some (Entry s t) → HasStat m t a → (b : Attr) × (become t a ≡ Some b)
  stays k s t a ne at there =
      stays_unless t a (λ is same gone.
      let x = h.onto is in
      ne (sym (named_once_gone m lawful old new_key k new_name s x.stat gone x.entry (at ∙ ap (λ (u : Target). Some (Entry s u)) same))))

  holder_stays : (k : ℕ) (s : List ℕ) (t p : Target) (a : Attr) → at_key m k ≡ Some (Entry s t) → HasStat m p a → is_directory a ≡ true → dir_of_key (key_of_rank k) ≡ p.oid.0 → (b : Attr) × (become p a ≡ Some b)
  holder_stays k s t p a at there is in_p =
      stays_unless p a (λ yes_over same gone.
      let x = h.onto yes_over in
      let attr = stat_one m lawful p old.target a old.attr there x.stat same in
      let none = x.empty (ap is_directory (sym attr) ∙ is) in
      let some = one_there (is_entry_in old.target.oid.0) m k (Entry s t) at (eq-eqb (dir_of_key (key_of_rank k)) old.target.oid.0 (in_p ∙ ap (λ (u : Target). u.oid.0) same)) in
      absurd (omega arith))

  root_stays : (a : Attr) → HasStat m root_object a → (b : Attr) × (become root_object a ≡ Some b)
  root_stays a there = stays_unless root_object a (λ is same gone. named_no_root m lawful new_key new_name old.target (h.onto is).entry (sym same))

  kind : (t : Target) (a b : Attr) → HasStat m t a → become t a ≡ Some b → is_directory b ≡ is_directory a
  kind t a b there e = elim (stays_as t a b there e) [
    | inl (is, same, attr, file, some, left) ↦ ap is_directory left
    | inr (other, left) ↦ ap is_directory left ∙ parent_kind dir.target new.target over (is_dir o) t a
  ]

  -- ---- what is counted at the two keys

  gone_none : (p : ℕ × Value → Bool) → OnEntries p → here p key (at_key n key) ≡ 0
  gone_none p on = here_empty p key (at_key n key) on (ap entry_in h.gone)

  here_is : (p : ℕ × Value → Bool) (k : ℕ) (v : Value) (w : Option Value) → w ≡ Some v → here p k w ≡ one_if (p (k, v))
  here_is p k v w e = by_test (p (k, v)) refl
    where
      by_test : (b : Bool) → p (k, v) ≡ b → here p k w ≡ one_if b
      by_test true y = here_yes p k v w e y
      by_test false y = here_no p k v w e y

  came_here : (p : ℕ × Value → Bool) → here p new_key (at_key n new_key) ≡ one_if (p (new_key, Entry new_name o.target))
  came_here p = here_is p new_key (Entry new_name o.target) (at_key n new_key) h.came

  left_here : (p : ℕ × Value → Bool) → here p key (at_key m key) ≡ one_if (p (key, Entry name o.target))
  left_here p = here_is p key (Entry name o.target) (at_key m key) h.entry

  old_here : (p : ℕ × Value → Bool) → OnEntries p → here p new_key (at_key m new_key) ≡ one_if (over && p (new_key, Entry new_name old.target))
  old_here p on = by_over over refl
    where
      by_over : (b : Bool) → over ≡ b → here p new_key (at_key m new_key) ≡ one_if (b && p (new_key, Entry new_name old.target))
      by_over true is = here_is p new_key (Entry new_name old.target) (at_key m new_key) (h.onto is).entry
      by_over false is = here_empty p new_key (at_key m new_key) on (h.free is)

  in_dir_test : (t : Target) (a : Attr) → HasStat m t a → is_entry_in t.oid.0 (key, Entry name o.target) ≡ is_same_target t dir.target
  in_dir_test t a there = by_test (is_same_target t dir.target) refl
    where
      by_test : (b : Bool) → is_same_target t dir.target ≡ b → is_entry_in t.oid.0 (key, Entry name o.target) ≡ b
      by_test true e = eq-eqb (dir_of_key (key_of_rank key)) t.oid.0 (key_dir ∙ ap (λ (u : Target). u.oid.0) (sym (told_same t dir.target e)))
      by_test false e = ne_eqb (dir_of_key (key_of_rank key)) t.oid.0 (λ same. true_not_false (sym (same_itself t) ∙ ap (is_same_target t) (one_target m lawful t dir.target a dir.attr there h.dir_stat (sym same ∙ key_dir)) ∙ e))

  in_new_test : (t u : Target) (a : Attr) → HasStat m t a → is_entry_in t.oid.0 (new_key, Entry new_name u) ≡ is_same_target t new.target
  in_new_test t u a there = by_test (is_same_target t new.target) refl
    where
      by_test : (b : Bool) → is_same_target t new.target ≡ b → is_entry_in t.oid.0 (new_key, Entry new_name u) ≡ b
      by_test true e = eq-eqb (dir_of_key (key_of_rank new_key)) t.oid.0 (new_key_dir ∙ ap (λ (x : Target). x.oid.0) (sym (told_same t new.target e)))
      by_test false e = ne_eqb (dir_of_key (key_of_rank new_key)) t.oid.0 (λ same. true_not_false (sym (same_itself t) ∙ ap (is_same_target t) (one_target m lawful t new.target a new.attr there h.new_stat (sym same ∙ new_key_dir)) ∙ e))

  sizes : (t : Target) (a b : Attr) → HasStat m t a → become t a ≡ Some b → is_directory a ≡ true
      → b.size + both_here (is_entry_in t.oid.0) key new_key m ≡ a.size + both_here (is_entry_in t.oid.0) key new_key n
  sizes t a b there e is = elim (stays_as t a b there e) [
    | inl (yes_over, same, attr, file, some, left) ↦ absurd (true_not_false (sym is ∙ ap is_directory attr ∙ file))
    | inr (other, left) ↦
        let p = is_entry_in t.oid.0 in
        let one = left_here p ∙ ap one_if (in_dir_test t a there) in
        let two = old_here p (entry_on t.oid.0) ∙ ap (λ (x : Bool). one_if (over && x)) (in_new_test t old.target a there) in
        let three = gone_none p (entry_on t.oid.0) in
        let four = came_here p ∙ ap one_if (in_new_test t o.target a there) in
        let size : a.size ≡ count p m = (lawful.directories t a there is).0 in
        let least = at_least p m key new_key apart in
        let moved = moved_size (over && is_same_target t new.target) (is_same_target t dir.target) (is_same_target t new.target) (is_dir o) a (h.rooms t a there is) (omega arith) in
        let new_size : b.size ≡ (parent dir.target new.target over (is_dir o) t a).size = ap (λ (c : Attr). c.size) left in
        omega arith
  ]

  moved_kind : (b : Attr) × (become o.target o.attr ≡ Some b)
  moved_kind = stays_unless o.target o.attr (λ is same gone. (h.onto is).other (sym same))

  names_moved : names_directory n (Entry new_name o.target) ≡ is_dir o
  names_moved = let (b, e) = moved_kind in ap is_directory_value (h.kept o.target o.attr b h.stat e).1 ∙ kind o.target o.attr b h.stat e

  old_test : (t : Target) (a : Attr) → HasStat m t a → one_if (over && directory_in m t.oid.0 (new_key, Entry new_name old.target)) ≡ one_if ((over && is_same_target t new.target) && is_dir o)
  old_test t a there = by_over over refl
    where
      by_over : (b : Bool) → over ≡ b → one_if (b && directory_in m t.oid.0 (new_key, Entry new_name old.target)) ≡ one_if ((b && is_same_target t new.target) && is_dir o)
      by_over false is = refl
      by_over true is =
          let x = h.onto is in
          let aims : names_directory m (Entry new_name old.target) ≡ is_dir o = ap is_directory_value x.stat.1 ∙ x.kind in
          ap (λ (c : Bool). one_if (c && names_directory m (Entry new_name old.target))) (in_new_test t old.target a there) ∙ ap (λ (c : Bool). one_if (is_same_target t new.target && c)) aims

  directories : (t : Target) (a b : Attr) → HasStat m t a → become t a ≡ Some b → is_directory a ≡ true
      → b.nlink + both_here (directory_in m t.oid.0) key new_key m ≡ a.nlink + both_here (directory_in n t.oid.0) key new_key n
  directories t a b there e is = elim (stays_as t a b there e) [
    | inl (yes_over, same, attr, file, some, left) ↦ absurd (true_not_false (sym is ∙ ap is_directory attr ∙ file))
    | inr (other, left) ↦
        let p = directory_in m t.oid.0 in
        let q = directory_in n t.oid.0 in
        let x = is_same_target t dir.target in
        let y = is_same_target t new.target in
        let one : here p key (at_key m key) ≡ one_if (x && is_dir o)
        = left_here p ∙ ap (λ (c : Bool). one_if (c && names_directory m (Entry name o.target))) (in_dir_test t a there) ∙ ap (λ (c : Bool). one_if (x && c)) (ap is_directory_value h.stat.1) in
        let two : here p new_key (at_key m new_key) ≡ one_if ((over && y) && is_dir o) = old_here p (directory_on m t.oid.0) ∙ old_test t a there in
        let three = gone_none q (directory_on n t.oid.0) in
        let four : here q new_key (at_key n new_key) ≡ one_if (y && is_dir o)
        = came_here q ∙ ap (λ (c : Bool). one_if (c && names_directory n (Entry new_name o.target))) (in_new_test t o.target a there) ∙ ap (λ (c : Bool). one_if (y && c)) names_moved in
        let links : a.nlink ≡ 2 + count p m = (lawful.directories t a there is).1 in
        let least = at_least p m key new_key apart in
        let moved = moved_links (over && y) x y (is_dir o) a (h.fits t a there) (omega arith) (room t a there) in
        let new_links : b.nlink ≡ (parent dir.target new.target over (is_dir o) t a).nlink = ap (λ (c : Attr). c.nlink) left in
        omega arith
  ]
    where
      room : (t : Target) (a : Attr) → HasStat m t a → (is_same_target t new.target && is_dir o) ≡ true
          → one_if (is_same_target t dir.target && is_dir o) + one_if ((over && is_same_target t new.target) && is_dir o) ≡ 0 → a.nlink < 2 ^ 32 - 1
      room t a there yes_new none = by_test (is_same_target t new.target) (is_dir o) (is_same_target t dir.target) over refl refl refl refl yes_new none
        where
          by_test : (p q r s : Bool) → is_same_target t new.target ≡ p → is_dir o ≡ q → is_same_target t dir.target ≡ r → over ≡ s → (p && q) ≡ true → one_if (r && q) + one_if ((s && p) && q) ≡ 0 → a.nlink < 2 ^ 32 - 1
          by_test false q r s e f g i yes_new zero_all = absurd (true_not_false (sym yes_new))
          by_test true false r s e f g i yes_new zero_all = absurd (true_not_false (sym yes_new))
          by_test true true true s e f g i yes_new zero_all = absurd (omega arith)
          by_test true true false true e f g i yes_new zero_all = absurd (omega arith)
          by_test true true false false e f g i yes_new zero_all =
              let same = told_same t new.target e in
              let attr = stat_one m lawful t new.target a new.attr there h.new_stat same in
              let few = h.few i f (ap (λ (u : Target). is_same_target u dir.target) (sym same) ∙ g) in
              let links : a.nlink ≡ new.attr.nlink = ap (λ (c : Attr). c.nlink) attr in
              omega arith

  -- a file keeps its attributes, where it is not the one that goes
  file_same : (t : Target) (a : Attr) → HasStat m t a → is_directory a ≡ false → parent dir.target new.target over (is_dir o) t a ≡ a
  file_same t a there file =
      ap (λ (c : Bool). more_if c (is_dir o) (less_if (is_same_target t dir.target) (is_dir o) (less_if (over && c) (is_dir o) a))) not_new
      ∙ ap (λ (c : Bool). less_if c (is_dir o) (less_if (over && false) (is_dir o) a)) not_dir ∙ by_over over
    where
      not_new : is_same_target t new.target ≡ false
      not_new = by_test (is_same_target t new.target) refl
        where
          by_test : (b : Bool) → is_same_target t new.target ≡ b → b ≡ false
          by_test false e = refl
          by_test true e = absurd (true_not_false (sym h.new_is ∙ ap is_directory (sym (stat_one m lawful t new.target a new.attr there h.new_stat (told_same t new.target e))) ∙ file))

      not_dir : is_same_target t dir.target ≡ false
      not_dir = by_test (is_same_target t dir.target) refl
        where
          by_test : (b : Bool) → is_same_target t dir.target ≡ b → b ≡ false
          by_test false e = refl
          by_test true e = absurd (true_not_false (sym h.dir_is ∙ ap is_directory (sym (stat_one m lawful t dir.target a dir.attr there h.dir_stat (told_same t dir.target e))) ∙ file))

      by_over : (b : Bool) → less_if (b && false) (is_dir o) a ≡ a
      by_over true = refl
      by_over false = refl

  not_over : (t : Target) → (over ≡ true → t ≢ old.target) → one_if (over && named t (new_key, Entry new_name old.target)) ≡ 0
  not_over t other = by_over over refl
    where
      by_over : (b : Bool) → over ≡ b → one_if (b && named t (new_key, Entry new_name old.target)) ≡ 0
      by_over false is = refl
      by_over true is = ap one_if (names_other t old.target new_name (λ same. other is (sym same)))

  directory_links : (t : Target) (a b : Attr) → HasStat m t a → become t a ≡ Some b → is_directory a ≡ true → both_here (named t) key new_key m ≡ both_here (named t) key new_key n
  directory_links t a b there e is = elim (stays_as t a b there e) [
    | inl (yes_over, same, attr, file, some, left) ↦ absurd (true_not_false (sym is ∙ ap is_directory attr ∙ file))
    | inr (other, left) ↦
        let one : here (named t) key (at_key m key) ≡ one_if (is_same_target o.target t) = left_here (named t) in
        let two = old_here (named t) (named_on t) ∙ not_over t other in
        let three = gone_none (named t) (named_on t) in
        let four : here (named t) new_key (at_key n new_key) ≡ one_if (is_same_target o.target t) = came_here (named t) in
        omega arith
  ]

  file_links : (t : Target) (a b : Attr) → HasStat m t a → become t a ≡ Some b → is_directory a ≡ false → b.nlink + both_here (named t) key new_key m ≡ a.nlink + both_here (named t) key new_key n
  file_links t a b there e file =
      let one : here (named t) key (at_key m key) ≡ one_if (is_same_target o.target t) = left_here (named t) in
      let three = gone_none (named t) (named_on t) in
      let four : here (named t) new_key (at_key n new_key) ≡ one_if (is_same_target o.target t) = came_here (named t) in
      elim (stays_as t a b there e) [
        | inl (yes_over, same, attr, is_file, some, left) ↦
            let two : here (named t) new_key (at_key m new_key) ≡ 1
            = old_here (named t) (named_on t) ∙ ap (λ (c : Bool). one_if (c && named t (new_key, Entry new_name old.target))) yes_over ∙ ap one_if (ap (λ (u : Target). is_same_target u t) (sym same) ∙ same_itself t) in
            let less : b.nlink ≡ a.nlink - 1 = ap (λ (c : Attr). c.nlink) left in
            let links : a.nlink ≡ old.attr.nlink = ap (λ (c : Attr). c.nlink) attr in
            omega arith
        | inr (other, left) ↦
            let two = old_here (named t) (named_on t) ∙ not_over t other in
            let links : b.nlink ≡ a.nlink = ap (λ (c : Attr). c.nlink) (left ∙ file_same t a there file) in
            omega arith
      ]

  alive : (t : Target) (a b : Attr) → HasStat m t a → become t a ≡ Some b → is_directory a ≡ false → 1 ≤ a.nlink → 1 ≤ b.nlink
  alive t a b there e file some_link = elim (stays_as t a b there e) [
    | inl (yes_over, same, attr, is_file, some, left) ↦
        let less : b.nlink ≡ a.nlink - 1 = ap (λ (c : Attr). c.nlink) left in
        let links : a.nlink ≡ old.attr.nlink = ap (λ (c : Attr). c.nlink) attr in
        omega arith
    | inr (other, left) ↦ let links : b.nlink ≡ a.nlink = ap (λ (c : Attr). c.nlink) (left ∙ file_same t a there file) in omega arith
  ]

  entry_target : (k : ℕ) (s : List ℕ) (t u : Target) (w : List ℕ) → at_key n k ≡ Some (Entry s t) → at_key n k ≡ Some (Entry w u) → t ≡ u
  entry_target k s t u w a b = some_entry s w t u (sym a ∙ b)

  placed : (k : ℕ) (s : List ℕ) (t : Target) → (k ≡ key) ⊎ (k ≡ new_key) → at_key n k ≡ Some (Entry s t) → IsPlaced n k t
  placed k s t new_one at = elim new_one [
    | inl e ↦ absurd (not_entry (at_key n k) s t (ap (λ (x : ℕ). entry_in (at_key n x)) e ∙ ap entry_in h.gone) at)
    | inr e ↦
        let is = entry_target new_key s t o.target new_name (ap (at_key n) (sym e) ∙ at) h.came in
        let (b, stay) = moved_kind in
        let (c, new_stay) = stays_unless new.target new.attr (λ yes_over same gone. old_not_new yes_over (sym same)) in
        record {
          no_root = λ r. named_no_root m lawful key name o.target h.entry (sym is ∙ r);
          object = (b, subst (λ (u : Target). HasStat n u b) (sym is) (h.kept o.target o.attr b h.stat stay));
          holder = (new.target, c, h.kept new.target new.attr c h.new_stat new_stay, kind new.target new.attr c h.new_stat new_stay ∙ h.new_is, ap (λ (x : ℕ). dir_of_key (key_of_rank x)) e ∙ new_key_dir);
        }
  ]

  moved : (k : ℕ) (s : List ℕ) (t : Target) (a b : Attr) → (k ≡ key) ⊎ (k ≡ new_key) → at_key m k ≡ Some (Entry s t) → HasStat m t a → is_directory a ≡ true → become t a ≡ Some b → (steps : ℕ) × IsReached n steps t
  moved k s t a b which_key at there is e = elim which_key [
    | inl at_key_is ↦
        let same = some_entry s name t o.target (sym at ∙ ap (at_key m) at_key_is ∙ h.entry) in
        let attr = stat_one m lawful t o.target a o.attr there h.stat same in
        let (steps, way) = h.way (ap is_directory (sym attr) ∙ is) in
        (suc steps, (new.target, way, (new_key, new_name, h.came ∙ ap (λ (u : Target). Some (Entry new_name u)) (sym same), new_key_dir)))
    | inr at_new ↦ absurd (by_over over refl at_new)
  ]
    where
      by_over : (c : Bool) → over ≡ c → k ≡ new_key → ⊥
      by_over false no_over at_new = not_entry (at_key m k) s t (ap (λ (x : ℕ). entry_in (at_key m x)) at_new ∙ h.free no_over) at
      by_over true yes_over at_new =
          let x = h.onto yes_over in
          let same = some_entry s new_name t old.target (sym at ∙ ap (at_key m) at_new ∙ x.entry) in
          elim (stays_as t a b there e) [
            | inl (again, also, attr, file, some, left) ↦ true_not_false (sym is ∙ ap is_directory attr ∙ file)
            | inr (other, left) ↦ other yes_over same
          ]

  pub moves_lawful : HasObjects n
  moves_lawful = rewired_lawful m n key new_key become (λ t b. ⊥) lawful (record {
    apart = apart;
    others = h.others;
    kept = h.kept;
    from = λ t b there. inl (h.from t b there);
    kind = kind;
    stays = λ k s t a x y at there. stays k s t a y at there;
    holder_stays = λ k s t p a x y at there is in_p. holder_stays k s t p a at there is in_p;
    root_stays = root_stays;
    placed = placed;
    directory_links = λ t a b there e is no_root. directory_links t a b there e is;
    file_links = file_links;
    alive = alive;
    sizes = sizes;
    directories = directories;
    born = λ t b x. absurd x;
    one_born = λ t u a b x y. absurd x;
    moved = moved;
  })
