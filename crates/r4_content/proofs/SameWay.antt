-- A way is found again in a content in which the entries on it are the same, and its objects have other attributes at most.
use Rattle.std.specs.Prelude.{◌≡◌, ℕ, ◌^◌, ◌<◌, List, [], ◌∷◌, Bool, true, false, map, All, Option, Some, None, bytes_eq, if◌then◌else◌}
use Rattle.std.proofs.Common.{arith, refl, sym, ap, subst, ◌∙◌, lit<}
use Rattle.std.proofs.lemmas.List.{map-append}
use Rattle.std.proofs.lemmas.Option.{same_Some}
use Rattle.std.proofs.lemmas.Slice.Eq.{bytes_eq-Decides}
use Rattle.std.proofs.lemmas.List.Elements.{All-head, All-tail}
use Rattle.r4_base.specs.Value.{Value, Stat, Entry, Byte, Content, at_key}
use Rattle.r4_base.specs.Volume.{IsObject, is_directory, root_object}
use Rattle.r4_base.specs.declared.items.Attr.{Attr}
use Rattle.r4_base.specs.declared.items.Target.{Target}
use Rattle.r4_content.specs.Objects.{Object, entry_rank, is_dir}
use Rattle.r4_content.specs.Walk.{attr_at, target_in}
use Rattle.r4_content.specs.Ways.{Place}
use Rattle.r4_content.proofs.Found.{Found, There, NotDirectory, NotThere, down, found, found_from, go_attr, go_target, small_object, stat_there, start}
use Rattle.r4_content.proofs.Ranks.{root_is_object}

abbrev pub with_attrs : (Target → Attr → Attr) → Object → Object
with_attrs g o = record { target = o.target; attr = g o.target o.attr }

abbrev pub place_with : (Target → Attr → Attr) → Place → Place
place_with g p = record { here = with_attrs g p.here; above = map (with_attrs g) p.above }

pub place_in : (p q : Place) → There p ≡ There q → p ≡ q
place_in p q e = cc

-- a target that an entry names
pub target_is : (n : List ℕ) (v : Option Value) (t : Target) → target_in n v ≡ Some t → v ≡ Some (Entry n t)
target_is n None t e = absurd cc
target_is n (Some (Stat a)) t e = absurd cc
target_is n (Some (Byte x)) t e = absurd cc
target_is n (Some (Entry s u)) t e = split (bytes_eq s n) refl e
  where
    split : (b : Bool) → bytes_eq s n ≡ b → (if b then Some u else None) ≡ Some t → Some (Entry s u) ≡ Some (Entry n t)
    split true same is =
        let names : s ≡ n = (bytes_eq-Decides s n).0 same in
        let targets = same_Some u t is in
        λ i. Some (Entry (names i) (targets i))
    split false same is = absurd cc

bytes_itself : (n : List ℕ) → bytes_eq n n ≡ true
bytes_itself n = (bytes_eq-Decides n n).1 refl

pub itself_in : (n : List ℕ) (t : Target) → target_in n (Some (Entry n t)) ≡ Some t
itself_in n t = ap (λ (b : Bool). if b then Some t else None) (bytes_itself n)

-- ---- a step that is found

if_there : (p : Place) (b : Bool) (x : Found) → (if b then x else NotDirectory) ≡ There p → (b ≡ true) × (x ≡ There p)
if_there p true x e = (refl, e)
if_there p false x e = absurd cc

target_there : (p : Place) (f : Target → Found) (v : Option Target) → go_target f v ≡ There p → (t : Target) × (v ≡ Some t) × (f t ≡ There p)
target_there p f None e = absurd cc
target_there p f (Some t) e = (t, refl, e)

attr_there : (p : Place) (f : Attr → Found) (v : Option Attr) → go_attr NotThere f v ≡ There p → (a : Attr) × (v ≡ Some a) × (f a ≡ There p)
attr_there p f None e = absurd cc
attr_there p f (Some a) e = (a, refl, e)

pub root_there : (p : Place) (f : Attr → Found) (v : Option Attr) → go_attr NotDirectory f v ≡ There p → (a : Attr) × (v ≡ Some a) × (f a ≡ There p)
root_there p f None e = absurd cc
root_there p f (Some a) e = (a, refl, e)

pub record StepsTo (m : Content) (n : List ℕ) (path : List (List ℕ)) (q p : Place) : Type 0 where
  pub target : Target
  pub attr : Attr
  pub dir : is_dir q.here ≡ true
  pub entry : target_in n (at_key m (entry_rank q.here.target n)) ≡ Some target
  pub stat : attr_at m target ≡ Some attr
  pub rest : found_from m path (down q target attr) ≡ There p

pub step_is : (m : Content) (n : List ℕ) (path : List (List ℕ)) (q p : Place) → found_from m (n ∷ path) q ≡ There p → StepsTo m n path q p
step_is m n path q p e =
    let (dir, on) = if_there p (is_dir q.here) _ e in
    let (t, entry, at) = target_there p (λ t. go_attr NotThere (λ a. found_from m path (down q t a)) (attr_at m t)) (target_in n (at_key m (entry_rank q.here.target n))) on in
    let (a, stat, rest) = attr_there p (λ a. found_from m path (down q t a)) (attr_at m t) at in
    record { target = t; attr = a; dir = dir; entry = entry; stat = stat; rest = rest }

pub steps_on : (m : Content) (n : List ℕ) (path : List (List ℕ)) (q : Place) (t : Target) (a : Attr) → is_dir q.here ≡ true → target_in n (at_key m (entry_rank q.here.target n)) ≡ Some t → attr_at m t ≡ Some a
    → found_from m (n ∷ path) q ≡ found_from m path (down q t a)
steps_on m n path q t a dir entry stat =
    ap (λ (b : Bool). if b then go_target (λ t. go_attr NotThere (λ a. found_from m path (down q t a)) (attr_at m t)) (target_in n (at_key m (entry_rank q.here.target n))) else NotDirectory) dir
    ∙ ap (go_target (λ t. go_attr NotThere (λ a. found_from m path (down q t a)) (attr_at m t))) entry
    ∙ ap (go_attr NotThere (λ a. found_from m path (down q t a))) stat

-- ---- the way again

pub down_with : (g : Target → Attr → Attr) (q : Place) (t : Target) (a : Attr) → down (place_with g q) t (g t a) ≡ place_with g (down q t a)
down_with g q t a = ap (λ (xs : List Object). let p : Place = record { here = record { target = t; attr = g t a }; above = xs } in p) (sym (map-append (with_attrs g) q.above (q.here ∷ [])))

module _ (m after : Content) (g : Target → Attr → Attr) (Goes : Target → Attr → Type 0)
    (through : (t : Target) (a : Attr) → is_directory a ≡ true → Goes t a)
    (kind : (t : Target) (a : Attr) → is_directory (g t a) ≡ is_directory a)
    (orderings : (k : ℕ) (n : List ℕ) (t : Target) → at_key m k ≡ Some (Entry n t) → t.ordering < 2 ^ 64)
    (same_entry : (d : Target) (n : List ℕ) (t : Target) (a : Attr) → d.oid.0 < 2 ^ 60 → All (λ x. x < 256) n → target_in n (at_key m (entry_rank d n)) ≡ Some t → attr_at m t ≡ Some a → Goes t a
    → target_in n (at_key after (entry_rank d n)) ≡ Some t)
    (same_stat : (t : Target) (a : Attr) → IsObject t → attr_at m t ≡ Some a → Goes t a → attr_at after t ≡ Some (g t a)) where
  goes : (path : List (List ℕ)) (q p : Place) → found_from m path q ≡ There p → Goes p.here.target p.here.attr → Goes q.here.target q.here.attr
  goes [] q p e h = subst (λ (x : Place). Goes x.here.target x.here.attr) (sym (place_in q p e)) h
  goes (n ∷ path) q p e h = through q.here.target q.here.attr (step_is m n path q p e).dir

  pub way_again : (path : List (List ℕ)) (q p : Place) → All (All (λ x. x < 256)) path → q.here.target.oid.0 < 2 ^ 60 → found_from m path q ≡ There p → Goes p.here.target p.here.attr
      → found_from after path (place_with g q) ≡ There (place_with g p)
  way_again [] q p bytes small e h = ap (λ (x : Place). There (place_with g x)) (place_in q p e)
  way_again (n ∷ path) q p bytes small e h =
      let s = step_is m n path q p e in
      let may = small_object s.target (stat_there m s.target s.attr s.stat).0 in
      let ordering = orderings (entry_rank q.here.target n) n s.target (target_is n (at_key m (entry_rank q.here.target n)) s.target s.entry) in
      let object : IsObject s.target = (may.0, ordering, omega arith) in
      let on = goes path (down q s.target s.attr) p s.rest h in
      let dir : is_directory (g q.here.target q.here.attr) ≡ true = kind q.here.target q.here.attr ∙ s.dir in
      let entry = same_entry q.here.target n s.target s.attr small (All-head (λ x. All (λ y. y < 256) x) n path bytes) s.entry s.stat on in
      let stat = same_stat s.target s.attr object s.stat on in
      steps_on after n path (place_with g q) s.target (g s.target s.attr) dir entry stat ∙ ap (found_from after path) (down_with g q s.target s.attr)
      ∙ way_again path (down q s.target s.attr) p (All-tail (λ x. All (λ y. y < 256) x) n path bytes) may.1 s.rest h

  pub found_again : (path : List (List ℕ)) (p : Place) → All (All (λ x. x < 256)) path → found m path ≡ There p → Goes p.here.target p.here.attr → found after path ≡ There (place_with g p)
  found_again path p bytes e h =
      let (a, stat, rest) = root_there p (λ a. found_from m path (start a)) (attr_at m root_object) e in
      let on = goes path (start a) p rest h in
      ap (go_attr NotDirectory (λ a. found_from after path (start a))) (same_stat root_object a root_is_object stat on) ∙ way_again path (start a) p bytes (lit< tt) rest h

-- ---- what is found is an object

-- An object is there, with these attributes.
pub record IsThere (m : Content) (o : Object) : Type 0 where
  pub object : IsObject o.target
  pub stat : attr_at m o.target ≡ Some o.attr

module _ (m : Content) (orderings : (k : ℕ) (n : List ℕ) (t : Target) → at_key m k ≡ Some (Entry n t) → t.ordering < 2 ^ 64) where
  -- what an entry names
  pub named_there : (k : ℕ) (n : List ℕ) (t : Target) (a : Attr) → target_in n (at_key m k) ≡ Some t → attr_at m t ≡ Some a → IsThere m (record { target = t; attr = a })
  named_there k n t a entry stat =
      let may = small_object t (stat_there m t a stat).0 in
      record { object = (may.0, orderings k n t (target_is n (at_key m k) t entry), omega arith); stat = stat }

  pub way_object : (path : List (List ℕ)) (q p : Place) → IsThere m q.here → found_from m path q ≡ There p → IsThere m p.here
  way_object [] q p h e = subst (λ (x : Place). IsThere m x.here) (place_in q p e) h
  way_object (n ∷ path) q p h e =
      let s = step_is m n path q p e in
      way_object path (down q s.target s.attr) p (named_there (entry_rank q.here.target n) n s.target s.attr s.entry s.stat) s.rest

  pub found_object : (path : List (List ℕ)) (p : Place) → found m path ≡ There p → IsThere m p.here
  found_object path p e =
      let (a, stat, rest) = root_there p (λ a. found_from m path (start a)) (attr_at m root_object) e in
      way_object path (start a) p (record { object = root_is_object; stat = stat }) rest
