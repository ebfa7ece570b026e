-- Where a way leads in a content: a command goes on from there, or is answered why not. It is where the walk along the path ends.
use Rattle.std.specs.Prelude.{◌≡◌, ◌↔◌, ℕ, ◌^◌, ◌<◌, List, [], ◌∷◌, ◌++◌, Bool, true, false, nat_lt, Option, Some, None, if◌then◌else◌}
use Rattle.std.proofs.Common.{lit<, refl, sym, ap, ◌∙◌}
use Rattle.std.proofs.lemmas.Bool.{and_parts, lt-ltb, ltb-true}
use Rattle.std.proofs.lemmas.Option.{same_Some}
use Rattle.r4_base.specs.Value.{Value, Stat, Entry, Byte, Content, at_key}
use Rattle.r4_base.specs.Volume.{is_directory, root_object, stat_rank}
use Rattle.r4_base.specs.declared.items.Attr.{Attr}
use Rattle.r4_base.specs.declared.items.Target.{Target}
use Rattle.r4_content.specs.Course.{Course, Ask, Answer, Ending, ending, of_content}
use Rattle.r4_content.specs.Edited.{no_edits}
use Rattle.r4_content.specs.Meaning.{is_path, reply}
use Rattle.r4_content.specs.Objects.{Object, entry_rank, is_dir}
use Rattle.r4_content.specs.Walk.{Walked, At, NoName, NoDirectory, NoEntry, attr_at, attr_in, may_be_object, target_in, walk, walk_from, walk_on, walk_root}
use Rattle.r4_content.specs.Ways.{Place, object_at, steps, to_object, with_attr, with_target}
use Rattle.r4_content.specs.Walks.{walk_reply}
use Rattle.r4_content.specs.declared.command.Command.TheVariants.{Stat as StatCommand}
use Rattle.r4_content.specs.declared.reply.Reply.{Reply}
use Rattle.r4_content.specs.declared.reply.Reply.TheVariants.{Absent, Notdir, Attr as AttrReply, Name as NameReply}

pub data Found : Type 0 where
  There : Place → Found
  NotDirectory : Found
  NotThere : Found

abbrev pub go_attr : Found → (Attr → Found) → Option Attr → Found
go_attr r next None = r
go_attr r next (Some a) = next a

abbrev pub go_target : (Target → Found) → Option Target → Found
go_target next None = NotThere
go_target next (Some t) = next t

abbrev pub down : Place → Target → Attr → Place
down p t a = record { here = record { target = t; attr = a }; above = p.above ++ p.here ∷ [] }

-- where the rest of a path leads from a place
abbrev pub found_from : Content → List (List ℕ) → Place → Found
found_from m [] p = There p
found_from m (n ∷ path) p =
    if is_dir p.here then go_target (λ t. go_attr NotThere (λ a. found_from m path (down p t a)) (attr_at m t)) (target_in n (at_key m (entry_rank p.here.target n)))
    else NotDirectory

abbrev pub start : Attr → Place
start a = record { here = record { target = root_object; attr = a }; above = [] }

abbrev pub found : Content → List (List ℕ) → Found
found m path = go_attr NotDirectory (λ a. found_from m path (start a)) (attr_at m root_object)

abbrev pub answered : Reply → Ending
answered r = record { edits = no_edits; reply = r }

-- how a command that goes on from there ends
abbrev pub ends_at : Content → (Place → Course) → Found → Ending
ends_at m next (There p) = ending (next p) (of_content m)
ends_at m next NotDirectory = answered Notdir
ends_at m next NotThere = answered Absent

ends_if : (m : Content) (next : Place → Course) (b : Bool) (c d : Course) (x y : Found) → ending c (of_content m) ≡ ends_at m next x → ending d (of_content m) ≡ ends_at m next y
    → ending (if b then c else d) (of_content m) ≡ ends_at m next (if b then x else y)
ends_if m next true c d x y e g = e
ends_if m next false c d x y e g = g

ends_attr : (m : Content) (next : Place → Course) (r : Reply) (x : Found) (c : Attr → Course) (f : Attr → Found) (v : Option Attr)
    → answered r ≡ ends_at m next x → ((a : Attr) → ending (c a) (of_content m) ≡ ends_at m next (f a)) → ending (with_attr r c v) (of_content m) ≡ ends_at m next (go_attr x f v)
ends_attr m next r x c f None e h = e
ends_attr m next r x c f (Some a) e h = h a

ends_target : (m : Content) (next : Place → Course) (c : Target → Course) (f : Target → Found) (v : Option Target)
    → ((t : Target) → ending (c t) (of_content m) ≡ ends_at m next (f t)) → ending (with_target c v) (of_content m) ≡ ends_at m next (go_target f v)
ends_target m next c f None h = refl
ends_target m next c f (Some t) h = h t

ends_object : (m : Content) (next : Place → Course) (t : Target) (c : Object → Course) (f : Attr → Found)
    → ((a : Attr) → ending (c (record { target = t; attr = a })) (of_content m) ≡ ends_at m next (f a)) → ending (object_at t c) (of_content m) ≡ ends_at m next (go_attr NotThere f (attr_at m t))
ends_object m next t c f h = split (may_be_object t)
  where
    split : (b : Bool) → ending (if b then Ask (stat_rank t) (λ v. with_attr Absent (λ a. c (record { target = t; attr = a })) (attr_in v)) else Answer Absent) (of_content m)
        ≡ ends_at m next (go_attr NotThere f (if b then attr_in (at_key m (stat_rank t)) else None))
    split true = ends_attr m next Absent NotThere (λ a. c (record { target = t; attr = a })) f (attr_in (at_key m (stat_rank t))) refl h
    split false = refl

pub steps_end : (m : Content) (path : List (List ℕ)) (next : Place → Course) (p : Place) → ending (steps path next p) (of_content m) ≡ ends_at m next (found_from m path p)
steps_end m [] next p = refl
steps_end m (n ∷ path) next p =
    ends_if m next (is_dir p.here) _ (Answer Notdir) _ NotDirectory
    (ends_target m next
    (λ t. object_at t (λ o. steps path next (record { here = o; above = p.above ++ p.here ∷ [] })))
    (λ t. go_attr NotThere (λ a. found_from m path (down p t a)) (attr_at m t))
    (target_in n (at_key m (entry_rank p.here.target n)))
    (λ t. ends_object m next t (λ o. steps path next (record { here = o; above = p.above ++ p.here ∷ [] })) (λ a. found_from m path (down p t a)) (λ a. steps_end m path next (down p t a))))
    refl

-- so a command goes on from where the path leads
pub way_ends : (m : Content) (path : List (List ℕ)) (next : Place → Course) → ending (to_object path next) (of_content m) ≡ ends_at m next (found m path)
unfolding to_object
way_ends m path next = ends_attr m next Notdir NotDirectory (λ a. steps path next (start a)) (λ a. found_from m path (start a)) (attr_at m root_object) refl (λ a. steps_end m path next (start a))

-- ---- the walk

abbrev pub walked : Found → Walked
walked (There p) = At p.here.target p.here.attr
walked NotDirectory = NoDirectory
walked NotThere = NoEntry

pub small_object : (t : Target) → may_be_object t ≡ true → (t.locality < 2 ^ 60) × (t.oid.0 < 2 ^ 60)
small_object t e = let h = and_parts (nat_lt t.locality (2 ^ 60)) (nat_lt t.oid.0 (2 ^ 60)) e in (ltb-true _ _ h.0, ltb-true _ _ h.1)

-- attributes are those of stat data, of a target that may be an object
pub stat_there : (m : Content) (t : Target) (a : Attr) → attr_at m t ≡ Some a → (may_be_object t ≡ true) × (at_key m (stat_rank t) ≡ Some (Stat a))
stat_there m t a e = split (may_be_object t) e
  where
    stat_is : (v : Option Value) → attr_in v ≡ Some a → v ≡ Some (Stat a)
    stat_is None is = absurd cc
    stat_is (Some (Stat b)) is = ap (λ (x : Attr). Some (Stat x)) (same_Some b a is)
    stat_is (Some (Entry s o)) is = absurd cc
    stat_is (Some (Byte x)) is = absurd cc

    split : (b : Bool) → (if b then attr_in (at_key m (stat_rank t)) else None) ≡ Some a → (b ≡ true) × (at_key m (stat_rank t) ≡ Some (Stat a))
    split true is = (refl, stat_is (at_key m (stat_rank t)) is)
    split false is = absurd cc

walk_if : (b : Bool) (x y : Walked) (f g : Found) → x ≡ walked f → y ≡ walked g → (if b then x else y) ≡ walked (if b then f else g)
walk_if true x y f g e h = e
walk_if false x y f g e h = h

pub walk_found : (m : Content) (path : List (List ℕ)) (p : Place) → p.here.target.oid.0 < 2 ^ 60 → walk_from m path p.here.target (Some p.here.attr) ≡ walked (found_from m path p)
unfolding walk_from
walk_found m [] p small = refl
walk_found m (n ∷ path) p small =
    let dir = p.here.target in
    walk_if (is_directory p.here.attr) _ NoDirectory _ NotDirectory
    (ap (λ b. walk_on (λ t. walk_from m path t (attr_at m t)) (if b then target_in n (at_key m (entry_rank dir n)) else None)) (lt-ltb _ _ small)
    ∙ at_target (λ t a e. walk_found m path (down p t a) (small_object t (stat_there m t a e).0).1) (target_in n (at_key m (entry_rank dir n))))
    refl
  where
    at_attr : ((t : Target) (a : Attr) → attr_at m t ≡ Some a → walk_from m path t (Some a) ≡ walked (found_from m path (down p t a)))
        → (t : Target) (v : Option Attr) → attr_at m t ≡ v → walk_from m path t v ≡ walked (go_attr NotThere (λ a. found_from m path (down p t a)) v)
    at_attr rest t None e = none path
      where
        none : (names : List (List ℕ)) → walk_from m names t None ≡ NoEntry
        none [] = refl
        none (x ∷ xs) = refl
    at_attr rest t (Some a) e = rest t a e

    at_target : ((t : Target) (a : Attr) → attr_at m t ≡ Some a → walk_from m path t (Some a) ≡ walked (found_from m path (down p t a)))
        → (v : Option Target) → walk_on (λ t. walk_from m path t (attr_at m t)) v ≡ walked (go_target (λ t. go_attr NotThere (λ a. found_from m path (down p t a)) (attr_at m t)) v)
    at_target rest None = refl
    at_target rest (Some t) = at_attr rest t (attr_at m t) refl

pub walk_is : (m : Content) (path : List (List ℕ)) → walk m path ≡ (if is_path path then walked (found m path) else NoName)
walk_is m path = ap (λ x. if is_path path then x else NoName) (from_root (attr_at m root_object))
  where
    from_root : (v : Option Attr) → walk_root m path v ≡ walked (go_attr NotDirectory (λ a. found_from m path (start a)) v)
    from_root None = refl
    from_root (Some a) = walk_found m path (start a) (lit< tt)

-- the reply of `stat` tells where the walk ends
pub stat_walks : (limit : ℕ) (m : Content) (path : List (List ℕ)) → reply limit (StatCommand path) m ≡ walk_reply (walk m path)
stat_walks limit m path = by_names (is_path path) ∙ sym (ap walk_reply (walk_is m path))
  where
    at : (f : Found) → (ends_at m (λ p. Answer (AttrReply p.here.attr)) f).reply ≡ walk_reply (walked f)
    at (There p) = refl
    at NotDirectory = refl
    at NotThere = refl

    by_names : (b : Bool) → (ending (if b then to_object path (λ p. Answer (AttrReply p.here.attr)) else Answer NameReply) (of_content m)).reply ≡ walk_reply (if b then walked (found m path) else NoName)
    by_names true = ap (λ e. e.reply) (way_ends m path (λ p. Answer (AttrReply p.here.attr))) ∙ at (found m path)
    by_names false = refl

-- ---- each ending has its reply

pub at_found : (w : Walked) (a : Attr) → (walk_reply w ≡ AttrReply a) ↔ ((o : Target) × (w ≡ At o a))
at_found (At o b) a = ((λ e. (o, ap (λ x. At o x) (same_attr b a e))), (λ h. same h.0 h.1))
  where
    same_attr : (x y : Attr) → AttrReply x ≡ AttrReply y → x ≡ y
    same_attr x y e = cc

    same : (p : Target) → At o b ≡ At p a → AttrReply b ≡ AttrReply a
    same p e = cc
at_found NoName a = ((λ e. absurd cc), (λ (o, e). absurd cc))
at_found NoDirectory a = ((λ e. absurd cc), (λ (o, e). absurd cc))
at_found NoEntry a = ((λ e. absurd cc), (λ (o, e). absurd cc))

pub at_notdir : (w : Walked) → (walk_reply w ≡ Notdir) ↔ (w ≡ NoDirectory)
at_notdir (At o b) = ((λ e. absurd cc), (λ e. absurd cc))
at_notdir NoName = ((λ e. absurd cc), (λ e. absurd cc))
at_notdir NoDirectory = ((λ e. refl), (λ e. refl))
at_notdir NoEntry = ((λ e. absurd cc), (λ e. absurd cc))

pub at_absent : (w : Walked) → (walk_reply w ≡ Absent) ↔ (w ≡ NoEntry)
at_absent (At o b) = ((λ e. absurd cc), (λ e. absurd cc))
at_absent NoName = ((λ e. absurd cc), (λ e. absurd cc))
at_absent NoDirectory = ((λ e. absurd cc), (λ e. absurd cc))
at_absent NoEntry = ((λ e. refl), (λ e. refl))

pub at_name : (w : Walked) → (walk_reply w ≡ NameReply) ↔ (w ≡ NoName)
at_name (At o b) = ((λ e. absurd cc), (λ e. absurd cc))
at_name NoName = ((λ e. refl), (λ e. refl))
at_name NoDirectory = ((λ e. absurd cc), (λ e. absurd cc))
at_name NoEntry = ((λ e. absurd cc), (λ e. absurd cc))
