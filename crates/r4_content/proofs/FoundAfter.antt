-- What is found under the paths of a command after it.
use Rattle.std.specs.Prelude.{◌≡◌, ◌≢◌, ℕ, ◌+◌, ◌-◌, ◌*◌, ◌/◌, ◌%◌, ◌^◌, ◌<◌, List, [], ◌∷◌, Bool, true, false, ◌==◌, All, Option, Some, None, length, take, if◌then◌else◌}
use Rattle.std.proofs.Common.{arith, refl, sym, ap, subst, ◌∙◌}
use Rattle.std.proofs.lemmas.Bool.{eq-eqb}
use Rattle.std.proofs.lemmas.List.Elements.{All-head, All-take}
use Rattle.std.proofs.lemmas.Option.{same_Some}
use Rattle.r4_base.specs.Key.{key_of_rank}
use Rattle.r4_base.specs.Name.{dir_of_key}
use Rattle.r4_base.specs.Value.{Value, Stat, Entry, Content, at_key}
use Rattle.r4_base.specs.Volume.{HasObjects, HasStat, IsObject, is_directory, is_entry_in, stat_rank}
use Rattle.r4_base.specs.declared.items.Attr.{Attr}
use Rattle.r4_base.specs.declared.items.Target.{Target}
use Rattle.r4_content.specs.Course.{Answer, Change, Ending, ending, of_content}
use Rattle.r4_content.specs.Edited.{Edits, edited}
use Rattle.r4_content.specs.Entries.{linked, name_in, unname_in}
use Rattle.r4_content.specs.Fields.{HasBytes, HasNumbers}
use Rattle.r4_content.specs.Lawful.{IsLawful}
use Rattle.r4_content.specs.Meaning.{after, is_path, reply, set_attrs}
use Rattle.r4_content.specs.Objects.{Object, entry_less, entry_more, entry_rank, is_dir, is_same_target, link_more, set_attr}
use Rattle.r4_content.specs.Walk.{attr_at, target_in}
use Rattle.r4_content.specs.Ways.{Named, Place, entry_in, to_object}
use Rattle.r4_content.specs.declared.command.Command.TheVariants.{Chmod, Chown, Times, Link, Rmdir, Stat as StatCommand}
use Rattle.r4_content.specs.declared.reply.Reply.TheVariants.{Okay, Absent, Attr as AttrReply, Name as NameReply}
use Rattle.r4_content.proofs.Counting.{one_there}
use Rattle.r4_content.proofs.EditLaws.{edited_off}
use Rattle.r4_content.proofs.EditParts.{is_off, true_not_false}
use Rattle.r4_content.proofs.FileEdits.{attr_of, off_attr, other_stat, put_itself}
use Rattle.r4_content.proofs.Found.{Found, There, NotDirectory, NotThere, down, ends_at, found, found_from, go_attr, go_target, small_object, stat_there, way_ends}
use Rattle.r4_content.proofs.Gaining.{Gains, becomes, entries_same, entry_now, kept, kind}
use Rattle.r4_content.proofs.Losing.{Loses, dir_other, dir_now, off, stat_one, entry_now as entry_gone}
use Rattle.r4_content.proofs.Makers.{gains_link, link_done}
use Rattle.r4_content.proofs.Naming.{found_last}
use Rattle.r4_content.proofs.OneObject.{numbers_of, stat_was}
use Rattle.r4_content.proofs.Ranks.{entry_not_byte, entry_not_stat, same_itself, same_stat, stat_not_byte, told_same}
use Rattle.r4_content.proofs.Refound.{found_on}
use Rattle.r4_content.proofs.Rewired.{entry_same}
use Rattle.r4_content.proofs.SameWay.{IsThere, found_again, found_object, itself_in, place_in, place_with, step_is, steps_on, target_is}
use Rattle.r4_content.proofs.Shapes.{entry_dir}
use Rattle.r4_content.proofs.Takers.{rmdir_named}
use Rattle.r4_content.proofs.Unnaming.{absent_ends, less_kind, with_less}
use Rattle.r4_content.proofs.Writing.{goes_on, stat_ends}

-- ---- what `stat` is answered is found

pub stat_found : (limit : ℕ) (m : Content) (path : List (List ℕ)) (a : Attr) → reply limit (StatCommand path) m ≡ AttrReply a → (is_path path ≡ true) × ((p : Place) × (found m path ≡ There p) × (p.here.attr ≡ a))
stat_found limit m path a e = by_names (is_path path) refl e
  where
    same_reply : (b : Attr) → AttrReply b ≡ AttrReply a → b ≡ a
    same_reply b f = cc

    by_found : (f : Found) → found m path ≡ f → (ends_at m (λ p. Answer (AttrReply p.here.attr)) f).reply ≡ AttrReply a → (p : Place) × (found m path ≡ There p) × (p.here.attr ≡ a)
    by_found (There p) at f = (p, at, same_reply p.here.attr f)
    by_found NotDirectory at f = absurd cc
    by_found NotThere at f = absurd cc

    by_names : (b : Bool) → is_path path ≡ b → (ending (if b then to_object path (λ p. Answer (AttrReply p.here.attr)) else Answer NameReply) (of_content m)).reply ≡ AttrReply a
        → (is_path path ≡ true) × ((p : Place) × (found m path ≡ There p) × (p.here.attr ≡ a))
    by_names true is f = (is, by_found (found m path) refl (sym (ap (λ (x : Ending). x.reply) (way_ends m path (λ p. Answer (AttrReply p.here.attr)))) ∙ f))
    by_names false is f = absurd cc

same_place : (p q : Place) → There p ≡ There q → p ≡ q
same_place p q e = place_in p q e

-- ---- attributes

abbrev with_attr : Target → (Attr → Attr) → Target → Attr → Attr
with_attr t f u a = if is_same_target u t then f a else a

set_found : (m : Content) (path : List (List ℕ)) (p : Place) (f : Attr → Attr) → ((a : Attr) → is_directory (f a) ≡ is_directory a) → HasNumbers m → HasBytes path → found m path ≡ There p
    → found (edited (set_attr p.here (f p.here.attr)) m) path ≡ There (place_with (with_attr p.here.target f) p)
set_found m path p f kinds numbers bytes at =
    found_again m (edited e m) (with_attr o.target f) (λ t a. Unit {0}) (λ t a d. tt) kind_of numbers.orderings entries stats path p bytes at tt
  where
    o : Object
    o = p.here

    e : Edits
    e = set_attr p.here (f p.here.attr)

    there : IsThere m p.here
    there = found_object m numbers.orderings path p at

    kind_of : (t : Target) (a : Attr) → is_directory (with_attr p.here.target f t a) ≡ is_directory a
    kind_of t a = by_target (is_same_target t p.here.target)
      where
        by_target : (b : Bool) → is_directory (if b then f a else a) ≡ is_directory a
        by_target true = kinds a
        by_target false = refl

    entries : (d : Target) (name : List ℕ) (t : Target) (a : Attr) → d.oid.0 < 2 ^ 60 → All (λ x. x < 256) name → target_in name (at_key m (entry_rank d name)) ≡ Some t → attr_at m t ≡ Some a → Unit {0}
        → target_in name (at_key (edited (set_attr p.here (f p.here.attr)) m) (entry_rank d name)) ≡ Some t
    entries d name t a small name_bytes entry stat _ =
        ap (target_in name) (edited_off (set_attr p.here (f p.here.attr)) m (entry_rank d name) (is_off (set_attr p.here (f p.here.attr)) (entry_rank d name)
        (off_attr p.here (f p.here.attr) (entry_rank d name) (entry_not_stat d p.here.target name small name_bytes there.object)))) ∙ entry

    stats : (t : Target) (a : Attr) → IsObject t → attr_at m t ≡ Some a → Unit {0} → attr_at (edited (set_attr p.here (f p.here.attr)) m) t ≡ Some (with_attr p.here.target f t a)
    stats t a object stat _ = by_target (is_same_target t p.here.target) refl
      where
        by_target : (b : Bool) → is_same_target t p.here.target ≡ b → attr_at (edited (set_attr p.here (f p.here.attr)) m) t ≡ Some (if b then f a else a)
        by_target true same =
            let is = told_same t p.here.target same in
            let one : a ≡ p.here.attr = same_Some a p.here.attr (sym stat ∙ ap (attr_at m) is ∙ there.stat) in
            attr_of (edited (set_attr p.here (f p.here.attr)) m) t (f a) (stat_there m t a stat).0
            (ap (λ (u : Target). at_key (edited (set_attr p.here (f p.here.attr)) m) (stat_rank u)) is ∙ put_itself m (stat_rank p.here.target) (Stat (f p.here.attr)) ∙ ap (λ (b : Attr). Some (Stat (f b))) (sym one))
        by_target false other =
            let old = stat_there m t a stat in
            attr_of (edited (set_attr p.here (f p.here.attr)) m) t a old.0
            (edited_off (set_attr p.here (f p.here.attr)) m (stat_rank t) (is_off (set_attr p.here (f p.here.attr)) (stat_rank t) (off_attr p.here (f p.here.attr) (stat_rank t) (other_stat t p.here.target object there.object other))) ∙ old.1)

set_stat : (limit : ℕ) (m : Content) (path : List (List ℕ)) (a : Attr) (f : Attr → Attr) → ((b : Attr) → is_directory (f b) ≡ is_directory b) → HasNumbers m → HasBytes path → reply limit (StatCommand path) m ≡ AttrReply a
    → (e : Edits) → ((p : Place) → is_path path ≡ true → found m path ≡ There p → e ≡ set_attr p.here (f p.here.attr)) → reply limit (StatCommand path) (edited e m) ≡ AttrReply (f a)
set_stat limit m path a f kinds numbers bytes told e is_set =
    let (is, (p, at, attr)) = stat_found limit m path a told in
    let again = set_found m path p f kinds numbers bytes at in
    ap (λ (x : Edits). reply limit (StatCommand path) (edited x m)) (is_set p is at)
    ∙ stat_ends limit (edited (set_attr p.here (f p.here.attr)) m) path (place_with (with_attr p.here.target f) p) is again
    ∙ ap (λ (b : Bool). AttrReply (if b then f p.here.attr else p.here.attr)) (same_itself p.here.target) ∙ ap (λ (b : Attr). AttrReply (f b)) attr

attrs_stat : (limit : ℕ) (m : Content) (path : List (List ℕ)) (a : Attr) (f : Attr → Attr) → ((b : Attr) → is_directory (f b) ≡ is_directory b) → HasNumbers m → HasBytes path → reply limit (StatCommand path) m ≡ AttrReply a
    → reply limit (StatCommand path) (edited (ending (if is_path path then set_attrs path f else Answer NameReply) (of_content m)).edits m) ≡ AttrReply (f a)
attrs_stat limit m path a f kinds numbers bytes told =
    set_stat limit m path a f kinds numbers bytes told (ending (if is_path path then set_attrs path f else Answer NameReply) (of_content m)).edits
    (λ p is at. ap (λ (x : Ending). x.edits) (goes_on m path (λ q. Change (set_attr q.here (f q.here.attr))) p is at))

mode_kind : (mode bits : ℕ) → (mode / 4096 * 4096 + bits % 4096) / 4096 ≡ mode / 4096
mode_kind mode bits = omega arith

pub chmod_stat : (limit : ℕ) (path : List (List ℕ)) (mode : ℕ) (m : Content) (a : Attr) → HasNumbers m → HasBytes path → reply limit (StatCommand path) m ≡ AttrReply a
    → reply limit (StatCommand path) (after limit (Chmod path mode) m) ≡ AttrReply (record a { mode = a.mode / 4096 * 4096 + mode % 4096 })
chmod_stat limit path mode m a numbers bytes told = attrs_stat limit m path a (λ b. record b { mode = b.mode / 4096 * 4096 + mode % 4096 }) (λ b. ap (λ (x : ℕ). x == 4) (mode_kind b.mode mode)) numbers bytes told

pub chown_stat : (limit : ℕ) (path : List (List ℕ)) (uid gid : ℕ) (m : Content) (a : Attr) → HasNumbers m → HasBytes path → reply limit (StatCommand path) m ≡ AttrReply a
    → reply limit (StatCommand path) (after limit (Chown path uid gid) m) ≡ AttrReply (record a { uid = uid; gid = gid })
chown_stat limit path uid gid m a numbers bytes told = attrs_stat limit m path a (λ b. record b { uid = uid; gid = gid }) (λ b. refl) numbers bytes told

pub times_stat : (limit : ℕ) (path : List (List ℕ)) (atime mtime ctime : ℕ) (m : Content) (a : Attr) → HasNumbers m → HasBytes path → reply limit (StatCommand path) m ≡ AttrReply a
    → reply limit (StatCommand path) (after limit (Times path atime mtime ctime) m) ≡ AttrReply (record a { atime = atime; mtime = mtime; ctime = ctime })
times_stat limit path atime mtime ctime m a numbers bytes told = attrs_stat limit m path a (λ b. record b { atime = atime; mtime = mtime; ctime = ctime }) (λ b. refl) numbers bytes told

-- ---- a content that leaves entries and objects, as far as they go on

pub record Leaves (m n : Content) (g : Target → Attr → Attr) (Goes : Target → Attr → Type 0) : Type 0 where
  pub kind_too : (t : Target) (a : Attr) → HasStat m t a → is_directory (g t a) ≡ is_directory a
  pub entry : (d : Target) (s : List ℕ) (t : Target) (a : Attr) → d.oid.0 < 2 ^ 60 → All (λ x. x < 256) s → at_key m (entry_rank d s) ≡ Some (Entry s t) → HasStat m t a → Goes t a → at_key n (entry_rank d s) ≡ Some (Entry s t)
  pub stat : (t : Target) (a : Attr) → HasStat m t a → Goes t a → at_key n (stat_rank t) ≡ Some (Stat (g t a))

pub left_found : (m n : Content) (g : Target → Attr → Attr) (Goes : Target → Attr → Type 0) → HasNumbers m → Leaves m n g Goes → (p : Place)
    → ((path : List (List ℕ)) (q : Place) → HasBytes path → IsThere m q.here → found_from m path q ≡ There p → Goes q.here.target q.here.attr)
    → (path : List (List ℕ)) → HasBytes path → found m path ≡ There p → found n path ≡ There (place_with g p)
left_found m n g Goes numbers h p on path bytes at =
    found_on m n g Goes p
    (λ t a object stat. h.kind_too t a (object, (stat_there m t a stat).1)) numbers.orderings
    (λ d s t a small name_bytes entry stat goes.
    let there = target_is s (at_key m (entry_rank d s)) t entry in
    let object = object_of_entry (entry_rank d s) s t a there stat in
    ap (target_in s) (h.entry d s t a small name_bytes there (object, (stat_there m t a stat).1) goes) ∙ itself_in s t)
    (λ t a object stat goes. attr_of n t (g t a) (stat_there m t a stat).0 (h.stat t a (object, (stat_there m t a stat).1) goes))
    (λ rest q rest_bytes object small stat e. on rest q rest_bytes (record { object = object; stat = stat }) e)
    path bytes at
  where
    object_of_entry : (k : ℕ) (s : List ℕ) (t : Target) (a : Attr) → at_key m k ≡ Some (Entry s t) → attr_at m t ≡ Some a → IsObject t
    object_of_entry k s t a at stat = let may = small_object t (stat_there m t a stat).0 in (may.0, numbers.orderings k s t at, omega (arith, may))

pub named_none : (x : Named) → Some x ≡ None → ⊥
named_none x e = cc

-- ---- link

link_leaves : (m : Content) (dir o : Object) (n : List ℕ) (lawful : HasObjects m) (gains : Gains m dir o n) → Leaves m (edited (name_in dir n o) m) (becomes m dir o n lawful gains) (λ t a. Unit {0})
link_leaves m dir o n lawful gains = record {
  kind_too = λ t a stat. kind m dir o n lawful gains t a stat;
  entry = λ d s t a small bytes at stat goes. entry_same (at_key m (entry_rank d s)) (at_key (edited (name_in dir n o) m) (entry_rank d s)) s t
      (entries_same m dir o n lawful gains (entry_rank d s) (λ e. not_free t s d e at) (entry_not_stat d dir.target s small bytes gains.dir_stat.0)) at;
  stat = λ t a stat goes. (kept m dir o n lawful gains t a stat).1;
}
  where
    not_free : (t : Target) (s : List ℕ) (d : Target) → entry_rank d s ≡ entry_rank dir.target n → at_key m (entry_rank d s) ≡ Some (Entry s t) → ⊥
    not_free t s d e at = named_none (record { name = s; target = t }) (sym (ap entry_in at) ∙ ap (λ (k : ℕ). entry_in (at_key m k)) e ∙ gains.free)

pub link_stat : (limit : ℕ) (from to : List (List ℕ)) (m : Content) (a : Attr) → limit < 2 ^ 64 → IsLawful limit m → HasBytes from → HasBytes to → reply limit (StatCommand from) m ≡ AttrReply a → reply limit (Link from to) m ≡ Okay
    → (reply limit (StatCommand to) (after limit (Link from to) m) ≡ AttrReply (link_more a)) × (reply limit (StatCommand from) (after limit (Link from to) m) ≡ AttrReply (link_more a))
link_stat limit from to m a lt lawful from_bytes to_bytes told okay =
    let numbers = numbers_of limit m lt lawful in
    let d = link_done m from to numbers to_bytes okay in
    let (is, (p, at, attr)) = stat_found limit m from a told in
    let same = same_place p d.place (sym at ∙ d.from_at) in
    let o_attr : d.object.attr ≡ a = ap (λ (x : Object). x.attr) (sym d.from_is) ∙ ap (λ (x : Place). x.here.attr) (sym same) ∙ attr in
    let gains = gains_link limit m d.dir d.object d.name lawful d.dir_there d.dir_is d.bytes d.free d.there d.file d.few in
    let n = edited (name_in d.dir d.name (linked d.object)) m in
    let g = becomes m d.dir (linked d.object) d.name lawful.objects gains in
    let leaves = link_leaves m d.dir (linked d.object) d.name lawful.objects gains in
    let from_now = left_found m n g (λ t b. Unit {0}) numbers leaves d.place (λ path q b t e. tt) from from_bytes d.from_at in
    let above_now = left_found m n g (λ t b. Unit {0}) numbers leaves d.above (λ path q b t e. tt) (take (length to - 1) to) (All-take (λ s. All (λ x. x < 256) s) (length to - 1) to to_bytes) d.to_at in
    let new_attr = (kept m d.dir (linked d.object) d.name lawful.objects gains d.object.target d.object.attr (stat_was m d.object d.there)) in
    let becomes_is : g d.object.target d.object.attr ≡ link_more d.object.attr = linked_is d.dir d.object d.name gains (is_same_target d.object.target d.dir.target) refl d.file d.dir_is (stat_was m d.object d.there) in
    let may = (stat_there m d.object.target d.object.attr d.there.stat).0 in
    let stat_now : attr_at n d.object.target ≡ Some (link_more d.object.attr) = attr_of n d.object.target (link_more d.object.attr) may (new_attr.1 ∙ ap (λ (x : Attr). Some (Stat x)) becomes_is) in
    let r = place_with g d.above in
    let here_dir : r.here.target ≡ d.dir.target = ap (λ (x : Object). x.target) d.to_is in
    let r_dir : is_dir r.here ≡ true = kind m d.dir (linked d.object) d.name lawful.objects gains d.above.here.target d.above.here.attr (subst (λ (x : Object). HasStat m x.target x.attr) (sym d.to_is) (stat_was m d.dir d.dir_there)) ∙ ap is_dir d.to_is ∙ d.dir_is in
    let entry : at_key n (entry_rank r.here.target d.name) ≡ Some (Entry d.name d.object.target) = ap (λ (t : Target). at_key n (entry_rank t d.name)) here_dir ∙ entry_now m d.dir (linked d.object) d.name lawful.objects gains in
    let to_now = found_last n to r d.to_some above_now ∙ ap (λ (s : List ℕ). found_from n (s ∷ []) r) d.to_last
    ∙ steps_on n d.name [] r d.object.target (link_more d.object.attr) r_dir (ap (target_in d.name) entry ∙ itself_in d.name d.object.target) stat_now in
    let ends = ap (λ (x : Ending). edited x.edits m) d.ends in (
      ap (reply limit (StatCommand to)) ends ∙ stat_ends limit n to (down r d.object.target (link_more d.object.attr)) d.to_legal to_now ∙ ap (λ (b : Attr). AttrReply (link_more b)) o_attr,
      ap (reply limit (StatCommand from)) ends ∙ stat_ends limit n from (place_with g d.place) d.from_legal from_now
          ∙ ap (λ (x : Object). AttrReply (g x.target x.attr)) d.from_is ∙ ap (λ (b : Attr). AttrReply b) becomes_is ∙ ap (λ (b : Attr). AttrReply (link_more b)) o_attr,
    )
  where
    linked_is : (dir o : Object) (name : List ℕ) (gains : Gains m dir (linked o) name) (b : Bool) → is_same_target o.target dir.target ≡ b → is_dir o ≡ false → is_dir dir ≡ true → HasStat m o.target o.attr
        → becomes m dir (linked o) name lawful.objects gains o.target o.attr ≡ link_more o.attr
    linked_is dir o name gains true e file is stat =
        let same = told_same o.target dir.target e in
        absurd (true_not_false (sym is ∙ ap is_directory (stat_one m lawful.objects dir.target o.target dir.attr o.attr gains.dir_stat stat (sym same)) ∙ file))
    linked_is dir o name gains false e file is stat =
        ap (λ (b : Bool). if b then entry_more (is_dir (linked o)) o.attr else if is_same_target o.target o.target then link_more o.attr else o.attr) e ∙ ap (λ (b : Bool). if b then link_more o.attr else o.attr) (same_itself o.target)

-- ---- rmdir

lost_leaves : (limit : ℕ) (m : Content) (dir o : Object) (n : List ℕ) → IsLawful limit m → Loses m dir o n → Leaves m (edited (unname_in dir n o) m) (with_less dir.target (is_dir o)) (λ t a. t ≢ o.target)
lost_leaves limit m dir o n lawful h = record {
  kind_too = λ t a stat. less_kind dir.target (is_dir o) t a;
  entry = λ d s t a small bytes at stat goes.
      off limit m dir o n lawful.objects lawful.bodies h (entry_rank d s) (λ e. goes (other_entry s t (sym (ap (at_key m) e) ∙ at))) (entry_not_stat d dir.target s small bytes h.dir_stat.0)
      (record { stat = entry_not_stat d o.target s small bytes h.stat.0; bytes = λ x lt. entry_not_byte d o.target s x small bytes h.stat.0 lt }) ∙ at;
  stat = λ t a stat goes. by_target t a stat goes (is_same_target t dir.target) refl;
}
  where
    other_entry : (s : List ℕ) (t : Target) → at_key m (entry_rank dir.target n) ≡ Some (Entry s t) → t ≡ o.target
    other_entry s t at = entry_target (sym at ∙ h.entry)
      where
        entry_target : Some (Entry s t) ≡ Some (Entry n o.target) → t ≡ o.target
        entry_target e = cc

    by_target : (t : Target) (a : Attr) → HasStat m t a → t ≢ o.target → (b : Bool) → is_same_target t dir.target ≡ b → at_key (edited (unname_in dir n o) m) (stat_rank t) ≡ Some (Stat (if b then entry_less (is_dir o) a else a))
    by_target t a stat goes true e =
        let is = told_same t dir.target e in
        ap (λ (u : Target). at_key (edited (unname_in dir n o) m) (stat_rank u)) is ∙ dir_now limit m dir o n lawful.objects lawful.bodies h
        ∙ ap (λ (x : Attr). Some (Stat (entry_less (is_dir o) x))) (stat_one m lawful.objects dir.target t dir.attr a h.dir_stat stat (sym is))
    by_target t a stat goes false e =
        off limit m dir o n lawful.objects lawful.bodies h (stat_rank t) (λ s. entry_not_stat dir.target t n h.small h.bytes stat.0 (sym s)) (other_stat t dir.target stat.0 h.dir_stat.0 e)
        (record { stat = λ s. goes (same_stat t o.target stat.0 h.stat.0 s); bytes = λ x lt. stat_not_byte t o.target x stat.0 h.stat.0 lt }) ∙ stat.1

-- no step goes on from an empty directory
pub no_step : (m : Content) (o q p : Place) (n : List ℕ) (path : List (List ℕ)) → HasBytes (n ∷ path) → IsThere m q.here → found_from m (n ∷ path) q ≡ There p → (t : Target) → q.here.target ≡ t
    → ((k : ℕ) (s : List ℕ) (u : Target) → at_key m k ≡ Some (Entry s u) → is_entry_in t.oid.0 (k, Entry s u) ≡ true → ⊥) → ⊥
no_step m o q p n path bytes there e t same none =
    let s = step_is m n path q p e in
    let k = entry_rank q.here.target n in
    let at = target_is n (at_key m k) s.target s.entry in
    let small = (small_object q.here.target (stat_there m q.here.target q.here.attr there.stat).0).1 in
    let in_q = (entry_dir q.here.target n small (All-head (λ x. All (λ y. y < 256) x) n path bytes)).0 ∙ ap (λ (u : Target). u.oid.0) same in
    none k n s.target at (eq-eqb (dir_of_key (key_of_rank k)) t.oid.0 in_q)

pub rmdir_stat : (limit : ℕ) (path : List (List ℕ)) (m : Content) → limit < 2 ^ 64 → IsLawful limit m → HasBytes path → reply limit (Rmdir path) m ≡ Okay → reply limit (StatCommand path) (after limit (Rmdir path) m) ≡ Absent
rmdir_stat limit path m lt lawful bytes okay =
    let numbers = numbers_of limit m lt lawful in
    let (c, loses, dir_o, ends) = rmdir_named limit path m lt lawful bytes okay in
    let dir = c.above.here in
    let o = c.place.here in
    let n = edited (unname_in dir c.name o) m in
    let g = with_less dir.target (is_dir o) in
    let leaves = lost_leaves limit m dir o c.name lawful loses in
    let above_now = left_found m n g (λ t b. t ≢ o.target) numbers leaves c.above (λ rest q rest_bytes there e same. on_way c.above o c.name loses dir_o rest q rest_bytes there e same) (take (length path - 1) path)
    (All-take (λ s. All (λ x. x < 256) s) (length path - 1) path bytes) c.at in
    let r = place_with g c.above in
    let is : is_dir r.here ≡ true = less_kind dir.target (is_dir o) dir.target dir.attr ∙ c.above_is in
    let gone = found_last n path r c.some above_now ∙ ap (λ (s : List ℕ). found_from n (s ∷ []) r) c.last
    ∙ ap (λ (b : Bool). if b then go_target (λ t. go_attr NotThere (λ a. found_from n [] (down r t a)) (attr_at n t)) (target_in c.name (at_key n (entry_rank dir.target c.name))) else NotDirectory) is
    ∙ ap (λ (v : Option Value). go_target (λ t. go_attr NotThere (λ a. found_from n [] (down r t a)) (attr_at n t)) (target_in c.name v)) (entry_gone limit m dir o c.name lawful.objects lawful.bodies loses) in
    ap (λ (x : Ending). reply limit (StatCommand path) (edited x.edits m)) ends ∙ absent_ends limit n path c.legal gone
  where
    on_way : (above : Place) (o : Object) (name : List ℕ) → Loses m above.here o name → is_dir o ≡ true → (rest : List (List ℕ)) (q : Place) → HasBytes rest → IsThere m q.here → found_from m rest q ≡ There above → q.here.target ≡ o.target → ⊥
    on_way above o name h d [] q rest_bytes there e same = dir_other limit m above.here o name lawful.objects lawful.bodies h (ap (λ (x : Place). x.here.target) (sym (place_in q above e)) ∙ same)
    on_way above o name h d (s ∷ rest) q rest_bytes there e same = no_step m q q above s rest rest_bytes there e o.target same (λ k u t at in_o.
        let none = h.empty d in
        let some = one_there (is_entry_in o.target.oid.0) m k (Entry u t) at in_o in
        absurd (omega (arith, none, some)))
