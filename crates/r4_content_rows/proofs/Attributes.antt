-- What is found after commands, under no more conditions than it needs.
use Rattle.std.specs.Prelude.{◌≡◌, ◌≢◌, ℕ, ◌+◌, ◌*◌, ◌/◌, ◌%◌, List, Bool, true, false, ◌==◌, Some, if◌then◌else◌}
use Rattle.std.proofs.Common.{arith, refl, sym, ap, ◌∙◌}
use Rattle.std.proofs.lemmas.Bool.{eq-eqb, eqb-true}
use Rattle.r4_base.specs.Value.{Content, Stat, at_key}
use Rattle.r4_base.specs.Volume.{is_directory, stat_rank}
use Rattle.r4_base.specs.declared.items.Attr.{Attr}
use Rattle.r4_base.specs.declared.items.Target.{Target}
use Rattle.r4_content.specs.Course.{Answer, Change, Ending, ending, of_content}
use Rattle.r4_content.specs.Edited.{Edits, edited}
use Rattle.r4_content.specs.Meaning.{after, is_path, reply, set_attrs}
use Rattle.r4_content.specs.Objects.{Object, entry_rank, set_attr}
use Rattle.r4_content.specs.Ways.{Place}
use Rattle.r4_content.specs.declared.command.Command.TheVariants.{Chmod, Chown, Times, Stat as StatCommand}
use Rattle.r4_content.specs.declared.reply.Reply.TheVariants.{Attr as AttrReply, Name as NameReply}
use Rattle.r4_content.proofs.Counting.{not_same}
use Rattle.r4_content.proofs.EditLaws.{edited_off}
use Rattle.r4_content.proofs.EditParts.{is_off}
use Rattle.r4_content.proofs.FileEdits.{off_attr, put_itself}
use Rattle.r4_content.proofs.Found.{There, found, stat_there}
use Rattle.r4_content.proofs.FoundAfter.{stat_found}
use Rattle.r4_content.proofs.Gaining.{stat_same}
use Rattle.r4_content.proofs.SameWay.{place_with}
use Rattle.r4_content.proofs.Writing.{goes_on, stat_ends}
use Rattle.r4_content_rows.proofs.Again.{apart, attr_found, way_again}

-- ---- attributes

pub attr_left : (m : Content) (o : Object) (b : Attr) (k : ℕ) → k ≢ stat_rank o.target
    → at_key (edited (set_attr o b) m) k ≡ at_key m k
attr_left m o b k ne = edited_off (set_attr o b) m k (is_off (set_attr o b) k (off_attr o b k ne))

module _ (m : Content) (o : Object) (f : Attr → Attr) (kinds : (a : Attr) → is_directory (f a) ≡ is_directory a)
    (was : at_key m (stat_rank o.target) ≡ Some (Stat o.attr)) where
  abbrev set : Content
  set = edited (set_attr o (f o.attr)) m

  abbrev with_attr : Target → Attr → Attr
  with_attr t a = if stat_rank t == stat_rank o.target then f a else a

  kind_of : (t : Target) (a : Attr) → is_directory (with_attr t a) ≡ is_directory a
  kind_of t a = by_key (stat_rank t == stat_rank o.target)
    where
      by_key : (b : Bool) → is_directory (if b then f a else a) ≡ is_directory a
      by_key true = kinds a
      by_key false = refl

  left : (k : ℕ) → k ≢ stat_rank o.target → at_key set k ≡ at_key m k
  left k ne = attr_left m o (f o.attr) k ne

  stat_now : (t : Target) (a : Attr) → at_key m (stat_rank t) ≡ Some (Stat a)
      → at_key set (stat_rank t) ≡ Some (Stat (with_attr t a))
  stat_now t a at = by_key (stat_rank t == stat_rank o.target) refl
    where
      by_key : (b : Bool) → (stat_rank t == stat_rank o.target) ≡ b
          → at_key set (stat_rank t) ≡ Some (Stat (if b then f a else a))
      by_key true e =
          let same = eqb-true (stat_rank t) (stat_rank o.target) e in
          let one = stat_same o.attr a (sym was ∙ ap (at_key m) (sym same) ∙ at) in
          ap (at_key set) same ∙ put_itself m (stat_rank o.target) (Stat (f o.attr))
          ∙ ap (λ (b : Attr). Some (Stat (f b))) one
      by_key false e = left (stat_rank t) (not_same (stat_rank t) (stat_rank o.target) e) ∙ at

  set_found : (path : List (List ℕ)) (p : Place) → found m path ≡ There p
      → found set path ≡ There (place_with with_attr p)
  set_found path p e =
      way_again m set with_attr p (λ xs q. Unit {0}) (λ t a at. kind_of t a) (λ s xs q t a h d g i. tt)
      (λ s xs q t a h d g i at. left (entry_rank q.here.target s)
      (apart m (entry_rank q.here.target s) (stat_rank o.target) o.attr s t at was) ∙ at)
      (λ xs q h g i at. stat_now q.here.target q.here.attr at) path (λ a i. tt) e

  itself : with_attr o.target o.attr ≡ f o.attr
  itself = ap (λ (b : Bool). if b then f o.attr else o.attr) (eq-eqb (stat_rank o.target) (stat_rank o.target) refl)

attrs_found : (limit : ℕ) (m : Content) (path : List (List ℕ)) (a : Attr) (f : Attr → Attr)
    → ((b : Attr) → is_directory (f b) ≡ is_directory b) → reply limit (StatCommand path) m ≡ AttrReply a
    → reply limit (StatCommand path)
    (edited (ending (if is_path path then set_attrs path f else Answer NameReply) (of_content m)).edits m)
    ≡ AttrReply (f a)
attrs_found limit m path a f kinds told =
    let (is, (p, at, attr)) = stat_found limit m path a told in
    let o = p.here in
    let was = (stat_there m o.target o.attr (attr_found m path p at)).1 in
    let done = ap (λ (x : Ending). x.edits) (goes_on m path (λ q. Change (set_attr q.here (f q.here.attr))) p is at) in
    ap (λ (x : Edits). reply limit (StatCommand path) (edited x m)) done
    ∙ stat_ends limit (edited (set_attr o (f o.attr)) m) path (place_with (with_attr m o f kinds was) p) is
    (set_found m o f kinds was path p at)
    ∙ ap (λ (b : Attr). AttrReply b) (itself m o f kinds was) ∙ ap (λ (b : Attr). AttrReply (f b)) attr

mode_kind : (mode bits : ℕ) → (mode / 4096 * 4096 + bits % 4096) / 4096 ≡ mode / 4096
mode_kind mode bits = omega arith

pub chmod_found : (limit : ℕ) (path : List (List ℕ)) (mode : ℕ) (m : Content) (a : Attr)
    → reply limit (StatCommand path) m ≡ AttrReply a
    → reply limit (StatCommand path) (after limit (Chmod path mode) m) ≡ AttrReply
    (record a { mode = a.mode / 4096 * 4096 + mode % 4096 })
chmod_found limit path mode m a told = attrs_found limit m path a
    (λ b. record b { mode = b.mode / 4096 * 4096 + mode % 4096 })
    (λ b. ap (λ (x : ℕ). x == 4) (mode_kind b.mode mode)) told

pub chown_found : (limit : ℕ) (path : List (List ℕ)) (uid gid : ℕ) (m : Content) (a : Attr)
    → reply limit (StatCommand path) m ≡ AttrReply a
    → reply limit (StatCommand path) (after limit (Chown path uid gid) m) ≡ AttrReply
    (record a { uid = uid; gid = gid })
chown_found limit path uid gid m a told = attrs_found limit m path a (λ b. record b { uid = uid; gid = gid })
    (λ b. refl) told

pub times_found : (limit : ℕ) (path : List (List ℕ)) (atime mtime ctime : ℕ) (m : Content) (a : Attr)
    → reply limit (StatCommand path) m ≡ AttrReply a
    → reply limit (StatCommand path) (after limit (Times path atime mtime ctime) m) ≡ AttrReply
    (record a { atime = atime; mtime = mtime; ctime = ctime })
times_found limit path atime mtime ctime m a told = attrs_found limit m path a
    (λ b. record b { atime = atime; mtime = mtime; ctime = ctime }) (λ b. refl) told
