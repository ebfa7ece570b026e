-- A file that got a further name is found under both, wherever numbers are of their fields' widths.
use Rattle.std.specs.Prelude.{◌≡◌, ◌≢◌, ℕ, ◌-◌, ◌^◌, ◌<◌, List, [], ◌∷◌, Bool, true, false, ◌==◌, All, Some, None}
use Rattle.std.specs.Prelude.{length, take, if◌then◌else◌}
use Rattle.std.proofs.Common.{refl, sym, ap, ◌∙◌}
use Rattle.std.proofs.lemmas.Bool.{eq-eqb, eqb-true, ne_eqb}
use Rattle.r4_base.specs.Value.{Content, Entry, Stat, at_key}
use Rattle.r4_base.specs.Volume.{IsObject, is_directory, stat_rank}
use Rattle.r4_base.specs.declared.items.Attr.{Attr}
use Rattle.r4_base.specs.declared.items.Target.{Target}
use Rattle.r4_content.specs.Course.{Ending}
use Rattle.r4_content.specs.Edited.{edited}
use Rattle.r4_content.specs.Entries.{linked, name_in}
use Rattle.r4_content.specs.Fields.{HasBytes, HasNumbers}
use Rattle.r4_content.specs.Meaning.{after, reply}
use Rattle.r4_content.specs.Objects.{Object, entry_more, entry_rank, is_dir, link_more}
use Rattle.r4_content.specs.Walk.{attr_at, target_in}
use Rattle.r4_content.specs.Ways.{Place, entry_in}
use Rattle.r4_content.specs.declared.command.Command.TheVariants.{Link, Stat as StatCommand}
use Rattle.r4_content.specs.declared.reply.Reply.TheVariants.{Okay, Attr as AttrReply}
use Rattle.r4_content.proofs.Counting.{not_same}
use Rattle.r4_content.proofs.EditParts.{true_not_false}
use Rattle.r4_content.proofs.FileEdits.{attr_of}
use Rattle.r4_content.proofs.Found.{There, down, found, found_from, small_object, stat_there}
use Rattle.r4_content.proofs.FoundAfter.{stat_found}
use Rattle.r4_content.proofs.Gaining.{gain_dir, gain_entry, gain_object, gain_off, more_kind, stat_same}
use Rattle.r4_content.proofs.Makers.{link_done}
use Rattle.r4_content.proofs.Naming.{found_last}
use Rattle.r4_content.proofs.Ranks.{entry_not_stat, root_is_object}
use Rattle.r4_content.proofs.SameWay.{IsThere, itself_in, named_there, place_in, place_with, steps_on}
use Rattle.r4_content.proofs.Writing.{stat_ends}
use Rattle.r4_content_rows.proofs.Again.{apart, way_again}

-- a file o gets the name s in a directory
module _ (m : Content) (numbers : HasNumbers m) (dir o : Object) (s : List ℕ) (dir_there : IsThere m dir)
    (there : IsThere m o) (dir_is : is_dir dir ≡ true) (file : is_dir o ≡ false) (small : dir.target.oid.0 < 2 ^ 60)
    (bytes : All (λ x. x < 256) s)
    (free : entry_in (at_key m (entry_rank dir.target s)) ≡ None) where
  abbrev new : Content
  new = edited (name_in dir s (linked o)) m

  abbrev key : ℕ
  key = entry_rank dir.target s

  dir_was : at_key m (stat_rank dir.target) ≡ Some (Stat dir.attr)
  dir_was = (stat_there m dir.target dir.attr dir_there.stat).1

  was : at_key m (stat_rank o.target) ≡ Some (Stat o.attr)
  was = (stat_there m o.target o.attr there.stat).1

  unlike : stat_rank dir.target ≢ stat_rank o.target
  unlike e =
      let one = stat_same dir.attr o.attr (sym dir_was ∙ ap (at_key m) e ∙ was) in
      true_not_false (sym dir_is ∙ ap is_directory one ∙ file)

  off : (k : ℕ) → k ≢ key → k ≢ stat_rank o.target → k ≢ stat_rank dir.target → at_key new k ≡ at_key m k
  off = gain_off m dir (linked o) s dir_there.object there.object small bytes unlike

  abbrev becomes : Target → Attr → Attr
  becomes t a = if stat_rank t == stat_rank dir.target then entry_more
      (is_dir (linked o)) a else if stat_rank t == stat_rank o.target then link_more a else a

  kind_of : (t : Target) (a : Attr) → is_directory (becomes t a) ≡ is_directory a
  kind_of t a = by_key (stat_rank t == stat_rank dir.target) (stat_rank t == stat_rank o.target)
    where
      by_key : (b c : Bool) → is_directory
          (if b then entry_more (is_dir (linked o)) a else if c then link_more a else a) ≡ is_directory a
      by_key true c = more_kind (is_dir (linked o)) a
      by_key false true = refl
      by_key false false = refl

  stat_now : (t : Target) (a : Attr) → IsObject t → at_key m (stat_rank t) ≡ Some (Stat a)
      → at_key new (stat_rank t) ≡ Some (Stat (becomes t a))
  stat_now t a object at = by_key (stat_rank t == stat_rank dir.target) (stat_rank t == stat_rank o.target) refl refl
    where
      by_key : (b c : Bool) → (stat_rank t == stat_rank dir.target) ≡ b → (stat_rank t == stat_rank o.target) ≡ c
          → at_key new (stat_rank t) ≡ Some
          (Stat (if b then entry_more (is_dir (linked o)) a else if c then link_more a else a))
      by_key true c e f =
          let same = eqb-true (stat_rank t) (stat_rank dir.target) e in
          let one = stat_same dir.attr a (sym dir_was ∙ ap (at_key m) (sym same) ∙ at) in
          ap (at_key new) same ∙ gain_dir m dir (linked o) s dir_there.object there.object small bytes unlike
          ∙ ap (λ (x : Attr). Some (Stat (entry_more (is_dir (linked o)) x))) one
      by_key false true e f =
          let same = eqb-true (stat_rank t) (stat_rank o.target) f in
          let one = stat_same o.attr a (sym was ∙ ap (at_key m) (sym same) ∙ at) in
          ap (at_key new) same ∙ gain_object m dir (linked o) s dir_there.object there.object small bytes unlike
          ∙ ap (λ (x : Attr). Some (Stat (link_more x))) one
      by_key false false e f =
          off (stat_rank t) (λ is. entry_not_stat dir.target t s small bytes object (sym is))
          (not_same (stat_rank t) (stat_rank o.target) f) (not_same (stat_rank t) (stat_rank dir.target) e) ∙ at

  still_found : (path : List (List ℕ)) (p : Place) → found m path ≡ There p
      → found new path ≡ There (place_with becomes p)
  still_found path p e =
      way_again m new becomes p (λ xs q. IsObject q.here.target) (λ t a at. kind_of t a)
      (λ n xs q t a h d entry stat. (named_there m numbers.orderings
      (entry_rank q.here.target n) n t a entry stat).object)
      (λ n xs q t a h d g i at. off (entry_rank q.here.target n) (λ is. taken n t (entry_rank q.here.target n) is at)
      (apart m (entry_rank q.here.target n) (stat_rank o.target) o.attr n t at was)
      (apart m (entry_rank q.here.target n) (stat_rank dir.target) dir.attr n t at dir_was) ∙ at)
      (λ xs q h g i at. stat_now q.here.target q.here.attr h at) path (λ a i. root_is_object) e
    where
      taken : (n : List ℕ) (t : Target) (k : ℕ) → k ≡ key → at_key m k ≡ Some (Entry n t) → ⊥
      taken n t k is at = no_value (sym (ap entry_in at) ∙ ap (λ (j : ℕ). entry_in (at_key m j)) is ∙ free)
        where
          no_value : entry_in (Some (Entry n t)) ≡ None → ⊥
          no_value e = cc

  itself : becomes o.target o.attr ≡ link_more o.attr
  itself =
      ap (λ (b : Bool). if b then entry_more (is_dir (linked o)) o.attr else if stat_rank o.target == stat_rank
      o.target then link_more o.attr else o.attr)
      (ne_eqb (stat_rank o.target) (stat_rank dir.target) (λ e. unlike (sym e)))
      ∙ ap (λ (b : Bool). if b then link_more o.attr else o.attr)
      (eq-eqb (stat_rank o.target) (stat_rank o.target) refl)

  object_now : attr_at new o.target ≡ Some (link_more o.attr)
  object_now = attr_of new o.target (link_more o.attr) (stat_there m o.target o.attr there.stat).0
      (gain_object m dir (linked o) s dir_there.object there.object small bytes unlike)

  entry_now : target_in s (at_key new key) ≡ Some o.target
  entry_now = ap (target_in s) (gain_entry m dir (linked o) s dir_there.object there.object small bytes unlike)
      ∙ itself_in s o.target

pub link_found : (limit : ℕ) (from to : List (List ℕ)) (m : Content) (a : Attr) → HasNumbers m → HasBytes to
    → reply limit (StatCommand from) m ≡ AttrReply a → reply limit (Link from to) m ≡ Okay
    → (reply limit (StatCommand to) (after limit (Link from to) m) ≡ AttrReply (link_more a))
    × (reply limit (StatCommand from) (after limit (Link from to) m) ≡ AttrReply (link_more a))
link_found limit from to m a numbers to_bytes told okay =
    let d = link_done m from to numbers to_bytes okay in
    let o = d.object in
    let dir = d.dir in
    let (is, (p, at, attr)) = stat_found limit m from a told in
    let same = place_in p d.place (sym at ∙ d.from_at) in
    let o_attr : d.object.attr ≡ a = ap (λ (x : Object). x.attr) (sym d.from_is)
    ∙ ap (λ (x : Place). x.here.attr) (sym same) ∙ attr in
    let small = (small_object dir.target (stat_there m dir.target dir.attr d.dir_there.stat).0).1 in
    let n = new m numbers dir o d.name d.dir_there d.there d.dir_is d.file small d.bytes d.free in
    let g = becomes m numbers dir o d.name d.dir_there d.there d.dir_is d.file small d.bytes d.free in
    let from_now = still_found m numbers dir o d.name d.dir_there d.there d.dir_is d.file small d.bytes d.free from
    d.place d.from_at in
    let above_now = still_found m numbers dir o d.name d.dir_there d.there d.dir_is d.file small d.bytes d.free
    (take (length to - 1) to) d.above d.to_at in
    let r = place_with g d.above in
    let r_dir : is_dir r.here ≡ true = kind_of m numbers dir o d.name d.dir_there d.there d.dir_is d.file small
    d.bytes d.free d.above.here.target d.above.here.attr ∙ ap is_dir d.to_is ∙ d.dir_is in
    let entry : target_in d.name (at_key n (entry_rank r.here.target d.name)) ≡ Some d.object.target = ap
    (λ (x : Object). target_in d.name (at_key n (entry_rank x.target d.name))) d.to_is
    ∙ entry_now m numbers dir o d.name d.dir_there d.there d.dir_is d.file small d.bytes d.free in
    let to_now = found_last n to r d.to_some above_now ∙ ap (λ (s : List ℕ). found_from n (s ∷ []) r) d.to_last
    ∙ steps_on n d.name [] r d.object.target (link_more d.object.attr) r_dir entry
    (object_now m numbers dir o d.name d.dir_there d.there d.dir_is d.file small d.bytes d.free) in
    let ends = ap (λ (x : Ending). edited x.edits m) d.ends in (
      ap (reply limit (StatCommand to)) ends
          ∙ stat_ends limit n to (down r d.object.target (link_more d.object.attr)) d.to_legal to_now
          ∙ ap (λ (b : Attr). AttrReply (link_more b)) o_attr,
      ap (reply limit (StatCommand from)) ends ∙ stat_ends limit n from (place_with g d.place) d.from_legal from_now
          ∙ ap (λ (x : Object). AttrReply (g x.target x.attr)) d.from_is
          ∙ ap (λ (b : Attr). AttrReply b)
          (itself m numbers dir o d.name d.dir_there d.there d.dir_is d.file small d.bytes d.free)
          ∙ ap (λ (b : Attr). AttrReply (link_more b)) o_attr,
    )
