-- create, mkdir and link leave the objects of a lawful content lawful.
use Rattle.std.specs.Prelude.{◌==◌, ◌≡◌, ℕ, ◌+◌, ◌-◌, ◌^◌, ◌<◌, List, [], Bool, true, false, nat_le, nat_lt, length, take, slice_index_or, All, None, if◌then◌else◌}
use Rattle.std.proofs.Common.{arith, inl, inr, refl, sym, ap, subst, ◌∙◌}
use Rattle.std.proofs.lemmas.Grind.{common_steps}
use Rattle.r4_base.specs.Value.{Content, at_key}
use Rattle.r4_base.specs.Volume.{HasStat, IsObject, is_directory}
use Rattle.r4_base.specs.declared.items.Attr.{Attr}
use Rattle.r4_base.specs.declared.things.Oid.{Oid}
use Rattle.r4_content.specs.Course.{Course, Answer, Change, Ending, ending, of_content}
use Rattle.r4_content.specs.Edited.{Edits, edited}
use Rattle.r4_content.specs.Entries.{is_no_id, link, linked, name_in}
use Rattle.r4_content.specs.Fields.{HasBytes, HasNumbers, IsUnused}
use Rattle.r4_content.specs.Lawful.{IsLawful}
use Rattle.r4_content.specs.Meaning.{after, course, is_path, named, reply}
use Rattle.r4_content.specs.Objects.{Object, entry_rank, is_dir, is_full, made_in, new_directory, new_file}
use Rattle.r4_content.specs.Ways.{Place, entry_in, free_here, to_free}
use Rattle.r4_content.specs.declared.command.Command.TheVariants.{Create, Mkdir, Link}
use Rattle.r4_content.specs.declared.reply.Reply.TheVariants.{Okay, Exists, Isdir, Links, Oids}
use Rattle.r4_content.proofs.EditParts.{true_not_false}
use Rattle.r4_content.proofs.Found.{There, ends_at, found, small_object, stat_there, way_ends}
use Rattle.r4_content.proofs.Gaining.{Gains, IsNew, gains_bodies, gains_lawful}
use Rattle.r4_content.proofs.Keeping.{Stays}
use Rattle.r4_content.proofs.Naming.{came_above, directory_made, file_made, free_is, last_bytes, make_directory, make_file}
use Rattle.r4_content.proofs.OneObject.{by_done, numbers_of, stat_was}
use Rattle.r4_content.proofs.Ranks.{name_fits}
use Rattle.r4_content.proofs.SameWay.{IsThere, found_object}
use Rattle.r4_content.proofs.Shapes.{no_entry_stat}
use Rattle.r4_content.proofs.Writing.{named_ends, okay_named, okay_there}

not_full : (n : ℕ) → nat_le 65535 n ≡ false → n < 65535
not_full n e = grind (arith, common_steps)

same_oid : (a b : Oid) → a.0 ≡ b.0 → a ≡ b
same_oid a b e i = record { 0 = e i }

-- a new object gets a name
pub gains_new : (limit : ℕ) (m : Content) (dir : Object) (n : List ℕ) (oid : Oid) (a : Attr) → IsLawful limit m → IsThere m dir → is_dir dir ≡ true → All (λ x. x < 256) n
    → entry_in (at_key m (entry_rank dir.target n)) ≡ None → oid.0 < 2 ^ 60 → IsUnused m oid → a.size ≡ 0 → a.bytes ≡ 0 → (is_directory a ≡ true → a.nlink ≡ 2) × (is_directory a ≡ false → a.nlink ≡ 1)
    → (is_directory a ≡ true → dir.attr.nlink < 2 ^ 32 - 1) → Gains m dir (made_in dir n oid a) n
gains_new limit m dir n oid a lawful there is bytes free small unused size length_too kinds links =
    let stat = stat_was m dir there in
    let may = (small_object dir.target (stat_there m dir.target dir.attr there.stat).0).1 in
    let object : IsObject (made_in dir n oid a).target = (may, (name_fits dir.target n may bytes).small 1, omega arith) in
    record {
      dir_stat = stat;
      dir_is = is;
      object = object;
      small = may;
      bytes = bytes;
      free = free;
      status = inr (record { unused = λ u b h e. unused u b h (same_oid u.oid oid e); size = size; length_too = length_too; links = kinds });
      room = lawful.room dir.target dir.attr stat is;
      links = links;
      no_entry = no_entry_stat limit m lawful.bodies (made_in dir n oid a).target object;
    }

-- what a new object that was made gained
abbrev pub MakesAll : Content → (Edits → Type 0) → Oid → Attr → Type 0
MakesAll m P oid a = (dir : Object) (n : List ℕ) → Gains m dir (made_in dir n oid a) n → IsNew m (made_in dir n oid a) → P (name_in dir n (made_in dir n oid a))

make_done : (limit : ℕ) (path : List (List ℕ)) (oid : Oid) (m : Content) (a : Attr) (make : Object → (name : List ℕ) → Course) → HasNumbers m → IsLawful limit m → HasBytes path → IsUnused m oid
    → a.size ≡ 0 → a.bytes ≡ 0 → (is_directory a ≡ true → a.nlink ≡ 2) × (is_directory a ≡ false → a.nlink ≡ 1)
    → ((dir : Object) (n : List ℕ) → (ending (make dir n) (of_content m)).reply ≡ Okay
    → (oid.0 < 2 ^ 60) × (ending (make dir n) (of_content m) ≡ record { edits = name_in dir n (made_in dir n oid a); reply = Okay }) × (is_directory a ≡ true → dir.attr.nlink < 2 ^ 32 - 1))
    → (P : Edits → Type 0) → MakesAll m P oid a
    → (ending (named path (to_free path make)) (of_content m)).reply ≡ Okay → P (ending (named path (to_free path make)) (of_content m)).edits
unfolding to_free
make_done limit path oid m a make numbers lawful bytes unused size length_too kinds made P makes okay =
    let c = came_above m Exists path (free_here make) (λ e. cc) okay in
    let n = slice_index_or path (length path - 1) [] in
    let dir = c.place.here in
    let (is, free, goes) = free_is m make c.place n (sym (ap (λ (x : Ending). x.reply) c.ends) ∙ okay) in
    let (small, done, links) = made dir n (sym (ap (λ (x : Ending). x.reply) (c.ends ∙ goes)) ∙ okay) in
    let there = found_object m numbers.orderings (take (length path - 1) path) c.place c.at in
    subst (λ (x : Ending). P x.edits) (sym (c.ends ∙ goes ∙ done))
    (makes dir n (gains_new limit m dir n oid a lawful there is (last_bytes path c.some bytes) free small unused size length_too kinds links)
    (record { unused = λ u b h e. unused u b h (same_oid u.oid oid e); size = size; length_too = length_too; links = kinds }))

make_lawful : (limit : ℕ) (m : Content) (oid : Oid) (a : Attr) → IsLawful limit m → MakesAll m (λ x. Stays limit (edited x m)) oid a
make_lawful limit m oid a lawful dir n gains new =
    (gains_lawful m dir (made_in dir n oid a) n lawful.objects gains, gains_bodies m dir (made_in dir n oid a) n lawful.objects gains limit lawful.bodies)

pub create_done : (limit : ℕ) (path : List (List ℕ)) (oid : Oid) (m : Content) → limit < 2 ^ 64 → IsLawful limit m → HasBytes path → IsUnused m oid → (P : Edits → Type 0) → MakesAll m P oid new_file
    → reply limit (Create path oid) m ≡ Okay → P (ending (course limit (Create path oid)) (of_content m)).edits
create_done limit path oid m lt lawful bytes unused P makes =
    make_done limit path oid m new_file (make_file oid) (numbers_of limit m lt lawful) lawful bytes unused refl refl ((λ d. absurd cc), (λ f. refl))
    (λ dir n okay. let x = file_made m dir n oid okay in (x.0, x.1, (λ d. absurd cc))) P makes

pub create_lawful : (limit : ℕ) (path : List (List ℕ)) (oid : Oid) (m : Content) → limit < 2 ^ 64 → IsLawful limit m → HasBytes path → IsUnused m oid → Stays limit (after limit (Create path oid) m)
create_lawful limit path oid m lt lawful bytes unused =
    by_done limit (Create path oid) m (λ x. Stays limit x) (lawful.objects, lawful.bodies)
    (create_done limit path oid m lt lawful bytes unused (λ x. Stays limit (edited x m)) (make_lawful limit m oid new_file lawful))

room_of : (m : Content) (oid : Oid) (dir : Object) (n : List ℕ) → (ending (make_directory oid dir n) (of_content m)).reply ≡ Okay → dir.attr.nlink < 2 ^ 32 - 1
room_of m oid dir n okay = by_links (is_full dir) refl okay
  where
    by_links : (b : Bool) → is_full dir ≡ b → (ending (if b then Answer Links else if is_no_id oid then Answer Oids else Change (name_in dir n (made_in dir n oid new_directory))) (of_content m)).reply ≡ Okay
        → dir.attr.nlink < 2 ^ 32 - 1
    by_links true e h = absurd cc
    by_links false e h = let few = not_full dir.attr.nlink e in omega arith

pub mkdir_done : (limit : ℕ) (path : List (List ℕ)) (oid : Oid) (m : Content) → limit < 2 ^ 64 → IsLawful limit m → HasBytes path → IsUnused m oid → (P : Edits → Type 0) → MakesAll m P oid new_directory
    → reply limit (Mkdir path oid) m ≡ Okay → P (ending (course limit (Mkdir path oid)) (of_content m)).edits
mkdir_done limit path oid m lt lawful bytes unused P makes =
    make_done limit path oid m new_directory (make_directory oid) (numbers_of limit m lt lawful) lawful bytes unused refl refl ((λ d. refl), (λ f. absurd cc))
    (λ dir n okay. let x = directory_made m dir n oid okay in (x.0, x.1, (λ d. room_of m oid dir n okay))) P makes

pub mkdir_lawful : (limit : ℕ) (path : List (List ℕ)) (oid : Oid) (m : Content) → limit < 2 ^ 64 → IsLawful limit m → HasBytes path → IsUnused m oid → Stays limit (after limit (Mkdir path oid) m)
mkdir_lawful limit path oid m lt lawful bytes unused =
    by_done limit (Mkdir path oid) m (λ x. Stays limit x) (lawful.objects, lawful.bodies)
    (mkdir_done limit path oid m lt lawful bytes unused (λ x. Stays limit (edited x m)) (make_lawful limit m oid new_directory lawful))

-- ---- link

abbrev pub link_on : Object → Object → (name : List ℕ) → Course
link_on o dir n = if is_full o then Answer Links else Change (name_in dir n (linked o))

abbrev pub link_from : List (List ℕ) → Place → Course
link_from to p = if is_dir p.here then Answer Isdir else to_free to (link_on p.here)

-- what a link that was done came to
pub record Linked (m : Content) (from to : List (List ℕ)) : Type 0 where
  pub object : Object
  pub there : IsThere m object
  pub file : is_dir object ≡ false
  pub few : object.attr.nlink < 65535
  pub dir : Object
  pub dir_there : IsThere m dir
  pub dir_is : is_dir dir ≡ true
  pub name : List ℕ
  pub bytes : All (λ x. x < 256) name
  pub free : entry_in (at_key m (entry_rank dir.target name)) ≡ None
  pub ends : ending (named from (named to (link from to))) (of_content m) ≡ record { edits = name_in dir name (linked object); reply = Okay }
  pub place : Place
  pub from_at : found m from ≡ There place
  pub from_is : place.here ≡ object
  pub from_legal : is_path from ≡ true
  pub above : Place
  pub to_at : found m (take (length to - 1) to) ≡ There above
  pub to_is : above.here ≡ dir
  pub to_legal : is_path to ≡ true
  pub to_some : (length to == 0) ≡ false
  pub to_last : slice_index_or to (length to - 1) [] ≡ name

pub link_done : (m : Content) (from to : List (List ℕ)) → HasNumbers m → HasBytes to → (ending (named from (named to (link from to))) (of_content m)).reply ≡ Okay → Linked m from to
unfolding to_free
link_done m from to numbers bytes okay =
    let one = okay_named m from (named to (link from to)) okay in
    let first = named_ends m from (named to (link from to)) one in
    let two = okay_named m to (link from to) (sym (ap (λ (x : Ending). x.reply) first) ∙ okay) in
    let way = first ∙ named_ends m to (link from to) two ∙ way_ends m from (link_from to) in
    let (p, at, came) = okay_there m (link_from to) (found m from) (sym (ap (λ (x : Ending). x.reply) way) ∙ okay) in
    let o = p.here in
    let there = found_object m numbers.orderings from p at in
    let file = is_file o (is_dir o) came in
    let on = way ∙ ap (ends_at m (link_from to)) at ∙ ap (λ (b : Bool). ending (if b then Answer Isdir else to_free to (link_on o)) (of_content m)) file in
    let named_way = named_ends m to (to_free to (link_on o)) two in
    let c = came_above m Exists to (free_here (link_on o)) (λ e. cc) (ap (λ (x : Ending). x.reply) named_way ∙ sym (ap (λ (x : Ending). x.reply) on) ∙ okay) in
    let n = slice_index_or to (length to - 1) [] in
    let more = on ∙ sym named_way ∙ c.ends in
    let (is, free, goes) = free_is m (link_on o) c.place n (sym (ap (λ (x : Ending). x.reply) more) ∙ okay) in
    let (few, done) = is_done o c.place.here n (is_full o) refl (sym (ap (λ (x : Ending). x.reply) (more ∙ goes)) ∙ okay) in
    record {
      object = o;
      there = there;
      file = file;
      few = few;
      dir = c.place.here;
      dir_there = found_object m numbers.orderings (take (length to - 1) to) c.place c.at;
      dir_is = is;
      name = n;
      bytes = last_bytes to c.some bytes;
      free = free;
      ends = more ∙ goes ∙ done;
      place = p;
      from_at = at;
      from_is = refl;
      from_legal = one;
      above = c.place;
      to_at = c.at;
      to_is = refl;
      to_legal = two;
      to_some = c.some;
      to_last = refl;
    }
  where
    is_file : (o : Object) (b : Bool) → (ending (if b then Answer Isdir else to_free to (link_on o)) (of_content m)).reply ≡ Okay → b ≡ false
    is_file o true h = absurd cc
    is_file o false h = refl

    is_done : (o dir : Object) (n : List ℕ) (b : Bool) → is_full o ≡ b → (ending (if b then Answer Links else Change (name_in dir n (linked o))) (of_content m)).reply ≡ Okay
        → (o.attr.nlink < 65535) × (ending (if b then Answer Links else Change (name_in dir n (linked o))) (of_content m) ≡ record { edits = name_in dir n (linked o); reply = Okay })
    is_done o dir n true e h = absurd cc
    is_done o dir n false e h = (not_full o.attr.nlink e, refl)

pub gains_link : (limit : ℕ) (m : Content) (dir o : Object) (n : List ℕ) → IsLawful limit m → IsThere m dir → is_dir dir ≡ true → All (λ x. x < 256) n → entry_in (at_key m (entry_rank dir.target n)) ≡ None
    → IsThere m o → is_dir o ≡ false → o.attr.nlink < 65535 → Gains m dir (linked o) n
gains_link limit m dir o n lawful there is bytes free o_there file few =
    let stat = stat_was m dir there in
    let o_stat = stat_was m o o_there in
    record {
      dir_stat = stat;
      dir_is = is;
      object = o_there.object;
      small = (small_object dir.target (stat_there m dir.target dir.attr there.stat).0).1;
      bytes = bytes;
      free = free;
      status = inl (record { old = o.attr; stat = o_stat; file = file; file_still = file; links = one_more_is o.attr.nlink (omega arith); size = refl; length_too = refl });
      room = lawful.room dir.target dir.attr stat is;
      links = λ d. absurd (true_not_false (sym d ∙ file));
      no_entry = ap entry_in o_stat.1;
    }
  where
    one_more_is : (k : ℕ) → k < 2 ^ 32 - 1 → (if nat_lt k (2 ^ 32 - 1) then k + 1 else k) ≡ k + 1
    one_more_is k lt = grind (arith, common_steps)

-- what a further name of a file gained
abbrev pub LinksAll : Content → (Edits → Type 0) → Type 0
LinksAll m P = (dir o : Object) (n : List ℕ) → Gains m dir (linked o) n → HasStat m o.target o.attr → is_dir o ≡ false → P (name_in dir n (linked o))

pub links_done : (limit : ℕ) (from to : List (List ℕ)) (m : Content) → limit < 2 ^ 64 → IsLawful limit m → HasBytes to → (P : Edits → Type 0) → LinksAll m P
    → reply limit (Link from to) m ≡ Okay → P (ending (course limit (Link from to)) (of_content m)).edits
links_done limit from to m lt lawful bytes P links okay =
    let d = link_done m from to (numbers_of limit m lt lawful) bytes okay in
    subst (λ (x : Ending). P x.edits) (sym d.ends)
    (links d.dir d.object d.name (gains_link limit m d.dir d.object d.name lawful d.dir_there d.dir_is d.bytes d.free d.there d.file d.few) (stat_was m d.object d.there) d.file)

pub link_lawful : (limit : ℕ) (from to : List (List ℕ)) (m : Content) → limit < 2 ^ 64 → IsLawful limit m → HasBytes to → Stays limit (after limit (Link from to) m)
link_lawful limit from to m lt lawful bytes = by_done limit (Link from to) m (λ x. Stays limit x) (lawful.objects, lawful.bodies) done
  where
    done : reply limit (Link from to) m ≡ Okay → Stays limit (after limit (Link from to) m)
    done okay =
        let d = link_done m from to (numbers_of limit m lt lawful) bytes okay in
        subst (λ (x : Ending). Stays limit (edited x.edits m)) (sym d.ends)
        (let gains = gains_link limit m d.dir d.object d.name lawful d.dir_there d.dir_is d.bytes d.free d.there d.file d.few in
        (gains_lawful m d.dir (linked d.object) d.name lawful.objects gains, gains_bodies m d.dir (linked d.object) d.name lawful.objects gains limit lawful.bodies))
