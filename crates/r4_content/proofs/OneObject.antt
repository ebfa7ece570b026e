-- Commands that change one object's attributes and bytes leave the objects of a lawful content lawful.
use Rattle.std.specs.Prelude.{◌≡◌, ℕ, ◌+◌, ◌*◌, ◌/◌, ◌%◌, ◌^◌, ◌<◌, ◌≤◌, List, [], ◌∷◌, ◌++◌, Bool, true, false, ◌==◌, cond, nat_lt, length, replicate, Option, Some, None, if◌then◌else◌}
use Rattle.std.proofs.Common.{arith, inl, inr, refl, sym, ap, subst, ◌∙◌}
use Rattle.r4_base.specs.Value.{Value, Stat, Byte, Content, at_key}
use Rattle.r4_base.specs.Volume.{HasStat, byte_rank, is_directory, stat_rank}
use Rattle.r4_base.specs.declared.items.Attr.{Attr}
use Rattle.r4_base.specs.declared.items.Target.{Target}
use Rattle.r4_content.specs.Bodies.{fill_gap, larger, resize, truncated, written}
use Rattle.r4_content.specs.Course.{Course, Answer, Change, Ending, ending, of_content}
use Rattle.r4_content.specs.Edited.{Edits, Pairs, edited, is_in, no_edits}
use Rattle.r4_content.specs.Fields.{HasNumbers}
use Rattle.r4_content.specs.Lawful.{HasBodies, IsLawful}
use Rattle.r4_content.specs.Meaning.{after, course, named, reply, set_attrs}
use Rattle.r4_content.specs.Objects.{Object, byte_pairs, is_dir, set_attr, sized, zero_body}
use Rattle.r4_content.specs.Ways.{Place, entry_in, to_object}
use Rattle.r4_content.specs.declared.command.Command.{Command}
use Rattle.r4_content.specs.declared.command.Command.TheVariants.{Chmod, Chown, Times, Write, Fill, Truncate}
use Rattle.r4_content.specs.declared.reply.Reply.TheVariants.{Okay}
use Rattle.r4_content.proofs.EditLaws.{at_edited, edited_off, last_put}
use Rattle.r4_content.proofs.EditParts.{is_off, true_not_false}
use Rattle.r4_content.proofs.FileEdits.{EditsFile, off_attr, put_itself, resized, resized_kind}
use Rattle.r4_content.proofs.Found.{found, stat_there, way_ends}
use Rattle.r4_content.proofs.Keeping.{Stays}
use Rattle.r4_content.proofs.OneBodies.{attr_bodies, file_bodies, larger_cases, truncate_touches, write_touches}
use Rattle.r4_content.proofs.Ranks.{stat_not_byte}
use Rattle.r4_content.proofs.Refusals.{nothing_or_okay}
use Rattle.r4_content.proofs.SameWay.{IsThere, found_object}
use Rattle.r4_content.proofs.Shapes.{EditsOne, no_entry_body, one_lawful}
use Rattle.r4_content.proofs.Writing.{came_to, cut_or_grown, goes_on, named_ends, positive, okay_named, okay_there, truncate_edits, write_edits, write_on}

-- a command that was not done left the content
pub by_done : (limit : ℕ) (c : Command) (m : Content) (P : Content → Type 0) → P m → (reply limit c m ≡ Okay → P (after limit c m)) → P (after limit c m)
by_done limit c m P same done = elim (nothing_or_okay (course limit c) (of_content m)) [
  | inl e ↦ subst P (sym (ap (λ (x : Edits). edited x m) e)) same
  | inr e ↦ done e
]

-- ---- puts without entries

abbrev pub NoEntries : Pairs → Type 0
NoEntries [] = Unit {0}
NoEntries (e ∷ es) = (entry_in (Some e.1) ≡ None) × NoEntries es

none_put : (es : Pairs) (k : ℕ) (v : Option Value) → NoEntries es → entry_in v ≡ None → entry_in (last_put es k v) ≡ None
none_put [] k v h none = none
none_put (e ∷ es) k v h none = none_put es k (cond (k == e.0) (Some e.1) v) h.1 (by_key (k == e.0))
  where
    by_key : (b : Bool) → entry_in (cond b (Some e.1) v) ≡ None
    by_key true = h.0
    by_key false = none

pub none_append : (xs ys : Pairs) → NoEntries xs → NoEntries ys → NoEntries (xs ++ ys)
none_append [] ys h g = g
none_append (x ∷ xs) ys h g = (h.0, none_append xs ys h.1 g)

bytes_no_entries : (k : ℕ) (xs : List ℕ) → NoEntries (byte_pairs k xs)
bytes_no_entries k [] = tt
bytes_no_entries k (x ∷ xs) = (refl, bytes_no_entries (k + 1) xs)

resize_no_entries : (o : Object) (n : ℕ) → NoEntries (resize o n).puts
resize_no_entries o n = by_size (o.attr.size == n)
  where
    by_size : (b : Bool) → NoEntries (if b then no_edits else set_attr o (sized o.attr n)).puts
    by_size true = tt
    by_size false = (refl, tt)

gap_no_entries : (o : Object) (n : ℕ) → NoEntries (fill_gap o n).puts
gap_no_entries o n = by_size (nat_lt o.attr.size n)
  where
    by_size : (b : Bool) → NoEntries (if b then zero_body o o.attr.size n else no_edits).puts
    by_size true = tt
    by_size false = tt

cut_no_entries : (o : Object) (n : ℕ) (b : Bool) → NoEntries (cut_or_grown o n b).puts
cut_no_entries o n true = tt
cut_no_entries o n false = gap_no_entries o n

pub none_edited : (e : Edits) (m : Content) (k : ℕ) → NoEntries e.puts → entry_in (at_key m k) ≡ None → entry_in (at_key (edited e m) k) ≡ None
none_edited e m k puts none = ap entry_in (at_edited e m k) ∙ none_put e.puts k _ puts (by_keys (is_in e.zeros k) (is_in e.cuts k))
  where
    by_keys : (a b : Bool) → entry_in (cond a (Some (Byte 0)) (cond b None (at_key m k))) ≡ None
    by_keys true b = refl
    by_keys false true = refl
    by_keys false false = none

-- ---- the edits of one object

pub stat_was : (m : Content) (o : Object) → IsThere m o → HasStat m o.target o.attr
stat_was m o there = (there.object, (stat_there m o.target o.attr there.stat).1)

pub attr_one : (limit : ℕ) (m : Content) (o : Object) (b : Attr) → HasBodies limit m → IsThere m o → EditsOne m (edited (set_attr o b) m) o b
attr_one limit m o b bodies there = record {
  was = stat_was m o there;
  stat = put_itself m (stat_rank o.target) (Stat b);
  elsewhere = λ k h. edited_off (set_attr o b) m k (is_off (set_attr o b) k (off_attr o b k h.stat));
  bodies = λ x lt. ap entry_in (edited_off (set_attr o b) m (byte_rank o.target x) (is_off (set_attr o b) (byte_rank o.target x)
      (off_attr o b (byte_rank o.target x) (λ e. stat_not_byte o.target o.target x there.object there.object lt (sym e))))) ∙ no_entry_body limit m bodies o.target x there.object lt;
}

pub file_one : (limit : ℕ) (m : Content) (o : Object) (n : ℕ) (e : Edits) → HasBodies limit m → IsThere m o → EditsFile m o n e → NoEntries e.puts → EditsOne m (edited e m) o (resized n o.attr)
file_one limit m o n e bodies there h puts = record {
  was = stat_was m o there;
  stat = h.size;
  elsewhere = λ k off. edited_off e m k (is_off e k (h.elsewhere k off));
  bodies = λ x lt. none_edited e m (byte_rank o.target x) puts (no_entry_body limit m bodies o.target x there.object lt);
}

-- ---- numbers of a lawful content

pub numbers_of : (limit : ℕ) (m : Content) → limit < 2 ^ 64 → IsLawful limit m → HasNumbers m
numbers_of limit m lt lawful = record {
  orderings = λ k n o at. let (a, h) = lawful.objects.target k n o at in h.0.1;
  sizes = λ o a h. by_kind o a h (is_directory a) refl;
}
  where
    by_kind : (o : Target) (a : Attr) → HasStat m o a → (b : Bool) → is_directory a ≡ b → a.size < 2 ^ 64
    by_kind o a h true dir = let room = lawful.room o a h dir in omega arith
    by_kind o a h false file = let small = lawful.bodies.small o a h file in omega arith

-- ---- the commands

-- the object of a command on attributes
pub record CameToObject (m : Content) (path : List (List ℕ)) (next : Place → Course) : Type 0 where
  pub place : Place
  pub there : IsThere m place.here
  pub ends : ending (named path (to_object path next)) (of_content m) ≡ ending (next place) (of_content m)

pub came_to_object : (m : Content) (path : List (List ℕ)) (next : Place → Course) → HasNumbers m → (ending (named path (to_object path next)) (of_content m)).reply ≡ Okay → CameToObject m path next
came_to_object m path next numbers e =
    let is = okay_named m path (to_object path next) e in
    let way = named_ends m path (to_object path next) is ∙ way_ends m path next in
    let (p, at, okay) = okay_there m next (found m path) (sym (ap (λ (x : Ending). x.reply) way) ∙ e) in
    record { place = p; there = found_object m numbers.orderings path p at; ends = goes_on m path next p is at }

-- what a command on attributes sets
pub attrs_done : (path : List (List ℕ)) (f : Attr → Attr) (m : Content) → HasNumbers m → (P : Edits → Type 0) → ((o : Object) → IsThere m o → P (set_attr o (f o.attr)))
    → (ending (named path (set_attrs path f)) (of_content m)).reply ≡ Okay → P (ending (named path (set_attrs path f)) (of_content m)).edits
attrs_done path f m numbers P sets okay =
    let c = came_to_object m path (λ p. Change (set_attr p.here (f p.here.attr))) numbers okay in
    subst (λ (x : Ending). P x.edits) (sym c.ends) (sets c.place.here c.there)

attrs_lawful : (limit : ℕ) (path : List (List ℕ)) (f : Attr → Attr) (m : Content) → HasNumbers m → IsLawful limit m
    → ((a : Attr) → (is_directory (f a) ≡ is_directory a) × ((f a).nlink ≡ a.nlink) × ((f a).size ≡ a.size) × ((f a).bytes ≡ a.bytes))
    → (ending (named path (set_attrs path f)) (of_content m)).reply ≡ Okay → Stays limit (edited (ending (named path (set_attrs path f)) (of_content m)).edits m)
attrs_lawful limit path f m numbers lawful keeps okay =
    let c = came_to_object m path (λ p. Change (set_attr p.here (f p.here.attr))) numbers okay in
    let o = c.place.here in
    let k = keeps o.attr in
    subst (λ (x : Ending). Stays limit (edited x.edits m)) (sym c.ends) (
      one_lawful limit m (edited (set_attr o (f o.attr)) m) o (f o.attr) lawful.objects lawful.bodies (attr_one limit m o (f o.attr) lawful.bodies c.there) k.0 k.1 (λ dir. k.2),
      attr_bodies limit m o (f o.attr) lawful.bodies (stat_was m o c.there) k.0 k.2 k.3,
    )

mode_kind : (mode bits : ℕ) → (mode / 4096 * 4096 + bits % 4096) / 4096 ≡ mode / 4096
mode_kind mode bits = omega arith

pub chmod_lawful : (limit : ℕ) (path : List (List ℕ)) (mode : ℕ) (m : Content) → HasNumbers m → IsLawful limit m → Stays limit (after limit (Chmod path mode) m)
chmod_lawful limit path mode m numbers lawful =
    by_done limit (Chmod path mode) m (λ x. Stays limit x) (lawful.objects, lawful.bodies)
    (attrs_lawful limit path (λ a. record a { mode = a.mode / 4096 * 4096 + mode % 4096 }) m numbers lawful (λ a. (ap (λ (x : ℕ). x == 4) (mode_kind a.mode mode), refl, refl, refl)))

pub chown_lawful : (limit : ℕ) (path : List (List ℕ)) (uid gid : ℕ) (m : Content) → HasNumbers m → IsLawful limit m → Stays limit (after limit (Chown path uid gid) m)
chown_lawful limit path uid gid m numbers lawful =
    by_done limit (Chown path uid gid) m (λ x. Stays limit x) (lawful.objects, lawful.bodies) (attrs_lawful limit path (λ a. record a { uid = uid; gid = gid }) m numbers lawful (λ a. (refl, refl, refl, refl)))

pub times_lawful : (limit : ℕ) (path : List (List ℕ)) (atime mtime ctime : ℕ) (m : Content) → HasNumbers m → IsLawful limit m → Stays limit (after limit (Times path atime mtime ctime) m)
times_lawful limit path atime mtime ctime m numbers lawful =
    by_done limit (Times path atime mtime ctime) m (λ x. Stays limit x) (lawful.objects, lawful.bodies)
    (attrs_lawful limit path (λ a. record a { atime = atime; mtime = mtime; ctime = ctime }) m numbers lawful (λ a. (refl, refl, refl, refl)))

resized_links : (n : ℕ) (a : Attr) → (resized n a).nlink ≡ a.nlink
resized_links n a = by_size (a.size == n)
  where
    by_size : (b : Bool) → (if b then a else sized a n).nlink ≡ a.nlink
    by_size true = refl
    by_size false = refl

not_directory : (a : Attr) (n : ℕ) → is_directory a ≡ false → is_directory a ≡ true → n ≡ a.size
not_directory a n file dir = absurd (true_not_false (sym dir ∙ file))

-- what a command on bytes sets
pub write_done : (limit : ℕ) (path : List (List ℕ)) (from : ℕ) (xs : List ℕ) (m : Content) → HasNumbers m → (P : Edits → Type 0) → P no_edits
    → ((o : Object) → IsThere m o → is_dir o ≡ false → from + length xs ≤ limit → P (written o from xs))
    → reply limit (Write path from xs) m ≡ Okay → P (ending (course limit (Write path from xs)) (of_content m)).edits
write_done limit path from xs m numbers P none writes okay =
    let c = came_to limit m path (from + length xs) (write_on from xs) okay in
    let there = found_object m numbers.orderings path c.place c.at in
    subst (λ (x : Ending). P x.edits) (sym c.ends) (by_length c.place.here (length xs == 0) (writes c.place.here there c.file c.small))
  where
    by_length : (o : Object) (b : Bool) → P (written o from xs) → P (ending (if b then Answer Okay else Change (written o from xs)) (of_content m)).edits
    by_length o true h = none
    by_length o false h = h

pub truncate_done : (limit : ℕ) (path : List (List ℕ)) (n : ℕ) (m : Content) → HasNumbers m → (P : Edits → Type 0)
    → ((o : Object) → IsThere m o → is_dir o ≡ false → n ≤ limit → P (truncated o n))
    → reply limit (Truncate path n) m ≡ Okay → P (ending (course limit (Truncate path n)) (of_content m)).edits
truncate_done limit path n m numbers P cuts okay =
    let c = came_to limit m path n (λ o. Change (truncated o n)) okay in
    let there = found_object m numbers.orderings path c.place c.at in
    subst (λ (x : Ending). P x.edits) (sym c.ends) (cuts c.place.here there c.file c.small)

pub write_lawful : (limit : ℕ) (path : List (List ℕ)) (from : ℕ) (xs : List ℕ) (m : Content) → limit < 2 ^ 64 → IsLawful limit m → Stays limit (after limit (Write path from xs) m)
write_lawful limit path from xs m lt lawful = by_done limit (Write path from xs) m (λ x. Stays limit x) (lawful.objects, lawful.bodies) (λ okay. by_length okay (length xs == 0) refl)
  where
    numbers : HasNumbers m
    numbers = numbers_of limit m lt lawful

    by_length : reply limit (Write path from xs) m ≡ Okay → (b : Bool) → (length xs == 0) ≡ b → Stays limit (after limit (Write path from xs) m)
    by_length okay b is =
        let c = came_to limit m path (from + length xs) (write_on from xs) okay in
        let o = c.place.here in
        let there = found_object m numbers.orderings path c.place c.at in
        let small = c.small in
        let fits : from + length xs ≤ 2 ^ 64 = omega arith in
        let done = c.ends ∙ ap (λ (b : Bool). ending (if b then Answer Okay else Change (written o from xs)) (of_content m)) is in
        subst (λ (x : Ending). Stays limit (edited x.edits m)) (sym done) (by_case o there fits c.small c.file b is)
      where
        within : (o : Object) → IsThere m o → is_dir o ≡ false → from + length xs ≤ limit → larger o.attr.size (from + length xs) ≤ limit
        within o there file enough =
            let old = lawful.bodies.small o.target o.attr (stat_was m o there) file in
            elim (larger_cases o.attr.size (from + length xs)) [ inl (d, i) ↦ omega arith | inr (d, i) ↦ omega arith ]

        by_case : (o : Object) → IsThere m o → from + length xs ≤ 2 ^ 64 → from + length xs ≤ limit → is_dir o ≡ false → (b : Bool) → (length xs == 0) ≡ b → Stays limit (edited (ending (if b then Answer Okay else Change (written o from xs)) (of_content m)).edits m)
        by_case o there fits enough file true some = (lawful.objects, lawful.bodies)
        by_case o there fits enough file false some =
            let n = larger o.attr.size (from + length xs) in
            let edits = write_edits m o there from xs fits in (
              one_lawful limit m (edited (written o from xs) m) o (resized n o.attr) lawful.objects lawful.bodies
                  (file_one limit m o n (written o from xs) lawful.bodies there edits
                  (none_append (fill_gap o from).puts (byte_pairs (byte_rank o.target from) xs ++ (resize o n).puts) (gap_no_entries o from)
                  (none_append (byte_pairs (byte_rank o.target from) xs) (resize o n).puts (bytes_no_entries (byte_rank o.target from) xs) (resize_no_entries o n))))
                  (resized_kind n o.attr) (resized_links n o.attr) (not_directory o.attr (resized n o.attr).size file),
              file_bodies limit m o n (written o from xs) lawful.bodies (stat_was m o there) file (within o there file enough) edits
                  (write_touches limit m o from xs lawful.bodies (stat_was m o there) there file fits (positive (length xs) some)),
            )

pub fill_lawful : (limit : ℕ) (path : List (List ℕ)) (from len x : ℕ) (m : Content) → limit < 2 ^ 64 → IsLawful limit m → Stays limit (after limit (Fill path from len x) m)
fill_lawful limit path from len x m lt lawful = write_lawful limit path from (replicate len x) m lt lawful

pub truncate_lawful : (limit : ℕ) (path : List (List ℕ)) (n : ℕ) (m : Content) → limit < 2 ^ 64 → IsLawful limit m → Stays limit (after limit (Truncate path n) m)
truncate_lawful limit path n m lt lawful = by_done limit (Truncate path n) m (λ x. Stays limit x) (lawful.objects, lawful.bodies) cut
  where
    numbers : HasNumbers m
    numbers = numbers_of limit m lt lawful

    cut : reply limit (Truncate path n) m ≡ Okay → Stays limit (after limit (Truncate path n) m)
    cut okay =
        let c = came_to limit m path n (λ o. Change (truncated o n)) okay in
        let o = c.place.here in
        let there = found_object m numbers.orderings path c.place c.at in
        let small = c.small in
        let size = numbers.sizes o.target o.attr (stat_was m o there) in
        subst (λ (x : Ending). Stays limit (edited x.edits m)) (sym c.ends) (
          one_lawful limit m (edited (truncated o n) m) o (resized n o.attr) lawful.objects lawful.bodies
              (file_one limit m o n (truncated o n) lawful.bodies there (truncate_edits m o there n (omega arith) (omega arith))
              (none_append (cut_or_grown o n (nat_lt n o.attr.size)).puts (resize o n).puts (cut_no_entries o n (nat_lt n o.attr.size)) (resize_no_entries o n)))
              (resized_kind n o.attr) (resized_links n o.attr) (not_directory o.attr (resized n o.attr).size c.file),
          file_bodies limit m o n (truncated o n) lawful.bodies (stat_was m o there) c.file small (truncate_edits m o there n (omega arith) (omega arith)) (truncate_touches limit m o n lawful.bodies (stat_was m o there) c.file),
        )
