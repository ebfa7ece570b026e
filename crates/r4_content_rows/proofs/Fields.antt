-- Attributes that fit their fields, and numbers that do not.
use Rattle.std.specs.Prelude.{◌≡◌, ◌+◌, ◌*◌, ◌/◌, ◌%◌, ◌^◌, ◌<◌, ℕ, List, [], ◌∷◌, Bool, true, false, ◌&&◌, ◌==◌}
use Rattle.std.specs.Prelude.{nat_lt, Some, T, cond}
use Rattle.std.proofs.Common.{arith, lit<, refl, sym, ap, subst, ◌∙◌}
use Rattle.std.proofs.lemmas.Bool.{eqb-true, ltb-true}
use Rattle.std.proofs.lemmas.Option.{same_Some}
use Rattle.std.specs.FinMap.{find}
use Rattle.std.specs.Ordering.{eq_by_cmp, nat_cmp}
use Rattle.r4_base.specs.Bytes.{FieldsFit}
use Rattle.r4_base.specs.Key.{rank}
use Rattle.r4_base.specs.Name.{bad_byte, key_of_name, name_fault, packed, r5_from}
use Rattle.r4_base.specs.Stat.{stat_fields}
use Rattle.r4_base.specs.Value.{Byte, Content, Entry, Stat, Value, at_key}
use Rattle.r4_base.specs.Volume.{HasStat, IsObject, stat_rank}
use Rattle.r4_base.specs.declared.items.Attr.{Attr}
use Rattle.r4_base.specs.declared.items.Target.{Target}
use Rattle.r4_content.specs.Course.{Change, Course, Ending, ending, of_content}
use Rattle.r4_content.specs.Edited.{Pairs, edited}
use Rattle.r4_content.specs.Examples.{at, f, made, one_entry}
use Rattle.r4_content.specs.Listed.{list_after}
use Rattle.r4_content.specs.Meaning.{after, greatest_size, named, set_attrs}
use Rattle.r4_content.specs.Objects.{Object, new_file, set_attr}
use Rattle.r4_content.specs.Seen.{Rises}
use Rattle.r4_content.specs.Ways.{Place, to_ends, to_entry, to_file, to_free, to_object, to_parent}
use Rattle.r4_content.specs.declared.command.Command.{Command}
use Rattle.r4_content.specs.declared.command.Command.TheVariants.{Chmod, Chown, Times}
use Rattle.r4_content.specs.declared.reply.Reply.TheVariants.{Okay}
use Rattle.r4_content.proofs.Counting.{first_holds, not_same, second_holds}
use Rattle.r4_content.proofs.Found.{ends_at, found, stat_there, way_ends}
use Rattle.r4_content.proofs.Gaining.{stat_same}
use Rattle.r4_content.proofs.OneObject.{by_done}
use Rattle.r4_content.proofs.SeenLaws.{at_content, content_of, list_command}
use Rattle.r4_content.proofs.Writing.{named_ends, okay_named, okay_there}
use Rattle.r4_content.proofs.FileEdits.{put_itself}
use Rattle.r4_content_rows.specs.Conditions.{empty_file}
use Rattle.r4_content_rows.specs.Widths.{AllFit, PassesField}
use Rattle.r4_content_rows.proofs.Again.{attr_found}
use Rattle.r4_content_rows.proofs.Attributes.{attr_left}

-- ---- what is set fits

module _ (limit : ℕ) (m : Content) (fit : AllFit m) (path : List (List ℕ)) (f : Attr → Attr)
    (keeps : (a : Attr) → FieldsFit (stat_fields a) → FieldsFit (stat_fields (f a))) where
  set_fits : (o : Object) → at_key m (stat_rank o.target) ≡ Some (Stat o.attr)
      → AllFit (edited (set_attr o (f o.attr)) m)
  set_fits o was t b there = by_key (stat_rank t == stat_rank o.target) refl
    where
      by_key : (x : Bool) → (stat_rank t == stat_rank o.target) ≡ x → FieldsFit (stat_fields b)
      by_key true e =
          let same = eqb-true (stat_rank t) (stat_rank o.target) e in
          let one = stat_same (f o.attr) b (sym (put_itself m (stat_rank o.target) (Stat (f o.attr)))
          ∙ ap (at_key (edited (set_attr o (f o.attr)) m)) (sym same) ∙ there.1) in
          subst (λ (a : Attr). FieldsFit (stat_fields a)) one
          (keeps o.attr (fit t o.attr (there.0, ap (at_key m) same ∙ was)))
      by_key false e = fit t b (
        there.0,
        sym
            (attr_left m o (f o.attr) (stat_rank t) (not_same (stat_rank t) (stat_rank o.target) e)) ∙ there.1,
      )

  attrs_fit : (ending (named path (set_attrs path f)) (of_content m)).reply ≡ Okay
      → AllFit (edited (ending (named path (set_attrs path f)) (of_content m)).edits m)
  attrs_fit okay =
      let next : Place → Course = λ (p : Place). Change (set_attr p.here (f p.here.attr)) in
      let is = okay_named m path (set_attrs path f) okay in
      let way = named_ends m path (set_attrs path f) is ∙ way_ends m path next in
      let (p, at, done) = okay_there m next (found m path) (sym (ap (λ (x : Ending). x.reply) way) ∙ okay) in
      let was = (stat_there m p.here.target p.here.attr (attr_found m path p at)).1 in
      subst (λ (x : Ending). AllFit (edited x.edits m)) (sym (way ∙ ap (ends_at m next) at)) (set_fits p.here was)

low_bits : (mode bits : ℕ) → mode < 2 ^ 16 → mode / 4096 * 4096 + bits % 4096 < 2 ^ 16
low_bits mode bits lt = omega (arith, lt)

pub chmod_fits : (limit : ℕ) (path : List (List ℕ)) (mode : ℕ) (m : Content) → AllFit m
    → AllFit (after limit (Chmod path mode) m)
chmod_fits limit path mode m fit = by_done limit (Chmod path mode) m AllFit fit
    (attrs_fit limit m fit path (λ a. record a { mode = a.mode / 4096 * 4096 + mode % 4096 })
    (λ a (x, rest). (low_bits a.mode mode x, rest)))

pub chown_fits : (limit : ℕ) (path : List (List ℕ)) (uid gid : ℕ) (m : Content) → uid < 2 ^ 32 → gid < 2 ^ 32
    → AllFit m → AllFit (after limit (Chown path uid gid) m)
chown_fits limit path uid gid m lt_uid lt_gid fit = by_done limit (Chown path uid gid) m AllFit fit
    (attrs_fit limit m fit path (λ a. record a { uid = uid; gid = gid })
    (λ a (x, (y, (z, (u, (v, rest))))). (x, (y, (z, (lt_uid, (lt_gid, rest)))))))

pub times_fit : (limit : ℕ) (path : List (List ℕ)) (atime mtime ctime : ℕ) (m : Content) → atime < 2 ^ 32
    → mtime < 2 ^ 32 → ctime < 2 ^ 32 → AllFit m → AllFit (after limit (Times path atime mtime ctime) m)
times_fit limit path atime mtime ctime m lt_a lt_m lt_c fit = by_done limit (Times path atime mtime ctime) m AllFit fit
    (attrs_fit limit m fit path (λ a. record a { atime = atime; mtime = mtime; ctime = ctime })
    (λ a (x, (y, (z, (u, (v, (w, (p, (q, rest)))))))). (x, (y, (z, (u, (v, (lt_a, (lt_m, (lt_c, rest))))))))))

-- ---- numbers that do not fit

abbrev fields_fit : List (ℕ × ℕ) → Bool
fields_fit [] = true
fields_fit (x ∷ xs) = nat_lt x.1 (256 ^ x.0) && fields_fit xs

abbrev value_fits : Value → Bool
value_fits (Stat a) = fields_fit (stat_fields a)
value_fits (Entry n t) = true
value_fits (Byte x) = true

abbrev all_fit : Pairs → Bool
all_fit [] = true
all_fit (e ∷ s) = value_fits e.1 && all_fit s

holds : (b : Bool) → T b → b ≡ true
holds true h = refl
holds false h = absurd h

fields_are : (xs : List (ℕ × ℕ)) → T (fields_fit xs) → FieldsFit xs
fields_are [] h = tt
fields_are (x ∷ xs) h = (
  ltb-true x.1 (256 ^ x.0)
      (holds (nat_lt x.1 (256 ^ x.0)) (first_holds (nat_lt x.1 (256 ^ x.0)) (fields_fit xs) h)),
  fields_are xs
      (second_holds (nat_lt x.1 (256 ^ x.0)) (fields_fit xs) h),
)

found_fits : (s : Pairs) (k : ℕ) (a : Attr) → T (all_fit s) → find nat_cmp k s ≡ Some (Stat a)
    → FieldsFit (stat_fields a)
found_fits [] k a h e = absurd cc
found_fits (p ∷ s) k a h e = split (eq_by_cmp nat_cmp k p.0)
    (found_fits s k a (second_holds (value_fits p.1) (all_fit s) h)) e
  where
    split : (b : Bool) → (find nat_cmp k s ≡ Some (Stat a) → FieldsFit (stat_fields a))
        → cond b (Some p.1) (find nat_cmp k s) ≡ Some (Stat a) → FieldsFit (stat_fields a)
    split true rest is =
        let one = same_Some p.1 (Stat a) is in
        fields_are (stat_fields a) (subst (λ (v : Value). T (value_fits v)) one
        (first_holds (value_fits p.1) (all_fit s) h))
    split false rest is = rest is

abbrev files : Pairs
files = one_entry f new_file

files_rise : Rises files
unfolding rank key_of_name packed
files_rise = tt

all_of_files : AllFit (content_of files)
unfolding rank key_of_name packed
all_of_files o a there = found_fits files (stat_rank o) a tt (sym (at_content files (stat_rank o) files_rise) ∙ there.1)

pub files_fit : AllFit empty_file
unfolding content_of
files_fit = all_of_files

abbrev own : Target
own = made f 65536

own_object : IsObject own
unfolding key_of_name packed
own_object = (lit< tt, lit< tt, lit< tt)

own_key : (b : Attr) (c : Command) → find nat_cmp (stat_rank own) (list_after greatest_size c files) ≡ Some (Stat b)
    → HasStat (after greatest_size c (content_of files)) own b
own_key b c at =
    let done = list_command greatest_size c files files_rise in (
      own_object,
      ap (λ (m : Content). at_key m (stat_rank own)) done.0 ∙ at_content (list_after greatest_size c files)
          (stat_rank own) done.2 ∙ at,
    )

passes : (b : Attr) (c : Command) → find nat_cmp (stat_rank own) (list_after greatest_size c files) ≡ Some (Stat b)
    → (FieldsFit (stat_fields b) → ⊥) → PassesField c
unfolding content_of
passes b c at not_fit all = not_fit (all own b (own_key b c at))

pub uid_passes : PassesField (Chown (at f) (2 ^ 32) 0)
unfolding rank key_of_name name_fault bad_byte packed r5_from to_ends to_entry to_file to_free to_object to_parent
uid_passes = passes (record new_file { uid = 2 ^ 32; gid = 0 }) (Chown (at f) (2 ^ 32) 0) refl
    (λ (x, (y, (z, (u, rest)))). absurd (omega (arith, u)))

pub gid_passes : PassesField (Chown (at f) 0 (2 ^ 32))
unfolding rank key_of_name name_fault bad_byte packed r5_from to_ends to_entry to_file to_free to_object to_parent
gid_passes = passes (record new_file { uid = 0; gid = 2 ^ 32 }) (Chown (at f) 0 (2 ^ 32)) refl
    (λ (x, (y, (z, (u, (v, rest))))). absurd (omega (arith, v)))

pub atime_passes : PassesField (Times (at f) (2 ^ 32) 0 0)
unfolding rank key_of_name name_fault bad_byte packed r5_from to_ends to_entry to_file to_free to_object to_parent
atime_passes = passes (record new_file { atime = 2 ^ 32; mtime = 0; ctime = 0 }) (Times (at f) (2 ^ 32) 0 0) refl
    (λ (x, (y, (z, (u, (v, (w, rest)))))). absurd (omega (arith, w)))

pub mtime_passes : PassesField (Times (at f) 0 (2 ^ 32) 0)
unfolding rank key_of_name name_fault bad_byte packed r5_from to_ends to_entry to_file to_free to_object to_parent
mtime_passes = passes (record new_file { atime = 0; mtime = 2 ^ 32; ctime = 0 }) (Times (at f) 0 (2 ^ 32) 0) refl
    (λ (x, (y, (z, (u, (v, (w, (p, rest))))))). absurd (omega (arith, p)))

pub ctime_passes : PassesField (Times (at f) 0 0 (2 ^ 32))
unfolding rank key_of_name name_fault bad_byte packed r5_from to_ends to_entry to_file to_free to_object to_parent
ctime_passes = passes (record new_file { atime = 0; mtime = 0; ctime = 2 ^ 32 }) (Times (at f) 0 0 (2 ^ 32)) refl
    (λ (x, (y, (z, (u, (v, (w, (p, (q, rest)))))))). absurd (omega (arith, q)))
