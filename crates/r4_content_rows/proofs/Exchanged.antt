-- Commands in another order, what was seen in another order, and contents that do not stay lawful.
use Rattle.std.specs.Prelude.{◌≡◌, ℕ, List, [], ◌∷◌, Bool, true, false, Option, Some, None, cond, count_by}
use Rattle.std.proofs.Common.{arith, lit<, refl, sym, ap, subst, ◌∙◌}
use Rattle.std.proofs.lemmas.Bool.{eqb-true}
use Rattle.std.specs.Cmp.{unsigned_tied}
use Rattle.std.specs.FinMap.{entries, entries-from_sorted, find, from_sorted}
use Rattle.std.specs.Ordering.{eq_by_cmp, nat_cmp}
use Rattle.r4_base.specs.Key.{key_of_rank, minor_of, rank}
use Rattle.r4_base.specs.Name.{bad_byte, key_of_name, name_fault, packed, r5_from}
use Rattle.r4_base.specs.Value.{Entry, Value, at_key}
use Rattle.r4_base.specs.Volume.{HasObjects, HasStat, IsObject, names_object, root_object, stat_rank}
use Rattle.r4_base.specs.declared.items.Target.{Target}
use Rattle.r4_content.specs.Course.{ending}
use Rattle.r4_content.specs.Edited.{Pairs}
use Rattle.r4_content.specs.Examples.{GetReplies, a, at, below, d, f, id, made, renamed_file, root}
use Rattle.r4_content.specs.Fields.{HasBytes, IsUnused}
use Rattle.r4_content.specs.Lawful.{IsLawful}
use Rattle.r4_content.specs.Listed.{list_after}
use Rattle.r4_content.specs.Locality.{Spares}
use Rattle.r4_content.specs.Meaning.{after, course, greatest_size, reply}
use Rattle.r4_content.specs.Objects.{entry_rank, new_file}
use Rattle.r4_content.specs.Seen.{Rises, of_seen}
use Rattle.r4_content.specs.Ways.{to_ends, to_entry, to_file, to_free, to_object, to_parent}
use Rattle.r4_content.specs.declared.command.Command.{Command}
use Rattle.r4_content.specs.declared.command.Command.TheVariants.{Create, Names, Rename, Stat as Ask}
use Rattle.r4_content.specs.declared.reply.Reply.{Reply}
use Rattle.r4_content.specs.declared.reply.Reply.TheVariants.{Okay, Absent, Attr as Has, Names as Lists}
use Rattle.r4_content.proofs.Refusals.{refused_changes}
use Rattle.r4_content.proofs.SeenLaws.{at_content, content_of, list_command, same_source}
use Rattle.r4_content_rows.specs.Conditions.{body_name, root_alone}
use Rattle.r4_content_rows.specs.Premises.{LosesBodies, LosesObjects, alone, makes_below, makes_d, makes_f, named_a}
use Rattle.r4_content_rows.specs.Premises.{named_f, product, rising, root_of_two, unsorted}
use Rattle.r4_content_rows.proofs.Examples.{computed}
use Rattle.r4_content_rows.proofs.FileAlone.{alone_lawful}
use Rattle.r4_content_rows.proofs.Runs.{of_bytes, run_lawful, unused_in}

-- ---- commands

-- the first and the third of the replies
abbrev first_reply : List Reply → Reply
first_reply [] = Okay
first_reply (x ∷ xs) = x

abbrev third_reply : List Reply → Reply
third_reply (x ∷ y ∷ z ∷ zs) = z
third_reply xs = Okay

first_refused : GetReplies greatest_size alone
    ((makes_below, Absent) ∷ (makes_d, Okay) ∷ (Ask (below d f), Absent) ∷ [])
unfolding content_of rank key_of_name name_fault bad_byte packed r5_from to_ends to_entry to_file to_free to_object
    to_parent
first_refused = computed greatest_size root_alone tt
    ((makes_below, Absent) ∷ (makes_d, Okay) ∷ (Ask (below d f), Absent) ∷ []) refl

both_done : GetReplies greatest_size alone
    ((makes_d, Okay) ∷ (makes_below, Okay) ∷ (Ask (below d f), Has new_file) ∷ [])
unfolding content_of rank key_of_name name_fault bad_byte packed r5_from to_ends to_entry to_file to_free to_object
    to_parent
both_done = computed greatest_size root_alone tt
    ((makes_d, Okay) ∷ (makes_below, Okay) ∷ (Ask (below d f), Has new_file) ∷ []) refl

absent_not_okay : Absent ≡ Okay → ⊥
absent_not_okay e = cc

absent_not_there : Absent ≡ Has new_file → ⊥
absent_not_there e = cc

pub below_spares : Spares product makes_below makes_d alone
below_spares k touches = refused_changes greatest_size makes_below alone k
    (λ e. absent_not_okay (sym (ap first_reply first_refused) ∙ e))

pub not_exchanged : product.after makes_d (product.after makes_below alone) ≡ product.after makes_below
    (product.after makes_d alone) → ⊥
not_exchanged e = absent_not_there (sym (ap third_reply first_refused) ∙ ap (reply greatest_size (Ask (below d f))) e
    ∙ ap third_reply both_done)

abbrev second_reply : List Reply → Reply
second_reply (x ∷ y ∷ ys) = y
second_reply xs = Okay

asked_first : GetReplies greatest_size alone ((Ask (at f), Absent) ∷ [])
unfolding content_of rank key_of_name name_fault bad_byte packed r5_from to_ends to_entry to_file to_free to_object
    to_parent
asked_first = computed greatest_size root_alone tt ((Ask (at f), Absent) ∷ []) refl

asked_then : GetReplies greatest_size alone ((makes_f, Okay) ∷ (Ask (at f), Has new_file) ∷ [])
unfolding content_of rank key_of_name name_fault bad_byte packed r5_from to_ends to_entry to_file to_free to_object
    to_parent
asked_then = computed greatest_size root_alone tt ((makes_f, Okay) ∷ (Ask (at f), Has new_file) ∷ []) refl

pub reply_before : product.reply (Ask (at f)) alone ≡ Absent
reply_before = ap first_reply asked_first

pub reply_then : product.reply (Ask (at f)) (product.after makes_f alone) ≡ Has new_file
reply_then = ap second_reply asked_then

-- ---- what was seen

names_apart : named_f.0 ≡ named_a.0 → ⊥
unfolding rank key_of_name packed
names_apart e = absurd (omega (arith, e))

swapped : (k : ℕ) (v : Option Value) → cond (eq_by_cmp nat_cmp k named_f.0) (Some named_f.1)
    (cond (eq_by_cmp nat_cmp k named_a.0) (Some named_a.1) v)
    ≡ cond (eq_by_cmp nat_cmp k named_a.0) (Some named_a.1) (cond (eq_by_cmp nat_cmp k named_f.0) (Some named_f.1) v)
swapped k v = by_keys (eq_by_cmp nat_cmp k named_f.0) (eq_by_cmp nat_cmp k named_a.0) refl refl
  where
    by_keys : (x y : Bool) → eq_by_cmp nat_cmp k named_f.0 ≡ x → eq_by_cmp nat_cmp k named_a.0 ≡ y
        → cond x (Some named_f.1) (cond y (Some named_a.1) v) ≡ cond y (Some named_a.1) (cond x (Some named_f.1) v)
    by_keys true true e g =
        let one = eqb-true k named_f.0 (sym (unsigned_tied k named_f.0) ∙ e) in
        let two = eqb-true k named_a.0 (sym (unsigned_tied k named_a.0) ∙ g) in
        absurd (names_apart (sym one ∙ two))
    by_keys true false e g = refl
    by_keys false true e g = refl
    by_keys false false e g = refl

rising_rises : Rises rising
unfolding rank key_of_name packed
rising_rises = tt

pub agree : (k : ℕ) → find nat_cmp k unsorted ≡ at_key (from_sorted rising) k
unfolding content_of
agree k = ap (cond (eq_by_cmp nat_cmp k root_of_two.0) (Some root_of_two.1)) (swapped k None)
    ∙ sym (at_content rising k rising_rises)

pub seen_reply : (ending (course greatest_size (Names root)) (of_seen unsorted)).reply ≡ Lists (f ∷ a ∷ [])
unfolding rank key_of_name name_fault bad_byte packed r5_from to_ends to_entry to_file to_free to_object to_parent
seen_reply = refl

pub rising_reply : reply greatest_size (Names root) (from_sorted rising) ≡ Lists (a ∷ f ∷ [])
unfolding content_of rank key_of_name name_fault bad_byte packed r5_from to_ends to_entry to_file to_free to_object
    to_parent
rising_reply = ap (λ s. (ending (course greatest_size (Names root)) s).reply) (same_source rising tt)

-- ---- lawful contents

abbrev body_key : ℕ
body_key = entry_rank root_object body_name

abbrev misnaming : Command
misnaming = Create (at body_name) (id 65537)

misnamed : at_key (after greatest_size misnaming (content_of root_alone)) body_key ≡ Some
    (Entry body_name (made body_name 65537))
unfolding rank key_of_name name_fault bad_byte packed r5_from to_ends to_entry to_file to_free to_object to_parent
misnamed =
    let done = list_command greatest_size misnaming root_alone tt in
    ap (λ m. at_key m body_key) done.0 ∙ at_content (list_after greatest_size misnaming root_alone) body_key done.2

of_body : minor_of (key_of_rank body_key) ≡ 4
unfolding rank key_of_rank key_of_name packed
of_body = refl

four_is_not_none : ◌≡◌ {A = ℕ} 4 0 → ⊥
four_is_not_none e = absurd (omega (arith, e))

pub bodies_lost : LosesBodies misnaming alone
unfolding content_of
bodies_lost bodies = four_is_not_none
    (sym of_body ∙ bodies.keys body_key (Entry body_name (made body_name 65537)) misnamed)

abbrev again : Command
again = Create (at f) (id 65536)

abbrev twice_named : Pairs
twice_named = list_after greatest_size again renamed_file

abbrev file : Target
file = made f 65536

file_object : IsObject file
unfolding key_of_name packed
file_object = (lit< tt, lit< tt, lit< tt)

renamed_rises : Rises renamed_file
unfolding rank key_of_name packed
renamed_rises = tt

twice_made : (after greatest_size again (content_of renamed_file) ≡ content_of twice_named) × Rises twice_named
twice_made = let done = list_command greatest_size again renamed_file renamed_rises in (done.0, done.2)

file_there : HasStat (content_of twice_named) file new_file
unfolding rank key_of_name name_fault bad_byte packed r5_from to_ends to_entry to_file to_free to_object to_parent
file_there = (file_object, at_content twice_named (stat_rank file) twice_made.1)

two_names : count_by (λ u. names_object file u.1) twice_named ≡ 2
unfolding rank key_of_name name_fault bad_byte packed r5_from to_ends to_entry to_file to_free to_object to_parent
two_names = refl

twice_entries : entries (content_of twice_named) ≡ twice_named
unfolding content_of
twice_entries = entries-from_sorted nat_cmp twice_named twice_made.1

one_is_not_two : ◌≡◌ {A = ℕ} 1 2 → ⊥
one_is_not_two e = absurd (omega (arith, e))

objects_lost_there : HasObjects (after greatest_size again (content_of renamed_file)) → ⊥
objects_lost_there h =
    let there = subst HasObjects twice_made.0 h in
    one_is_not_two (there.files file new_file file_there refl
    ∙ ap (count_by (λ (u : ℕ × Value). names_object file u.1)) twice_entries ∙ two_names)

pub objects_lost : LosesObjects again (from_sorted renamed_file)
unfolding content_of
objects_lost = objects_lost_there

pub alone_is_lawful : IsLawful greatest_size alone
unfolding content_of
alone_is_lawful = alone_lawful greatest_size

pub alone_unused : IsUnused alone (id 65537)
unfolding content_of rank
alone_unused = unused_in 65537 root_alone tt tt

pub renamed_lawful : IsLawful greatest_size (from_sorted renamed_file)
unfolding content_of rank key_of_name name_fault bad_byte packed r5_from to_ends to_entry to_file to_free to_object
    to_parent
renamed_lawful = run_lawful (again ∷ Rename (at f) (at a) ∷ []) (omega arith) tt

pub f_of_bytes : HasBytes (at f)
f_of_bytes = of_bytes (at f) tt
