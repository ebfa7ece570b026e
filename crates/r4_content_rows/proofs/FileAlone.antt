-- The root alone, and with a file, are lawful.
use Rattle.std.specs.Prelude.{◌≡◌, ◌+◌, ◌^◌, ◌<◌, ◌≤◌, ℕ, zero, suc, List, [], ◌∷◌, ◌==◌, Bool, true, false, Some}
use Rattle.std.specs.Prelude.{None, cond}
use Rattle.std.proofs.Common.{arith, refl, sym, ap, subst, ◌∙◌}
use Rattle.std.proofs.lemmas.Grind.{common_steps}
use Rattle.std.proofs.lemmas.Option.{same_Some}
use Rattle.std.specs.Cmp.{unsigned_tied}
use Rattle.std.specs.FinMap.{entries, entries-from_sorted, from_sorted}
use Rattle.std.specs.Ordering.{nat_cmp}
use Rattle.r4_base.specs.Key.{key_of_rank, rank}
use Rattle.r4_base.specs.Name.{bad_byte, key_of_name, name_fault, packed, r5_from}
use Rattle.r4_base.specs.Value.{Content, Entry, Stat, Value, at_key}
use Rattle.r4_base.specs.Volume.{HasObjects, HasStat, KeyFits, is_directory, root_object, stat_rank}
use Rattle.r4_base.specs.declared.items.Attr.{Attr}
use Rattle.r4_base.specs.declared.items.Target.{Target}
use Rattle.r4_content.specs.Examples.{at, f, id, one_entry}
use Rattle.r4_content.specs.Fields.{HasBytes, HasNumbers, IsUnused}
use Rattle.r4_content.specs.Lawful.{HasBodies, IsLawful}
use Rattle.r4_content.specs.Meaning.{after, greatest_size}
use Rattle.r4_content.specs.Objects.{new_directory, new_file}
use Rattle.r4_content.specs.Ways.{to_ends, to_entry, to_file, to_free, to_object, to_parent}
use Rattle.r4_content.specs.declared.command.Command.TheVariants.{Create, Truncate, Unlink}
use Rattle.r4_content.proofs.OneObject.{numbers_of}
use Rattle.r4_content.proofs.Ranks.{root_is_object, same_stat}
use Rattle.r4_content.proofs.SeenLaws.{at_content, content_of, list_command}
use Rattle.r4_content.proofs.Staying.{lawful_stays}
use Rattle.r4_content.proofs.Widths.{links_after, room_after}
use Rattle.r4_content_rows.specs.Conditions.{MayBeDone, empty_file, root_alone}

-- ---- the root alone

abbrev pub alone : Content
alone = content_of root_alone

is_key : (k b : ℕ) → (k == b) ≡ true → k ≡ b
is_key k b e = grind (arith, common_steps)

found : (k : ℕ) (v : Value) → at_key alone k ≡ Some v → (k ≡ stat_rank root_object) × (Stat new_directory ≡ v)
found k v at = split (k == stat_rank root_object) refl
    (sym (at_content root_alone k tt ∙ ap (λ (b : Bool). cond b (Some (Stat new_directory)) None)
    (unsigned_tied k (stat_rank root_object))) ∙ at)
  where
    split : (b : Bool) → (k == stat_rank root_object) ≡ b → cond b (Some (Stat new_directory)) None ≡ Some v
        → (k ≡ stat_rank root_object) × (Stat new_directory ≡ v)
    split true e is = (is_key k (stat_rank root_object) e, same_Some (Stat new_directory) v is)
    split false e is = absurd cc

same_attr : (a b : Attr) → Stat a ≡ Stat b → a ≡ b
same_attr a b e = cc

pub one_object : (o : Target) (a : Attr) → HasStat alone o a → (o ≡ root_object) × (a ≡ new_directory)
one_object o a h =
    let is = found (stat_rank o) (Stat a) h.1 in
    (same_stat o root_object h.0 root_is_object is.0, sym (same_attr new_directory a is.1))

root_there : HasStat alone root_object new_directory
unfolding rank
root_there = (root_is_object, at_content root_alone (stat_rank root_object) tt ∙ refl)

the_entries : entries alone ≡ root_alone
unfolding content_of
the_entries = entries-from_sorted nat_cmp root_alone tt

no_file : (o : Target) (a : Attr) → HasStat alone o a → is_directory a ≡ false → ⊥
no_file o a h file = let e : true ≡ false = sym (ap is_directory (one_object o a h).1) ∙ file in absurd cc

no_entry : (k : ℕ) (s : List ℕ) (o : Target) → at_key alone k ≡ Some (Entry s o) → ⊥
no_entry k s o at = let e = (found k (Entry s o) at).1 in absurd cc

alone_objects : HasObjects alone
alone_objects = record {
  root = (new_directory, root_there, refl);
  root_unnamed = rw the_entries refl;
  named_once = λ o a h dir other. absurd (other (one_object o a h).0);
  directories = λ o a h dir.
      let e = (one_object o a h).1 in
      (ap (λ (y : Attr). y.size) e ∙ rw the_entries refl, ap (λ (y : Attr). y.nlink) e ∙ rw the_entries refl);
  files = λ o a h file. absurd (no_file o a h file);
  holder = λ k s o at. absurd (no_entry k s o at);
  target = λ k s o at. absurd (no_entry k s o at);
  one_id = λ o p a b h g _. (one_object o a h).0 ∙ sym (one_object p b g).0;
  reached = λ o a h. (0, (one_object o a h).0);
}

root_fits : KeyFits alone (key_of_rank (stat_rank root_object)) (Stat new_directory)
unfolding rank key_of_rank
root_fits = (refl, refl)

alone_bodies : (limit : ℕ) → HasBodies limit alone
alone_bodies limit = record {
  keys = λ k v at.
      let is = found k v at in
      subst (λ (w : Value). KeyFits alone (key_of_rank k) w) is.1
      (subst (λ (j : ℕ). KeyFits alone (key_of_rank j) (Stat new_directory)) (sym is.0) root_fits);
  small = λ o a h file. absurd (no_file o a h file);
  offsets = λ o a h file. absurd (no_file o a h file);
  bytes = λ o a h. let e = (one_object o a h).1 in ap (λ (y : Attr). y.bytes) e ∙ ap (λ (y : Attr). y.size) (sym e);
}

pub alone_lawful : (limit : ℕ) → IsLawful limit alone
alone_lawful limit = record {
  objects = alone_objects;
  bodies = alone_bodies limit;
  room = λ o a h dir. let e = ap (λ (y : Attr). y.size) (one_object o a h).1 in omega (arith, e);
  links = λ o a h. let e = ap (λ (y : Attr). y.nlink) (one_object o a h).1 in omega (arith, e);
}

-- ---- with a file

abbrev making : Content
making = after greatest_size (Create (at f) (id 65536)) alone

pub one_byte : (x : ℕ) → x < 256 → HasBytes (at (x ∷ []))
one_byte x lt zero d h zero e g = lt
one_byte x lt zero d h (suc k) e g = absurd (omega (arith, g))
one_byte x lt (suc k) d h j e g = absurd (omega (arith, h))

pub f_is_bytes : HasBytes (at f)
f_is_bytes = one_byte 102 (omega arith)

unused : IsUnused alone (id 65536)
unused o a h is = let e = sym (ap (λ (t : Target). t.oid.0) (one_object o a h).0)
    ∙ ap (λ i. i.0) is in absurd (omega (arith, e))

made_lawful : IsLawful greatest_size making
made_lawful =
    let stays = lawful_stays greatest_size (Create (at f) (id 65536)) alone (omega arith)
    (alone_lawful greatest_size) f_is_bytes unused in
    record {
      objects = stays.0;
      bodies = stays.1;
      room = λ o a h dir.
          let r = room_after greatest_size (Create (at f) (id 65536)) alone 1 (omega arith)
          (alone_lawful greatest_size) f_is_bytes unused
          (λ p b g also. let e = ap (λ (y : Attr). y.size) (one_object p b g).1 in omega (arith, e)) o a h dir in
          omega (arith, r);
      links = links_after greatest_size (Create (at f) (id 65536)) alone (omega arith)
          (alone_lawful greatest_size) f_is_bytes unused;
    }

is_made : making ≡ content_of (one_entry f new_file)
unfolding rank key_of_name name_fault bad_byte packed r5_from to_ends to_entry to_file to_free to_object to_parent
is_made = (list_command greatest_size (Create (at f) (id 65536)) root_alone tt).0 ∙ refl

pub file_lawful : IsLawful greatest_size empty_file
unfolding content_of
file_lawful = subst (IsLawful greatest_size) is_made made_lawful

-- a limit that is higher is kept, too
pub higher : (low high : ℕ) (m : Content) → low ≤ high → IsLawful low m → IsLawful high m
higher low high m le lawful = record {
  objects = lawful.objects;
  bodies = record {
    keys = lawful.bodies.keys;
    small = λ o a h file. let small = lawful.bodies.small o a h file in omega (arith, small, le);
    offsets = lawful.bodies.offsets;
    bytes = lawful.bodies.bytes;
  };
  room = lawful.room;
  links = lawful.links;
}

pub lengthened : MayBeDone (2 ^ 64 + 1) (Truncate (at f) (2 ^ 64 + 1)) empty_file
lengthened = (higher greatest_size (2 ^ 64 + 1) empty_file (omega arith) file_lawful, f_is_bytes, tt)

pub unlinked : MayBeDone greatest_size (Unlink (at f)) empty_file
unlinked = (file_lawful, f_is_bytes, tt)

pub alone_numbers : HasNumbers (from_sorted root_alone)
unfolding content_of
alone_numbers = numbers_of greatest_size alone (omega arith) (alone_lawful greatest_size)

pub file_numbers : HasNumbers empty_file
file_numbers = numbers_of greatest_size empty_file (omega arith) file_lawful
