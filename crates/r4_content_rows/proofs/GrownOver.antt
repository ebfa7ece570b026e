-- A file that grows over the stat data of another one.
use Rattle.std.specs.Prelude.{◌≡◌, ◌+◌, ◌^◌, ℕ, [], ◌∷◌, Bool, true, false, not, ◌&&◌, ◌||◌, ◌==◌, Some, T, cond}
use Rattle.std.specs.Prelude.{if◌then◌else◌}
use Rattle.std.proofs.Common.{arith, refl, sym, ap, ◌∙◌}
use Rattle.std.proofs.lemmas.Bool.{eqb-true}
use Rattle.std.proofs.lemmas.Grind.{common_steps}
use Rattle.std.specs.Cmp.{unsigned_tied}
use Rattle.std.specs.FinMap.{find, from_sorted}
use Rattle.std.specs.Ordering.{nat_cmp}
use Rattle.r4_base.specs.Key.{key_of_rank, rank}
use Rattle.r4_base.specs.Name.{bad_byte, key_of_name, name_fault, packed, r5_from}
use Rattle.r4_base.specs.Value.{Byte, Content, Stat, at_key}
use Rattle.r4_base.specs.Volume.{byte_rank, is_stat_value, objects_in, stat_rank}
use Rattle.r4_base.specs.declared.items.Attr.{Attr}
use Rattle.r4_content.specs.Counts.{gone, stats_in}
use Rattle.r4_content.specs.Course.{ending}
use Rattle.r4_content.specs.Edited.{Pairs, is_in}
use Rattle.r4_content.specs.Examples.{at, f, made}
use Rattle.r4_content.specs.Meaning.{after, course}
use Rattle.r4_content.specs.Objects.{new_file, sized}
use Rattle.r4_content.specs.Seen.{of_seen}
use Rattle.r4_content.specs.Ways.{to_ends, to_entry, to_file, to_free, to_object, to_parent}
use Rattle.r4_content.specs.declared.command.Command.TheVariants.{Truncate}
use Rattle.r4_content.proofs.Counting.{first_holds, second_holds}
use Rattle.r4_content.proofs.EditParts.{true_not_false}
use Rattle.r4_content.proofs.ObjectCounts.{has_stat, one_more_or_less, stat_here}
use Rattle.r4_content.proofs.SeenLaws.{at_content, content_of, same_source}
use Rattle.r4_content_rows.specs.Conditions.{LosesOne, lower_file, two_files}
use Rattle.r4_content_rows.proofs.Beyond.{at_after, now_at}

-- ---- lists in which stat data stand in an interval at one key alone

abbrev is_there : (from to k : ℕ) → Bool
is_there from to k = is_in ((from, to) ∷ []) k

abbrev only_one : (q from to : ℕ) → Pairs → Bool
only_one q from to [] = true
only_one q from to (e ∷ s) = (not (is_stat_value e.1) || (e.0 == q || not (is_there from to e.0))) && only_one q from
    to s

no_stat : (stat same there : Bool) → T (not stat || (same || not there)) → same ≡ false → there ≡ true → stat ≡ false
no_stat false same there h off on = refl
no_stat true true there h off on = absurd (true_not_false off)
no_stat true false true h off on = absurd h
no_stat true false false h off on = absurd (true_not_false (sym on))

not_key : (k q : ℕ) → (k ≡ q → ⊥) → (k == q) ≡ false
not_key k q ne = grind (arith, common_steps)

found_none : (q from to : ℕ) (s : Pairs) (k : ℕ) → T (only_one q from to s) → is_there from to k ≡ true → (k ≡ q → ⊥)
    → has_stat (find nat_cmp k s) ≡ false
found_none q from to [] k h there ne = refl
found_none q from to (p ∷ s) k h there ne =
    let one = first_holds (not (is_stat_value p.1) || (p.0 == q || not (is_there from to p.0)))
    (only_one q from to s) h in
    let rest = second_holds (not (is_stat_value p.1) || (p.0 == q || not (is_there from to p.0)))
    (only_one q from to s) h in
    ap (λ (b : Bool). has_stat (cond b (Some p.1) (find nat_cmp k s))) (unsigned_tied k p.0)
    ∙ split one (k == p.0) refl (found_none q from to s k rest there ne)
  where
    split : T (not (is_stat_value p.1) || (p.0 == q || not (is_there from to p.0))) → (b : Bool) → (k == p.0) ≡ b
        → has_stat (find nat_cmp k s) ≡ false → has_stat (cond b (Some p.1) (find nat_cmp k s)) ≡ false
    split one true is rest =
        let same = eqb-true k p.0 is in
        no_stat (is_stat_value p.1) (p.0 == q) (is_there from to p.0) one (not_key p.0 q (λ e. ne (same ∙ e)))
        (ap (is_there from to) (sym same) ∙ there)
    split one false is rest = rest

-- zeros in the interval, and stat data that are set where there are some
still_there : (q from to own : ℕ) (b : Attr) (s : Pairs) → T (only_one q from to s)
    → has_stat (find nat_cmp own s) ≡ true → (k : ℕ) → (k ≡ q → ⊥)
    → has_stat (find nat_cmp k s) ≡ has_stat
    (cond (k == own) (Some (Stat b)) (cond (is_there from to k) (Some (Byte 0)) (find nat_cmp k s)))
still_there q from to own b s only has k ne = split (k == own) (is_there from to k) refl refl
  where
    split : (x y : Bool) → (k == own) ≡ x → is_there from to k ≡ y
        → has_stat (find nat_cmp k s) ≡ has_stat (cond x (Some (Stat b)) (cond y (Some (Byte 0)) (find nat_cmp k s)))
    split true y is there = ap (λ (j : ℕ). has_stat (find nat_cmp j s)) (eqb-true k own is) ∙ has
    split false true is there = found_none q from to s k only there ne
    split false false is there = refl

-- ---- the two files

abbrev far : ℕ
far = 2 ^ 196

abbrev kept : Content
kept = content_of two_files

abbrev grown : Content
grown = after far (Truncate (at f) far) kept

abbrev own_key : ℕ
own_key = stat_rank (made f 65536)

abbrev lost_key : ℕ
lost_key = stat_rank lower_file

now_there : (k : ℕ) → at_key grown k ≡ cond (k == own_key) (Some (Stat (sized new_file far)))
    (cond (is_there (byte_rank (made f 65536) 0) (byte_rank (made f 65536) far) k) (Some (Byte 0))
    (find nat_cmp k two_files))
unfolding rank key_of_rank key_of_name name_fault bad_byte packed r5_from to_ends to_entry to_file to_free to_object
    to_parent
now_there k = at_after far (Truncate (at f) far) two_files k tt
    ∙ ap (now_at (ending (course far (Truncate (at f) far)) (of_seen two_files)).edits k) (at_content two_files k tt)

only_lower : T (only_one lost_key (byte_rank (made f 65536) 0) (byte_rank (made f 65536) far) two_files)
unfolding rank key_of_name packed
only_lower = tt

own_stat : has_stat (find nat_cmp own_key two_files) ≡ true
unfolding rank key_of_name packed
own_stat = refl

others : (k : ℕ) → (k ≡ lost_key → ⊥) → has_stat (at_key kept k) ≡ has_stat (at_key grown k)
unfolding rank key_of_name packed
others k ne =
    ap has_stat (at_content two_files k tt)
    ∙ still_there lost_key (byte_rank (made f 65536) 0) (byte_rank (made f 65536) far) own_key
    (sized new_file far) two_files only_lower own_stat k ne
    ∙ ap has_stat (sym (now_there k))

lost_before : stat_here kept lost_key ≡ 1
unfolding rank key_of_name packed
lost_before = ap (λ v. if has_stat v then 1 else 0) (at_content two_files lost_key tt) ∙ refl

lost_after : stat_here grown lost_key ≡ 0
unfolding rank key_of_name packed
lost_after = ap (λ v. if has_stat v then 1 else 0) (now_there lost_key) ∙ refl

one_less : objects_in grown + 1 ≡ objects_in kept
one_less = let e = one_more_or_less kept grown lost_key others in omega (arith, e, lost_before, lost_after)

none_gone : gone far (Truncate (at f) far) kept ≡ 0
unfolding rank key_of_rank key_of_name name_fault bad_byte packed r5_from to_ends to_entry to_file to_free to_object
    to_parent
none_gone = ap (λ t. stats_in (ending (course far (Truncate (at f) far)) t).edits.cuts) (same_source two_files tt)
    ∙ refl

pub one_lost : LosesOne (2 ^ 196) (Truncate (at f) (2 ^ 196)) (from_sorted two_files)
unfolding content_of
one_lost = (refl, none_gone, one_less)
