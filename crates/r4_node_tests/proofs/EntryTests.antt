-- What the tests of directory items need of their calls.
use Rattle.std.proofs.Common.{◌≡◌, ℕ, ◌≤◌, false, List, [], length, take, Some, None, ap, ◌∙◌, arith}
use Rattle.std.proofs.lemmas.Bool.{le-ltb}
use Rattle.std.proofs.lemmas.List.{length-take-le, take_all}
use Rattle.r4_base.specs.declared.key.Key.{Key}
use Rattle.r4_base.specs.declared.items.Target.{Target}
use Rattle.r4_base.specs.Name.{is_long_key, key_of_name, name_fault, short_name_in}
use Rattle.r4_base.specs.Dir.{dir_fault, entries_of, entry_count}
use Rattle.r4_base.specs.Entries.{IsLawfulEntry}
use Rattle.r4_base.proofs.Dirs.{length-entries_of}
use Rattle.r4_base.proofs.EntryLists.{long_key}
use Rattle.r4_base.proofs.Names.{dir_is, key_spells}
use Rattle.r4_base.proofs.Numbers.{AreBytes}
use Rattle.r4_cde.specs.Edits.{GoesBetween, IsDirBody, given_entry, part_room}
use Rattle.r4_cde.proofs.Cuts.{body_laid, empty_count, no_entries}
use Rattle.r4_cde.proofs.Parts.{part_stands}

pub dir_body : (item : Key) (b : List ℕ) → dir_fault item b ≡ None → IsDirBody b
dir_body item b ok = record { key = item; accepted = ok }

-- the entries that a view counts
pub counted : (item : Key) (lent b : List ℕ) (n : ℕ) → lent ≡ b → n ≡ length (entries_of item lent) → n ≡ entry_count b
counted item lent b n same is = is ∙ length-entries_of item lent ∙ ap entry_count same

pub whole_count : (b : List ℕ) (n : ℕ) → n ≡ length b → entry_count (take n b) ≡ entry_count b
whole_count b n is = rw is (ap entry_count (take_all (length b) b (omega arith)))

-- a part takes no more than the whole
pub part_fits : (b : List ℕ) (first end : ℕ) → IsDirBody b → first ≤ end → end ≤ entry_count b → part_room b first end ≤ length b
part_fits b first end h order within =
    let st = part_stands b first end (body_laid b h) order within in
    let low = st.low in
    let up = st.order in
    let high = st.high in
    omega arith

pub short_form : (dir : ℕ) (s : List ℕ) (k : Key) → AreBytes s → length s ≤ 23 → k ≡ key_of_name dir s → is_long_key k ≡ false
short_form dir s k bytes short is = ap is_long_key is ∙ long_key dir s bytes ∙ le-ltb 23 (length s) short

pub short_entry : (dir : ℕ) (s : List ℕ) (k : Key) (t : Target) → AreBytes s → name_fault s ≡ None → length s ≤ 23 → k ≡ key_of_name dir s → IsLawfulEntry (given_entry k t None)
short_entry dir s k t bytes legal short is =
    let spelled : short_name_in k ≡ s = ap short_name_in is ∙ key_spells dir s bytes legal short in
    record { legal = ap name_fault spelled ∙ legal; key = rw (spelled, is) (ap (λ (d : ℕ). key_of_name d s) (dir_is dir s)) }

pub goes_alone : (k : Key) (b : List ℕ) → GoesBetween (entries_of k (take 0 b)) 0 k
goes_alone k b =
    let none : entries_of k (take 0 b) ≡ [] = no_entries k (take 0 b) (empty_count (take 0 b) (length-take-le 0 b (omega arith))) in
    record {
      above = λ i x e h. absurd (omega arith);
      below = λ y h. let bad : None ≡ Some y = rw none at h in absurd cc;
    }
