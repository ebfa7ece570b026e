-- What is kept after commands, one after another.
use Rattle.std.specs.Prelude.{◌≡◌, ℕ, suc, ◌+◌, List, [], ◌∷◌, ◌++◌, length, reverse, slice_get, take, Some}
use Rattle.std.proofs.Common.{arith, refl, sym, ap, subst, ◌∙◌}
use Rattle.std.proofs.Math.Seq.{take-suc}
use Rattle.std.proofs.lemmas.Cmp.{nat_cmp_total}
use Rattle.std.proofs.lemmas.List.{length-reverse, reverse-append, reverse-reverse, take_all}
use Rattle.std.proofs.lemmas.List.Concat.{flat_map-cons}
use Rattle.std.proofs.lemmas.List.Elements.{All-cons, All-nil}
use Rattle.std.proofs.lemmas.Option.{get_or_from_slice_get, slice_get_within}
use Rattle.std.specs.FinMap.{empty, entries, entries-from_sorted, entries-insert, entries_sorted, from_sorted, same_entries_map}
use Rattle.std.specs.Ordering.{nat_cmp}
use Rattle.r4_base.proofs.FreshVolume.{none_in_empty, root_rank}
use Rattle.r4_base.specs.Key.{least, rank}
use Rattle.r4_base.specs.Value.{Content, Stat}
use Rattle.r4_base.specs.Volume.{empty_volume, root_attr, root_object, stat_rank}
use Rattle.r4_base.specs.declared.key.Key.{Key}
use Rattle.r4_base.specs.declared.values.Value.TheVariants.{Attr as HeldAttr}
use Rattle.r4_content.proofs.Refusals.{reading_leaves}
use Rattle.r4_content.proofs.SeenLaws.{content_of, list_command}
use Rattle.r4_content.specs.Course.{Ending, ending}
use Rattle.r4_content.specs.Edited.{Pairs}
use Rattle.r4_content.specs.Held.{edits_of, fill_pairs, interval_of, pair_of, part_pairs, run_pairs}
use Rattle.r4_content.specs.declared.edits.Edits.{Edits as HeldEdits}
use Rattle.std.specs.List.{flat_map}
use Rattle.std.specs.Prelude.{map}
use Rattle.r4_content.specs.Listed.{list_after, list_cut}
use Rattle.r4_content.specs.Meaning.{after, course, greatest_size}
use Rattle.r4_content.specs.Reading.{OnlyReads}
use Rattle.r4_content.specs.Seen.{of_seen}
use Rattle.r4_content.specs.declared.command.Command.{Command}
use Rattle.r4_content.specs.declared.seen.SeenPart.{SeenPart}
use Rattle.r4_content.specs.declared.seen.SeenPart.TheVariants.{One}
use Rattle.r4_summary.proofs.Blind.{same_end}
use Rattle.r4_summary.proofs.KeptEdits.{edits_kept, puts_append}
use Rattle.r4_summary.specs.Kept.{AreKept, IsOne, Keeps, kept_edited, kept_puts, pairs_in, without_bytes}
use Rattle.r4_trace.specs.declared.entry.Entry.{Entry}

-- the entries of a content after a command
listed_after : (limit : ℕ) (c : Command) (m : Content) → entries (after limit c m) ≡ list_after limit c (entries m)
unfolding content_of
listed_after limit c m =
    let is : m ≡ from_sorted (entries m) = same_entries_map m (from_sorted (entries m)) (sym (entries-from_sorted nat_cmp (entries m) (entries_sorted m))) in
    let done = list_command limit c (entries m) (entries_sorted m) in
    ap (λ n. entries (after limit c n)) is ∙ ap entries done.0 ∙ entries-from_sorted nat_cmp (list_after limit c (entries m)) done.2

-- what is kept after a command that changes something
after_kept : (c : Command) (m : Content) → (OnlyReads c → ⊥)
    → without_bytes (entries (after greatest_size c m)) ≡ kept_edited (ending (course greatest_size c) (of_seen (without_bytes (entries m)))).edits (without_bytes (entries m))
after_kept c m h =
    ap without_bytes (listed_after greatest_size c m)
    ∙ edits_kept (ending (course greatest_size c) (of_seen (entries m))).edits (entries m) (entries_sorted m)
    ∙ ap (λ (e : Ending). kept_edited e.edits (without_bytes (entries m))) (same_end greatest_size c (entries m) h (entries_sorted m))

pub changed_kept : (c : Command) (ps qs : List SeenPart) (e : Ending) → (OnlyReads c → ⊥) → e ≡ ending (course greatest_size c) (of_seen (pairs_in ps))
    → AreKept qs × (pairs_in qs ≡ kept_edited e.edits (pairs_in ps))
    → (m : Content) → Keeps ps m → Keeps qs (after greatest_size c m)
changed_kept c ps qs e h is made m k = record {
  kept = made.0;
  pairs = made.1 ∙ ap (λ (x : Ending). kept_edited x.edits (pairs_in ps)) is
      ∙ ap (λ s. kept_edited (ending (course greatest_size c) (of_seen s)).edits s) k.pairs
      ∙ sym (after_kept c m h);
}

pub unchanged_kept : (c : Command) (ps : List SeenPart) → OnlyReads c → (m : Content) → Keeps ps m → Keeps ps (after greatest_size c m)
unchanged_kept c ps h m k = subst (Keeps ps) (sym (reading_leaves greatest_size c m h)) k

-- ---- the empty volume

the_entries : entries empty_volume ≡ (least, Stat root_attr) ∷ []
unfolding empty_volume
the_entries = entries-insert nat_cmp_total empty least (Stat root_attr) ∙ rw none_in_empty refl

pub root_kept : (k : Key) (ps : List SeenPart) → rank k ≡ stat_rank root_object → ps ≡ One k (HeldAttr root_attr) ∷ [] → Keeps ps empty_volume
root_kept k ps is e =
    let pairs : pairs_in (One k (HeldAttr root_attr) ∷ []) ≡ (least, Stat root_attr) ∷ [] =
    flat_map-cons part_pairs (One k (HeldAttr root_attr)) [] ∙ ap (λ q. (q, Stat root_attr) ∷ []) (is ∙ root_rank) in
    subst (λ qs. Keeps qs empty_volume) (sym e) (record {
      kept = record { ones = All-cons IsOne (One k (HeldAttr root_attr)) [] tt (All-nil IsOne); rises = subst (λ s. Rattle.r4_content.specs.Seen.Rises s) (sym pairs) tt };
      pairs = pairs ∙ sym (ap without_bytes the_entries);
    })

-- ---- the entries of a trace

-- the first n of them, the newest first
abbrev pub first_ones : (n : ℕ) → List Entry → List Entry
first_ones n trace = reverse (take n (reverse trace))

pub one_more : (trace : List Entry) (i : ℕ) (x : Entry) → slice_get (reverse trace) i ≡ Some x → first_ones (i + 1) trace ≡ x ∷ first_ones i trace
one_more trace i x at =
    let e : i + 1 ≡ suc i = omega arith in
    let next = take-suc (reverse trace) i x (slice_get_within (reverse trace) i x at)
    ∙ ap (λ (y : Entry). take i (reverse trace) ++ (y ∷ [])) (get_or_from_slice_get (reverse trace) i x x at) in
    ap (λ n. first_ones n trace) e ∙ ap reverse next ∙ reverse-append (take i (reverse trace)) (x ∷ [])

pub all_of_them : (trace : List Entry) → first_ones (length trace) trace ≡ trace
all_of_them trace =
    ap reverse (ap (λ (n : ℕ). take n (reverse trace)) (sym (length-reverse trace)) ∙ take_all (length (reverse trace)) (reverse trace) (omega arith))
    ∙ reverse-reverse trace

-- edits, one list after another
pub edit_steps : (e : HeldEdits) (s a b x y : Pairs) → a ≡ list_cut (map interval_of e.cuts.items) s → b ≡ list_cut (map interval_of e.zeros.items) a
    → x ≡ kept_puts (flat_map fill_pairs e.fills.items) b → y ≡ kept_puts (flat_map run_pairs e.runs.items) x
    → kept_puts (map pair_of e.puts.items) y ≡ kept_edited (edits_of e) s
edit_steps e s a b x y cuts zeros fills runs =
    let fs = flat_map fill_pairs e.fills.items in
    let rs = flat_map run_pairs e.runs.items in
    let ps = map pair_of e.puts.items in
    ap (kept_puts ps) (runs ∙ ap (kept_puts rs) (fills ∙ ap (kept_puts fs) (zeros ∙ ap (list_cut (map interval_of e.zeros.items)) cuts)))
    ∙ sym (puts_append fs (rs ++ ps) (list_cut (map interval_of e.zeros.items) (list_cut (map interval_of e.cuts.items) s))
    ∙ puts_append rs ps (kept_puts fs (list_cut (map interval_of e.zeros.items) (list_cut (map interval_of e.cuts.items) s))))
