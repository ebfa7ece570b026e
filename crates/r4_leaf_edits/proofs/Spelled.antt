-- Values as items of a leaf.
use Rattle.std.specs.Prelude.{◌≡◌, ℕ, ◌+◌, ◌-◌, ◌*◌, ◌%◌, ◌^◌, ◌<◌, ◌≤◌, List, [], ◌∷◌, ◌++◌, length, map, Bool, Ok, None, Some, nat_le, slice_get, Option, if◌then◌else◌}
use Rattle.std.proofs.Common.{arith, refl, sym, ap, ◌∙◌, inl, inr}
use Rattle.std.specs.Option.{option_map}
use Rattle.std.proofs.lemmas.Bool.{and_from, le-leb}
use Rattle.std.proofs.lemmas.List.{nil_from_length}
use Rattle.std.proofs.lemmas.Option.{same_Some}
use Rattle.r4_base.specs.Cell.{entry_unit, fault_in, item_body_fault, item_end, item_units}
use Rattle.r4_base.specs.Dir.{Entry, entries_of, entry_at, entry_count, entry_key_at}
use Rattle.r4_base.specs.Key.{IsKey, offset_of, rank}
use Rattle.r4_base.specs.Node.{Item}
use Rattle.r4_base.specs.Stat.{attr_of, stat_of}
use Rattle.r4_base.specs.Value.{Stat, Entry as EntryValue}
use Rattle.r4_base.specs.declared.items.Attr.{Attr}
use Rattle.r4_base.specs.declared.items.CellFault.{CellFault}
use Rattle.r4_base.specs.declared.items.CellFault.TheVariants.{Dir, Stat as StatData, Tail}
use Rattle.r4_base.specs.declared.key.Key.{Key}
use Rattle.r4_base.proofs.Dirs.{get-entries_of, length-entries_of}
use Rattle.r4_content.specs.Objects.{byte_pairs}
use Rattle.r4_reach.specs.r4_leaf.Filling.{HasEntry, Receives}
use Rattle.r4_reach.specs.r4_leaf.Leaves.{MayBePut}
use Rattle.r4_reach.proofs.r4_leaf.CutPieces.{rank_is}
use Rattle.r4_reach.proofs.r4_leaf.EntryWritten.{no_count}
use Rattle.r4_leaf_edits.specs.Making.{IsUnit}
use Rattle.r4_leaf_edits.proofs.Clipped.{same_bytes}

-- ---- tails

abbrev pub tail_item : Key → List ℕ → Item
tail_item key xs = record { key = key; plugin = 6; body = xs }

pub record IsTailOf (key : Key) (xs : List ℕ) : Type 0 where
  pub put : MayBePut (tail_item key xs)
  pub units : item_units (tail_item key xs) ≡ byte_pairs (rank key) xs
  pub end : item_end (tail_item key xs) ≡ rank key + length xs

pub tail_is : (key : Key) (xs : List ℕ) → 1 ≤ length xs → offset_of key + length xs ≤ 16384 → IsTailOf key xs
unfolding item_body_fault item_units item_end
tail_is key xs some short = record {
  put = record {
    plugin = inr (inr refl);
    sound = ap (λ (b : Bool). let o : Option CellFault = if b then None else Some Tail in o)
        (and_from (nat_le 1 (length xs)) (nat_le (offset_of key + length xs) 16384) (le-leb _ _ some) (le-leb _ _ short));
  };
  units = same_bytes (rank key) xs;
  end = refl;
}

offset_in : (u o : ℕ) → o < 2 ^ 64 → (u * 2 ^ 64 + o) % 2 ^ 64 ≡ o
offset_in u o h = omega arith

pub offset_is : (k : Key) → IsKey k → offset_of k ≡ rank k % 2 ^ 64
offset_is k is = sym (ap (λ (r : ℕ). r % 2 ^ 64) (rank_is k) ∙ offset_in _ (offset_of k) (is.small 3))

-- ---- attributes and entries

pub stat_unit : (key : Key) (body : List ℕ) (a : Attr) → IsKey key → stat_of body ≡ Ok a → attr_of body ≡ a → IsUnit key (Stat a) (record { key = key; plugin = 0; body = body })
unfolding item_body_fault item_units item_end
stat_unit key body a key_is is fields = record {
  fits = key_is;
  units = ap (λ (b : Attr). (rank key, Stat b) ∷ []) fields;
  put = record { plugin = inl refl; sound = ap (λ r. option_map StatData (fault_in r)) is };
  same = refl;
  end = refl;
}

abbrev pub empty_item : Key → Item
empty_item key = record { key = key; plugin = 2; body = [] }

-- an item without entries may get one of its key
pub receives : (e : Entry) → IsKey e.key → Receives (empty_item e.key) 0 0 e
receives e is = record {
  long = refl;
  new = λ none. refl;
  key = is;
  same = refl;
  good = λ some. absurd (omega arith);
  count = sym (length-entries_of e.key [] ∙ no_count);
  above = λ k x next at. absurd (omega (arith, next));
}

one_there : (es : List Entry) (e d : Entry) → es ≡ e ∷ [] → slice_get es 0 ≡ Some d → d ≡ e
one_there es e d is at = sym (same_Some e d (sym (ap (λ (xs : List Entry). slice_get xs 0) is) ∙ at))

no_entries : (key : Key) → entries_of key [] ≡ []
no_entries key = nil_from_length (entries_of key []) (length-entries_of key [] ∙ no_count)

pub entry_unit_is : (e : Entry) (body : List ℕ) → IsKey e.key → HasEntry (empty_item e.key) e body → IsUnit e.key (EntryValue e.name e.target) (record { key = e.key; plugin = 2; body = body })
unfolding item_body_fault item_units item_end entry_at
entry_unit_is e body key_is has =
    let one : entries_of e.key body ≡ e ∷ [] = has.entries ∙ ap (λ (es : List Entry). es ++ e ∷ []) (no_entries e.key) in
    let count : entry_count body ≡ 1 = sym (length-entries_of e.key body) ∙ ap length one in
    let first : entry_at e.key body 0 ≡ e = one_there (entries_of e.key body) e (entry_at e.key body 0) one (get-entries_of e.key body 0 (omega (arith, count))) in
    record {
      fits = key_is;
      units = ap (map entry_unit) one;
      put = record { plugin = inr (inl refl); sound = ap (option_map Dir) has.good };
      same = refl;
      end = ap (λ (m : ℕ). rank (entry_key_at e.key body (m - 1)) + 1) count ∙ ap (λ (x : Entry). rank x.key + 1) first;
    }
