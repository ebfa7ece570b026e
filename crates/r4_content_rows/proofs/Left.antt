-- A byte that is left of a file that is gone.
use Rattle.std.specs.Prelude.{◌≡◌, ◌↔◌, ◌≤◌, ℕ, [], ◌∷◌, Bool, true, false, ◌==◌, Some, None, T, cond}
use Rattle.std.proofs.Common.{arith, refl, sym, ap, subst, inl, ◌∙◌}
use Rattle.std.proofs.lemmas.Grind.{common_steps}
use Rattle.std.proofs.lemmas.Option.{same_Some}
use Rattle.std.specs.FinMap.{find, insert}
use Rattle.std.specs.Ordering.{eq_by_cmp, nat_cmp}
use Rattle.r4_base.specs.Key.{key_of_rank, offset_of, rank}
use Rattle.r4_base.specs.Name.{bad_byte, key_of_name, name_fault, packed, r5_from}
use Rattle.r4_base.specs.Value.{Byte, Content, Entry, Stat, Value, at_key}
use Rattle.r4_base.specs.Volume.{HasStat, IsPadding, IsVisible, byte_rank, object_of, stat_rank}
use Rattle.r4_base.specs.declared.items.Attr.{Attr}
use Rattle.r4_content.specs.Course.{ending, of_content}
use Rattle.r4_content.specs.Edited.{Edits, Intervals, Pairs, changed, edited, is_in}
use Rattle.r4_content.specs.Examples.{at, f, made, one_entry}
use Rattle.r4_content.specs.Listed.{list_after}
use Rattle.r4_content.specs.Meaning.{after, course, greatest_size}
use Rattle.r4_content.specs.Objects.{new_file}
use Rattle.r4_content.specs.Units.{MovesUnits}
use Rattle.r4_content.specs.Ways.{to_ends, to_entry, to_file, to_free, to_object, to_parent}
use Rattle.r4_content.specs.declared.command.Command.TheVariants.{Unlink}
use Rattle.r4_content.proofs.Computed.{changes_listed}
use Rattle.r4_content.proofs.EditLaws.{at_insert, edited_off, edited_on}
use Rattle.r4_content.proofs.EditParts.{true_not_false}
use Rattle.r4_content.proofs.FileEdits.{put_itself}
use Rattle.r4_content.proofs.SeenLaws.{at_content, content_of, list_command}
use Rattle.r4_content_rows.specs.Conditions.{KeepsPadding, MovesButPadding, empty_file, unlinking, with_padding}

no_value : (v : Value) → None ≡ Some v → ⊥
no_value v e = cc

-- ---- a list without bytes

abbrev has_no_bytes : Pairs → Bool
has_no_bytes [] = true
has_no_bytes ((k, Stat a) ∷ s) = has_no_bytes s
has_no_bytes ((k, Entry n t) ∷ s) = has_no_bytes s
has_no_bytes ((k, Byte x) ∷ s) = false

finds_no_byte : (s : Pairs) (k x : ℕ) → T (has_no_bytes s) → find nat_cmp k s ≡ Some (Byte x) → ⊥
finds_no_byte [] k x h e = no_value (Byte x) e
finds_no_byte ((q, Stat a) ∷ s) k x h e = split (eq_by_cmp nat_cmp k q) (finds_no_byte s k x h) e
  where
    split : (b : Bool) → (find nat_cmp k s ≡ Some (Byte x) → ⊥) → cond b (Some (Stat a)) (find nat_cmp k s) ≡ Some
        (Byte x) → ⊥
    split true none e = cc
    split false none e = none e
finds_no_byte ((q, Entry n t) ∷ s) k x h e = split (eq_by_cmp nat_cmp k q) (finds_no_byte s k x h) e
  where
    split : (b : Bool) → (find nat_cmp k s ≡ Some (Byte x) → ⊥) → cond b (Some (Entry n t)) (find nat_cmp k s) ≡ Some
        (Byte x) → ⊥
    split true none e = cc
    split false none e = none e
finds_no_byte ((q, Byte y) ∷ s) k x h e = absurd h

-- ---- a byte behind the end of a file, in a content without bytes

is_key : (k b : ℕ) → (k == b) ≡ true → k ≡ b
is_key k b e = grind (arith, common_steps)

module _ (m : Content) (b x : ℕ) (none : at_key m b ≡ None) (bytes : (k y : ℕ) → at_key m k ≡ Some (Byte y) → ⊥)
    (a : Attr) (there : HasStat m (object_of (key_of_rank b)) a) (past : a.size ≤ offset_of (key_of_rank b))
    (apart : (stat_rank (object_of (key_of_rank b)) == b) ≡ false) where
  abbrev raw : Content
  raw = insert m b (Byte x)

  is_padding : IsPadding raw (key_of_rank b) (Byte x)
  is_padding = (
    a,
    (
      there.0,
      at_insert m b (Byte x) (stat_rank (object_of (key_of_rank b)))
          ∙ ap (λ (t : Bool). cond t (Some (Byte x)) (at_key m (stat_rank (object_of (key_of_rank b))))) apart
          ∙ there.1,
    ),
    past,
  )

  no_padding : (k : ℕ) (v : Value) → at_key m k ≡ Some v → IsPadding raw (key_of_rank k) v → ⊥
  no_padding k (Stat c) at p = p
  no_padding k (Entry n t) at p = p
  no_padding k (Byte y) at p = bytes k y at

  pub is_visible : IsVisible raw m
  is_visible k v = split (k == b) refl
    where
      split : (t : Bool) → (k == b) ≡ t
          → (at_key m k ≡ Some v) ↔ ((at_key raw k ≡ Some v) × (IsPadding raw (key_of_rank k) v → ⊥))
      split true e =
          let same = is_key k b e in
          let here : Some (Byte x) ≡ at_key raw k = sym
          (at_insert m b (Byte x) k ∙ ap (λ (t : Bool). cond t (Some (Byte x)) (at_key m k)) e) in (
            λ at. absurd (no_value v (sym none ∙ ap (at_key m) (sym same) ∙ at)),
            λ h. absurd (subst (λ (w : Value). IsPadding raw (key_of_rank k) w → ⊥)
                (sym (same_Some (Byte x) v (here ∙ h.0))) h.1
                (subst (λ (q : ℕ). IsPadding raw (key_of_rank q) (Byte x)) (sym same) is_padding)),
          )
      split false e =
          let same : at_key raw k ≡ at_key m k = at_insert m b (Byte x) k
          ∙ ap (λ (t : Bool). cond t (Some (Byte x)) (at_key m k)) e in
          (λ at. (same ∙ at, no_padding k v at), λ h. sym same ∙ h.0)

  module _ (e : Edits) (off : is_in (changed e) b ≡ false)
      (on : is_in (changed e) (stat_rank (object_of (key_of_rank b))) ≡ true)
      (gone : at_key (edited e m) (stat_rank (object_of (key_of_rank b))) ≡ None) where
    pub is_moved : MovesButPadding e m raw (edited e raw) (changed e)
    is_moved = (
      is_visible,
      λ k out. edited_off e raw k out,
      λ k in_it. inl
          (edited_on e raw m k in_it),
      λ k out in_it. absurd (true_not_false (sym in_it ∙ out)),
    )

    pub is_left : IsVisible (edited e raw) (edited e m) → ⊥
    is_left seen =
        let stays : at_key (edited e raw) b ≡ Some (Byte x) = edited_off e raw b off ∙ put_itself m b (Byte x) in
        let alone : IsPadding (edited e raw) (key_of_rank b) (Byte x)
        → ⊥ = λ p. no_value (Stat p.0) (sym (edited_on e raw m (stat_rank (object_of (key_of_rank b))) on ∙ gone)
        ∙ p.1.1) in
        no_value (Byte x) (sym (edited_off e m b off ∙ none) ∙ (seen b (Byte x)).1 (stays, alone))

-- ---- the file f

abbrev files : Pairs
files = one_entry f new_file

abbrev past_end : ℕ
past_end = byte_rank (made f 65536) 0

none_past_end : at_key (content_of files) past_end ≡ None
unfolding rank key_of_name packed
none_past_end = at_content files past_end tt ∙ refl

without_bytes : (k y : ℕ) → at_key (content_of files) k ≡ Some (Byte y) → ⊥
unfolding rank key_of_name packed
without_bytes k y at = finds_no_byte files k y tt (sym (at_content files k tt) ∙ at)

has_file : HasStat (content_of files) (object_of (key_of_rank past_end)) new_file
unfolding rank key_of_rank key_of_name packed
has_file = (
  (omega arith, omega arith, omega arith),
  at_content files
      (stat_rank (object_of (key_of_rank past_end))) tt ∙ refl,
)

nothing_below : new_file.size ≤ offset_of (key_of_rank past_end)
nothing_below = omega arith

other_key : (stat_rank (object_of (key_of_rank past_end)) == past_end) ≡ false
unfolding rank key_of_rank key_of_name packed
other_key = refl

abbrev removing : Edits
removing = (ending (course greatest_size (Unlink (at f))) (of_content (content_of files))).edits

byte_off : is_in (changed removing) past_end ≡ false
unfolding rank key_of_rank key_of_name name_fault bad_byte packed r5_from to_ends to_entry to_file to_free to_object
    to_parent
byte_off = ap (λ t. is_in t past_end) (changes_listed greatest_size (Unlink (at f)) files tt) ∙ refl

stat_on : is_in (changed removing) (stat_rank (object_of (key_of_rank past_end))) ≡ true
unfolding rank key_of_rank key_of_name name_fault bad_byte packed r5_from to_ends to_entry to_file to_free to_object
    to_parent
stat_on = ap (λ t. is_in t (stat_rank (object_of (key_of_rank past_end))))
    (changes_listed greatest_size (Unlink (at f)) files tt) ∙ refl

stat_gone : at_key (edited removing (content_of files)) (stat_rank (object_of (key_of_rank past_end))) ≡ None
unfolding rank key_of_rank key_of_name name_fault bad_byte packed r5_from to_ends to_entry to_file to_free to_object
    to_parent
stat_gone =
    let done = list_command greatest_size (Unlink (at f)) files tt in
    ap (λ (t : Content). at_key t (stat_rank (object_of (key_of_rank past_end)))) done.0
    ∙ at_content (list_after greatest_size (Unlink (at f)) files) (stat_rank (object_of (key_of_rank past_end)))
    done.2 ∙ refl

pub moved_but_padding : MovesButPadding unlinking empty_file with_padding (edited unlinking with_padding)
    (changed unlinking)
unfolding content_of
moved_but_padding = is_moved (content_of files) past_end 0 none_past_end without_bytes new_file has_file nothing_below
    other_key removing byte_off stat_on stat_gone

pub not_visible : IsVisible (edited unlinking with_padding) (after greatest_size (Unlink (at f)) empty_file) → ⊥
unfolding content_of
not_visible = is_left (content_of files) past_end 0 none_past_end without_bytes new_file has_file nothing_below
    other_key removing byte_off stat_on stat_gone

-- what is asked of moved units is this and that their padding is kept
pub but_padding : (e : Edits) (m raw units : Content) (moved : Intervals)
    → MovesUnits e m raw units moved ↔ (MovesButPadding e m raw units moved × KeepsPadding e m raw moved)
but_padding e m old units moved = (
  λ h. ((h.visible, h.kept, h.made, h.spared), h.padding),
  λ (but, padding). record
      { visible = but.0; kept = but.1; made = but.2; spared = but.3; padding = padding },
)
