-- The keys that a command touches, with the byte that tells where its body stands.
use Rattle.std.proofs.Common.{◌≡◌, ◌⊎◌, inl, inr, ℕ, ◌+◌, ◌-◌, ◌<◌, ◌^◌, Bool, true, false, [], ◌∷◌, ◌++◌}
use Rattle.std.proofs.Common.{Option, Some, None, refl, sym, ap, subst, ◌∙◌, arith, option_map}
use Rattle.std.specs.Prelude.{if◌then◌else◌}
use Rattle.std.proofs.lemmas.Bool.{cases_Bool, or_cases, or_left, or_right}
use Rattle.r4_base.specs.Value.{Byte, Content}
use Rattle.r4_base.specs.Key.{key_of_rank}
use Rattle.r4_base.specs.Volume.{HasStat, byte_rank, is_directory, object_of, stat_rank}
use Rattle.r4_base.specs.declared.items.Attr.{Attr}
use Rattle.r4_base.specs.declared.items.Target.{Target}
use Rattle.r4_content.specs.Course.{asked}
use Rattle.r4_content.specs.Edited.{Edits, Intervals, Pairs, changed, edited, is_between, is_in}
use Rattle.r4_content.specs.Fields.{HasBytePaths, NamesUnused}
use Rattle.r4_content.specs.Lawful.{IsLawful}
use Rattle.r4_content.specs.Meaning.{course, greatest_size}
use Rattle.r4_content.specs.Seen.{IsSeen, of_seen}
use Rattle.r4_content.specs.declared.command.Command.{Command}
use Rattle.r4_content.proofs.EditLaws.{edited_off, in_append}
use Rattle.r4_content.specs.Locality.{commands}
use Rattle.r4_build.specs.Built.{IsBesideByte}
use Rattle.r4_build.specs.r4_reach.Touched.{Body, body_key, body_of, body_on, edits_on, kind_reads, last_byte, reads_on}
use Rattle.r4_sets_told.proofs.r4_sets.Bodies.{one_attr}
use Rattle.r4_sets_told.proofs.r4_sets.Carried.{byte_owner}
use Rattle.r4_sets_told.specs.Touched.{IsTouchedBy}
use Rattle.r4_applied.proofs.BodyTold.{bodies_then, byte_body, changes_alike, grows_where, key, kind_stat, last_is, reads_alike}
use Rattle.r4_applied.proofs.BodyTold.{same_edits, stat_read, told}

-- the keys that are read do not depend on where the body stands
kind_alike : (e : Edits) (s : Pairs) (o : Option ℕ) (ie : Bool)
    → kind_reads (option_map (body_of e s ie) o) ≡ kind_reads (option_map (body_of e s false) o)
kind_alike e s None ie = refl
kind_alike e s (Some k) ie = refl

pub reads_alone : (c : Command) (s : Pairs) (ie : Bool) → reads_on c s ie ≡ reads_on c s false
reads_alone c s ie =
    ap (λ (rs : Intervals). asked (course greatest_size c) (of_seen s) ++ rs)
    (kind_alike (edits_on c s) s (body_key (changed (edits_on c s))) ie)

module _ (c : Command) (s : Pairs) (n : Content) (saw : IsSeen greatest_size c s n)
    (lawful : IsLawful greatest_size n) (paths : HasBytePaths c) (unused : NamesUnused n c) where
  -- all keys that are read, and those that change
  abbrev pub all_touched : Intervals
  all_touched = reads_on c s false ++ changed (edits_on c s)

  read_in : (k : ℕ) → is_in (reads_on c s false) k ≡ true → is_in all_touched k ≡ true
  read_in k on =
      in_append (reads_on c s false) (changed (edits_on c s)) k
      ∙ or_left (is_in (reads_on c s false) k) (is_in (changed (edits_on c s)) k) on

  change_in : (k : ℕ) → is_in (changed (edits_on c s)) k ≡ true → is_in all_touched k ≡ true
  change_in k on =
      in_append (reads_on c s false) (changed (edits_on c s)) k
      ∙ or_right (is_in (reads_on c s false) k) (is_in (changed (edits_on c s)) k) on

  ask_in : (k : ℕ) → is_in (asked (course greatest_size c) (of_seen s)) k ≡ true → is_in (reads_on c s false) k ≡ true
  ask_in k on =
      in_append (asked (course greatest_size c) (of_seen s)) (kind_reads (body_on c s false)) k
      ∙ or_left (is_in (asked (course greatest_size c) (of_seen s)) k) (is_in (kind_reads (body_on c s false)) k) on

  -- a file that becomes longer has a key that changes
  grown : (o : Target) (a b : Attr) → HasStat n o a → is_directory a ≡ false → 0 < a.size
      → HasStat (edited (edits_on c s) n) o b → a.size < b.size
      → (y : ℕ) × (y < 2 ^ 64) × (is_in (changed (edits_on c s)) (byte_rank o y) ≡ true)
  grown o a b was file some now more = by_kind (is_directory b) refl
    where
      small : a.size < 2 ^ 64
      small = let le = lawful.bodies.small o a was file in omega (arith, le)

      by_kind : (t : Bool) → is_directory b ≡ t
          → (y : ℕ) × (y < 2 ^ 64) × (is_in (changed (edits_on c s)) (byte_rank o y) ≡ true)
      by_kind false kind = elim (cases_Bool (is_in (changed (edits_on c s)) (byte_rank o a.size))) [
        | inl on ↦ (a.size, small, on)
        | inr off ↦
            let (v, at) =
            ((bodies_then c s n saw lawful paths unused).offsets o b now kind a.size small).1 more in
            let below = (lawful.bodies.offsets o a was file a.size small).0
            (v, sym (edited_off (edits_on c s) n (byte_rank o a.size) off) ∙ at) in
            absurd (omega (arith, below))
      ]
      by_kind true kind = elim (cases_Bool (is_in (changed (edits_on c s)) (byte_rank o 0))) [
        | inl on ↦ (0, omega arith, on)
        | inr off ↦
            let (v, at) = (lawful.bodies.offsets o a was file 0 (omega arith)).1 some in
            let (_, (d, stat, other)) =
            (bodies_then c s n saw lawful paths unused).keys (byte_rank o 0) (Byte v)
            (edited_off (edits_on c s) n (byte_rank o 0) off ∙ at) in
            let there = subst (λ (p : Target). HasStat (edited (edits_on c s) n) p d)
            (byte_owner o 0 was.0 (omega arith)) stat in
            let same = one_attr (edited (edits_on c s) n) o b d now there in
            absurd (let f : true ≡ false = sym kind ∙ ap is_directory same ∙ other in cc)
      ]

  last_read : (o : Target) (a b : Attr) → HasStat n o a → is_directory a ≡ false → 0 < a.size
      → HasStat (edited (edits_on c s) n) o b → a.size < b.size → is_in all_touched (byte_rank o (a.size - 1)) ≡ true
  last_read o a b was file some now more =
      let (y, lt, on) = grown o a b was file some now more in
      read_in (byte_rank o (a.size - 1)) (by y lt on)
    where
      by : (y : ℕ) (lt : y < 2 ^ 64) → is_in (changed (edits_on c s)) (byte_rank o y) ≡ true
          → is_in (reads_on c s false) (byte_rank o (a.size - 1)) ≡ true
      by y lt on =
          in_append (asked (course greatest_size c) (of_seen s)) (kind_reads (body_on c s false))
          (byte_rank o (a.size - 1))
          ∙ or_right (is_in (asked (course greatest_size c) (of_seen s)) (byte_rank o (a.size - 1)))
          (is_in (kind_reads (body_on c s false)) (byte_rank o (a.size - 1)))
          (ap (λ (x : Option Body). is_in (kind_reads x) (byte_rank o (a.size - 1)))
          (told c s n saw lawful paths unused o was.0 y lt on false)
          ∙ ap (λ (t : Bool). is_in (if t then (last_byte d, last_byte d + 1) ∷ [] else []) (byte_rank o (a.size - 1)))
          (grows_where c s n saw lawful paths unused o was.0 y lt on false a b was now some more)
          ∙ ap (λ (q : ℕ). is_in ((q, q + 1) ∷ []) (byte_rank o (a.size - 1)))
          (last_is c s n saw lawful paths unused o was.0 y lt on false a was)
          ∙ or_left (is_between (byte_rank o (a.size - 1)) (byte_rank o (a.size - 1) + 1) (byte_rank o (a.size - 1)))
          false (Rattle.r4_content.proofs.CourseLaws.at_itself (byte_rank o (a.size - 1))))
        where
          d : Body
          d = body_of (edits_on c s) s false (key c s n saw lawful paths unused o was.0 y lt on)

  pub touched_by : IsTouchedBy greatest_size c n all_touched (changed (edits_on c s))
  touched_by = record {
    reads = λ k on. read_in k (ask_in k (reads_alike c s n saw lawful paths unused k ∙ on));
    changes = λ k on. changes_alike c s n saw lawful paths unused k ∙ on;
    within = change_in;
    bodies = λ o a y stat lt on. (y, lt, sym (changes_alike c s n saw lawful paths unused (byte_rank o y)) ∙ on);
    others = λ k on four. elim (or_cases (is_in (reads_on c s false) k) (is_in (changed (edits_on c s)) k)
        (sym (in_append (reads_on c s false) (changed (edits_on c s)) k) ∙ on)) [
          | inr change ↦ inl (inr (sym (changes_alike c s n saw lawful paths unused k) ∙ change))
          | inl read ↦ elim (or_cases (is_in (asked (course greatest_size c) (of_seen s)) k)
              (is_in (kind_reads (body_on c s false)) k)
              (sym (in_append (asked (course greatest_size c) (of_seen s)) (kind_reads
              (body_on c s false)) k) ∙ read)) [
                | inl asks ↦ inl (inl (sym (reads_alike c s n saw lawful paths unused k) ∙ asks))
                | inr shows ↦ inr (kind_stat c s n saw lawful paths unused false k shows)
              ]
        ];
    last_byte = λ o a b was file some now more. last_read o a b was file some
        (subst (λ (d : Edits). HasStat (edited d n) o b) (sym (same_edits c s n saw lawful paths unused)) now) more;
  }

  -- ---- with keys that are moved besides

  module _ (moved : Intervals)
      (own : (k : ℕ) → is_in moved k ≡ true → (is_in (changed (edits_on c s)) k ≡ true) ⊎ IsBesideByte (edits_on c s) k) where
    abbrev pub more_changed : Intervals
    more_changed = moved ++ changed (edits_on c s)

    abbrev pub more_touched : Intervals
    more_touched = reads_on c s false ++ (moved ++ changed (edits_on c s))

    change_more : (k : ℕ) → is_in (changed (edits_on c s)) k ≡ true → is_in (moved ++ changed (edits_on c s)) k ≡ true
    change_more k on =
        in_append moved (changed (edits_on c s)) k ∙ or_right (is_in moved k) (is_in (changed (edits_on c s)) k) on

    pub moved_in : (k : ℕ) → is_in moved k ≡ true → is_in (moved ++ changed (edits_on c s)) k ≡ true
    moved_in k on =
        in_append moved (changed (edits_on c s)) k ∙ or_left (is_in moved k) (is_in (changed (edits_on c s)) k) on

    -- it is one that changes, or beside a byte that does
    owned : (k : ℕ) → is_in (moved ++ changed (edits_on c s)) k ≡ true
        → (is_in (changed (edits_on c s)) k ≡ true) ⊎ IsBesideByte (edits_on c s) k
    owned k on = elim (or_cases (is_in moved k) (is_in (changed (edits_on c s)) k)
        (sym (in_append moved (changed (edits_on c s)) k) ∙ on)) [
          | inl move ↦ own k move
          | inr change ↦ inl change
        ]

    read_more : (k : ℕ) → is_in (reads_on c s false) k ≡ true
        → is_in (reads_on c s false ++ (moved ++ changed (edits_on c s))) k ≡ true
    read_more k on =
        in_append (reads_on c s false) (moved ++ changed (edits_on c s)) k
        ∙ or_left (is_in (reads_on c s false) k) (is_in (moved ++ changed (edits_on c s)) k) on

    touch_more : (k : ℕ) → is_in (moved ++ changed (edits_on c s)) k ≡ true
        → is_in (reads_on c s false ++ (moved ++ changed (edits_on c s))) k ≡ true
    touch_more k on =
        in_append (reads_on c s false) (moved ++ changed (edits_on c s)) k
        ∙ or_right (is_in (reads_on c s false) k) (is_in (moved ++ changed (edits_on c s)) k) on

    -- what a plain change touches is touched
    all_more : (k : ℕ) → is_in all_touched k ≡ true
        → is_in (reads_on c s false ++ (moved ++ changed (edits_on c s))) k ≡ true
    all_more k on = elim (or_cases (is_in (reads_on c s false) k) (is_in (changed (edits_on c s)) k)
        (sym (in_append (reads_on c s false) (changed (edits_on c s)) k) ∙ on)) [
          | inl read ↦ read_more k read
          | inr change ↦ touch_more k (change_more k change)
        ]

    pub touched_by_moves : IsTouchedBy greatest_size c n more_touched more_changed
    touched_by_moves = record {
      reads = λ k on. all_more k (touched_by.reads k on);
      changes = λ k on. change_more k (touched_by.changes k on);
      within = touch_more;
      bodies = λ o a y stat lt on. body_beside o a y stat lt (owned (byte_rank o y) on);
      others = λ k on four. elim (or_cases (is_in (reads_on c s false) k) (is_in (moved ++ changed (edits_on c s)) k)
          (sym (in_append (reads_on c s false) (moved ++ changed (edits_on c s)) k) ∙ on)) [
            | inl read ↦ touched_by.others k (read_in k read) four
            | inr change ↦ elim (owned k change) [
              | inl edit ↦ touched_by.others k (change_in k edit) four
              | inr beside ↦ inr (stat_beside k beside)
            ]
          ];
      last_byte = λ o a b was file some now more.
          all_more (byte_rank o (a.size - 1)) (touched_by.last_byte o a b was file some now more);
    }
      where
        body_beside : (o : Target) (a : Attr) (y : ℕ) → HasStat n o a → y < 2 ^ 64
            → (is_in (changed (edits_on c s)) (byte_rank o y) ≡ true) ⊎ IsBesideByte (edits_on c s) (byte_rank o y)
            → (z : ℕ) × (z < 2 ^ 64) × (is_in ((commands greatest_size).changes c n) (byte_rank o z) ≡ true)
        body_beside o a y stat lt (inl edit) = touched_by.bodies o a y stat lt edit
        body_beside o a y stat lt (inr beside) =
            let same : o ≡ beside.object =
            sym (byte_owner o y stat.0 lt) ∙ ap (λ (q : ℕ). object_of (key_of_rank q)) beside.key
            ∙ byte_owner beside.object beside.at beside.is beside.within in
            touched_by.bodies o a beside.other stat beside.small
            (ap (λ (p : Target). is_in (changed (edits_on c s)) (byte_rank p beside.other)) same ∙ beside.changes)

        stat_beside : (k : ℕ) → IsBesideByte (edits_on c s) k
            → is_in ((commands greatest_size).reads c n) (stat_rank (object_of (key_of_rank k))) ≡ true
        stat_beside k beside =
            let own_is : object_of (key_of_rank k) ≡ object_of (key_of_rank (byte_rank beside.object beside.other)) =
            ap (λ (q : ℕ). object_of (key_of_rank q)) beside.key
            ∙ byte_owner beside.object beside.at beside.is beside.within
            ∙ sym (byte_owner beside.object beside.other beside.is beside.small) in
            ap (λ (p : Target). is_in ((commands greatest_size).reads c n) (stat_rank p)) own_is
            ∙ stat_read c s n saw lawful paths unused (byte_rank beside.object beside.other) beside.changes
            (byte_body beside.object beside.other beside.is beside.small)
