-- The body that a command's edits change, on what was seen: whose it is, and its size before and after.
use Rattle.std.proofs.Common.{◌≡◌, ◌⊎◌, inl, inr, ℕ, suc, ◌+◌, ◌*◌, ◌%◌, ◌-◌, ◌<◌, ◌^◌, ◌==◌, Bool, true, false}
use Rattle.std.proofs.Common.{[], ◌∷◌, Option, Some, None, refl, sym, ap, subst, ◌∙◌, arith, option_map}
use Rattle.std.specs.Prelude.{nat_lt, ◌&&◌, ◌||◌, if◌then◌else◌}
use Rattle.std.specs.FinMap.{find}
use Rattle.std.specs.Ordering.{nat_cmp}
use Rattle.std.proofs.Math.Decide.{dec_le}
use Rattle.std.proofs.Math.Nat.{lt_of_not-le}
use Rattle.std.proofs.lemmas.Bool.{and_parts, cases_Bool, eqb-true, lt-ltb, ltb-true, or_left, or_right}
use Rattle.std.proofs.lemmas.Option.{none-some}
use Rattle.r4_base.specs.Key.{key_of_rank, minor_of}
use Rattle.r4_base.specs.Value.{Byte, Content, Entry, Stat, Value, at_key}
use Rattle.r4_base.specs.Volume.{HasStat, IsObject, byte_rank, is_directory, object_of, stat_rank}
use Rattle.r4_base.specs.declared.items.Attr.{Attr}
use Rattle.r4_base.specs.declared.items.Target.{Target}
use Rattle.r4_base.proofs.Visible.{byte_back}
use Rattle.r4_content.specs.Course.{Ending, asked, ending, of_content}
use Rattle.r4_content.specs.Edited.{Edits, Intervals, Pairs, changed, edited, is_between, is_in}
use Rattle.r4_content.specs.Fields.{HasBytePaths, HasNumbers, NamesUnused}
use Rattle.r4_content.specs.Lawful.{HasBodies, IsLawful}
use Rattle.r4_content.specs.Listed.{list_edited}
use Rattle.r4_content.specs.Locality.{commands}
use Rattle.r4_content.specs.Meaning.{course, greatest_size}
use Rattle.r4_content.specs.Seen.{IsSeen, of_seen}
use Rattle.r4_content.specs.declared.command.Command.{Command}
use Rattle.r4_content.proofs.EditLaws.{edited_off, edited_on, in_append}
use Rattle.r4_content.proofs.OneObject.{numbers_of}
use Rattle.r4_content.proofs.Ranks.{between_is}
use Rattle.r4_content.proofs.SeenLaws.{at_content, content_of, edited_list, seen}
use Rattle.r4_content.proofs.StatsAsked.{stats_asked}
use Rattle.r4_content.proofs.Staying.{lawful_stays}
use Rattle.r4_build.specs.r4_reach.Reach.{is_body}
use Rattle.r4_build.specs.r4_reach.Touched.{Body, body_key, body_of, body_on, edits_on, grows, kind_reads, last_byte, reads_on}
use Rattle.r4_build.specs.r4_reach.Touched.{shown_at, size_in}
use Rattle.r4_build.proofs.r4_reach.FirstKeys.{first_is}
use Rattle.r4_sets_told.proofs.r4_sets.Carried.{byte_owner}
use Rattle.r4_sets_told.proofs.Bounded.{bounded}
use Rattle.r4_sets_told.proofs.Showing.{body_value, changed_there}
use Rattle.r4_applied.proofs.OneBody.{IsOneBody, file_is, first_of, of_file, one_body}
use Rattle.r4_applied.proofs.SeenThere.{asked_alike}

-- the key of a byte is a body's
pub byte_body : (o : Target) (x : ℕ) → IsObject o → x < 2 ^ 64 → is_body (byte_rank o x) ≡ true
byte_body o x is lt =
    let four : (o.locality * 16 + 4) % 16 ≡ 4 = omega arith in
    ap (λ k. minor_of k == 4) (byte_back o x is lt) ∙ ap (λ (y : ℕ). y == 4) four

module _ (c : Command) (s : Pairs) (n : Content) (saw : IsSeen greatest_size c s n)
    (lawful : IsLawful greatest_size n) (paths : HasBytePaths c) (unused : NamesUnused n c) where
  abbrev e : Edits
  e = edits_on c s

  pub same_edits : edits_on c s ≡ (ending (course greatest_size c) (of_content n)).edits
  same_edits = ap (λ (x : Ending). x.edits) (seen greatest_size c s n saw)

  pub one_file : IsOneBody (edits_on c s)
  one_file = subst IsOneBody (sym same_edits) (one_body greatest_size (omega arith) n lawful c paths unused)

  pub bodies_then : HasBodies greatest_size (edited (edits_on c s) n)
  bodies_then =
      subst (λ (d : Edits). HasBodies greatest_size (edited d n)) (sym same_edits)
      (lawful_stays greatest_size c n (omega arith) lawful paths unused).1

  numbers : HasNumbers n
  numbers = numbers_of greatest_size n (omega arith) lawful

  -- ---- what is read and changed

  pub changes_alike : (k : ℕ) → is_in (changed (edits_on c s)) k ≡ is_in ((commands greatest_size).changes c n) k
  changes_alike k = ap (λ (d : Edits). is_in (changed d) k) same_edits

  pub reads_alike : (k : ℕ) → is_in (asked (course greatest_size c) (of_seen s)) k
      ≡ is_in ((commands greatest_size).reads c n) k
  reads_alike k = ap (λ (rs : Intervals). is_in rs k) (asked_alike c s n saw)

  -- of a body that is changed the stat data were seen
  pub stat_read : (k : ℕ) → is_in (changed (edits_on c s)) k ≡ true → is_body k ≡ true
      → is_in ((commands greatest_size).reads c n) (stat_rank (object_of (key_of_rank k))) ≡ true
  stat_read k on body =
      stats_asked greatest_size c n (omega arith) numbers paths k (inr (sym (changes_alike k) ∙ on))
      (eqb-true (minor_of (key_of_rank k)) 4 body)

  pub stat_found : (k : ℕ) → is_in (changed (edits_on c s)) k ≡ true → is_body k ≡ true
      → find nat_cmp (stat_rank (object_of (key_of_rank k))) s ≡ at_key n (stat_rank (object_of (key_of_rank k)))
  stat_found k on body =
      saw.agrees (stat_rank (object_of (key_of_rank k)))
      (reads_alike (stat_rank (object_of (key_of_rank k))) ∙ stat_read k on body)

  -- what stands in the list afterwards
  pub list_then : (k : ℕ) → find nat_cmp k s ≡ at_key n k → find nat_cmp k (list_edited (edits_on c s) s)
      ≡ at_key (edited (edits_on c s) n) k
  list_then k same =
      let (is, rises) = edited_list (edits_on c s) s saw.rises in
      sym (at_content (list_edited (edits_on c s) s) k rises) ∙ ap (λ (m : Content). at_key m k) (sym is)
      ∙ elim (cases_Bool (is_in (changed (edits_on c s)) k)) [
        | inl on ↦ edited_on (edits_on c s) (content_of s) n k on
        | inr off ↦
            edited_off (edits_on c s) (content_of s) k off ∙ at_content s k saw.rises ∙ same
            ∙ sym (edited_off (edits_on c s) n k off)
      ]

  -- with the byte that tells where the body stands the stat data of its file are read
  pub kind_stat : (ie : Bool) (k : ℕ) → is_in (kind_reads (body_on c s ie)) k ≡ true
      → is_in ((commands greatest_size).reads c n) (stat_rank (object_of (key_of_rank k))) ≡ true
  kind_stat ie k on = by (body_key (changed (edits_on c s))) refl
    where
      none_on : (o : Option ℕ) → o ≡ None → is_in (kind_reads (option_map (body_of (edits_on c s) s ie) o)) k ≡ true
          → is_in ((commands greatest_size).reads c n) (stat_rank (object_of (key_of_rank k))) ≡ true
      none_on None is here = absurd (let f : false ≡ true = here in cc)
      none_on (Some j) is here = absurd (none-some j (sym is))

      by : (o : Option ℕ) → body_key (changed (edits_on c s)) ≡ o
          → is_in ((commands greatest_size).reads c n) (stat_rank (object_of (key_of_rank k))) ≡ true
      by None none = none_on (body_key (changed (edits_on c s))) none on
      by (Some j) found = grown (grows b) refl
        where
          b : Body
          b = body_of (edits_on c s) s ie j

          here : is_in (kind_reads (Some b)) k ≡ true
          here = ap (λ (o : Option ℕ). is_in (kind_reads (option_map (body_of (edits_on c s) s ie) o)) k)
              (sym found) ∙ on

          grown : (t : Bool) → grows b ≡ t
              → is_in ((commands greatest_size).reads c n) (stat_rank (object_of (key_of_rank k))) ≡ true
          grown false g =
              absurd (let f : false ≡ true = sym (ap (λ (t : Bool).
              is_in (if t then (last_byte b, last_byte b + 1) ∷ [] else []) k) g) ∙ here in cc)
          grown true g =
              let at : is_in ((last_byte b, last_byte b + 1) ∷ []) k ≡ true =
              sym (ap (λ (t : Bool). is_in (if t then (last_byte b, last_byte b + 1) ∷ [] else []) k) g) ∙ here in
              let (low, high) = between_is (last_byte b) (last_byte b + 1) k
              (only (is_between (last_byte b) (last_byte b + 1) k) at) in
              let same : k ≡ last_byte b = omega (arith, low, high) in
              let (first_on, first_body) = first_is (changed (edits_on c s)) j found in
              let some = and_parts (nat_lt 0 b.was) (nat_lt b.was b.now) g in
              let (o_is, small) = sized j first_on first_body (ltb-true 0 b.was some.0) in
              let owner = byte_owner b.file (b.was - 1) o_is (omega (arith, small)) in
              ap (λ (q : ℕ). is_in ((commands greatest_size).reads c n) (stat_rank (object_of (key_of_rank q)))) same
              ∙ ap (λ (p : Target). is_in ((commands greatest_size).reads c n) (stat_rank p)) owner
              ∙ stat_read j first_on first_body
            where
              only : (t : Bool) → (t || false) ≡ true → t ≡ true
              only true is = refl
              only false is = is

              sized : (j : ℕ) → is_in (changed (edits_on c s)) j ≡ true → is_body j ≡ true
                  → 0 < (body_of (edits_on c s) s ie j).was
                  → IsObject (object_of (key_of_rank j)) × ((body_of (edits_on c s) s ie j).was < 2 ^ 64)
              sized j first_on first_body some =
                  let is : object_of (key_of_rank j) ≡ one_file.file = file_is
                  (edits_on c s) one_file j first_on first_body in
                  let object = subst IsObject (sym is) one_file.object in (
                    object,
                    size_low (at_key n (stat_rank (object_of (key_of_rank j)))) refl object
                        (ap size_in (stat_found j first_on first_body)) some,
                  )
                where
                  size_low : (v : Option Value) → at_key n (stat_rank (object_of (key_of_rank j))) ≡ v
                      → IsObject (object_of (key_of_rank j)) → (body_of (edits_on c s) s ie j).was ≡ size_in v
                      → 0 < (body_of (edits_on c s) s ie j).was → (body_of (edits_on c s) s ie j).was < 2 ^ 64
                  size_low None at is same some = absurd (omega (arith, same, some))
                  size_low (Some (Stat a)) at is same some =
                      let size = numbers.sizes (object_of (key_of_rank j)) a (is, at) in
                      omega (arith, same, size)
                  size_low (Some (Entry m o)) at is same some = absurd (omega (arith, same, some))
                  size_low (Some (Byte x)) at is same some = absurd (omega (arith, same, some))

  -- ---- a file of which a byte's key is changed

  module _ (o : Target) (is : IsObject o) (y : ℕ) (lt : y < 2 ^ 64)
      (on : is_in (changed (edits_on c s)) (byte_rank o y) ≡ true) where
    -- it is the one whose body changes
    pub first : (j : ℕ) × (body_key (changed (edits_on c s)) ≡ Some j) × (is_in (changed (edits_on c s)) j ≡ true)
        × (is_body j ≡ true)
    first = first_of (edits_on c s) one_file (byte_rank o y) on (byte_body o y is lt)

    abbrev pub key : ℕ
    key = first.0

    pub owner : object_of (key_of_rank key) ≡ o
    owner =
        let (j, found, at, body) = first in
        file_is (edits_on c s) one_file j at body
        ∙ sym (file_is (edits_on c s) one_file (byte_rank o y) on (byte_body o y is lt)) ∙ byte_owner o y is lt

    pub told : (ie : Bool) → body_on c s ie ≡ Some (body_of (edits_on c s) s ie key)
    told ie = let (j, found, at, body) = first in ap (option_map (body_of (edits_on c s) s ie)) found

    seen_at : find nat_cmp (stat_rank (object_of (key_of_rank key))) s
        ≡ at_key n (stat_rank (object_of (key_of_rank key)))
    seen_at = let (j, found, at, body) = first in stat_found j at body

    pub was_is : (ie : Bool) (a : Attr) → HasStat n o a → (body_of (edits_on c s) s ie key).was ≡ a.size
    was_is ie a stat =
        ap size_in seen_at ∙ ap (λ (p : Target). size_in (at_key n (stat_rank p))) owner ∙ ap size_in stat.1

    pub now_is : (ie : Bool) (b : Attr) → HasStat (edited (edits_on c s) n) o b
        → (body_of (edits_on c s) s ie key).now ≡ b.size
    now_is ie b stat =
        ap size_in (list_then (stat_rank (object_of (key_of_rank key))) seen_at)
        ∙ ap (λ (p : Target). size_in (at_key (edited (edits_on c s) n) (stat_rank p))) owner ∙ ap size_in stat.1

    pub last_is : (ie : Bool) (a : Attr) → HasStat n o a
        → last_byte (body_of (edits_on c s) s ie key) ≡ byte_rank o (a.size - 1)
    last_is ie a stat =
        ap (λ (p : Target). byte_rank p ((body_of (edits_on c s) s ie key).was - 1)) owner
        ∙ ap (λ (m : ℕ). byte_rank o (m - 1)) (was_is ie a stat)

    pub grows_where : (ie : Bool) (a b : Attr) → HasStat n o a → HasStat (edited (edits_on c s) n) o b → 0 < a.size
        → a.size < b.size → grows (body_of (edits_on c s) s ie key) ≡ true
    grows_where ie a b was now some more =
        ap (λ (m : ℕ). nat_lt 0 m && nat_lt m (body_of (edits_on c s) s ie key).now) (was_is ie a was)
        ∙ ap (λ (m : ℕ). nat_lt 0 a.size && nat_lt a.size m) (now_is ie b now)
        ∙ (rw (lt-ltb 0 a.size some, lt-ltb a.size b.size more) refl)

    -- where it is not empty, one of its bytes tells where it stands: it is among the keys that are read or changed
    pub shown : (ie : Bool) (a : Attr) → HasStat n o a → is_directory a ≡ false → 0 < a.size
        → (z : ℕ) × (z < a.size) × (shown_at (body_of (edits_on c s) s ie key) ≡ byte_rank o z)
        × ((is_in (reads_on c s ie) (byte_rank o z) ≡ true) ⊎ (is_in (changed (edits_on c s)) (byte_rank o z) ≡ true))
    shown ie a stat file some = by (grows (body_of (edits_on c s) s ie key)) refl
      where
        b : Body
        b = body_of (edits_on c s) s ie key

        one_in : (q : ℕ) → is_in ((q, q + 1) ∷ []) q ≡ true
        one_in q = or_left (is_between q (q + 1) q) false (Rattle.r4_content.proofs.CourseLaws.at_itself q)

        by : (g : Bool) → grows b ≡ g → (z : ℕ) × (z < a.size) × (shown_at b ≡ byte_rank o z)
            × ((is_in (reads_on c s ie) (byte_rank o z) ≡ true)
            ⊎ (is_in (changed (edits_on c s)) (byte_rank o z) ≡ true))
        by true g = (
          a.size - 1,
          omega (arith, some),
          ap (λ (t : Bool). if t then last_byte b else b.first) g ∙ last_is ie a stat,
          inl (in_append (asked (course greatest_size c) (of_seen s)) (kind_reads (body_on c s ie)) (byte_rank o
              (a.size - 1))
              ∙ or_right (is_in (asked (course greatest_size c) (of_seen s)) (byte_rank o (a.size - 1)))
              (is_in (kind_reads (body_on c s ie)) (byte_rank o (a.size - 1))) reads),
        )
          where
            reads : is_in (kind_reads (body_on c s ie)) (byte_rank o (a.size - 1)) ≡ true
            reads =
                ap (λ (x : Option Body). is_in (kind_reads x) (byte_rank o (a.size - 1))) (told ie)
                ∙ ap (λ (t : Bool). is_in (if t then (last_byte b, last_byte b + 1) ∷ [] else [])
                (byte_rank o (a.size - 1))) g
                ∙ ap (λ (q : ℕ). is_in ((q, q + 1) ∷ []) (byte_rank o (a.size - 1))) (last_is ie a stat)
                ∙ one_in (byte_rank o (a.size - 1))
        by false g =
            let (j, found, at, body) = first in
            let (x, small, is_byte) = of_file (edits_on c s) one_file j at body in
            let same : one_file.file ≡ o = sym (file_is (edits_on c s) one_file j at body) ∙ owner in
            let here : j ≡ byte_rank o x = is_byte ∙ ap (λ (p : Target). byte_rank p x) same in
            let changes = ap (λ (q : ℕ). is_in (changed (edits_on c s)) q) (sym here) ∙ at in (
              x,
              below x small changes,
              ap (λ (t : Bool). if t then last_byte b else b.first) g ∙ here,
              inr changes,
            )
          where
            below : (x : ℕ) → x < 2 ^ 64 → is_in (changed (edits_on c s)) (byte_rank o x) ≡ true → x < a.size
            below x small changes = elim (dec_le (suc x) a.size) [
              | yes low ↦ low
              | no past ↦ elim (changed_there (edits_on c s) n (byte_rank o x) changes) [
                | inl there ↦
                    let (d, now, high) =
                    body_value greatest_size (edited (edits_on c s) n) o x bodies_then stat.0 small there in
                    let le = lt_of_not-le past in
                    let grown = grows_where ie a d stat now some (omega (arith, le, high)) in
                    absurd (let f : true ≡ false = sym grown ∙ g in cc)
                | inr cut ↦
                    (bounded greatest_size (omega arith) n lawful c paths unused).cuts o a x stat small
                    (ap (λ (d : Edits). is_in d.cuts (byte_rank o x)) (sym same_edits) ∙ cut)
              ]
            ]
