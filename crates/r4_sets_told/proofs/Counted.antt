-- The contents of chosen transactions, from a lawful content on.
use Rattle.std.specs.Prelude.{◌≡◌, ◌⊎◌, ℕ, ◌+◌, ◌^◌, ◌<◌, ◌≤◌, Bool, true, false, cond, List, [], ◌∷◌, Option, Some}
use Rattle.std.specs.Prelude.{◌&&◌}
use Rattle.std.proofs.Common.{arith, inl, inr, refl, sym, ap, subst, ◌∙◌}
use Rattle.r4_base.specs.Value.{Content, at_key}
use Rattle.r4_base.specs.Volume.{HasIds, HasStat, objects_in}
use Rattle.r4_base.specs.declared.items.Attr.{Attr}
use Rattle.r4_base.specs.declared.items.Target.{Target}
use Rattle.r4_base.specs.declared.superblock.Super40.{Super40}
use Rattle.r4_base.specs.declared.things.Oid.{Oid}
use Rattle.r4_content.specs.Counts.{born, gone, is_okay, stats_in}
use Rattle.r4_content.specs.Fields.{NamesUnused}
use Rattle.r4_content.specs.Lawful.{IsLawful, RoomFor}
use Rattle.r4_content.specs.Locality.{IsLocal, Meaning, Touches, commands}
use Rattle.r4_content.specs.Meaning.{after, course, makes_object}
use Rattle.r4_content.specs.declared.command.Command.{Command}
use Rattle.r4_content.specs.declared.command.Command.TheVariants.{Create, Mkdir}
use Rattle.r4_content.specs.declared.reply.Reply.{Reply}
use Rattle.r4_content.proofs.CourseLaws.{same_course}
use Rattle.r4_content.proofs.ObjectsMade.{as_number, objects_after}
use Rattle.r4_content.proofs.Staying.{lawful_stays}
use Rattle.r4_content.proofs.Widths.{links_after, room_after}
use Rattle.r4_sets.specs.r4_trace.Folds.{HasItsReplies, content_of, everything}
use Rattle.r4_sets.specs.r4_trace.Ids.{HasNewIds, IsDrawn, IsNewId, Start, id_of, no_id}
use Rattle.r4_sets.specs.r4_trace.Job.{Asked}
use Rattle.r4_sets.specs.r4_trace.declared.entry.Entry.{Entry}
use Rattle.r4_sets.specs.r4_trace.declared.entry.Entry.TheVariants.{Done}
use Rattle.r4_sets.specs.Session.{FindsAlike}
use Rattle.r4_sets_told.specs.Runs.{CountsObjects, HavePaths, IsKnown, IsLawfulRun, born_in, dones_in, gone_in}
use Rattle.r4_sets_told.proofs.Bounded.{was_or_drawn}

-- ---- replies

module _ (w : Meaning Command Reply) (loc : IsLocal w) (start : Content) (s : ℕ → Bool) where
  pub replies_follow : (trace : List Entry) → HasItsReplies w start everything trace → FindsAlike w start s trace
      → HasItsReplies w start s trace
  replies_follow [] r f = tt
  replies_follow (Done t q i x y ∷ older) r f = (
    λ e. r.0 refl ∙ loc.same_reply x (content_of w start everything older) (content_of w start s older)
        (λ k h. sym (f.0 e k (inl h))),
    replies_follow older r.1 f.1,
  )
  replies_follow (e ∷ older) r f = replies_follow older r f

-- ---- lawful contents

module _ (limit : ℕ) (lt : limit < 2 ^ 64) (start : Start) (job : Option Asked) (s : ℕ → Bool) where
  abbrev at : List Entry → Content
  at trace = content_of (commands limit) start.content s trace

  -- lawful, with room, and with objects that are known
  pub record Good (trace : List Entry) (m : Content) : Type 0 where
    pub lawful : IsLawful limit m
    pub room : (n : ℕ) → RoomFor (dones_in trace + n) start.content → RoomFor n m
    pub known : (o : Target) (a : Attr) → HasStat m o a → IsKnown start trace o

  pub names_unused : (older : List Entry) (m : Content) (x : Command)
      → ((i : ℕ) → id_of x ≡ Some i → IsNewId (Some start) job older i)
      → ((o : Target) (a : Attr) → HasStat m o a → IsKnown start older o) → NamesUnused m x
  names_unused older m x new known = of_command x new
    where
      of_known : (oid : Oid) → IsNewId (Some start) job older oid.0 → (o : Target) → IsKnown start older o → o.oid
          ≡ oid → ⊥
      of_known oid new o (inl (p, b, stat, same)) e = new.free p b stat (same ∙ e)
      of_known oid new o (inr (drawn, small)) e =
          let is : o.oid.0 ≡ oid.0 = ap (λ (i : Oid). i.0) e in
          new.once (subst (λ (i : ℕ). i < no_id) is small) (subst (λ (i : ℕ). IsDrawn older i) is drawn)

      of_command : (y : Command) → ((i : ℕ) → id_of y ≡ Some i → IsNewId (Some start) job older i) → NamesUnused m y
      of_command (Create path oid) new = λ o a stat e. of_known oid (new oid.0 refl) o (known o a stat) e
      of_command (Mkdir path oid) new = λ o a stat e. of_known oid (new oid.0 refl) o (known o a stat) e
      of_command y new = tt

  known_later : (x : Command) (older : List Entry) (o : Target) → IsKnown start older o
      → ((p : Target) × (b : Attr) × HasStat start.content p b × (p.oid ≡ o.oid))
      ⊎ (((id_of x ≡ Some o.oid.0) ⊎ IsDrawn older o.oid.0) × (o.oid.0 < no_id))
  known_later x older o (inl h) = inl h
  known_later x older o (inr (drawn, small)) = inr (inr drawn, small)

  pub good : (trace : List Entry) → IsLawful limit start.content → RoomFor (dones_in trace + 1) start.content
      → HavePaths trace → HasNewIds (Some start) job trace → Good trace (at trace)
  good [] lawful room paths ids = record {
    lawful = lawful;
    room = λ n r o a h d. let x = r o a h d in omega (arith, x);
    known = λ o a h. inl (o, a, h, refl);
  }
  good (Done t q i x y ∷ older) lawful room paths ids =
      by_choice (s t.0) (good older lawful (λ o a h d. let z = room o a h d in omega (arith, z)) paths.1 ids.1)
    where
      by_choice : (b : Bool) → Good older (at older)
          → Good (Done t q i x y ∷ older) (cond b (after limit x (at older)) (at older))
      by_choice false g = record {
        lawful = g.lawful;
        room = λ n r. g.room n (λ o a h d. let z = r o a h d in omega (arith, z));
        known = λ o a h. known_later x older o (g.known o a h);
      }
      by_choice true g =
          let m = at older in
          let unused = names_unused older m x ids.0 g.known in
          let two : RoomFor 2 m = g.room 2 (λ o a h d. let z = room o a h d in omega (arith, z)) in
          let stays = lawful_stays limit x m lt g.lawful paths.0 unused in
          record {
            lawful = record {
              objects = stays.0;
              bodies = stays.1;
              room = λ o a h d. let z = room_after limit x m 1 lt g.lawful paths.0 unused two o a h d in omega
                  (arith, z);
              links = links_after limit x m lt g.lawful paths.0 unused;
            };
            room = λ n r. room_after limit x m n lt g.lawful paths.0 unused
                (g.room (n + 1) (λ o a h d. let z = r o a h d in omega (arith, z)));
            known = λ o a h. elim (was_or_drawn limit lt m g.lawful x paths.0 unused o a h) [
              | inl was ↦ known_later x older o (g.known o was.0 was.1)
              | inr made ↦ inr (inl made.0, made.1)
            ];
          }
  good (e ∷ older) lawful room paths ids = let g =
      good older lawful room paths ids in record { lawful = g.lawful; room = g.room; known = g.known }

  -- ---- counts

  same_born : (x : Command) (m n : Content) → ((k : ℕ) → Touches (commands limit) x n k → at_key m k ≡ at_key n k)
      → (born limit x m ≡ born limit x n) × (gone limit x m ≡ gone limit x n)
  same_born x m n same =
      let one = (same_course (course limit x) n m (λ k h. sym (same k (inl h)))).0 in (
        sym (ap (λ e. as_number (makes_object x && is_okay e.reply)) one),
        sym (ap (λ e. stats_in e.edits.cuts) one),
      )

  pub counted : (trace : List Entry) → IsLawful limit start.content → RoomFor (dones_in trace + 1) start.content
      → HavePaths trace → HasNewIds (Some start) job trace → FindsAlike (commands limit) start.content s trace
      → objects_in (at trace) + gone_in limit start.content s trace
      ≡ objects_in start.content + born_in limit start.content s trace
  counted [] lawful room paths ids finds = refl
  counted (Done t q i x y ∷ older) lawful room paths ids finds =
      let less : RoomFor (dones_in older + 1) start.content = λ o a h d. let z = room o a h d in omega (arith, z) in
      by_choice (s t.0) refl (good older lawful less paths.1 ids.1) (counted older lawful less paths.1 ids.1 finds.1)
    where
      all : Content
      all = content_of (commands limit) start.content everything older

      by_choice : (b : Bool) → s t.0 ≡ b → Good older (at older)
          → objects_in (at older) + gone_in limit start.content s older
          ≡ objects_in start.content + born_in limit start.content s older
          → objects_in (cond b (after limit x (at older)) (at older)) + (cond b
          (gone limit x (content_of (commands limit) start.content everything older)) 0 + gone_in limit
          start.content s older)
          ≡ objects_in start.content + (cond b
          (born limit x (content_of (commands limit) start.content everything older)) 0 + born_in limit
          start.content s older)
      by_choice false e g h = omega (arith, h)
      by_choice true e g h =
          let m = at older in
          let one = objects_after limit x m lt g.lawful paths.0 (names_unused older m x ids.0 g.known) in
          let (b, c) = same_born x m (content_of (commands limit) start.content everything older) (finds.0 e) in
          omega (arith, h, one, b, c)
  counted (e ∷ older) lawful room paths ids finds = counted older lawful room paths ids finds

  -- ---- the superblock's numbers

  pub has_ids : (trace : List Entry) (super : Super40) → IsLawfulRun limit start job trace
      → FindsAlike (commands limit) start.content s trace
      → CountsObjects limit start s trace super → HasIds super (at trace)
  has_ids trace super run finds counts = record {
    ids = λ o a h. of_known o ((good trace run.lawful run.room run.paths run.ids).known o a h);
    count =
        let one = counted trace run.lawful run.room run.paths run.ids finds in
        let two = counts.count in
        omega (arith, one, two);
  }
    where
      of_known : (o : Target) → IsKnown start trace o → (42 ≤ o.oid.0) × (o.oid.0 < super.oid)
      of_known o (inl (p, b, stat, same)) =
          let (low, high) = counts.at_start p b stat in
          let next = counts.next in
          let is : p.oid.0 ≡ o.oid.0 = ap (λ (i : Oid). i.0) same in
          (omega (arith, low, is), omega (arith, high, next, is))
      of_known o (inr (drawn, small)) = counts.drawn o.oid.0 drawn small
