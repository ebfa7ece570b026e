-- Where a task may be done, what its edits change of bodies.
use Rattle.std.proofs.Common.{◌≡◌, inl, inr, ℕ, ◌<◌, ◌^◌, true, false, Option, Some, None}
use Rattle.std.proofs.Common.{refl, sym, ap, subst, ◌∙◌, arith, option_map}
use Rattle.std.specs.Arc.{arc_value}
use Rattle.std.specs.FinMap.{find}
use Rattle.std.specs.Ordering.{nat_cmp}
use Rattle.std.proofs.lemmas.Bool.{cases_Bool}
use Rattle.std.proofs.lemmas.Option.{none-some, same_Some}
use Rattle.r4_base.specs.Key.{key_of_rank, minor_of}
use Rattle.r4_base.specs.Tree.{Root, Store}
use Rattle.r4_base.specs.Value.{Byte, Content, Entry, Stat, Value, at_key}
use Rattle.r4_base.specs.Volume.{HasStat, IsObject, KeyFits, byte_rank, is_directory, object_of, stat_rank}
use Rattle.r4_base.specs.declared.items.Attr.{Attr}
use Rattle.r4_base.specs.declared.items.Target.{Target}
use Rattle.r4_base.proofs.Visible.{byte_back}
use Rattle.r4_content.specs.Course.{ending, of_content}
use Rattle.r4_content.specs.Edited.{Edits, Pairs, changed, edited, is_in}
use Rattle.r4_content.specs.Held.{pairs_of}
use Rattle.r4_content.specs.Lawful.{HasBodies}
use Rattle.r4_content.specs.Listed.{list_edited}
use Rattle.r4_content.specs.Meaning.{after, course, greatest_size}
use Rattle.r4_content.specs.Seen.{IsSeen}
use Rattle.r4_content.specs.declared.command.Command.{Command}
use Rattle.r4_content.proofs.OneObject.{numbers_of}
use Rattle.r4_content_rows.proofs.SameKind.{kinds_stay}
use Rattle.r4_turned_moves.proofs.r4_extent_moves.BodyKeys.{body_at, offset_at}
use Rattle.r4_turned_moves.proofs.r4_extent_moves.r4_applied.BodyTold.{bodies_then, list_then, one_file, same_edits, stat_found}
use Rattle.r4_turned_moves.proofs.r4_extent_moves.r4_applied.OneBody.{IsOneBody, file_is, of_file}
use Rattle.r4_turned_moves.proofs.r4_extent_moves.r4_applied.Reached.{reached_there}
use Rattle.r4_turned_moves.proofs.r4_extent_moves.r4_applied.SeenThere.{seen_there}
use Rattle.r4_turned_moves.proofs.r4_extent_moves.r4_applied.r4_build.r4_reach.Answers.{is_seen}
use Rattle.r4_turned_moves.proofs.r4_extent_moves.r4_applied.r4_build.r4_reach.FirstKeys.{first_is}
use Rattle.r4_turned_moves.proofs.r4_extent_moves.r4_applied.r4_sets.Bodies.{one_attr}
use Rattle.r4_turned_moves.proofs.r4_extent_moves.r4_applied.r4_sets.Carried.{byte_owner}
use Rattle.r4_turned_moves.specs.r4_extent_moves.Moving.{ChangesBody, in_body}
use Rattle.r4_turned_moves.specs.r4_extent_moves.r4_applied.r4_build.Built.{IsBesideByte, IsPlaceFor, edits_for}
use Rattle.r4_turned_moves.specs.r4_extent_moves.r4_applied.r4_build.declared.task.Task.{Task}
use Rattle.r4_turned_moves.specs.r4_extent_moves.r4_applied.r4_reach.Reach.{is_body}
use Rattle.r4_turned_moves.specs.r4_extent_moves.r4_applied.r4_reach.Touched.{Body, body_key, body_of, size_in}
use Rattle.r4_task_moves.specs.Doing.{body_for}
use Rattle.r4_task_moves.proofs.CutFiles.{IsFileByte, cut_files}
use Rattle.r4_task_moves.proofs.PutThere.{Stands, uncut_there}

module _ (task : Task) (u : Store Value) (root : Root) (raw n : Content) (h : IsPlaceFor task u root raw n) where
  abbrev c : Command
  c = task.command

  abbrev s : Pairs
  s = pairs_of (arc_value task.seen)

  abbrev e : Edits
  e = edits_for task

  saw_raw : IsSeen greatest_size task.command h.given.reach.seen raw
  saw_raw =
      is_seen h.pair task.command h.met task.reads task.writes h.rises h.given.reach u root raw h.tree
      (reached_there h.pair task.command h.met task.reads task.writes h.rises h.given.reach u
      (λ y has. h.given.can.cells_in.stand y has) h.there.stand) h.units

  pub saw : IsSeen greatest_size task.command (pairs_of (arc_value task.seen)) n
  saw =
      subst (λ (l : Pairs). IsSeen greatest_size task.command l n) h.given.seen
      (seen_there raw n h.visible u h.files task.command h.given.reach.seen
      (numbers_of greatest_size n (omega arith) h.lawful) h.paths saw_raw)

  pub bodies_after : HasBodies greatest_size (edited (edits_for task) n)
  bodies_after = bodies_then task.command s n saw h.lawful h.paths h.unused

  pub one : IsOneBody (edits_for task)
  one = one_file task.command s n saw h.lawful h.paths h.unused

  same : edits_for task ≡ (ending (course greatest_size task.command) (of_content n)).edits
  same = same_edits task.command s n saw h.lawful h.paths h.unused

  module _ (j : ℕ) (found : body_key (changed (edits_for task)) ≡ Some j) where
    abbrev b : Body
    b = body_of (edits_for task) s task.scope.in_extents j

    abbrev o : Target
    o = object_of (key_of_rank j)

    first : (is_in (changed (edits_for task)) j ≡ true) × (is_body j ≡ true)
    first = first_is (changed (edits_for task)) j found

    pub file_one : object_of (key_of_rank j) ≡ one.file
    file_one = file_is (edits_for task) one j first.0 first.1

    pub object : IsObject (object_of (key_of_rank j))
    object = subst IsObject (sym file_one) one.object

    -- the body's first key is that of a byte of its file
    pub first_byte_at : (x : ℕ) × (x < 2 ^ 64) × (j ≡ byte_rank (object_of (key_of_rank j)) x)
    first_byte_at =
        let (x, small, at) = of_file (edits_for task) one j first.0 first.1 in
        (x, small, at ∙ ap (λ (p : Target). byte_rank p x) (sym file_one))

    pub one_body : (k : ℕ) → is_in (changed (edits_for task)) k ≡ true → is_body k ≡ true
        → in_body (body_of (edits_for task) (pairs_of (arc_value task.seen)) task.scope.in_extents j) k ≡ true
    one_body k on body =
        let (x, small, at) = of_file (edits_for task) one k on body in
        let same_file : one.file ≡ object_of (key_of_rank j) = sym file_one in
        let at_own : k ≡ byte_rank (object_of (key_of_rank j)) x = at ∙ ap (λ (p : Target). byte_rank p x) same_file in
        ap (in_body b) at_own ∙ body_at b object x small

    -- its stat data were seen
    seen_at : find nat_cmp (stat_rank (object_of (key_of_rank j))) s ≡ at_key n (stat_rank (object_of (key_of_rank j)))
    seen_at = stat_found task.command s n saw h.lawful h.paths h.unused j first.0 first.1

    then_at : find nat_cmp (stat_rank (object_of (key_of_rank j))) (list_edited (edits_for task) s)
        ≡ at_key (edited (edits_for task) n) (stat_rank (object_of (key_of_rank j)))
    then_at = list_then task.command s n saw h.lawful h.paths h.unused (stat_rank (object_of (key_of_rank j))) seen_at

    pub was_size : (body_of (edits_for task) (pairs_of (arc_value task.seen)) task.scope.in_extents j).was
        ≡ size_in (at_key n (stat_rank (object_of (key_of_rank j))))
    was_size = ap size_in seen_at

    now_size : (body_of (edits_for task) (pairs_of (arc_value task.seen)) task.scope.in_extents j).now
        ≡ size_in (at_key (edited (edits_for task) n) (stat_rank (object_of (key_of_rank j))))
    now_size = ap size_in then_at

    -- a byte that stands there afterwards is a file's
    bodies_file : (x : ℕ) → x < 2 ^ 64
        → Stands (at_key (edited (edits_for task) n) (byte_rank (object_of (key_of_rank j)) x))
        → (a : Attr) × HasStat (edited (edits_for task) n) (object_of (key_of_rank j)) a × (is_directory a ≡ false)
    bodies_file x small (v, there) = of_value v there (bodies_after.keys (byte_rank (object_of (key_of_rank j)) x) v there)
      where
        four : minor_of (key_of_rank (byte_rank (object_of (key_of_rank j)) x)) ≡ 4
        four = ap minor_of (byte_back (object_of (key_of_rank j)) x object small) ∙ omega arith

        of_value : (v : Value)
            → at_key (edited (edits_for task) n) (byte_rank (object_of (key_of_rank j)) x) ≡ Some v
            → KeyFits (edited (edits_for task) n) (key_of_rank (byte_rank (object_of (key_of_rank j)) x)) v
            → (a : Attr) × HasStat (edited (edits_for task) n) (object_of (key_of_rank j)) a × (is_directory a ≡ false)
        of_value (Stat a) at fits = let one_is = fits.0 in let four_is = four in absurd (omega (arith, one_is, four_is))
        of_value (Entry m t) at fits = let four_is = four in absurd (omega (arith, fits, four_is))
        of_value (Byte y) at (_, (a, stat, file)) = (
          a,
          subst (λ (p : Target). HasStat (edited (edits_for task) n) p a)
              (byte_owner (object_of (key_of_rank j)) x object small) stat,
          file,
        )

    -- the object is a file, where it is there afterwards
    file_then : (d : Attr) → HasStat (edited (edits_for task) n) (object_of (key_of_rank j)) d → is_directory d ≡ false
    file_then d now =
        let (x, small, at) = first_byte_at in
        let on : is_in (changed (edits_for task)) (byte_rank (object_of (key_of_rank j)) x) ≡ true =
        ap (λ (k : ℕ). is_in (changed (edits_for task)) k) (sym at) ∙ first.0 in
        elim (cases_Bool (is_in (edits_for task).cuts (byte_rank (object_of (key_of_rank j)) x))) [
          | inr uncut ↦
              let (a, stat, file) = bodies_file x small
              (uncut_there (edits_for task) n (byte_rank (object_of (key_of_rank j)) x) on uncut) in
              ap is_directory (one_attr (edited (edits_for task) n) (object_of (key_of_rank j)) d a now stat) ∙ file
          | inl cut ↦ by_cut x small (cut_files greatest_size (omega arith) n h.lawful task.command h.paths h.unused
              (byte_rank (object_of (key_of_rank j)) x)
              (ap (λ (d : Edits). is_in d.cuts (byte_rank (object_of (key_of_rank j)) x)) (sym same) ∙ cut)
              (ap is_body (sym at) ∙ first.1))
        ]
      where
        -- its file was there, and no object becomes another kind
        by_cut : (x : ℕ) → x < 2 ^ 64 → IsFileByte n (byte_rank (object_of (key_of_rank j)) x) → is_directory d ≡ false
        by_cut x small was =
            let own : was.file ≡ object_of (key_of_rank j) =
            sym (byte_owner was.file was.at was.stat.0 was.small)
            ∙ (ap (λ (k : ℕ). object_of (key_of_rank k)) (sym was.key)
            ∙ byte_owner (object_of (key_of_rank j)) x object small) in
            let there : at_key n (stat_rank (object_of (key_of_rank j))) ≡ Some (Stat was.attr) =
            ap (λ (p : Target). at_key n (stat_rank p)) (sym own) ∙ was.stat.1 in
            let then : at_key (after greatest_size task.command n) (stat_rank (object_of (key_of_rank j))) ≡ Some (Stat d) =
            ap (λ (d : Edits). at_key (edited d n) (stat_rank (object_of (key_of_rank j)))) (sym same) ∙ now.1 in
            kinds_stay greatest_size n task.command (omega arith) h.lawful h.paths h.unused
            (stat_rank (object_of (key_of_rank j))) was.attr d there then ∙ was.kind

    pub changes : ChangesBody (body_of (edits_for task) (pairs_of (arc_value task.seen)) task.scope.in_extents j)
        (edits_for task) u raw n
    changes = record {
      units = h.units;
      files = h.files;
      visible = h.visible;
      before = h.lawful.bodies;
      after = bodies_after;
      object = object;
      one = one_body;
      now = λ a stat file. sym (now_size ∙ ap size_in stat.1);
      there = λ some. by (at_key (edited (edits_for task) n) (stat_rank (object_of (key_of_rank j)))) refl
          (now_size) some;
    }
      where
        by : (v : Option Value) → at_key (edited (edits_for task) n) (stat_rank (object_of (key_of_rank j))) ≡ v
            → (body_of (edits_for task) (pairs_of (arc_value task.seen)) task.scope.in_extents j).now ≡ size_in v
            → 0 < (body_of (edits_for task) (pairs_of (arc_value task.seen)) task.scope.in_extents j).now
            → (a : Attr) × HasStat (edited (edits_for task) n) (object_of (key_of_rank j)) a × (is_directory a ≡ false)
        by None at size some = absurd (omega (arith, size, some))
        by (Some (Stat a)) at size some = (a, (object, at), file_then a (object, at))
        by (Some (Entry m t)) at size some = absurd (omega (arith, size, some))
        by (Some (Byte y)) at size some = absurd (omega (arith, size, some))

-- ---- the body that is changed

by_key : (task : Task) (b : Body) (o : Option ℕ) → body_key (changed (edits_for task)) ≡ o
    → option_map (body_of (edits_for task) (pairs_of (arc_value task.seen)) task.scope.in_extents) o ≡ Some b
    → (j : ℕ) × (body_key (changed (edits_for task)) ≡ Some j)
    × (body_of (edits_for task) (pairs_of (arc_value task.seen)) task.scope.in_extents j ≡ b)
by_key task b None found is = absurd (none-some b is)
by_key task b (Some j) found is = (j, found, same_Some _ b is)

pub body_key_of : (task : Task) (b : Body) → body_for task ≡ Some b
    → (j : ℕ) × (body_key (changed (edits_for task)) ≡ Some j)
    × (body_of (edits_for task) (pairs_of (arc_value task.seen)) task.scope.in_extents j ≡ b)
body_key_of task b is = by_key task b (body_key (changed (edits_for task))) refl is

pub changes_body : (task : Task) (b : Body) (u : Store Value) (root : Root) (raw n : Content) → body_for task ≡ Some b
    → IsPlaceFor task u root raw n → ChangesBody b (edits_for task) u raw n
changes_body task b u root raw n is h =
    let (j, found, same) = body_key_of task b is in
    subst (λ (x : Body). ChangesBody x (edits_for task) u raw n) same (changes task u root raw n h j found)

-- each key of the body is beside a byte that is changed
pub beside_byte : (task : Task) (b : Body) (u : Store Value) (root : Root) (raw n : Content) → body_for task ≡ Some b
    → IsPlaceFor task u root raw n → (k : ℕ) → in_body b k ≡ true → IsBesideByte (edits_for task) k
beside_byte task b u root raw n is h k inside =
    let (j, found, same) = body_key_of task b is in
    let own = object task u root raw n h j found in
    let at_j = subst (λ (x : Body). in_body x k ≡ true) (sym same) inside in
    let (x, small, at) = offset_at
    (body_of (edits_for task) (pairs_of (arc_value task.seen)) task.scope.in_extents j) own k at_j in
    let (y, low, here) = first_byte_at task u root raw n h j found in
    record {
      object = object_of (key_of_rank j);
      is = own;
      at = x;
      within = small;
      key = at;
      other = y;
      small = low;
      changes = ap (λ (q : ℕ). is_in (changed (edits_for task)) q) (sym here)
          ∙ (first_is (changed (edits_for task)) j found).0;
    }
