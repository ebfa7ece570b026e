-- What is found under the paths of a rename after it.
use Rattle.std.specs.Prelude.{◌≡◌, ◌≢◌, ℕ, zero, suc, ◌-◌, ◌^◌, ◌<◌, ◌≤◌, List, [], ◌∷◌, Bool, true, false, All, Option, Some, length, take, if◌then◌else◌}
use Rattle.std.proofs.Common.{arith, refl, sym, ap, subst, ◌∙◌}
use Rattle.std.proofs.lemmas.List.Elements.{All-head, All-tail, All-take}
use Rattle.r4_base.specs.Key.{key_of_rank}
use Rattle.r4_base.specs.Name.{dir_of_key}
use Rattle.r4_base.specs.Value.{Value, Stat, Entry, Content, at_key}
use Rattle.r4_base.specs.Volume.{HasObjects, HasStat, IsReached, is_directory, is_entry_in, stat_rank}
use Rattle.r4_base.specs.declared.items.Attr.{Attr}
use Rattle.r4_base.specs.declared.items.Target.{Target}
use Rattle.r4_content.specs.Edited.{changed, edited, is_in}
use Rattle.r4_content.specs.Fields.{HasBytes, HasNumbers}
use Rattle.r4_content.specs.Lawful.{IsLawful}
use Rattle.r4_content.specs.Meaning.{after, changes, reply}
use Rattle.r4_content.specs.Objects.{Object, entry_rank, is_dir, is_same_target}
use Rattle.r4_content.specs.Walk.{attr_at, target_in}
use Rattle.r4_content.specs.Ways.{Place, entry_in}
use Rattle.r4_content.specs.declared.command.Command.TheVariants.{Rename, Stat as StatCommand}
use Rattle.r4_content.specs.declared.reply.Reply.TheVariants.{Okay, Absent, Attr as AttrReply}
use Rattle.r4_content.proofs.Counting.{once, one_there}
use Rattle.r4_content.proofs.EditParts.{true_not_false}
use Rattle.r4_content.proofs.FileEdits.{attr_of}
use Rattle.r4_content.proofs.Found.{There, NotDirectory, NotThere, down, found, found_from, go_attr, go_target, small_object, stat_there}
use Rattle.r4_content.proofs.FoundAfter.{Leaves, left_found, named_none, no_step, stat_found}
use Rattle.r4_content.proofs.Losing.{named_no_root, not_in_itself, one_target, reached_object, stat_one}
use Rattle.r4_content.proofs.MoveEdits.{CanMove, came, gone, moving, old_not_dir, old_not_new, other_parent, others, parent_now}
use Rattle.r4_content.proofs.Movers.{Ends, Paths, on_way, rename_done}
use Rattle.r4_content.proofs.Moving.{parent, parent_kind}
use Rattle.r4_content.proofs.Naming.{found_last}
use Rattle.r4_content.proofs.OneObject.{numbers_of, stat_was}
use Rattle.r4_content.proofs.Ranks.{same_itself, told_same}
use Rattle.r4_content.proofs.Rewired.{entry_same, named, names_itself}
use Rattle.r4_content.proofs.SameWay.{IsThere, itself_in, place_in, place_with, step_is, steps_on, target_is}
use Rattle.r4_content.proofs.Shapes.{entry_dir}
use Rattle.r4_content.proofs.Unnaming.{absent_ends}
use Rattle.r4_content.proofs.Writing.{stat_ends}

other_than : (t u : Target) → t ≢ u → is_same_target t u ≡ false
other_than t u ne = by_test (is_same_target t u) refl
  where
    by_test : (b : Bool) → is_same_target t u ≡ b → b ≡ false
    by_test false e = refl
    by_test true e = absurd (ne (told_same t u e))

-- ---- a directory is reached by one number of steps

module _ (m : Content) (lawful : HasObjects m) where
  one_depth : (i j : ℕ) (t : Target) (a : Attr) → HasStat m t a → is_directory a ≡ true → IsReached m i t → IsReached m j t → i ≡ j
  one_depth zero zero t a there dir one two = refl
  one_depth zero (suc j) t a there dir one (p, is, (k, s, at, in_p)) = absurd (named_no_root m lawful k s t at one)
  one_depth (suc i) zero t a there dir (p, is, (k, s, at, in_p)) two = absurd (named_no_root m lawful k s t at two)
  one_depth (suc i) (suc j) t a there dir (p, is, (k, s, at, in_p)) (q, also, (l, u, too, in_q)) =
      let few = lawful.named_once t a there dir (named_no_root m lawful k s t at) in
      let same = once (named t) m k l (Entry s t) (Entry u t) (omega (arith, few)) at (names_itself t s) too (names_itself t u) in
      let (h, c, h_stat, h_dir, in_h) = lawful.holder k s t at in
      let (b, p_stat) = reached_object m lawful i p is in
      let (d, q_stat) = reached_object m lawful j q also in
      let p_is = one_target m lawful p q b d p_stat q_stat (sym in_p ∙ ap (λ (x : ℕ). dir_of_key (key_of_rank x)) same ∙ in_q) in
      let h_is = one_target m lawful h p c b h_stat p_stat (sym in_h ∙ in_p) in
      let p_dir : is_directory b ≡ true = ap is_directory (sym (stat_one m lawful h p c b h_stat p_stat h_is)) ∙ h_dir in
      ap suc (one_depth i j p b p_stat p_dir is (subst (λ (x : Target). IsReached m j x) (sym p_is) also))

  reach_on : (path : List (List ℕ)) (q p : Place) (i : ℕ) → HasBytes path → IsThere m q.here → IsReached m i q.here.target → HasNumbers m → found_from m path q ≡ There p → (j : ℕ) × (i ≤ j) × IsReached m j p.here.target
  reach_on [] q p i bytes there is numbers e = (i, omega arith, subst (λ (x : Place). IsReached m i x.here.target) (place_in q p e) is)
  reach_on (n ∷ path) q p i bytes there is numbers e =
      let s = step_is m n path q p e in
      let k = entry_rank q.here.target n in
      let at = target_is n (at_key m k) s.target s.entry in
      let may = small_object s.target (stat_there m s.target s.attr s.stat).0 in
      let small = (small_object q.here.target (stat_there m q.here.target q.here.attr there.stat).0).1 in
      let next : IsThere m (record { target = s.target; attr = s.attr }) = record { object = (may.0, numbers.orderings k n s.target at, omega (arith, may)); stat = s.stat } in
      let (j, le, reached) = reach_on path (down q s.target s.attr) p (suc i) (All-tail (λ x. All (λ y. y < 256) x) n path bytes) next
      (q.here.target, is, (k, n, at, (entry_dir q.here.target n small (All-head (λ x. All (λ y. y < 256) x) n path bytes)).0)) numbers s.rest in
      (j, omega (arith, le), reached)

-- ---- the move

module _ (limit : ℕ) (m : Content) (lawful : IsLawful limit m) (numbers : HasNumbers m) (dir o : Object) (name new_name : List ℕ) (r : Place) (path : List (List ℕ)) (e : Ends limit m dir o name new_name r path) (over : Bool) (old : Object)
    (h : CanMove m dir o r.here name new_name over old) where
  abbrev n : Content
  n = edited (moving dir name o r.here new_name over old) m

  abbrev g : Target → Attr → Attr
  g = parent dir.target r.here.target over (is_dir o)

  abbrev Goes : Target → Attr → Type 0
  Goes t a = (t ≢ o.target) × (over ≡ true → t ≢ old.target)

  entry_target : (s u : List ℕ) (t v : Target) → Some (Entry s t) ≡ Some (Entry u v) → t ≡ v
  entry_target s u t v f = cc

  leaves : Leaves m n g Goes
  leaves = record {
    kind_too = λ t a stat. parent_kind dir.target r.here.target over (is_dir o) t a;
    entry = λ d s t a small bytes at stat goes. entry_same (at_key m (entry_rank d s)) (at_key n (entry_rank d s)) s t
        (others limit m dir o r.here name new_name over old lawful.objects lawful.bodies h (entry_rank d s) (λ f. goes.0 (entry_target s name t o.target (sym at ∙ ap (at_key m) f ∙ h.entry))) (λ f. not_new over refl d s t goes.1 at f)) at;
    stat = λ t a stat goes. parent_now limit m dir o r.here name new_name over old lawful.objects lawful.bodies h t a stat goes.1;
  }
    where
      not_new : (b : Bool) → over ≡ b → (d : Target) (s : List ℕ) (t : Target) → (over ≡ true → t ≢ old.target) → at_key m (entry_rank d s) ≡ Some (Entry s t) → entry_rank d s ≡ entry_rank r.here.target new_name → ⊥
      not_new false is d s t other at f = named_none (record { name = s; target = t }) (sym (ap entry_in at) ∙ ap (λ (k : ℕ). entry_in (at_key m k)) f ∙ h.free is)
      not_new true is d s t other at f = other is (entry_target s new_name t old.target (sym at ∙ ap (at_key m) f ∙ (h.onto is).entry))

  kinds_differ : {A : Type 0} (t u : Target) (a b : Attr) → HasStat m t a → HasStat m u b → t ≡ u → is_directory a ≡ true → is_directory b ≡ false → A
  kinds_differ t u a b one two same d f = absurd (true_not_false (sym d ∙ ap is_directory (stat_one m lawful.objects t u a b one two same) ∙ f))

  -- the old object is on no way
  not_old : over ≡ true → (p : Place) → (old.target ≢ p.here.target) → (rest : List (List ℕ)) (q : Place) → HasBytes rest → IsThere m q.here → found_from m rest q ≡ There p → q.here.target ≢ old.target
  not_old is p not_last [] q bytes there f same = not_last (sym same ∙ ap (λ (x : Place). x.here.target) (place_in q p f))
  not_old is p not_last (s ∷ rest) q bytes there f same =
      let y = h.onto is in
      let q_dir = (step_is m s rest q p f).dir in
      let dir_old : is_dir old ≡ true = ap is_directory (sym (stat_one m lawful.objects q.here.target old.target q.here.attr old.attr (stat_was m q.here there) y.stat same)) ∙ q_dir in
      no_step m q q p s rest bytes there f old.target same (λ k u t at in_old. let none = y.empty dir_old in let some = one_there (is_entry_in old.target.oid.0) m k (Entry u t) at in_old in absurd (omega (arith, none, some)))

  o_not_dir : o.target ≢ dir.target
  o_not_dir same = by_kind (is_dir o) refl
    where
      by_kind : (b : Bool) → is_dir o ≡ b → ⊥
      by_kind true d =
          let (steps, reached) = lawful.objects.reached o.target o.attr h.stat in
          not_in_itself m lawful.objects steps o.target o.attr (entry_rank dir.target name) name h.stat d h.entry ((entry_dir dir.target name h.dir_small h.bytes).0 ∙ ap (λ (t : Target). t.oid.0) (sym same)) reached
      by_kind false f = kinds_differ dir.target o.target dir.attr o.attr h.dir_stat h.stat (sym same) h.dir_is f

  o_not_new : o.target ≢ r.here.target
  o_not_new same = by_kind (is_dir o) refl
    where
      by_kind : (b : Bool) → is_dir o ≡ b → ⊥
      by_kind true d = true_not_false (sym (same_itself o.target) ∙ ap (is_same_target o.target) same ∙ (e.outside d).1)
      by_kind false f = kinds_differ r.here.target o.target r.here.attr o.attr h.new_stat h.stat (sym same) h.new_is f

  -- nor is the moved one on the way to its new directory
  not_moved : (rest : List (List ℕ)) (q : Place) → HasBytes rest → IsThere m q.here → found_from m rest q ≡ There r → q.here.target ≢ o.target
  not_moved [] q bytes there f same = o_not_new (sym same ∙ ap (λ (x : Place). x.here.target) (place_in q r f))
  not_moved (s ∷ rest) q bytes there f same = by_kind (is_dir o) refl
    where
      by_kind : (b : Bool) → is_dir o ≡ b → ⊥
      by_kind true d =
          let out = e.outside d in
          true_not_false (sym (same_itself o.target) ∙ ap (is_same_target o.target) (sym same) ∙ on_way m o (s ∷ rest) q r f out.0 out.1)
      by_kind false file = kinds_differ q.here.target o.target q.here.attr o.attr (stat_was m q.here there) h.stat same (step_is m s rest q r f).dir file

  -- nor on the way to the one that it leaves, which would be in itself
  not_above : (p : Place) → p.here ≡ dir → (rest : List (List ℕ)) (q : Place) → HasBytes rest → IsThere m q.here → found_from m rest q ≡ There p → q.here.target ≢ o.target
  not_above p is [] q bytes there f same = o_not_dir (sym same ∙ ap (λ (x : Place). x.here.target) (place_in q p f) ∙ ap (λ (x : Object). x.target) is)
  not_above p is (s ∷ rest) q bytes there f same =
      let q_dir = (step_is m s rest q p f).dir in
      let (i, reached) = lawful.objects.reached q.here.target q.here.attr (stat_was m q.here there) in
      let (j, le, to_dir) = reach_on m lawful.objects (s ∷ rest) q p i bytes there reached numbers f in
      let again : IsReached m (suc j) q.here.target = (p.here.target, to_dir, (entry_rank dir.target name, name, h.entry ∙ ap (λ (t : Target). Some (Entry name t)) (sym same), (entry_dir dir.target name h.dir_small h.bytes).0 ∙ ap (λ (x : Object). x.target.oid.0) (sym is))) in
      let depth = one_depth m lawful.objects i (suc j) q.here.target q.here.attr (stat_was m q.here there) q_dir reached again in
      absurd (omega (arith, le, depth))

  -- the object has its attributes still
  object_now : at_key n (stat_rank o.target) ≡ Some (Stat o.attr)
  object_now =
      parent_now limit m dir o r.here name new_name over old lawful.objects lawful.bodies h o.target o.attr h.stat (λ is same. (h.onto is).other (sym same))
      ∙ ap (λ (a : Attr). Some (Stat a)) (other_parent limit m dir o r.here name new_name over old lawful.objects lawful.bodies h o.target o.attr (other_than o.target dir.target o_not_dir) (other_than o.target r.here.target o_not_new))

  module _ (from to : List (List ℕ)) (from_bytes : HasBytes from) (to_bytes : HasBytes to) (w : Paths m from to dir name r new_name path) where
    prefix_bytes : (xs : List (List ℕ)) → HasBytes xs → HasBytes (take (length xs - 1) xs)
    prefix_bytes xs bytes = All-take (λ s. All (λ x. x < 256) s) (length xs - 1) xs bytes

    new_way : found n (take (length to - 1) to) ≡ There (place_with g r)
    new_way = left_found m n g Goes numbers leaves r (λ rest q bytes there f. (not_moved rest q bytes there f, λ is. not_old is r (old_not_new limit m dir o r.here name new_name over old lawful.objects lawful.bodies h is) rest q bytes there f))
        (take (length to - 1) to) (prefix_bytes to to_bytes) (ap (found m) w.to_is ∙ e.way)

    old_way : found n (take (length from - 1) from) ≡ There (place_with g w.above)
    old_way = left_found m n g Goes numbers leaves w.above (λ rest q bytes there f. (
      not_above w.above w.from_is rest q bytes there f,
      λ is. not_old is w.above (λ s. old_not_dir limit m dir o r.here name new_name over old lawful.objects lawful.bodies h is (s ∙ ap (λ (x : Object). x.target) w.from_is)) rest q bytes there f,
    ))
        (take (length from - 1) from) (prefix_bytes from from_bytes) w.from_at

    stat_now : attr_at n o.target ≡ Some o.attr
    stat_now = attr_of n o.target o.attr (stat_there m o.target o.attr e.there.stat).0 object_now

    pub new_found : found n to ≡ There (down (place_with g r) o.target o.attr)
    new_found =
        found_last n to (place_with g r) w.to_some new_way ∙ ap (λ (s : List ℕ). found_from n (s ∷ []) (place_with g r)) w.to_last
        ∙ steps_on n new_name [] (place_with g r) o.target o.attr (parent_kind dir.target r.here.target over (is_dir o) r.here.target r.here.attr ∙ h.new_is)
        (ap (target_in new_name) (came limit m dir o r.here name new_name over old lawful.objects lawful.bodies h) ∙ itself_in new_name o.target) stat_now

    pub old_gone : found n from ≡ NotThere
    old_gone =
        let q = place_with g w.above in
        let is : is_dir q.here ≡ true = parent_kind dir.target r.here.target over (is_dir o) w.above.here.target w.above.here.attr ∙ ap is_dir w.from_is ∙ h.dir_is in
        let none = ap (λ (x : Object). at_key n (entry_rank x.target name)) w.from_is ∙ gone limit m dir o r.here name new_name over old lawful.objects lawful.bodies h in
        found_last n from q w.from_some old_way ∙ ap (λ (s : List ℕ). found_from n (s ∷ []) q) w.from_last
        ∙ ap (λ (b : Bool). if b then go_target (λ t. go_attr NotThere (λ a. found_from n [] (down q t a)) (attr_at n t)) (target_in name (at_key n (entry_rank q.here.target name))) else NotDirectory) is
        ∙ ap (λ (v : Option Value). go_target (λ t. go_attr NotThere (λ a. found_from n [] (down q t a)) (attr_at n t)) (target_in name v)) none

    -- what was found before
    pub was_found : found m from ≡ There (down w.above o.target o.attr)
    was_found =
        found_last m from w.above w.from_some w.from_at ∙ ap (λ (s : List ℕ). found_from m (s ∷ []) w.above) w.from_last
        ∙ steps_on m name [] w.above o.target o.attr (ap is_dir w.from_is ∙ h.dir_is) (ap (λ (x : Object). target_in name (at_key m (entry_rank x.target name))) w.from_is ∙ ap (target_in name) h.entry ∙ itself_in name o.target) e.there.stat

pub rename_stat : (limit : ℕ) (from to : List (List ℕ)) (m : Content) (a : Attr) → limit < 2 ^ 64 → IsLawful limit m → HasBytes from → HasBytes to → reply limit (StatCommand from) m ≡ AttrReply a → reply limit (Rename from to) m ≡ Okay
    → (k : ℕ) → is_in (changes limit (Rename from to) m) k ≡ true
    → (reply limit (StatCommand to) (after limit (Rename from to) m) ≡ AttrReply a) × (reply limit (StatCommand from) (after limit (Rename from to) m) ≡ Absent)
rename_stat limit from to m a lt lawful from_bytes to_bytes told okay k on =
    rename_done limit from to m lt lawful from_bytes to_bytes
    (λ x. is_in (changed x) k ≡ true → (reply limit (StatCommand to) (edited x m) ≡ AttrReply a) × (reply limit (StatCommand from) (edited x m) ≡ Absent))
    (λ none. absurd (true_not_false (sym none)))
    (λ dir o name new_name r path e w over old h few some.
    let numbers = numbers_of limit m lt lawful in
    let (is, (p, at, attr)) = stat_found limit m from a told in
    let n = edited (moving dir name o r.here new_name over old) m in
    let o_attr : o.attr ≡ a = ap (λ (x : Place). x.here.attr) (place_in _ p (sym (was_found limit m lawful numbers dir o name new_name r path e over old h from to from_bytes to_bytes w) ∙ at)) ∙ attr in (
      stat_ends limit n to _ w.to_legal (new_found limit m lawful numbers dir o name new_name r path e over old h from to from_bytes to_bytes w) ∙ ap (λ (x : Attr). AttrReply x) o_attr,
      absent_ends limit n from w.from_legal (old_gone limit m lawful numbers dir o name new_name r path e over old h from to from_bytes to_bytes w),
    ))
    okay on
