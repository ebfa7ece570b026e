-- What was found below a path is found below the path to which it moves.
use Rattle.std.specs.Prelude.{◌≡◌, ◌-◌, ◌^◌, ◌<◌, ℕ, suc, List, [], ◌∷◌, ◌++◌, Bool, true, false, ◌==◌, All, Option}
use Rattle.std.specs.Prelude.{Some, None, length, take, if◌then◌else◌}
use Rattle.std.specs.List.{list_all}
use Rattle.std.specs.Option.{is_none}
use Rattle.std.proofs.Common.{arith, inl, inr, refl, sym, ap, subst, ◌∙◌}
use Rattle.std.proofs.lemmas.Bool.{and_from, and_parts, lt-ltb}
use Rattle.std.proofs.lemmas.Grind.{common_steps}
use Rattle.std.proofs.lemmas.List.{append_assoc, append-nil, length-append, length-take-le}
use Rattle.std.proofs.lemmas.List.Elements.{All-append, All-head, All-take}
use Rattle.std.proofs.lemmas.List.Folds.{list_all-append}
use Rattle.r4_base.specs.Name.{name_fault}
use Rattle.r4_base.specs.Value.{Byte, Content, Entry, Stat, Value, at_key}
use Rattle.r4_base.specs.Volume.{HasObjects, is_directory, stat_rank}
use Rattle.r4_base.specs.declared.items.Attr.{Attr}
use Rattle.r4_base.specs.declared.items.Target.{Target}
use Rattle.r4_content.specs.Course.{ending, of_content}
use Rattle.r4_content.specs.Edited.{changed, edited, is_in}
use Rattle.r4_content.specs.Fields.{HasBytes, HasNumbers}
use Rattle.r4_content.specs.Lawful.{IsLawful}
use Rattle.r4_content.specs.Meaning.{after, changes, course, is_path, reply}
use Rattle.r4_content.specs.Objects.{Object, entry_rank, is_among, is_dir, is_same}
use Rattle.r4_content.specs.Walk.{At, NoName, attr_in, target_in, walk}
use Rattle.r4_content.specs.Ways.{Place}
use Rattle.r4_content.specs.declared.command.Command.TheVariants.{Rename}
use Rattle.r4_content.specs.declared.reply.Reply.TheVariants.{Okay}
use Rattle.r4_content.proofs.EditLaws.{edited_off}
use Rattle.r4_content.proofs.EditParts.{true_not_false}
use Rattle.r4_content.proofs.Found.{There, down, found, found_from, small_object, stat_there, walk_is, walked}
use Rattle.r4_content.proofs.Losing.{one_target}
use Rattle.r4_content.proofs.Movers.{on_way, rename_done}
use Rattle.r4_content.proofs.OneObject.{numbers_of}
use Rattle.r4_content.proofs.Ranks.{same_itself}
use Rattle.r4_content.proofs.RenamedFound.{new_found, was_found}
use Rattle.r4_content.proofs.SameWay.{found_object, itself_in, place_in, place_with, step_is, steps_on, target_is}
use Rattle.r4_content.proofs.Staying.{lawful_stays}
use Rattle.r4_content_rows.specs.OwnNames.{IsLastName, IsOwnName}
use Rattle.r4_content_rows.proofs.Again.{attr_found, way}
use Rattle.r4_content_rows.proofs.OneWay.{first_part, found_stat, joined, joined_way, last_of, one_way, parted}
use Rattle.r4_content_rows.proofs.OneWay.{parted_from, second_part}
use Rattle.r4_content_rows.proofs.OtherNames.{others_stay}
use Rattle.r4_content_rows.proofs.OtherPaths.{found_of_walk, now_in, or_these}
use Rattle.r4_content_rows.proofs.SameKind.{kinds_stay}

-- where a way leads depends on the object from which it goes
from_here : (n : Content) (path : List (List ℕ)) (q r p : Place) → q.here ≡ r.here → found_from n path q ≡ There p
    → (z : Place) × (found_from n path r ≡ There z) × (z.here ≡ p.here)
from_here n [] q r p same e = (r, refl, sym same ∙ ap (λ (x : Place). x.here) (place_in q p e))
from_here n (s ∷ path) q r p same e =
    let st = step_is n s path q p e in
    let (z, at, is) = from_here n path (down q st.target st.attr) (down r st.target st.attr) p refl st.rest in (
      z,
      steps_on n s path r st.target st.attr (ap is_dir (sym same) ∙ st.dir)
          (ap (λ (x : Object). target_in s (at_key n (entry_rank x.target s))) (sym same) ∙ st.entry) st.stat ∙ at,
      is,
    )

-- what a rename that changes something did to the object
record HasMoved (m : Content) (from to : List (List ℕ)) (p : Place) (n : Content) : Type 0 where
  some : (length from == 0) ≡ false
  legal : is_path to ≡ true
  place : Place
  at : found n to ≡ There place
  same : place.here ≡ p.here
  above : Place
  above_at : found m (take (length to - 1) to) ≡ There above
  outside : is_dir p.here ≡ true → (is_among p.here above.above ≡ false) × (is_same p.here above.here ≡ false)

has_moved : (limit : ℕ) (from to : List (List ℕ)) (m : Content) (p : Place) → limit < 2 ^ 64 → IsLawful limit m
    → HasBytes from → HasBytes to → found m from ≡ There p → reply limit (Rename from to) m ≡ Okay → (k : ℕ)
    → is_in (changes limit (Rename from to) m) k ≡ true
    → HasMoved m from to p (after limit (Rename from to) m)
has_moved limit from to m p lt lawful from_bytes to_bytes at okay k on =
    rename_done limit from to m lt lawful from_bytes to_bytes
    (λ x. is_in (changed x) k ≡ true → HasMoved m from to p (edited x m))
    (λ none. absurd (true_not_false (sym none)))
    (λ dir o name new_name r path e w over old h few some.
    let numbers = numbers_of limit m lt lawful in
    let o_is : o ≡ p.here = ap (λ (x : Place). x.here)
    (place_in _ p (sym (was_found limit m lawful numbers dir o name new_name r path e over old h from to
    from_bytes to_bytes w) ∙ at)) in
    record {
      some = w.from_some;
      legal = w.to_legal;
      place = _;
      at = new_found limit m lawful numbers dir o name new_name r path e over old h from to from_bytes to_bytes w;
      same = o_is;
      above = r;
      above_at = ap (found m) w.to_is ∙ e.way;
      outside = λ dir_is. let out = e.outside
          (ap is_dir o_is ∙ dir_is) in (
            ap (λ (x : Object). is_among x r.above) (sym o_is)
                ∙ out.0,
            ap (λ (x : Object). is_same x r.here) (sym o_is) ∙ out.1,
          );
    })
    okay on

module _ (limit : ℕ) (m : Content) (from to rest0 : List (List ℕ)) (lt : limit < 2 ^ 64) (lawful : IsLawful limit m)
    (from_bytes : HasBytes from) (to_bytes : HasBytes to) (rest_bytes : HasBytes rest0) (p0 : Place)
    (p0_at : found m from ≡ There p0)
    (h : HasMoved m from to p0 (after limit (Rename from to) m)) where
  abbrev n : Content
  n = after limit (Rename from to) m

  abbrev IsBytes : List ℕ → Type 0
  IsBytes s = All (λ x. x < 256) s

  numbers : HasNumbers m
  numbers = numbers_of limit m lt lawful

  objects : HasObjects n
  objects = (lawful_stays limit (Rename from to) m lt lawful (from_bytes, to_bytes) tt).0

  some_names : (k : ℕ) → (k == 0) ≡ false → 0 < k
  some_names k e = grind (arith, common_steps)

  -- at a place below the old path stands none of the two names
  not_own : (ys : List (List ℕ)) (s : List ℕ) (rest : List (List ℕ)) (q : Place) → found m (from ++ ys) ≡ There q
      → found_from m ys p0 ≡ There q → rest0 ≡ ys ++ s ∷ rest → is_dir q.here ≡ true
      → IsOwnName m (Rename from to) q.here.target.oid.0 s → ⊥
  not_own ys s rest q at below is dir own = elim own [ inl g ↦ by_from g | inr g ↦ by_to g ]
    where
      ys_bytes : HasBytes (from ++ ys)
      ys_bytes = All-append IsBytes from ys from_bytes (first_part IsBytes ys (s ∷ rest) (subst HasBytes is rest_bytes))

      one : (path : List (List ℕ)) → HasBytes path → IsLastName m path q.here.target.oid.0 s
          → from ++ ys ≡ take (length path - 1) path
      one path path_bytes (o, a, walks, oid, last) =
          let above = take (length path - 1) path in
          let (legal, (p, p_at, target, attr)) = found_of_walk m above o a walks in
          let same = one_target m lawful.objects q.here.target p.here.target q.here.attr p.here.attr
          (found_stat m lawful.objects numbers (from ++ ys) q at)
          (found_stat m lawful.objects numbers above p p_at)
          (sym oid ∙ ap (λ (t : Target). t.oid.0) (sym target)) in
          one_way m lawful.objects numbers (suc (length (from ++ ys))) (from ++ ys) above q p (omega arith) ys_bytes
          (All-take IsBytes (length path - 1) path path_bytes) at p_at same dir

      by_from : IsLastName m from q.here.target.oid.0 s → ⊥
      by_from g =
          let long = sym (length-append from ys) ∙ ap length (one from from_bytes g) in
          let short = length-take-le (length from - 1) from (omega arith) in
          let some = some_names (length from) h.some in
          absurd (omega (arith, long, short, some))

      p0_dir : (zs : List (List ℕ)) → found_from m zs p0 ≡ There q → is_dir p0.here ≡ true
      p0_dir [] e = ap (λ (x : Place). is_dir x.here) (place_in p0 q e) ∙ dir
      p0_dir (z ∷ zs) e = (step_is m z zs p0 q e).dir

      by_to : IsLastName m to q.here.target.oid.0 s → ⊥
      by_to g =
          let is_above = place_in q h.above (sym at ∙ ap (found m) (one to to_bytes g) ∙ h.above_at) in
          let out = h.outside (p0_dir ys below) in
          true_not_false (sym (same_itself p0.here.target)
          ∙ on_way m p0.here ys p0 h.above (below ∙ ap There is_above) out.0 out.1)

  entry_stays : (ys : List (List ℕ)) (s : List ℕ) (rest : List (List ℕ)) (q : Place) (t : Target)
      → found m (from ++ ys) ≡ There q → found_from m ys p0 ≡ There q → rest0 ≡ ys ++ s ∷ rest → is_dir q.here ≡ true
      → at_key m (entry_rank q.here.target s) ≡ Some (Entry s t)
      → at_key n (entry_rank q.here.target s) ≡ Some (Entry s t)
  entry_stays ys s rest q t at below is dir there =
      let k = entry_rank q.here.target s in
      let q_there = found_object m numbers.orderings (from ++ ys) q at in
      let small = (small_object q.here.target (stat_there m q.here.target q.here.attr q_there.stat).0).1 in
      let s_bytes = All-head IsBytes s rest (second_part IsBytes ys (s ∷ rest) (subst HasBytes is rest_bytes)) in
      let keeps = others_stay limit (Rename from to) m q.here.target.oid.0 s lt lawful
      (from_bytes, to_bytes) tt s_bytes (not_own ys s rest q at below is dir) in
      let less = sym (lt-ltb q.here.target.oid.0 (2 ^ 60) small) in
      let now = ap (λ (b : Bool). if b then target_in s (at_key n k) else None) less ∙ keeps
      ∙ ap (λ (b : Bool). if b then target_in s (at_key m k) else None) (sym less) in
      target_is s (at_key n k) t (now ∙ ap (target_in s) there ∙ itself_in s t)

  kind : (t : Target) (a : Attr) → at_key m (stat_rank t) ≡ Some (Stat a) → is_directory (now_in n t a) ≡ is_directory a
  kind t a at = by_value (at_key n (stat_rank t)) refl
    where
      by_value : (v : Option Value) → at_key n (stat_rank t) ≡ v
          → is_directory (or_these (attr_in v) a) ≡ is_directory a
      by_value None e = refl
      by_value (Some (Stat b)) e = kinds_stay limit m (Rename from to) lt lawful (from_bytes, to_bytes) tt
          (stat_rank t) a b at e
      by_value (Some (Entry s u)) e = refl
      by_value (Some (Byte x)) e = refl

  moved_stat : at_key n (stat_rank h.place.here.target) ≡ Some (Stat h.place.here.attr)
  moved_stat = (stat_there n h.place.here.target h.place.here.attr (attr_found n to h.place h.at)).1

  still_there : (ys rest : List (List ℕ)) (q : Place) → found m (from ++ ys) ≡ There q → found_from m ys p0 ≡ There q
      → rest0 ≡ ys ++ rest → (b : Attr) × (at_key n (stat_rank q.here.target) ≡ Some (Stat b))
  still_there ys rest q at below is = elim (last_of ys) [
    | inl e ↦
        let same = place_in p0 q (ap (λ (zs : List (List ℕ)). found_from m zs p0) (sym e) ∙ below) in (
          h.place.here.attr,
          subst (λ (x : Object). at_key n (stat_rank x.target) ≡ Some (Stat h.place.here.attr))
              (h.same ∙ ap (λ (x : Place). x.here) same) moved_stat,
        )
    | inr (us, u, e) ↦
        let (r, one, two) = parted_from m us (u ∷ []) p0 q (ap (λ (zs : List (List ℕ)). found_from m zs p0) (sym e)
        ∙ below) in
        let st = step_is m u [] r q two in
        let there = target_is u (at_key m (entry_rank r.here.target u)) st.target st.entry
        ∙ ap (λ (x : Place). Some (Entry u x.here.target)) (place_in (down r st.target st.attr) q st.rest) in
        let along = is ∙ ap (λ (zs : List (List ℕ)). zs ++ rest) e ∙ append_assoc us (u ∷ []) rest in
        let now = entry_stays us u rest r q.here.target (joined_way m from us p0 p0_at ∙ one) one along st.dir there in
        let (b, stat) = objects.target (entry_rank r.here.target u) u q.here.target now in
        (b, stat.1)
  ]

  abbrev On : List (List ℕ) → Place → Type 0
  On rest q = (ys : List (List ℕ)) × (found m (from ++ ys) ≡ There q) × (found_from m ys p0 ≡ There q)
      × (rest0 ≡ ys ++ rest)

  follows : (p : Place) → found_from m rest0 p0 ≡ There p → found_from n rest0 (place_with (now_in n) p0) ≡ There
      (place_with (now_in n) p)
  follows p e =
      way m n (now_in n) p On kind
      (λ s rest q t a (ys, at, below, is) dir entry stat. (
        ys ++ s ∷ [],
        ap (found m) (sym (append_assoc from ys (s ∷ []))) ∙ joined_way m (from ++ ys) (s ∷ []) q at
            ∙ steps_on m s [] q t a dir entry stat,
        joined m ys (s ∷ []) p0 q below ∙ steps_on m s [] q t a dir entry stat,
        is ∙ sym (append_assoc ys (s ∷ []) rest),
      ))
      (λ s rest q t a (ys, at, below, is) dir f stat there. entry_stays ys s rest q t at below is dir there)
      (λ rest q (ys, at, below, is) f stat there. let (b, now) = still_there ys rest q at below is in now
      ∙ ap (λ (v : Option Value). Some (Stat (or_these (attr_in v) q.here.attr))) (sym now))
      rest0 p0 ([], ap (found m) (append-nil from) ∙ p0_at, refl, refl) (attr_found m from p0 p0_at) e

  -- the moved object, as it is now
  abbrev as_now : Object → Object
  as_now x = record { target = x.target; attr = now_in n x.target x.attr }

  moved_same : as_now p0.here ≡ h.place.here
  moved_same =
      ap as_now (sym h.same)
      ∙ ap (λ (v : Option Value). let x : Object = record {
        target = h.place.here.target;
        attr = or_these
            (attr_in v) h.place.here.attr;
      } in x) moved_stat

  legal_now : is_path (from ++ rest0) ≡ true → is_path (to ++ rest0) ≡ true
  legal_now legal =
      let is_name : List ℕ → Bool = λ (s : List ℕ). is_none (name_fault s) in
      let rest_legal = (and_parts (list_all is_name from) (list_all is_name rest0)
      (sym (list_all-append is_name from rest0) ∙ legal)).1 in
      list_all-append is_name to rest0 ∙ and_from (list_all is_name to) (list_all is_name rest0) h.legal rest_legal

  moved_walk : (p : Place) → found_from m rest0 p0 ≡ There p → is_path (from ++ rest0) ≡ true
      → walk n (to ++ rest0) ≡ At p.here.target (now_in n p.here.target p.here.attr)
  moved_walk p below legal =
      let (z, z_at, z_is) = from_here n rest0 (place_with (now_in n) p0) h.place (place_with (now_in n) p) moved_same
      (follows p below) in
      walk_is n (to ++ rest0) ∙ ap (λ (b : Bool). if b then walked (found n (to ++ rest0)) else NoName)
      (legal_now legal)
      ∙ ap walked (joined_way n to rest0 h.place h.at ∙ z_at) ∙ ap (λ (x : Object). At x.target x.attr) z_is

pub moved_paths : (limit : ℕ) (from to rest : List (List ℕ)) (m : Content) (o : Target) (a : Attr) (k : ℕ)
    → limit < 2 ^ 64 → IsLawful limit m → HasBytes from → HasBytes to → HasBytes rest → walk m (from ++ rest) ≡ At o a
    → reply limit (Rename from to) m ≡ Okay
    → is_in (changes limit (Rename from to) m) k ≡ true → (b : Attr)
    × (walk (after limit (Rename from to) m) (to ++ rest) ≡ At o b)
    × (is_in (changes limit (Rename from to) m) (stat_rank o) ≡ false → b ≡ a)
moved_paths limit from to rest m o a k lt lawful from_bytes to_bytes rest_bytes walks okay on =
    let c = Rename from to in
    let n = after limit c m in
    let (legal, (p, at, target, attr)) = found_of_walk m (from ++ rest) o a walks in
    let (p0, p0_at, below) = parted m from rest p at in
    let h = has_moved limit from to m p0 lt lawful from_bytes to_bytes p0_at okay k on in
    let was = found_stat m lawful.objects (numbers_of limit m lt lawful) (from ++ rest) p at in (
      now_in n o a,
      moved_walk limit m from to rest lt lawful from_bytes to_bytes rest_bytes p0 p0_at h p below legal
          ∙ ap (λ (t : Target). At t (now_in n t p.here.attr)) target ∙ ap (λ (b : Attr). At o (now_in n o b)) attr,
      λ off.
          let there : at_key m (stat_rank o) ≡ Some (Stat a) = ap (λ (t : Target). at_key m (stat_rank t))
          (sym target) ∙ was.1 ∙ ap (λ (b : Attr). Some (Stat b)) attr in
          ap (λ (v : Option Value). or_these (attr_in v) a)
          (edited_off (ending (course limit c) (of_content m)).edits m (stat_rank o) off ∙ there),
    )
