-- A command that reads or changes a key of a body asks for its object's stat data.
use Rattle.std.specs.Prelude.{◌≡◌, ◌≢◌, ◌⊎◌, ℕ, ◌+◌, ◌-◌, ◌*◌, ◌/◌, ◌%◌, ◌^◌, ◌<◌, ◌≤◌, List, [], ◌∷◌, ◌++◌, All, Bool, true, false, not, ◌&&◌, ◌||◌, ◌==◌, nat_lt, bytes_eq, length, replicate, take, slice_index_or, Option, Some, None, if◌then◌else◌}
use Rattle.std.proofs.Common.{arith, inl, inr, lit<, refl, sym, ap, subst, ◌∙◌}
use Rattle.std.proofs.lemmas.Bool.{and_parts, eqb-true, leb-false, ltb-false, ltb-true, or_cases, or_left, or_right}
use Rattle.std.proofs.lemmas.List.Elements.{All-head, All-tail, All-take}
use Rattle.r4_base.specs.Key.{key_of_rank, minor_of, offset_of, rank}
use Rattle.r4_base.specs.declared.key.Key.{Key}
use Rattle.r4_base.specs.Value.{Value, Stat as StatValue, Entry, Byte, Content, at_key}
use Rattle.r4_base.specs.Volume.{HasStat, IsObject, byte_rank, object_of, root_object, stat_rank}
use Rattle.r4_base.specs.declared.items.Attr.{Attr}
use Rattle.r4_base.specs.declared.items.Target.{Target}
use Rattle.r4_base.specs.declared.things.Oid.{Oid}
use Rattle.r4_base.proofs.Visible.{byte_back, byte_object}
use Rattle.r4_content.specs.Bodies.{fill_gap, larger, read, resize, smaller, truncate, truncated, write, written}
use Rattle.r4_content.specs.Course.{Course, Ask, Scan, Answer, Change, asked, ending, of_content}
use Rattle.r4_content.specs.Edited.{Edits, Pairs, and_also, changed, is_between, is_in, pairs_between}
use Rattle.r4_content.specs.Entries.{create, entries_from, entries_to, if_empty, is_no_id, link, linked, mkdir, move_to, moved, moved_onto, name_in, names, rename, replace, rmdir, set_parents, unlink, unname_in, with_entries, without}
use Rattle.r4_content.specs.Fields.{HasBytePaths, HasBytes, HasNumbers}
use Rattle.r4_content.specs.Locality.{IsByteKey, ReadsBytes, Touches, commands}
use Rattle.r4_content.specs.Meaning.{course, is_path, named, set_attrs, stat}
use Rattle.r4_content.specs.Objects.{Object, cut_body, new_directory, new_file, set_body, cut_key, entry_less, entry_more, entry_rank, is_among, is_dir, is_full, is_same, is_same_target, made_in, set_attr, set_entry, unnamed}
use Rattle.r4_content.specs.Walk.{attr_in, may_be_object, target_in}
use Rattle.r4_content.specs.Ways.{Named, Place, entry_in, if_free, object_at, step, steps, to_ends, to_entry, to_file, to_free, to_object, to_parent, with_attr, with_target}
use Rattle.r4_content.specs.declared.command.Command.{Command}
use Rattle.r4_content.specs.declared.command.Command.TheVariants.{Create, Fill, Mkdir, Write, Truncate, Read, Stat, Names, Link, Unlink, Rmdir, Rename, Chmod, Chown, Times, Begin, End, Commit}
use Rattle.r4_content.specs.declared.reply.Reply.{Reply}
use Rattle.r4_content.proofs.CourseLaws.{at_itself}
use Rattle.r4_content.proofs.EditLaws.{one_key}
use Rattle.r4_content.proofs.EditParts.{IsOff, is_off, off_both, true_not_false}
use Rattle.r4_content.proofs.FileEdits.{IsElsewhere, off_attr, off_body, off_cuts, off_gap, off_resize}
use Rattle.r4_content.proofs.Losing.{off_unnamed}
use Rattle.r4_content.proofs.Naming.{last_bytes, off_entry, off_key}
use Rattle.r4_content.proofs.Ranks.{between_is, in_body, name_fits, root_is_object}
use Rattle.r4_content.proofs.Shapes.{entry_dir, stat_back, where_is}

-- the stat key of the object of a key
abbrev stat_of : ℕ → ℕ
stat_of k = stat_rank (object_of (key_of_rank k))

abbrev IsBodyKey : ℕ → Type 0
IsBodyKey k = minor_of (key_of_rank k) ≡ 4

stat_minor : (o : Target) → IsObject o → IsBodyKey (stat_rank o) → ⊥
stat_minor o is four = let one : (o.locality * 16 + 1) % 16 ≡ 4 = sym (ap minor_of (stat_back o is)) ∙ four in absurd (omega (arith, one))

entry_minor : (d : Target) (n : List ℕ) → d.oid.0 < 2 ^ 60 → All (λ x. x < 256) n → IsBodyKey (entry_rank d n) → ⊥
entry_minor d n small bytes four = let none : 0 ≡ 4 = sym (entry_dir d n small bytes).1 ∙ four in absurd (omega (arith, none))

byte_stat : (o : Target) (x k : ℕ) → IsObject o → x < 2 ^ 64 → k ≡ byte_rank o x → stat_of k ≡ stat_rank o
byte_stat o x k is lt e = ap stat_of e ∙ ap (λ q. stat_rank (object_of q)) (byte_back o x is lt) ∙ ap stat_rank (byte_object o x)

stat_value : (v : Option Value) (a : Attr) → attr_in v ≡ Some a → v ≡ Some (StatValue a)
stat_value None a e = cc
stat_value (Some (StatValue b)) a e = cc
stat_value (Some (Entry s t)) a e = cc
stat_value (Some (Byte x)) a e = cc

named_by : (b : Bool) (s : List ℕ) (o t : Target) → (if b then Some o else None) ≡ Some t → Some (Entry s o) ≡ Some (Entry s t)
named_by true s o t e = ap (λ x. elim x as (λ _. Option Value) [ None ↦ None | Some y ↦ Some (Entry s y) ]) e
named_by false s o t e = cc

target_value : (n : List ℕ) (v : Option Value) (t : Target) → target_in n v ≡ Some t → (s : List ℕ) × (v ≡ Some (Entry s t))
target_value n None t e = cc
target_value n (Some (StatValue b)) t e = cc
target_value n (Some (Entry s o)) t e = (s, named_by (bytes_eq s n) s o t e)
target_value n (Some (Byte x)) t e = cc

-- the key of an offset below a size is that of a byte
byte_key_is : (m : Content) (o : Target) (a : Attr) (x k : ℕ) → HasStat m o a → x < 2 ^ 64 → k ≡ byte_rank o x
    → x < a.size → IsByteKey m k
byte_key_is m o a x k found lt is below =
    let (there, low) = subst (λ (q : Key). HasStat m (object_of q) a × (offset_of q < a.size)) (sym
    (byte_back o x found.0 lt))
    (subst (λ (p : Target). HasStat m p a) (sym (byte_object o x)) found, below) in
    subst (IsByteKey m) (sym is) (a, there, low)

module _ (m : Content) (numbers : HasNumbers m) (S : ℕ → Type 0) where
  -- each body key that the course asks for, or changes at its end, has its object's stat key among S, which has
  -- all stat keys that are asked for;
  -- and one that it asks for is that of a byte
  Good : Course → Type 0
  Good (Ask k next) = (IsBodyKey k → ⊥) × (S k → Good (next (at_key m k)))
  Good (Scan from to next) = ((k : ℕ) → is_between from to k ≡ true → IsBodyKey k
      → S (stat_of k) × IsByteKey m k) × Good (next (pairs_between m from to))
  Good (Answer r) = Unit {0}
  Good (Change e) = (k : ℕ) → is_in (changed e) k ≡ true → IsBodyKey k → S (stat_of k)

  told : (c : Course) → Good c → ((k : ℕ) → is_in (asked c (of_content m)) k ≡ true → S k) → (k : ℕ) → (is_in (asked c (of_content m)) k ≡ true) ⊎ (is_in (changed (ending c (of_content m)).edits) k ≡ true) → IsBodyKey k → S (stat_of k)
  unfolding Good
  told (Ask q next) good all k (inl e) four = elim (or_cases (is_between q (q + 1) k) (is_in (asked (next (at_key m q)) (of_content m)) k) e) [
    | inl here ↦ absurd (good.0 (subst IsBodyKey (eqb-true k q (sym (one_key k q) ∙ here)) four))
    | inr later ↦ told (next (at_key m q)) (good.1 (all q (or_left _ _ (at_itself q)))) (λ x h. all x (or_right _ _ h)) k (inl later) four
  ]
  told (Ask q next) good all k (inr e) four = told (next (at_key m q)) (good.1 (all q (or_left _ _ (at_itself q)))) (λ x h. all x (or_right _ _ h)) k (inr e) four
  told (Scan from to next) good all k (inl e) four = elim (or_cases (is_between from to k) (is_in (asked (next (pairs_between m from to)) (of_content m)) k) e) [
    | inl here ↦ (good.0 k here four).0
    | inr later ↦ told (next (pairs_between m from to)) good.1 (λ x h. all x (or_right _ _ h)) k (inl later) four
  ]
  told (Scan from to next) good all k (inr e) four = told (next (pairs_between m from to)) good.1 (λ x h. all x (or_right _ _ h)) k (inr e) four
  told (Answer r) good all k (inl e) four = absurd (true_not_false (sym e))
  told (Answer r) good all k (inr e) four = absurd (true_not_false (sym e))
  told (Change x) good all k (inl e) four = absurd (true_not_false (sym e))
  told (Change x) good all k (inr e) four = good k e four

  told_bytes : (c : Course) → Good c → ((k : ℕ) → is_in (asked c (of_content m)) k ≡ true → S k) → (k : ℕ)
      → is_in (asked c (of_content m)) k ≡ true → IsBodyKey k → IsByteKey m k
  unfolding Good
  told_bytes (Ask q next) good all k e four = elim (or_cases (is_between q (q + 1) k) (is_in (asked (next
      (at_key m q)) (of_content m)) k) e) [
        | inl here ↦ absurd (good.0 (subst IsBodyKey (eqb-true k q (sym (one_key k q) ∙ here)) four))
        | inr later ↦ told_bytes (next (at_key m q)) (good.1 (all q (or_left _ _ (at_itself q)))) (λ x h. all x
            (or_right _ _ h)) k later four
      ]
  told_bytes (Scan from to next) good all k e four = elim (or_cases (is_between from to k) (is_in (asked (next
      (pairs_between m from to)) (of_content m)) k) e) [
        | inl here ↦ (good.0 k here four).1
        | inr later ↦ told_bytes (next (pairs_between m from to)) good.1 (λ x h. all x (or_right _ _ h)) k later four
      ]
  told_bytes (Answer r) good all k e four = absurd (true_not_false (sym e))
  told_bytes (Change x) good all k e four = absurd (true_not_false (sym e))

  -- ---- objects that were found

  record IsFound (o : Object) : Type 0 where
    stat : HasStat m o.target o.attr
    asked_for : S (stat_rank o.target)
    small : o.target.oid.0 < 2 ^ 60

  good_answer : (r : Reply) → Good (Answer r)
  unfolding Good
  good_answer r = tt

  good_ask : (k : ℕ) (next : Option Value → Course) → (IsBodyKey k → ⊥) → (S k → Good (next (at_key m k))) → Good (Ask k next)
  unfolding Good
  good_ask k next h g = (h, g)

  good_scan : (from to : ℕ) (next : Pairs → Course)
      → ((k : ℕ) → is_between from to k ≡ true → IsBodyKey k → S (stat_of k) × IsByteKey m k)
      → Good (next (pairs_between m from to)) → Good (Scan from to next)
  unfolding Good
  good_scan from to next h g = (h, g)

  good_change : (e : Edits) → ((k : ℕ) → is_in (changed e) k ≡ true → IsBodyKey k → S (stat_of k)) → Good (Change e)
  unfolding Good
  good_change e h = h

  good_if : (b : Bool) (x y : Course) → (b ≡ true → Good x) → (b ≡ false → Good y) → Good (if b then x else y)
  good_if true x y h g = h refl
  good_if false x y h g = g refl

  good_attr : (r : Reply) (next : Attr → Course) (v : Option Attr) → ((a : Attr) → v ≡ Some a → Good (next a)) → Good (with_attr r next v)
  good_attr r next None h = good_answer r
  good_attr r next (Some a) h = h a refl

  good_target : (next : Target → Course) (v : Option Target) → ((t : Target) → v ≡ Some t → Good (next t)) → Good (with_target next v)
  good_target next None h = good_answer _
  good_target next (Some t) h = h t refl

  good_at : (t : Target) → t.ordering < 2 ^ 64 → (next : Object → Course) → ((o : Object) → IsFound o → Good (next o)) → Good (object_at t next)
  good_at t ordering next h = good_if (may_be_object t) _ _
      (λ e.
      let parts = and_parts (nat_lt t.locality (2 ^ 60)) (nat_lt t.oid.0 (2 ^ 60)) e in
      let locality = ltb-true _ _ parts.0 in
      let small = ltb-true _ _ parts.1 in
      let is : IsObject t = (locality, ordering, omega (arith, small)) in
      good_ask (stat_rank t) _ (stat_minor t is) (λ asked_for. good_attr _ _ (attr_in (at_key m (stat_rank t))) (λ a at. h (record { target = t; attr = a }) (record { stat = (is, stat_value (at_key m (stat_rank t)) a at); asked_for = asked_for; small = small }))))
      (λ e. good_answer _)

  -- ---- the ways

  good_step : (n : List ℕ) (next : Place → Course) → All (λ x. x < 256) n → ((p : Place) → IsFound p.here → Good (next p)) → (p : Place) → IsFound p.here → Good (step n next p)
  good_step n next bytes h p f = good_if (is_dir p.here) _ _
      (λ e. good_ask (entry_rank p.here.target n) _ (entry_minor p.here.target n f.small bytes) (λ asked_for.
      good_target _ (target_in n (at_key m (entry_rank p.here.target n))) (λ t at.
      let (s, entry) = target_value n (at_key m (entry_rank p.here.target n)) t at in
      good_at t (numbers.orderings (entry_rank p.here.target n) s t entry) _ (λ o g. h (record { here = o; above = p.above ++ p.here ∷ [] }) g))))
      (λ e. good_answer _)

  good_steps : (path : List (List ℕ)) → HasBytes path → (next : Place → Course) → ((p : Place) → IsFound p.here → Good (next p)) → (p : Place) → IsFound p.here → Good (steps path next p)
  good_steps [] bytes next h p f = h p f
  good_steps (n ∷ path) bytes next h p f =
      good_step n (steps path next) (All-head (λ s. All (λ x. x < 256) s) n path bytes) (λ q g. good_steps path (All-tail (λ s. All (λ x. x < 256) s) n path bytes) next h q g) p f

  good_object : (path : List (List ℕ)) → HasBytes path → (next : Place → Course) → ((p : Place) → IsFound p.here → Good (next p)) → Good (to_object path next)
  unfolding to_object
  good_object path bytes next h =
      good_ask (stat_rank root_object) _ (stat_minor root_object root_is_object) (λ asked_for.
      good_attr _ _ (attr_in (at_key m (stat_rank root_object))) (λ a at.
      good_steps path bytes next h (record { here = record { target = root_object; attr = a }; above = [] })
      (record { stat = (root_is_object, stat_value (at_key m (stat_rank root_object)) a at); asked_for = asked_for; small = lit< tt })))

  good_parent : (r : Reply) (path : List (List ℕ)) → HasBytes path → (next : Place → List ℕ → Course) → ((p : Place) (n : List ℕ) → All (λ x. x < 256) n → IsFound p.here → Good (next p n)) → Good (to_parent r path next)
  unfolding to_parent
  good_parent r path bytes next h = good_if (length path == 0) _ _
      (λ e. good_answer r)
      (λ e. good_object (take (length path - 1) path) (All-take (λ s. All (λ x. x < 256) s) (length path - 1) path bytes) _ (λ p f. h p (slice_index_or path (length path - 1) []) (last_bytes path e bytes) f))

  good_entry : (r : Reply) (path : List (List ℕ)) → HasBytes path → (next : Object → List ℕ → Place → Course)
      → ((dir : Object) (n : List ℕ) (p : Place) → All (λ x. x < 256) n → IsFound dir → IsFound p.here → Good (next dir n p)) → Good (to_entry r path next)
  unfolding to_entry
  good_entry r path bytes next h = good_parent r path bytes _ (λ p n nb f. good_step n _ nb (λ q g. h p.here n q nb f g) p f)

  good_free : (path : List (List ℕ)) → HasBytes path → (next : Object → List ℕ → Course) → ((dir : Object) (n : List ℕ) → All (λ x. x < 256) n → IsFound dir → Good (next dir n)) → Good (to_free path next)
  unfolding to_free
  good_free path bytes next h = good_parent _ path bytes _ (λ p n nb f. good_if (is_dir p.here) _ _
      (λ e. good_ask (entry_rank p.here.target n) _ (entry_minor p.here.target n f.small nb) (λ asked_for. if_named (entry_in (at_key m (entry_rank p.here.target n))) n (next p.here n) (h p.here n nb f)))
      (λ e. good_answer _))
    where
      if_named : (v : Option Named) (n : List ℕ) (c : Course) → Good c → Good (if_free n c v)
      if_named None n c g = g
      if_named (Some e) n c g = good_if (bytes_eq e.name n) _ _ (λ _. good_answer _) (λ _. good_answer _)

  good_file : (limit : ℕ) (path : List (List ℕ)) (end : ℕ) → HasBytes path → (next : Object → Course) → ((o : Object) → IsFound o → end ≤ limit → Good (next o)) → Good (to_file limit path end next)
  unfolding to_file
  good_file limit path end bytes next h = good_object path bytes _ (λ p f. good_if (is_dir p.here) _ _
      (λ e. good_answer _)
      (λ e. good_if (nat_lt limit end) _ _ (λ g. good_answer _) (λ g. h p.here f (ltb-false limit end g))))

  good_ends : (from to : List (List ℕ)) → HasBytes from → HasBytes to → (next : Object → List ℕ → Object → Object → List ℕ → Course)
      → ((dir : Object) (n : List ℕ) (o new_dir : Object) (new_name : List ℕ) → All (λ x. x < 256) n → All (λ x. x < 256) new_name → IsFound dir → IsFound o → IsFound new_dir → Good (next dir n o new_dir new_name)) → Good (to_ends from to next)
  unfolding to_ends
  good_ends from to from_bytes to_bytes next h = good_entry _ from from_bytes _ (λ dir n p nb fd fp. good_parent _ to to_bytes _ (λ q new_name qb fq. good_if (not (is_dir q.here)) _ _
      (λ e. good_answer _)
      (λ e. good_if (is_dir p.here && (is_among p.here q.above || is_same p.here q.here)) _ _ (λ g. good_answer _) (λ g. h dir n p.here q.here new_name nb qb fd fp fq))))

  -- ---- edits

  -- edits of an object's bytes, and of keys that are no bodies'
  good_edits : (o : Object) (e : Edits) → IsFound o → ((k : ℕ) → IsBodyKey k → IsElsewhere o.target k → IsOff e k) → Good (Change e)
  good_edits o e f off = good_change e (λ k on four. elim (where_is o.target k) [
    | inl is ↦ absurd (stat_minor o.target f.stat.0 (subst IsBodyKey is four))
    | inr other ↦ elim other [
      | inl b ↦ let (x, lt, is) = b in subst S (sym (byte_stat o.target x k f.stat.0 lt is)) f.asked_for
      | inr elsewhere ↦ absurd (true_not_false (sym on ∙ is_off e k (off k four elsewhere)))
    ]
  ])

  no_stat : (o : Target) (k : ℕ) → IsObject o → IsBodyKey k → k ≢ stat_rank o
  no_stat o k is four e = stat_minor o is (subst IsBodyKey e four)

  no_entry : (d : Target) (n : List ℕ) (k : ℕ) → d.oid.0 < 2 ^ 60 → All (λ x. x < 256) n → IsBodyKey k → k ≢ entry_rank d n
  no_entry d n k small bytes four e = entry_minor d n small bytes (subst IsBodyKey e four)

  -- ---- the commands

  made_is : (dir : Object) (n : List ℕ) (oid : Oid) (a : Attr) → dir.target.oid.0 < 2 ^ 60 → All (λ x. x < 256) n → oid.0 < 2 ^ 64 → IsObject (made_in dir n oid a).target
  made_is dir n oid a small bytes lt = (small, (name_fits dir.target n small bytes).small 1, lt)

  off_named : (dir : Object) (n : List ℕ) (o : Object) (k : ℕ) → IsFound dir → All (λ x. x < 256) n → IsObject o.target → IsBodyKey k → IsOff (name_in dir n o) k
  off_named dir n o k f bytes is four =
      off_both (set_entry dir n o.target) (and_also (set_attr o o.attr) (set_attr dir (entry_more (is_dir o) dir.attr))) k (off_entry dir n o.target k (no_entry dir.target n k f.small bytes four))
      (off_both (set_attr o o.attr) (set_attr dir (entry_more (is_dir o) dir.attr)) k (off_attr o o.attr k (no_stat o.target k is four)) (off_attr dir (entry_more (is_dir o) dir.attr) k (no_stat dir.target k f.stat.0 four)))

  good_named : (dir : Object) (n : List ℕ) (o : Object) → IsFound dir → All (λ x. x < 256) n → IsObject o.target → Good (Change (name_in dir n o))
  good_named dir n o f bytes is = good_edits dir (name_in dir n o) f (λ k four elsewhere. off_named dir n o k f bytes is four)

  no_id : (oid : Oid) → is_no_id oid ≡ false → oid.0 < 2 ^ 64
  no_id oid e = let small = leb-false (2 ^ 60 - 1) oid.0 e in omega (arith, small)

  good_create : (path : List (List ℕ)) (oid : Oid) → HasBytes path → Good (create path oid)
  good_create path oid bytes = good_free path bytes _ (λ dir n nb f. good_if (is_no_id oid) _ _ (λ e. good_answer _) (λ e. good_named dir n (made_in dir n oid new_file) f nb (made_is dir n oid new_file f.small nb (no_id oid e))))

  good_mkdir : (path : List (List ℕ)) (oid : Oid) → HasBytes path → Good (mkdir path oid)
  good_mkdir path oid bytes = good_free path bytes _ (λ dir n nb f. good_if (is_full dir) _ _ (λ e. good_answer _)
      (λ e. good_if (is_no_id oid) _ _ (λ g. good_answer _) (λ g. good_named dir n (made_in dir n oid new_directory) f nb (made_is dir n oid new_directory f.small nb (no_id oid g)))))

  good_link : (from to : List (List ℕ)) → HasBytes from → HasBytes to → Good (link from to)
  good_link from to from_bytes to_bytes = good_object from from_bytes _ (λ p fp. good_if (is_dir p.here) _ _ (λ e. good_answer _)
      (λ e. good_free to to_bytes _ (λ dir n nb f. good_if (is_full p.here) _ _ (λ g. good_answer _) (λ g. good_named dir n (linked p.here) f nb fp.stat.0))))

  -- attributes
  good_attrs : (path : List (List ℕ)) (h : Attr → Attr) → HasBytes path → Good (set_attrs path h)
  good_attrs path h bytes = good_object path bytes _ (λ p f. good_edits p.here _ f (λ k four elsewhere. off_attr p.here _ k (no_stat p.here.target k f.stat.0 four)))

  -- bytes
  size_of : (o : Object) → IsFound o → o.attr.size < 2 ^ 64
  size_of o f = numbers.sizes o.target o.attr f.stat

  good_write : (limit : ℕ) (path : List (List ℕ)) (from : ℕ) (xs : List ℕ) → limit ≤ 2 ^ 64 → HasBytes path → Good (write limit path from xs)
  good_write limit path from xs le bytes = good_file limit path (from + length xs) bytes _ (λ o f low. good_if (length xs == 0) _ _ (λ e. good_answer _)
      (λ e. good_edits o (written o from xs) f (λ k four elsewhere.
      off_both (fill_gap o from) (and_also (set_body o from xs) (resize o (larger o.attr.size (from + length xs)))) k (off_gap o from k (omega (arith, low, le)) elsewhere.bytes)
      (off_both (set_body o from xs) (resize o (larger o.attr.size (from + length xs))) k (off_body o from xs k (omega (arith, low, le)) elsewhere.bytes) (off_resize o (larger o.attr.size (from + length xs)) k elsewhere.stat)))))

  off_truncated : (o : Object) (n k : ℕ) → n ≤ 2 ^ 64 → o.attr.size < 2 ^ 64 → IsElsewhere o.target k → IsOff (truncated o n) k
  off_truncated o n k le size elsewhere = off_both (if nat_lt n o.attr.size then cut_body o n o.attr.size else fill_gap o n) (resize o n) k (by_size (nat_lt n o.attr.size)) (off_resize o n k elsewhere.stat)
    where
      by_size : (b : Bool) → IsOff (if b then cut_body o n o.attr.size else fill_gap o n) k
      by_size true = off_cuts o n o.attr.size k (omega (arith, size)) elsewhere.bytes
      by_size false = off_gap o n k le elsewhere.bytes

  good_truncate : (limit : ℕ) (path : List (List ℕ)) (n : ℕ) → limit ≤ 2 ^ 64 → HasBytes path → Good (truncate limit path n)
  good_truncate limit path n le bytes = good_file limit path n bytes _ (λ o f low. good_edits o (truncated o n) f (λ k four elsewhere. off_truncated o n k (omega (arith, low, le)) (size_of o f) elsewhere))

  smaller_right : (a b : ℕ) → smaller a b ≤ b
  smaller_right a b = by_test (nat_lt a b) refl
    where
      by_test : (t : Bool) → nat_lt a b ≡ t → (if t then a else b) ≤ b
      by_test true e = let lt = ltb-true a b e in omega (arith, lt)
      by_test false e = omega arith

  good_read : (path : List (List ℕ)) (from len : ℕ) → HasBytes path → Good (read path from len)
  good_read path from len bytes = good_object path bytes _ (λ p f. good_if (is_dir p.here) _ _ (λ e. good_answer _)
      (λ e. good_if (nat_lt from (smaller (from + len) p.here.attr.size)) _ _
      (λ g. good_scan _ _ _ (λ k at four.
      let (x, is, low, high) = in_body p.here.target from (smaller (from + len) p.here.attr.size) k at in
      let le = smaller_right (from + len) p.here.attr.size in
      let size = size_of p.here f in
      let lt : x < 2 ^ 64 = omega (arith, high, le, size) in (
        subst S (sym (byte_stat p.here.target x k f.stat.0 lt is)) f.asked_for,
        byte_key_is m p.here.target p.here.attr x k f.stat lt is (omega (arith, high, le)),
      )) (good_answer _))
      (λ g. good_answer _)))

  -- entries of a directory have keys of their own
  entries_key : (dir k : ℕ) → is_between (entries_from dir) (entries_to dir) k ≡ true → IsBodyKey k → ⊥
  unfolding rank key_of_rank
  entries_key dir k at four =
      let (low, high) = between_is (entries_from dir) (entries_to dir) k at in
      let first : k / 2 ^ 192 ≡ dir * 16 = omega (arith, low, high) in
      let is : k / 2 ^ 192 % 16 ≡ 4 = four in
      absurd (omega (arith, first, is))

  good_entries : (o : Object) (next : Pairs → Course) → Good (next (pairs_between m (entries_from o.target.oid.0) (entries_to o.target.oid.0))) → Good (with_entries o next)
  good_entries o next h = good_scan (entries_from o.target.oid.0) (entries_to o.target.oid.0) next (λ k at four. absurd (entries_key o.target.oid.0 k at four)) h

  good_names : (path : List (List ℕ)) → HasBytes path → Good (names path)
  good_names path bytes = good_object path bytes _ (λ p f. good_if (is_dir p.here) _ _ (λ e. good_entries p.here _ (good_answer _)) (λ e. good_answer _))

  good_stat : (path : List (List ℕ)) → HasBytes path → Good (stat path)
  good_stat path bytes = good_object path bytes _ (λ p f. good_answer _)

  good_empty : (c : Course) (ns : List (List ℕ)) → Good c → Good (if_empty c ns)
  good_empty c [] h = h
  good_empty c (n ∷ ns) h = good_answer _

  -- an entry goes
  off_gone : (o : Object) (k : ℕ) → IsFound o → IsBodyKey k → IsElsewhere o.target k → IsOff (unnamed o) k
  off_gone o k f four elsewhere = let size = size_of o f in off_unnamed o k (omega (arith, size)) elsewhere.stat elsewhere.bytes

  good_unnamed : (dir : Object) (n : List ℕ) (o : Object) → IsFound dir → IsFound o → All (λ x. x < 256) n → Good (Change (unname_in dir n o))
  good_unnamed dir n o fd fo bytes = good_edits o (unname_in dir n o) fo (λ k four elsewhere.
      off_both (cut_key (entry_rank dir.target n)) (and_also (set_attr dir (entry_less (is_dir o) dir.attr)) (unnamed o)) k (off_key (entry_rank dir.target n) k (no_entry dir.target n k fd.small bytes four))
      (off_both (set_attr dir (entry_less (is_dir o) dir.attr)) (unnamed o) k (off_attr dir (entry_less (is_dir o) dir.attr) k (no_stat dir.target k fd.stat.0 four)) (off_gone o k fo four elsewhere)))

  good_unlink : (path : List (List ℕ)) → HasBytes path → Good (unlink path)
  good_unlink path bytes = good_entry _ path bytes _ (λ dir n p nb fd fp. good_if (is_dir p.here) _ _ (λ e. good_answer _) (λ e. good_unnamed dir n p.here fd fp nb))

  good_rmdir : (path : List (List ℕ)) → HasBytes path → Good (rmdir path)
  good_rmdir path bytes = good_entry _ path bytes _ (λ dir n p nb fd fp. good_if (is_dir p.here) _ _ (λ e. good_entries p.here _ (good_empty _ _ (good_unnamed dir n p.here fd fp nb))) (λ e. good_answer _))

  -- an entry moves
  off_parents : (from to : Object) (d : Bool) (k : ℕ) → IsObject from.target → IsObject to.target → IsBodyKey k → IsOff (set_parents from to d) k
  off_parents from to d k fi ti four = by_test (is_same from to)
    where
      by_test : (b : Bool) → IsOff (if b then set_attr to (entry_more d (entry_less d to.attr)) else and_also (set_attr from (entry_less d from.attr)) (set_attr to (entry_more d to.attr))) k
      by_test true = off_attr to (entry_more d (entry_less d to.attr)) k (no_stat to.target k ti four)
      by_test false = off_both (set_attr from (entry_less d from.attr)) (set_attr to (entry_more d to.attr)) k (off_attr from (entry_less d from.attr) k (no_stat from.target k fi four)) (off_attr to (entry_more d to.attr) k (no_stat to.target k ti four))

  off_moved : (dir : Object) (n : List ℕ) (o new_dir : Object) (new_name : List ℕ) (k : ℕ) → IsObject dir.target → dir.target.oid.0 < 2 ^ 60 → IsObject new_dir.target → new_dir.target.oid.0 < 2 ^ 60
      → All (λ x. x < 256) n → All (λ x. x < 256) new_name → IsBodyKey k → IsOff (moved dir n o new_dir new_name) k
  off_moved dir n o new_dir new_name k di ds ni ns nb qb four =
      off_both (cut_key (entry_rank dir.target n)) (and_also (set_entry new_dir new_name o.target) (set_parents dir new_dir (is_dir o))) k (off_key (entry_rank dir.target n) k (no_entry dir.target n k ds nb four))
      (off_both (set_entry new_dir new_name o.target) (set_parents dir new_dir (is_dir o)) k (off_entry new_dir new_name o.target k (no_entry new_dir.target new_name k ns qb four)) (off_parents dir new_dir (is_dir o) k di ni four))

  good_moved : (dir : Object) (n : List ℕ) (o new_dir : Object) (new_name : List ℕ) → IsFound dir → IsFound new_dir → All (λ x. x < 256) n → All (λ x. x < 256) new_name → Good (Change (moved dir n o new_dir new_name))
  good_moved dir n o new_dir new_name fd fn nb qb = good_edits dir (moved dir n o new_dir new_name) fd (λ k four elsewhere. off_moved dir n o new_dir new_name k fd.stat.0 fd.small fn.stat.0 fn.small nb qb four)

  good_onto : (dir : Object) (n : List ℕ) (o new_dir : Object) (new_name : List ℕ) (old : Object) → IsFound dir → IsFound new_dir → IsFound old → All (λ x. x < 256) n → All (λ x. x < 256) new_name
      → Good (Change (moved_onto dir n o new_dir new_name old))
  good_onto dir n o new_dir new_name old fd fn fo nb qb = good_edits old (moved_onto dir n o new_dir new_name old) fo (λ k four elsewhere.
      off_both (unnamed old) (moved dir n o (without new_dir old) new_name) k (off_gone old k fo four elsewhere)
      (off_moved dir n o (without new_dir old) new_name k fd.stat.0 fd.small fn.stat.0 fn.small nb qb four))

  good_replace : (dir : Object) (n : List ℕ) (o new_dir : Object) (new_name : List ℕ) (old : Object) → IsFound dir → IsFound new_dir → IsFound old → All (λ x. x < 256) n → All (λ x. x < 256) new_name
      → Good (replace dir n o new_dir new_name old)
  good_replace dir n o new_dir new_name old fd fn fo nb qb =
      let onto = good_onto dir n o new_dir new_name old fd fn fo nb qb in
      good_if (is_dir o) _ _ (λ e. good_if (is_dir old) _ _ (λ g. good_entries old _ (good_empty _ _ onto)) (λ g. good_answer _)) (λ e. good_if (is_dir old) _ _ (λ g. good_answer _) (λ g. onto))

  entry_target : (v : Option Value) (e : Named) → entry_in v ≡ Some e → v ≡ Some (Entry e.name e.target)
  entry_target None e h = cc
  entry_target (Some (StatValue a)) e h = cc
  entry_target (Some (Entry s t)) e h = ap (λ x. elim x as (λ _. Option Value) [ None ↦ None | Some y ↦ Some (Entry y.name y.target) ]) h
  entry_target (Some (Byte x)) e h = cc

  good_to : (dir : Object) (n : List ℕ) (o new_dir : Object) (new_name : List ℕ) (v : Option Named) → IsFound dir → IsFound new_dir → All (λ x. x < 256) n → All (λ x. x < 256) new_name
      → ((e : Named) → v ≡ Some e → e.target.ordering < 2 ^ 64) → Good (move_to dir n o new_dir new_name v)
  good_to dir n o new_dir new_name None fd fn nb qb h = good_if (is_dir o && not (is_same dir new_dir) && is_full new_dir) _ _ (λ e. good_answer _) (λ e. good_moved dir n o new_dir new_name fd fn nb qb)
  good_to dir n o new_dir new_name (Some x) fd fn nb qb h = good_if (not (bytes_eq x.name new_name)) _ _ (λ e. good_answer _)
      (λ e. good_if (is_same_target x.target o.target) _ _ (λ g. good_answer _) (λ g. good_at x.target (h x refl) _ (λ old fo. good_replace dir n o new_dir new_name old fd fn fo nb qb)))

  good_rename : (from to : List (List ℕ)) → HasBytes from → HasBytes to → Good (rename from to)
  good_rename from to from_bytes to_bytes = good_if (length to == 0) _ _ (λ e. good_answer _)
      (λ e. good_ends from to from_bytes to_bytes _ (λ dir n o new_dir new_name nb qb fd fo fn.
      good_ask (entry_rank new_dir.target new_name) _ (entry_minor new_dir.target new_name fn.small qb) (λ asked_for.
      good_to dir n o new_dir new_name (entry_in (at_key m (entry_rank new_dir.target new_name))) fd fn nb qb (λ x is. numbers.orderings (entry_rank new_dir.target new_name) x.name x.target (entry_target _ x is)))))

  good_path : (path : List (List ℕ)) (c : Course) → Good c → Good (named path c)
  good_path path c h = good_if (is_path path) _ _ (λ e. h) (λ e. good_answer _)

  good_course : (limit : ℕ) → limit ≤ 2 ^ 64 → (x : Command) → HasBytePaths x → Good (course limit x)
  good_course limit le (Create path oid) bytes = good_path path _ (good_create path oid bytes)
  good_course limit le (Mkdir path oid) bytes = good_path path _ (good_mkdir path oid bytes)
  good_course limit le (Write path offset text) bytes = good_path path _ (good_write limit path offset text le bytes)
  good_course limit le (Fill path offset len byte) bytes = good_path path _ (good_write limit path offset (replicate len byte) le bytes)
  good_course limit le (Truncate path size) bytes = good_path path _ (good_truncate limit path size le bytes)
  good_course limit le (Read path offset len) bytes = good_path path _ (good_read path offset len bytes)
  good_course limit le (Stat path) bytes = good_path path _ (good_stat path bytes)
  good_course limit le (Names path) bytes = good_path path _ (good_names path bytes)
  good_course limit le (Link from to) bytes = good_path from _ (good_path to _ (good_link from to bytes.0 bytes.1))
  good_course limit le (Unlink path) bytes = good_path path _ (good_unlink path bytes)
  good_course limit le (Rmdir path) bytes = good_path path _ (good_rmdir path bytes)
  good_course limit le (Rename from to) bytes = good_path from _ (good_path to _ (good_rename from to bytes.0 bytes.1))
  good_course limit le (Chmod path mode) bytes = good_path path _ (good_attrs path _ bytes)
  good_course limit le (Chown path uid gid) bytes = good_path path _ (good_attrs path _ bytes)
  good_course limit le (Times path atime mtime ctime) bytes = good_path path _ (good_attrs path _ bytes)
  good_course limit le Begin bytes = good_answer _
  good_course limit le End bytes = good_answer _
  good_course limit le Commit bytes = good_answer _

pub stats_asked : (limit : ℕ) (x : Command) (m : Content) → limit ≤ 2 ^ 64 → HasNumbers m → HasBytePaths x → (k : ℕ) → Touches (commands limit) x m k → IsBodyKey k → is_in ((commands limit).reads x m) (stat_of k) ≡ true
stats_asked limit x m le numbers bytes k touches four = told m numbers (λ q. is_in ((commands limit).reads x m) q ≡ true) (course limit x) (good_course m numbers (λ q. is_in ((commands limit).reads x m) q ≡ true) limit le x bytes) (λ q h. h) k touches four

pub bytes_asked : (limit : ℕ) (x : Command) (m : Content) → limit ≤ 2 ^ 64 → HasNumbers m → HasBytePaths x
    → ReadsBytes limit x m
bytes_asked limit x m le numbers bytes k on four = told_bytes m numbers (λ q. is_in
    ((commands limit).reads x m) q ≡ true) (course limit x) (good_course m numbers (λ q. is_in
    ((commands limit).reads x m) q ≡ true) limit le x bytes) (λ q h. h) k on four
