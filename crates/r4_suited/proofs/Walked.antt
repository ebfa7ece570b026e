-- What the edits of a command are, on what was seen: few, or those of a file's bytes and its size.
use Rattle.std.specs.Prelude.{◌≡◌, ◌⊎◌, ℕ, ◌+◌, ◌-◌, ◌*◌, ◌/◌, ◌%◌, ◌^◌, ◌<◌, ◌≤◌, List, [], ◌∷◌, ◌++◌, All, Bool}
use Rattle.std.specs.Prelude.{true, false, not, ◌&&◌, ◌||◌, ◌==◌, nat_lt, bytes_eq, length, replicate, take}
use Rattle.std.specs.Prelude.{slice_index_or, Option, Some, None, cond, if◌then◌else◌}
use Rattle.std.proofs.Common.{arith, inl, inr, refl, sym, ap, subst, ◌∙◌}
use Rattle.std.specs.Cmp.{unsigned_tied}
use Rattle.std.specs.FinMap.{find}
use Rattle.std.specs.Option.{is_none}
use Rattle.std.specs.Ordering.{nat_cmp}
use Rattle.std.proofs.lemmas.Bool.{and_parts, eqb-true, leb-false, ltb-false, or_left, or_right}
use Rattle.std.proofs.lemmas.List.Elements.{All-cons, All-head, All-nil, All-tail}
use Rattle.std.proofs.lemmas.Option.{same_Some}
use Rattle.r4_base.specs.Name.{name_fault}
use Rattle.r4_base.specs.Stat.{kind_is_good}
use Rattle.r4_base.specs.Value.{Value, Stat as StatValue, Entry, Byte}
use Rattle.r4_base.specs.Volume.{IsObject, root_object, stat_rank}
use Rattle.r4_base.specs.declared.items.Attr.{Attr}
use Rattle.r4_base.specs.declared.items.NameFault.{NameFault}
use Rattle.r4_base.specs.declared.items.Target.{Target}
use Rattle.r4_base.specs.declared.things.Oid.{Oid}
use Rattle.r4_content.specs.Bodies.{read, truncate, truncated, smaller, write, written}
use Rattle.r4_content.specs.Course.{Course, Ask, Scan, Answer, Change, asked, ending}
use Rattle.r4_content.specs.Edited.{Edits, Pairs, is_in, no_edits}
use Rattle.r4_content.specs.Entries.{create, if_empty, is_no_id, link, linked, mkdir, move_to, moved, moved_onto}
use Rattle.r4_content.specs.Entries.{name_in, unname_in, names, rename, replace, rmdir, unlink, with_entries}
use Rattle.r4_content.specs.Fields.{HasBytePaths, HasBytes}
use Rattle.r4_content.specs.Meaning.{course, greatest_size, is_path, named, set_attrs, stat}
use Rattle.r4_content.specs.Objects.{Object, entry_rank, is_among, is_dir, is_full, is_same, is_same_target, made_in}
use Rattle.r4_content.specs.Objects.{new_directory, new_file, set_attr}
use Rattle.r4_content.specs.Seen.{of_seen, pairs_in}
use Rattle.r4_content.specs.Walk.{attr_in, may_be_object, target_in}
use Rattle.r4_content.specs.Ways.{Named, Place, entry_in, if_free, object_at, step, steps, to_ends, to_entry, to_file}
use Rattle.r4_content.specs.Ways.{to_free, to_object, to_parent, with_attr, with_target}
use Rattle.r4_content.specs.declared.command.Command.{Command}
use Rattle.r4_content.specs.declared.command.Command.TheVariants.{Create, Fill, Mkdir, Write, Truncate, Read, Stat}
use Rattle.r4_content.specs.declared.command.Command.TheVariants.{Names, Link, Unlink, Rmdir, Rename, Chmod, Chown}
use Rattle.r4_content.specs.declared.command.Command.TheVariants.{Times, Begin, End, Commit}
use Rattle.r4_content.specs.declared.reply.Reply.{Reply}
use Rattle.r4_content.proofs.CourseLaws.{at_itself}
use Rattle.r4_content.proofs.Found.{small_object}
use Rattle.r4_content.proofs.Ranks.{name_fits, root_is_object}
use Rattle.r4_content.proofs.Rewired.{entry_is}
use Rattle.r4_content.proofs.SameWay.{target_is}
use Rattle.r4_content.proofs.Writing.{positive}
use Rattle.r4_suited.specs.Suited.{AreLawfulSeen, IsLawfulSeen}
use Rattle.r4_suited.proofs.Few.{AreFew, IsHere, IsName, few_attr, few_less, few_moved, few_named, few_none, few_onto}
use Rattle.r4_suited.proofs.Few.{few_unnamed}

-- bytes are written in a file that was found
pub record Writes (s : Pairs) (e : Edits) : Type 0 where
  pub file : Object
  pub from : ℕ
  pub bytes : List ℕ
  pub here : IsHere s file
  pub some : 0 < length bytes
  pub fits : from + length bytes ≤ greatest_size
  pub is : e ≡ written file from bytes

-- a file that was found gets a size
pub record Resizes (s : Pairs) (e : Edits) : Type 0 where
  pub file : Object
  pub size : ℕ
  pub here : IsHere s file
  pub fits : size ≤ greatest_size
  pub is : e ≡ truncated file size

abbrev pub AreMade : Pairs → Edits → Type 0
AreMade s e = AreFew 4 3 e ⊎ (Writes s e ⊎ Resizes s e)

-- an object that was found at a key of these
pub record IsMet (s : Pairs) (S : ℕ → Type 0) (o : Object) : Type 0 where
  pub here : IsHere s o
  pub among : S (stat_rank o.target)

-- What holds of the edits of each command, on what was seen: of no edits, and of those that commands make.
pub record HoldsOfEdits (s : Pairs) (S : ℕ → Type 0) (P : Edits → Type 0) : Type 0 where
  pub none : P no_edits
  pub made : (dir : Object) (n : List ℕ) (oid : Oid) (a : Attr) → IsMet s S dir → IsName n
      → kind_is_good a.mode ≡ true → is_no_id oid ≡ false → P (name_in dir n (made_in dir n oid a))
  pub linked : (dir : Object) (n : List ℕ) (o : Object) → IsMet s S dir → IsName n → IsMet s S o
      → P (name_in dir n (linked o))
  pub attrs : (o : Object) (a : Attr) → IsMet s S o → kind_is_good a.mode ≡ true → P (set_attr o a)
  pub writes : (e : Edits) (w : Writes s e) → S (stat_rank w.file.target) → P e
  pub resizes : (e : Edits) (w : Resizes s e) → S (stat_rank w.file.target) → P e
  pub unnamed : (dir : Object) (n : List ℕ) (o : Object) → IsMet s S dir → IsName n → IsMet s S o
      → P (unname_in dir n o)
  pub moved : (dir : Object) (n : List ℕ) (o new_dir : Object) (new_name : List ℕ) → IsMet s S dir → IsName n
      → IsMet s S new_dir → IsName new_name → P (moved dir n o new_dir new_name)
  pub onto : (dir : Object) (n : List ℕ) (o new_dir : Object) (new_name : List ℕ) (old : Object) → IsMet s S dir
      → IsName n → IsMet s S new_dir → IsMet s S old → IsName new_name → P (moved_onto dir n o new_dir new_name old)

-- ---- what was seen

-- what holds of all pairs holds of one that is found
pub at_found : (P : ℕ × Value → Type 0) (s : Pairs) (k : ℕ) (v : Value) → All P s → find nat_cmp k s ≡ Some v → P (k, v)
at_found P [] k v all h = absurd cc
at_found P (e ∷ s) k v all h =
    by_key (k == e.0) refl (sym (ap (λ (b : Bool). cond b (Some e.1) (find nat_cmp k s)) (unsigned_tied k e.0)) ∙ h)
    (at_found P s k v (All-tail P e s all))
  where
    by_key : (b : Bool) → (k == e.0) ≡ b → cond b (Some e.1) (find nat_cmp k s) ≡ Some v
        → (find nat_cmp k s ≡ Some v → P (k, v)) → P (k, v)
    by_key true is g rest = subst P (λ i. (sym (eqb-true k e.0 is) i, same_Some e.1 v g i)) (All-head P e s all)
    by_key false is g rest = rest g

attr_is : (v : Option Value) (a : Attr) → attr_in v ≡ Some a → v ≡ Some (StatValue a)
attr_is None a e = absurd cc
attr_is (Some (StatValue b)) a e = ap (λ (x : Attr). Some (StatValue x)) (same_Some b a e)
attr_is (Some (Entry s t)) a e = absurd cc
attr_is (Some (Byte x)) a e = absurd cc

-- ---- names

no_fault : (v : Option NameFault) → is_none v ≡ true → v ≡ None
no_fault None e = refl
no_fault (Some f) e = absurd cc

names_of : (path : List (List ℕ)) → HasBytes path → is_path path ≡ true → All IsName path
names_of [] bytes e = All-nil IsName
names_of (n ∷ path) bytes e =
    let h = and_parts (is_none (name_fault n)) (is_path path) e in
    All-cons IsName n path (All-head (λ x. All (λ y. y < 256) x) n path bytes, no_fault (name_fault n) h.0)
    (names_of path (All-tail (λ x. All (λ y. y < 256) x) n path bytes) h.1)

last_name : (path : List (List ℕ)) → (length path == 0) ≡ false → All IsName path
    → IsName (slice_index_or path (length path - 1) [])
last_name path e all = let some = positive (length path) e in all (length path - 1) [] (omega (arith, some))

module _ (s : Pairs) (S : ℕ → Type 0)
    (lawful : (k : ℕ) (v : Value) → S k → find nat_cmp k s ≡ Some v → IsLawfulSeen (k, v))
    (P : Edits → Type 0) (holds : HoldsOfEdits s S P) where
  -- the course's edits are so, where S has all keys that it asks for
  Good : Course → Type 0
  Good c = ((k : ℕ) → is_in (asked c (of_seen s)) k ≡ true → S k) → P (ending c (of_seen s)).edits

  good_answer : (r : Reply) → Good (Answer r)
  unfolding Good
  good_answer r all = holds.none

  good_ask : (k : ℕ) (next : Option Value → Course) → (S k → Good (next (find nat_cmp k s))) → Good (Ask k next)
  unfolding Good
  good_ask k next h all = h (all k (or_left _ _ (at_itself k))) (λ q on. all q (or_right _ _ on))

  good_scan : (from to : ℕ) (next : Pairs → Course) → Good (next (pairs_in s from to)) → Good (Scan from to next)
  unfolding Good
  good_scan from to next h all = h (λ q on. all q (or_right _ _ on))

  good_change : (e : Edits) → P e → Good (Change e)
  unfolding Good
  good_change e h all = h

  good_if : (b : Bool) (x y : Course) → (b ≡ true → Good x) → (b ≡ false → Good y) → Good (if b then x else y)
  good_if true x y h g = h refl
  good_if false x y h g = g refl

  good_attr : (r : Reply) (next : Attr → Course) (v : Option Attr) → ((a : Attr) → v ≡ Some a → Good (next a))
      → Good (with_attr r next v)
  good_attr r next None h = good_answer r
  good_attr r next (Some a) h = h a refl

  good_target : (next : Target → Course) (v : Option Target) → ((t : Target) → v ≡ Some t → Good (next t))
      → Good (with_target next v)
  good_target next None h = good_answer _
  good_target next (Some t) h = h t refl

  here : (t : Target) (a : Attr) → IsObject t → may_be_object t ≡ true → S (stat_rank t)
      → attr_in (find nat_cmp (stat_rank t) s) ≡ Some a → IsMet s S (record { target = t; attr = a })
  here t a is may asked_for at =
      let found = attr_is (find nat_cmp (stat_rank t) s) a at in
      record {
        here = record {
          found = found;
          may = may;
          object = is;
          kind = lawful (stat_rank t) (StatValue a) asked_for found;
        };
        among = asked_for;
      }

  ordered : (k : ℕ) (n : List ℕ) (t : Target) → S k → find nat_cmp k s ≡ Some (Entry n t) → t.ordering < 2 ^ 64
  ordered k n t asked_for h = lawful k (Entry n t) asked_for h

  good_at : (t : Target) → t.ordering < 2 ^ 64 → (next : Object → Course)
      → ((o : Object) → IsMet s S o → Good (next o)) → Good (object_at t next)
  good_at t ordering next h = good_if (may_be_object t) _ _
      (λ may.
      let small = small_object t may in
      let low = small.1 in
      let is : IsObject t = (small.0, ordering, omega (arith, low)) in
      good_ask (stat_rank t) _ (λ asked_for. good_attr _ _ (attr_in (find nat_cmp (stat_rank t) s))
      (λ a at. h (record { target = t; attr = a }) (here t a is may asked_for at))))
      (λ e. good_answer _)

  -- ---- the ways

  good_step : (n : List ℕ) (next : Place → Course) → ((p : Place) → IsMet s S p.here → Good (next p)) → (p : Place)
      → IsMet s S p.here → Good (step n next p)
  good_step n next h p f = good_if (is_dir p.here) _ _
      (λ e. good_ask (entry_rank p.here.target n) _
      (λ asked_for. good_target _ (target_in n (find nat_cmp (entry_rank p.here.target n) s)) (λ t at.
      good_at t (ordered (entry_rank p.here.target n) n t asked_for
      (target_is n (find nat_cmp (entry_rank p.here.target n) s) t at)) _
      (λ o g. h (record { here = o; above = p.above ++ p.here ∷ [] }) g))))
      (λ e. good_answer _)

  good_steps : (path : List (List ℕ)) (next : Place → Course) → ((p : Place) → IsMet s S p.here → Good (next p))
      → (p : Place) → IsMet s S p.here → Good (steps path next p)
  good_steps [] next h p f = h p f
  good_steps (n ∷ path) next h p f = good_step n (steps path next) (λ q g. good_steps path next h q g) p f

  good_object : (path : List (List ℕ)) (next : Place → Course) → ((p : Place) → IsMet s S p.here → Good (next p))
      → Good (to_object path next)
  unfolding to_object
  good_object path next h =
      good_ask (stat_rank root_object) _
      (λ asked_for. good_attr _ _ (attr_in (find nat_cmp (stat_rank root_object) s)) (λ a at.
      good_steps path next h (record { here = record { target = root_object; attr = a }; above = [] })
      (here root_object a root_is_object refl asked_for at)))

  good_parent : (r : Reply) (path : List (List ℕ)) → All IsName path → (next : Place → List ℕ → Course)
      → ((p : Place) (n : List ℕ) → IsName n → IsMet s S p.here → Good (next p n)) → Good (to_parent r path next)
  unfolding to_parent
  good_parent r path all next h = good_if (length path == 0) _ _
      (λ e. good_answer r)
      (λ e. good_object (take (length path - 1) path) _
      (λ p f. h p (slice_index_or path (length path - 1) []) (last_name path e all) f))

  good_entry : (r : Reply) (path : List (List ℕ)) → All IsName path → (next : Object → List ℕ → Place → Course)
      → ((dir : Object) (n : List ℕ) (p : Place) → IsMet s S dir → IsName n → IsMet s S p.here → Good (next dir n p))
      → Good (to_entry r path next)
  unfolding to_entry
  good_entry r path all next h = good_parent r path all _
      (λ p n name f. good_step n _ (λ q g. h p.here n q f name g) p f)

  good_free : (path : List (List ℕ)) → All IsName path → (next : Object → List ℕ → Course)
      → ((dir : Object) (n : List ℕ) → IsName n → IsMet s S dir → Good (next dir n)) → Good (to_free path next)
  unfolding to_free
  good_free path all next h = good_parent _ path all _ (λ p n name f. good_if (is_dir p.here) _ _
      (λ e. good_ask (entry_rank p.here.target n) _
      (λ asked_for. if_named (entry_in (find nat_cmp (entry_rank p.here.target n) s)) n (next p.here n)
      (h p.here n name f)))
      (λ e. good_answer _))
    where
      if_named : (v : Option Named) (n : List ℕ) (c : Course) → Good c → Good (if_free n c v)
      if_named None n c g = g
      if_named (Some e) n c g = good_if (bytes_eq e.name n) _ _ (λ _. good_answer _) (λ _. good_answer _)

  good_file : (limit : ℕ) (path : List (List ℕ)) (end : ℕ) (next : Object → Course)
      → ((o : Object) → IsMet s S o → end ≤ limit → Good (next o)) → Good (to_file limit path end next)
  unfolding to_file
  good_file limit path end next h = good_object path _ (λ p f. good_if (is_dir p.here) _ _
      (λ e. good_answer _)
      (λ e. good_if (nat_lt limit end) _ _ (λ g. good_answer _) (λ g. h p.here f (ltb-false limit end g))))

  good_ends : (from to : List (List ℕ)) → All IsName from → All IsName to
      → (next : Object → List ℕ → Object → Object → List ℕ → Course)
      → ((dir : Object) (n : List ℕ) (o new_dir : Object) (new_name : List ℕ) → IsName n → IsName new_name
      → IsMet s S dir → IsMet s S new_dir → Good (next dir n o new_dir new_name)) → Good (to_ends from to next)
  unfolding to_ends
  good_ends from to all_from all_to next h = good_entry _ from all_from _
      (λ dir n p fd old_name fp. good_parent _ to all_to _ (λ q new_name name fq. good_if (not (is_dir q.here)) _ _
      (λ e. good_answer _)
      (λ e. good_if (is_dir p.here && (is_among p.here q.above || is_same p.here q.here)) _ _ (λ g. good_answer _)
      (λ g. h dir n p.here q.here new_name old_name name fd fq))))

  -- ---- the commands

  good_made : (dir : Object) (n : List ℕ) (oid : Oid) (a : Attr) → IsMet s S dir → IsName n
      → kind_is_good a.mode ≡ true → is_no_id oid ≡ false → Good (Change (name_in dir n (made_in dir n oid a)))
  good_made dir n oid a f name kind e = good_change _ (holds.made dir n oid a f name kind e)

  good_create : (path : List (List ℕ)) (oid : Oid) → All IsName path → Good (create path oid)
  good_create path oid all = good_free path all _
      (λ dir n name f. good_if (is_no_id oid) _ _ (λ e. good_answer _)
      (λ e. good_made dir n oid new_file f name refl e))

  good_mkdir : (path : List (List ℕ)) (oid : Oid) → All IsName path → Good (mkdir path oid)
  good_mkdir path oid all = good_free path all _ (λ dir n name f. good_if (is_full dir) _ _ (λ e. good_answer _)
      (λ e. good_if (is_no_id oid) _ _ (λ g. good_answer _) (λ g. good_made dir n oid new_directory f name refl g)))

  good_link : (from to : List (List ℕ)) → All IsName to → Good (link from to)
  good_link from to all = good_object from _ (λ p fp. good_if (is_dir p.here) _ _ (λ e. good_answer _)
      (λ e. good_free to all _ (λ dir n name f. good_if (is_full p.here) _ _ (λ g. good_answer _)
      (λ g. good_change _ (holds.linked dir n p.here f name fp)))))

  good_attrs : (path : List (List ℕ)) (h : Attr → Attr)
      → ((a : Attr) → kind_is_good a.mode ≡ true → kind_is_good (h a).mode ≡ true) → Good (set_attrs path h)
  good_attrs path h keeps = good_object path _
      (λ p f. good_change _ (holds.attrs p.here (h p.here.attr) f (keeps p.here.attr f.here.kind)))

  good_write : (path : List (List ℕ)) (from : ℕ) (xs : List ℕ) → Good (write greatest_size path from xs)
  good_write path from xs = good_file greatest_size path (from + length xs) _
      (λ o f low. good_if (length xs == 0) _ _ (λ e. good_answer _)
      (λ e. good_change _ (holds.writes _ (record {
        file = o;
        from = from;
        bytes = xs;
        here = f.here;
        some = positive
            (length xs) e;
        fits = low;
        is = refl;
      }) f.among)))

  good_truncate : (path : List (List ℕ)) (n : ℕ) → Good (truncate greatest_size path n)
  good_truncate path n = good_file greatest_size path n _
      (λ o f low. good_change _
      (holds.resizes _ (record { file = o; size = n; here = f.here; fits = low; is = refl }) f.among))

  good_read : (path : List (List ℕ)) (from len : ℕ) → Good (read path from len)
  good_read path from len = good_object path _ (λ p f. good_if (is_dir p.here) _ _ (λ e. good_answer _)
      (λ e. good_if (nat_lt from (smaller (from + len) p.here.attr.size)) _ _ (λ g. good_scan _ _ _ (good_answer _))
      (λ g. good_answer _)))

  good_entries : (o : Object) (next : Pairs → Course) → ((es : Pairs) → Good (next es)) → Good (with_entries o next)
  good_entries o next h = good_scan _ _ next (h _)

  good_names : (path : List (List ℕ)) → Good (names path)
  good_names path = good_object path _ (λ p f. good_if (is_dir p.here) _ _
      (λ e. good_entries p.here _ (λ es. good_answer _)) (λ e. good_answer _))

  good_stat : (path : List (List ℕ)) → Good (stat path)
  good_stat path = good_object path _ (λ p f. good_answer _)

  good_empty : (c : Course) (ns : List (List ℕ)) → Good c → Good (if_empty c ns)
  good_empty c [] h = h
  good_empty c (n ∷ ns) h = good_answer _

  good_unlink : (path : List (List ℕ)) → All IsName path → Good (unlink path)
  good_unlink path all = good_entry _ path all _
      (λ dir n p fd name fp. good_if (is_dir p.here) _ _ (λ e. good_answer _)
      (λ e. good_change _ (holds.unnamed dir n p.here fd name fp)))

  good_rmdir : (path : List (List ℕ)) → All IsName path → Good (rmdir path)
  good_rmdir path all = good_entry _ path all _
      (λ dir n p fd name fp. good_if (is_dir p.here) _ _
      (λ e. good_entries p.here _ (λ es. good_empty _ _ (good_change _ (holds.unnamed dir n p.here fd name fp))))
      (λ e. good_answer _))

  good_replace : (dir : Object) (n : List ℕ) (o new_dir : Object) (new_name : List ℕ) (old : Object) → IsMet s S dir
      → IsName n → IsMet s S new_dir → IsMet s S old → IsName new_name
      → Good (replace dir n o new_dir new_name old)
  good_replace dir n o new_dir new_name old fd old_name fn fo name =
      let onto = good_change (moved_onto dir n o new_dir new_name old)
      (holds.onto dir n o new_dir new_name old fd old_name fn fo name) in
      good_if (is_dir o) _ _ (λ e. good_if (is_dir old) _ _ (λ g. good_entries old _ (λ es. good_empty _ _ onto))
      (λ g. good_answer _)) (λ e. good_if (is_dir old) _ _ (λ g. good_answer _) (λ g. onto))

  good_to : (dir : Object) (n : List ℕ) (o new_dir : Object) (new_name : List ℕ) (v : Option Named) → IsMet s S dir
      → IsName n → IsMet s S new_dir → IsName new_name
      → ((e : Named) → v ≡ Some e → e.target.ordering < 2 ^ 64) → Good (move_to dir n o new_dir new_name v)
  good_to dir n o new_dir new_name None fd old_name fn name h = good_if
      (is_dir o && not (is_same dir new_dir) && is_full new_dir) _ _ (λ e. good_answer _)
      (λ e. good_change (moved dir n o new_dir new_name) (holds.moved dir n o new_dir new_name fd old_name fn name))
  good_to dir n o new_dir new_name (Some x) fd old_name fn name h = good_if (not (bytes_eq x.name new_name)) _ _
      (λ e. good_answer _)
      (λ e. good_if (is_same_target x.target o.target) _ _ (λ g. good_answer _)
      (λ g. good_at x.target (h x refl) _ (λ old fo. good_replace dir n o new_dir new_name old fd old_name fn fo name)))

  good_rename : (from to : List (List ℕ)) → All IsName from → All IsName to → Good (rename from to)
  good_rename from to all_from all_to = good_if (length to == 0) _ _ (λ e. good_answer _)
      (λ e. good_ends from to all_from all_to _ (λ dir n o new_dir new_name old_name name fd fn.
      good_ask (entry_rank new_dir.target new_name) _
      (λ asked_for. good_to dir n o new_dir new_name
      (entry_in (find nat_cmp (entry_rank new_dir.target new_name) s)) fd old_name fn name
      (λ x is. ordered (entry_rank new_dir.target new_name) x.name x.target asked_for
      (entry_is (find nat_cmp (entry_rank new_dir.target new_name) s) x.name x.target is)))))

  good_path : (path : List (List ℕ)) (c : Course) → HasBytes path → (All IsName path → Good c) → Good (named path c)
  good_path path c bytes h = good_if (is_path path) _ _ (λ e. h (names_of path bytes e)) (λ e. good_answer _)

  kind_stays : (mode bits : ℕ) → kind_is_good mode ≡ true → kind_is_good (mode / 4096 * 4096 + bits % 4096) ≡ true
  kind_stays mode bits h =
      let same : (mode / 4096 * 4096 + bits % 4096) / 4096 ≡ mode / 4096 = omega arith in
      ap (λ (x : ℕ). x == 4 || x == 8) same ∙ h

  good_course : (c : Command) → HasBytePaths c → Good (course greatest_size c)
  good_course (Create path oid) bytes = good_path path _ bytes (good_create path oid)
  good_course (Mkdir path oid) bytes = good_path path _ bytes (good_mkdir path oid)
  good_course (Write path offset text) bytes = good_path path _ bytes (λ all. good_write path offset text)
  good_course (Fill path offset len byte) bytes = good_path path _ bytes
      (λ all. good_write path offset (replicate len byte))
  good_course (Truncate path size) bytes = good_path path _ bytes (λ all. good_truncate path size)
  good_course (Read path offset len) bytes = good_path path _ bytes (λ all. good_read path offset len)
  good_course (Stat path) bytes = good_path path _ bytes (λ all. good_stat path)
  good_course (Names path) bytes = good_path path _ bytes (λ all. good_names path)
  good_course (Link from to) bytes = good_path from _ bytes.0 (λ all. good_path to _ bytes.1 (good_link from to))
  good_course (Unlink path) bytes = good_path path _ bytes (good_unlink path)
  good_course (Rmdir path) bytes = good_path path _ bytes (good_rmdir path)
  good_course (Rename from to) bytes = good_path from _ bytes.0
      (λ all. good_path to _ bytes.1 (good_rename from to all))
  good_course (Chmod path mode) bytes = good_path path _ bytes
      (λ all. good_attrs path _ (λ a kind. kind_stays a.mode mode kind))
  good_course (Chown path uid gid) bytes = good_path path _ bytes (λ all. good_attrs path _ (λ a kind. kind))
  good_course (Times path atime mtime ctime) bytes = good_path path _ bytes (λ all. good_attrs path _ (λ a kind. kind))
  good_course Begin bytes = good_answer _
  good_course End bytes = good_answer _
  good_course Commit bytes = good_answer _

-- what holds of all such edits holds of a command's
pub edits_hold : (c : Command) (s : Pairs) (P : Edits → Type 0)
    → HoldsOfEdits s (λ k. is_in (asked (course greatest_size c) (of_seen s)) k ≡ true) P → AreLawfulSeen c s
    → HasBytePaths c → P (ending (course greatest_size c) (of_seen s)).edits
unfolding Good
edits_hold c s P holds lawful bytes =
    good_course s (λ k. is_in (asked (course greatest_size c) (of_seen s)) k ≡ true) (λ k v on at. lawful k v on at)
    P holds c bytes (λ k on. on)

-- ---- what the edits of a command are

pub no_id : (oid : Oid) → is_no_id oid ≡ false → oid.0 < 2 ^ 64
no_id oid e = let small = leb-false (2 ^ 60 - 1) oid.0 e in omega (arith, small)

-- an object that is made in a directory that was found
pub made_object : (s : Pairs) (dir : Object) (n : List ℕ) (oid : Oid) (a : Attr) → IsHere s dir → IsName n
    → is_no_id oid ≡ false → IsObject (made_in dir n oid a).target
made_object s dir n oid a f name e =
    let small = (small_object dir.target f.may).1 in
    (small, (name_fits dir.target n small name.0).small 1, no_id oid e)

all_made : (s : Pairs) (S : ℕ → Type 0) → HoldsOfEdits s S (AreMade s)
all_made s S = record {
  none = inl (few_less 0 0 4 3 _ (omega arith) (omega arith) few_none);
  made = λ dir n oid a f name kind e.
      inl (few_named s dir n (made_in dir n oid a) f.here name (made_object s dir n oid a f.here name e) kind);
  linked = λ dir n o f name fo. inl (few_named s dir n (linked o) f.here name fo.here.object fo.here.kind);
  attrs = λ o a f kind. inl (few_less 1 0 4 3 _ (omega arith) (omega arith) (few_attr o a f.here.object kind));
  writes = λ e h at. inr (inl h);
  resizes = λ e h at. inr (inr h);
  unnamed = λ dir n o f name fo. inl (few_unnamed s dir n o f.here fo.here);
  moved = λ dir n o new_dir new_name f old fn name. inl (few_moved s dir n o new_dir new_name f.here fn.here name);
  onto = λ dir n o new_dir new_name gone f old fn fo name.
      inl (few_onto s dir n o new_dir new_name gone f.here fn.here fo.here name);
}

pub edits_made : (c : Command) (s : Pairs) → AreLawfulSeen c s → HasBytePaths c
    → AreMade s (ending (course greatest_size c) (of_seen s)).edits
edits_made c s lawful bytes = edits_hold c s (AreMade s) (all_made s _) lawful bytes
