-- Every command but `read` comes to the same end where the bytes of files are left out.
use Rattle.std.specs.Prelude.{◌≡◌, ℕ, ◌+◌, ◌-◌, List, [], ◌∷◌, ◌++◌, Bool, true, false, cond, not, ◌&&◌, ◌||◌, ◌==◌, nat_lt, bytes_eq, length, replicate, take, slice_index_or, Option, Some, None, if◌then◌else◌, T}
use Rattle.std.proofs.Common.{arith, refl, sym, ap, ◌∙◌}
use Rattle.std.proofs.lemmas.Bool.{eqb-true}
use Rattle.std.specs.Cmp.{unsigned_tied}
use Rattle.std.specs.FinMap.{find, is_sorted}
use Rattle.std.specs.FinMap.Entries.{below_all}
use Rattle.std.specs.List.{filter}
use Rattle.std.specs.Ordering.{is_lt, nat_cmp}
use Rattle.r4_base.specs.Value.{Value, Stat as StatValue, Entry, Byte}
use Rattle.r4_base.specs.Volume.{root_object, stat_rank}
use Rattle.r4_base.specs.declared.items.Attr.{Attr}
use Rattle.r4_base.specs.declared.items.Target.{Target}
use Rattle.r4_base.specs.declared.things.Oid.{Oid}
use Rattle.r4_content.proofs.Counting.{both_hold, first_holds, none_below, second_holds}
use Rattle.r4_content.specs.Bodies.{write}
use Rattle.r4_content.specs.Course.{Course, Ask, Scan, Answer, Change, ending}
use Rattle.r4_content.specs.Edited.{Edits, Pairs, is_between}
use Rattle.r4_content.specs.Entries.{create, entries_from, entries_to, if_empty, is_no_id, link, mkdir, move_to, names_in, rename, replace, rmdir, unlink, with_entries}
use Rattle.r4_content.specs.Meaning.{course, is_path, named, set_attrs}
use Rattle.r4_content.specs.Objects.{Object, entry_rank, is_among, is_dir, is_full, is_same, is_same_target}
use Rattle.r4_content.specs.Reading.{OnlyReads}
use Rattle.r4_content.specs.Seen.{Rises, of_seen, pairs_in}
use Rattle.r4_content.specs.Walk.{attr_in, may_be_object, target_in}
use Rattle.r4_content.specs.Ways.{Named, Place, entry_in, if_free, object_at, step, steps, to_ends, to_entry, to_file, to_free, to_object, to_parent, with_attr, with_target}
use Rattle.r4_content.specs.declared.command.Command.{Command}
use Rattle.r4_content.specs.declared.command.Command.TheVariants.{Create, Mkdir, Write, Fill, Truncate, Read, Stat, Names, Link, Unlink, Rmdir, Rename, Chmod, Chown, Times, Begin, End, Commit}
use Rattle.r4_content.specs.declared.reply.Reply.{Reply}
use Rattle.r4_content.specs.declared.reply.Reply.TheVariants.{Exists, Loop, Isdir}
use Rattle.r4_summary.specs.Kept.{is_byte, no_byte, without_bytes}

-- ---- lists that rise

below_filtered : (p : ℕ × Value → Bool) (x : ℕ) (es : Pairs) → T (below_all nat_cmp x es) → T (below_all nat_cmp x (filter p es))
below_filtered p x [] h = tt
below_filtered p x (e ∷ es) h = by_test (p e) (below_filtered p x es (second_holds (is_lt (nat_cmp x e.0)) (below_all nat_cmp x es) h))
  where
    by_test : (b : Bool) → T (below_all nat_cmp x (filter p es)) → T (below_all nat_cmp x (cond b (e ∷ filter p es) (filter p es)))
    by_test true rest = both_hold (is_lt (nat_cmp x e.0)) (below_all nat_cmp x (filter p es)) (first_holds (is_lt (nat_cmp x e.0)) (below_all nat_cmp x es) h) rest
    by_test false rest = rest

pub filter_rises : (p : ℕ × Value → Bool) (es : Pairs) → Rises es → Rises (filter p es)
filter_rises p [] h = tt
filter_rises p (e ∷ es) h =
    by_test (p e) (filter_rises p es (second_holds (below_all nat_cmp e.0 es) (is_sorted nat_cmp es) h))
  where
    by_test : (b : Bool) → Rises (filter p es) → Rises (cond b (e ∷ filter p es) (filter p es))
    by_test true rest = both_hold (below_all nat_cmp e.0 (filter p es)) (is_sorted nat_cmp (filter p es)) (below_filtered p e.0 es (first_holds (below_all nat_cmp e.0 es) (is_sorted nat_cmp es) h)) rest
    by_test false rest = rest

pub find_kept : (es : Pairs) (k : ℕ) → Rises es → find nat_cmp k (without_bytes es) ≡ no_byte (find nat_cmp k es)
find_kept [] k h = refl
find_kept (e ∷ es) k h =
    by_key (k == e.0) (is_byte e.1) refl refl (find_kept es k (second_holds (below_all nat_cmp e.0 es) (is_sorted nat_cmp es) h))
    ∙ ap (λ (b : Bool). no_byte (cond b (Some e.1) (find nat_cmp k es))) (sym (unsigned_tied k e.0))
  where
    by_key : (a b : Bool) → (k == e.0) ≡ a → is_byte e.1 ≡ b → find nat_cmp k (without_bytes es) ≡ no_byte (find nat_cmp k es)
        → find nat_cmp k (cond (not b) (e ∷ without_bytes es) (without_bytes es)) ≡ no_byte (cond a (Some e.1) (find nat_cmp k es))
    by_key true false same other rest =
        ap (λ (c : Bool). cond c (Some e.1) (find nat_cmp k (without_bytes es))) (unsigned_tied k e.0 ∙ same)
        ∙ sym (ap (λ (c : Bool). if c then None else Some e.1) other)
    by_key true true same byte rest =
        let is = eqb-true k e.0 same in
        none_below k e.0 (without_bytes es) (omega (arith, is)) (below_filtered (λ u. not (is_byte u.1)) e.0 es (first_holds (below_all nat_cmp e.0 es) (is_sorted nat_cmp es) h))
        ∙ sym (ap (λ (c : Bool). if c then None else Some e.1) byte)
    by_key false false other value rest = ap (λ (c : Bool). cond c (Some e.1) (find nat_cmp k (without_bytes es))) (unsigned_tied k e.0 ∙ other) ∙ rest
    by_key false true other byte rest = rest

pub filters_commute : (p q : ℕ × Value → Bool) (s : Pairs) → filter p (filter q s) ≡ filter q (filter p s)
filters_commute p q [] = refl
filters_commute p q (e ∷ es) = by_tests (p e) (q e) refl refl (filters_commute p q es)
  where
    by_tests : (a b : Bool) → p e ≡ a → q e ≡ b → filter p (filter q es) ≡ filter q (filter p es)
        → filter p (cond b (e ∷ filter q es) (filter q es)) ≡ filter q (cond a (e ∷ filter p es) (filter p es))
    by_tests true true pe qe rest =
        ap (λ (c : Bool). cond c (e ∷ filter p (filter q es)) (filter p (filter q es))) pe
        ∙ ap (λ t. e ∷ t) rest ∙ sym (ap (λ (c : Bool). cond c (e ∷ filter q (filter p es)) (filter q (filter p es))) qe)
    by_tests true false pe qe rest = rest ∙ sym (ap (λ (c : Bool). cond c (e ∷ filter q (filter p es)) (filter q (filter p es))) qe)
    by_tests false true pe qe rest = ap (λ (c : Bool). cond c (e ∷ filter p (filter q es)) (filter p (filter q es))) pe ∙ rest
    by_tests false false pe qe rest = rest

-- ---- courses

pub IsBlind : Course → Type 0
IsBlind c = (s : Pairs) → Rises s → ending c (of_seen s) ≡ ending c (of_seen (without_bytes s))

blind_answer : (r : Reply) → IsBlind (Answer r)
unfolding IsBlind
blind_answer r s h = refl

blind_change : (e : Edits) → IsBlind (Change e)
unfolding IsBlind
blind_change e s h = refl

blind_if : (b : Bool) (c d : Course) → IsBlind c → IsBlind d → IsBlind (if b then c else d)
blind_if true c d x y = x
blind_if false c d x y = y

blind_ask : (k : ℕ) (next : Option Value → Course) → ((v : Option Value) → next v ≡ next (no_byte v)) → ((v : Option Value) → IsBlind (next v)) → IsBlind (Ask k next)
unfolding IsBlind
blind_ask k next same rest s h =
    rest (find nat_cmp k s) s h
    ∙ ap (λ c. ending c (of_seen (without_bytes s))) (same (find nat_cmp k s) ∙ ap next (sym (find_kept s k h)))

blind_scan : (from to : ℕ) (next : Pairs → Course) → ((es : Pairs) → next es ≡ next (without_bytes es)) → ((es : Pairs) → IsBlind (next es)) → IsBlind (Scan from to next)
unfolding IsBlind
blind_scan from to next same rest s h =
    rest (pairs_in s from to) s h
    ∙ ap (λ c. ending c (of_seen (without_bytes s)))
    (same (pairs_in s from to) ∙ ap next (filters_commute (λ e. not (is_byte e.1)) (λ e. is_between from to e.0) s))

-- what is made of an answer
same_attr : (v : Option Value) → attr_in v ≡ attr_in (no_byte v)
same_attr None = refl
same_attr (Some (StatValue a)) = refl
same_attr (Some (Entry n o)) = refl
same_attr (Some (Byte x)) = refl

same_target : (n : List ℕ) (v : Option Value) → target_in n v ≡ target_in n (no_byte v)
same_target n None = refl
same_target n (Some (StatValue a)) = refl
same_target n (Some (Entry s o)) = refl
same_target n (Some (Byte x)) = refl

same_entry : (v : Option Value) → entry_in v ≡ entry_in (no_byte v)
same_entry None = refl
same_entry (Some (StatValue a)) = refl
same_entry (Some (Entry n o)) = refl
same_entry (Some (Byte x)) = refl

same_names : (es : Pairs) → names_in es ≡ names_in (without_bytes es)
same_names [] = refl
same_names ((k, StatValue a) ∷ es) = same_names es
same_names ((k, Entry n o) ∷ es) = ap (λ t. n ∷ t) (same_names es)
same_names ((k, Byte x) ∷ es) = same_names es

-- ---- ways

blind_attr : (r : Reply) (next : Attr → Course) → ((a : Attr) → IsBlind (next a)) → (a : Option Attr) → IsBlind (with_attr r next a)
blind_attr r next rest None = blind_answer r
blind_attr r next rest (Some a) = rest a

blind_at : (t : Target) (next : Object → Course) → ((o : Object) → IsBlind (next o)) → IsBlind (object_at t next)
blind_at t next rest = blind_if (may_be_object t) _ _
    (blind_ask (stat_rank t) _ (λ v. ap (with_attr _ (λ a. next (record { target = t; attr = a }))) (same_attr v))
    (λ v. blind_attr _ _ (λ a. rest (record { target = t; attr = a })) (attr_in v)))
    (blind_answer _)

blind_target : (next : Target → Course) → ((t : Target) → IsBlind (next t)) → (t : Option Target) → IsBlind (with_target next t)
blind_target next rest None = blind_answer _
blind_target next rest (Some t) = rest t

blind_step : (n : List ℕ) (next : Place → Course) → ((p : Place) → IsBlind (next p)) → (p : Place) → IsBlind (step n next p)
blind_step n next rest p = blind_if (is_dir p.here) _ _
    (blind_ask (entry_rank p.here.target n) _ (λ v. ap (with_target _) (same_target n v))
    (λ v. blind_target _ (λ t. blind_at t _ (λ o. rest (record { here = o; above = p.above ++ p.here ∷ [] }))) (target_in n v)))
    (blind_answer _)

blind_steps : (path : List (List ℕ)) (next : Place → Course) → ((p : Place) → IsBlind (next p)) → (p : Place) → IsBlind (steps path next p)
blind_steps [] next rest p = rest p
blind_steps (n ∷ path) next rest p = blind_step n (steps path next) (blind_steps path next rest) p

blind_object : (path : List (List ℕ)) (next : Place → Course) → ((p : Place) → IsBlind (next p)) → IsBlind (to_object path next)
unfolding to_object
blind_object path next rest = blind_ask (stat_rank root_object) _ (λ v. ap (with_attr _ _) (same_attr v))
    (λ v. blind_attr _ _ (λ a. blind_steps path next rest _) (attr_in v))

blind_parent : (r : Reply) (path : List (List ℕ)) (next : Place → List ℕ → Course) → ((p : Place) (n : List ℕ) → IsBlind (next p n)) → IsBlind (to_parent r path next)
unfolding to_parent
blind_parent r path next rest = blind_if (length path == 0) _ _ (blind_answer r)
    (blind_object (take (length path - 1) path) _ (λ p. rest p (slice_index_or path (length path - 1) [])))

blind_entry : (r : Reply) (path : List (List ℕ)) (next : Object → List ℕ → Place → Course) → ((dir : Object) (n : List ℕ) (p : Place) → IsBlind (next dir n p)) → IsBlind (to_entry r path next)
unfolding to_entry
blind_entry r path next rest = blind_parent r path _ (λ p n. blind_step n (next p.here n) (rest p.here n) p)

blind_free_name : (n : List ℕ) (next : Course) → IsBlind next → (e : Option Named) → IsBlind (if_free n next e)
blind_free_name n next rest None = rest
blind_free_name n next rest (Some e) = blind_if (bytes_eq e.name n) _ _ (blind_answer _) (blind_answer _)

blind_free : (path : List (List ℕ)) (next : Object → List ℕ → Course) → ((dir : Object) (n : List ℕ) → IsBlind (next dir n)) → IsBlind (to_free path next)
unfolding to_free
blind_free path next rest = blind_parent Exists path _ (λ p n. blind_if (is_dir p.here) _ _
    (blind_ask (entry_rank p.here.target n) _ (λ v. ap (if_free n (next p.here n)) (same_entry v))
    (λ v. blind_free_name n (next p.here n) (rest p.here n) (entry_in v)))
    (blind_answer _))

blind_file : (limit : ℕ) (path : List (List ℕ)) (end : ℕ) (next : Object → Course) → ((o : Object) → IsBlind (next o)) → IsBlind (to_file limit path end next)
unfolding to_file
blind_file limit path end next rest = blind_object path _ (λ p. blind_if (is_dir p.here) _ _ (blind_answer _)
    (blind_if (nat_lt limit end) _ _ (blind_answer _) (rest p.here)))

blind_ends : (from to : List (List ℕ)) (next : Object → List ℕ → Object → Object → List ℕ → Course)
    → ((dir : Object) (n : List ℕ) (o new_dir : Object) (m : List ℕ) → IsBlind (next dir n o new_dir m)) → IsBlind (to_ends from to next)
unfolding to_ends
blind_ends from to next rest = blind_entry Loop from _ (λ dir n p. blind_parent Loop to _ (λ q m. blind_if (not (is_dir q.here)) _ _ (blind_answer _)
    (blind_if (is_dir p.here && (is_among p.here q.above || is_same p.here q.here)) _ _ (blind_answer _) (rest dir n p.here q.here m))))

-- ---- commands

blind_entries : (o : Object) (next : Pairs → Course) → ((es : Pairs) → next es ≡ next (without_bytes es)) → ((es : Pairs) → IsBlind (next es)) → IsBlind (with_entries o next)
blind_entries o next same rest = blind_scan (entries_from o.target.oid.0) (entries_to o.target.oid.0) next same rest

blind_empty : (c : Course) → IsBlind c → (ns : List (List ℕ)) → IsBlind (if_empty c ns)
blind_empty c rest [] = rest
blind_empty c rest (n ∷ ns) = blind_answer _

blind_if_empty : (o : Object) (c : Course) → IsBlind c → IsBlind (with_entries o (λ es. if_empty c (names_in es)))
blind_if_empty o c rest = blind_entries o _ (λ es. ap (if_empty c) (same_names es)) (λ es. blind_empty c rest (names_in es))

blind_attrs : (path : List (List ℕ)) (f : Attr → Attr) → IsBlind (set_attrs path f)
blind_attrs path f = blind_object path _ (λ p. blind_change _)

blind_write : (limit : ℕ) (path : List (List ℕ)) (from : ℕ) (xs : List ℕ) → IsBlind (write limit path from xs)
blind_write limit path from xs = blind_file limit path (from + length xs) _ (λ o. blind_if (length xs == 0) _ _ (blind_answer _) (blind_change _))

blind_create : (path : List (List ℕ)) (oid : Oid) → IsBlind (create path oid)
blind_create path oid = blind_free path _ (λ dir n. blind_if (is_no_id oid) _ _ (blind_answer _) (blind_change _))

blind_mkdir : (path : List (List ℕ)) (oid : Oid) → IsBlind (mkdir path oid)
blind_mkdir path oid = blind_free path _ (λ dir n. blind_if (is_full dir) _ _ (blind_answer _) (blind_if (is_no_id oid) _ _ (blind_answer _) (blind_change _)))

blind_link : (from to : List (List ℕ)) → IsBlind (link from to)
blind_link from to = blind_object from _ (λ p. blind_if (is_dir p.here) _ _ (blind_answer _)
    (blind_free to _ (λ dir n. blind_if (is_full p.here) _ _ (blind_answer _) (blind_change _))))

blind_unlink : (path : List (List ℕ)) → IsBlind (unlink path)
blind_unlink path = blind_entry Isdir path _ (λ dir n p. blind_if (is_dir p.here) _ _ (blind_answer _) (blind_change _))

blind_rmdir : (path : List (List ℕ)) → IsBlind (rmdir path)
blind_rmdir path = blind_entry Loop path _ (λ dir n p. blind_if (is_dir p.here) _ _ (blind_if_empty p.here _ (blind_change _)) (blind_answer _))

blind_replace : (dir : Object) (n : List ℕ) (o new_dir : Object) (m : List ℕ) (old : Object) → IsBlind (replace dir n o new_dir m old)
blind_replace dir n o new_dir m old = blind_if (is_dir o) _ _
    (blind_if (is_dir old) _ _ (blind_if_empty old _ (blind_change _)) (blind_answer _))
    (blind_if (is_dir old) _ _ (blind_answer _) (blind_change _))

blind_to : (dir : Object) (n : List ℕ) (o new_dir : Object) (m : List ℕ) (e : Option Named) → IsBlind (move_to dir n o new_dir m e)
blind_to dir n o new_dir m None = blind_if (is_dir o && not (is_same dir new_dir) && is_full new_dir) _ _ (blind_answer _) (blind_change _)
blind_to dir n o new_dir m (Some e) = blind_if (not (bytes_eq e.name m)) _ _ (blind_answer _)
    (blind_if (is_same_target e.target o.target) _ _ (blind_answer _) (blind_at e.target _ (blind_replace dir n o new_dir m)))

blind_rename : (from to : List (List ℕ)) → IsBlind (rename from to)
blind_rename from to = blind_if (length to == 0) _ _ (blind_answer _)
    (blind_ends from to _ (λ dir n o new_dir m. blind_ask (entry_rank new_dir.target m) _
    (λ v. ap (move_to dir n o new_dir m) (same_entry v)) (λ v. blind_to dir n o new_dir m (entry_in v))))

blind_path : (path : List (List ℕ)) (c : Course) → IsBlind c → IsBlind (named path c)
blind_path path c rest = blind_if (is_path path) _ _ rest (blind_answer _)

blind_course : (limit : ℕ) (x : Command) → (OnlyReads x → ⊥) → IsBlind (course limit x)
blind_course limit (Create path oid) h = blind_path path _ (blind_create path oid)
blind_course limit (Mkdir path oid) h = blind_path path _ (blind_mkdir path oid)
blind_course limit (Write path offset text) h = blind_path path _ (blind_write limit path offset text)
blind_course limit (Fill path offset len byte) h = blind_path path _ (blind_write limit path offset (replicate len byte))
blind_course limit (Truncate path size) h = blind_path path _ (blind_file limit path size _ (λ o. blind_change _))
blind_course limit (Read path offset len) h = absurd (h tt)
blind_course limit (Stat path) h = absurd (h tt)
blind_course limit (Names path) h = absurd (h tt)
blind_course limit (Link from to) h = blind_path from _ (blind_path to _ (blind_link from to))
blind_course limit (Unlink path) h = blind_path path _ (blind_unlink path)
blind_course limit (Rmdir path) h = blind_path path _ (blind_rmdir path)
blind_course limit (Rename from to) h = blind_path from _ (blind_path to _ (blind_rename from to))
blind_course limit (Chmod path mode) h = blind_path path _ (blind_attrs path _)
blind_course limit (Chown path uid gid) h = blind_path path _ (blind_attrs path _)
blind_course limit (Times path atime mtime ctime) h = blind_path path _ (blind_attrs path _)
blind_course limit Begin h = blind_answer _
blind_course limit End h = blind_answer _
blind_course limit Commit h = blind_answer _

-- what is kept of a content suffices for the command
pub same_end : (limit : ℕ) (x : Command) (s : Pairs) → (OnlyReads x → ⊥) → Rises s → ending (course limit x) (of_seen s) ≡ ending (course limit x) (of_seen (without_bytes s))
unfolding IsBlind
same_end limit x s h r = blind_course limit x h s r
