-- What edits of one file say of the body that they change.
use Rattle.std.specs.Prelude.{◌≡◌, ◌⊎◌, ℕ, ◌+◌, ◌*◌, ◌^◌, ◌<◌, ◌≤◌, List, [], ◌∷◌, ◌++◌, All, Bool, true, false, ◌&&◌, ◌==◌}
use Rattle.std.specs.Prelude.{cond, nat_lt, Contains, Option, None, Some, if◌then◌else◌}
use Rattle.std.proofs.Common.{arith, inl, inr, refl, sym, ap, subst, ◌∙◌}
use Rattle.std.specs.FinMap.{find}
use Rattle.std.specs.Option.{option_map}
use Rattle.std.specs.Ordering.{nat_cmp}
use Rattle.std.proofs.lemmas.Bool.{le-leb, lt-ltb, ltb-true, or_left, or_right}
use Rattle.std.proofs.lemmas.List.Elements.{All-append, All-contains, All-head, All-tail}
use Rattle.r4_base.specs.Key.{key_of_rank, rank}
use Rattle.r4_base.specs.Value.{Byte, Entry, Stat, Value}
use Rattle.r4_base.specs.Volume.{IsObject, byte_rank, object_of, stat_rank}
use Rattle.r4_base.specs.declared.items.Target.{Target}
use Rattle.r4_base.proofs.Visible.{byte_back, byte_object}
use Rattle.r4_content.specs.Edited.{Edits, Intervals, Pairs, changed, is_between, is_in, put_keys}
use Rattle.r4_content.specs.Fields.{HasBytePaths}
use Rattle.r4_content.specs.Listed.{list_edited}
use Rattle.r4_content.specs.Meaning.{greatest_size}
use Rattle.r4_content.specs.Seen.{Rises}
use Rattle.r4_content.specs.declared.command.Command.{Command}
use Rattle.r4_content.proofs.EditLaws.{last_put}
use Rattle.r4_content.proofs.Ranks.{byte_after}
use Rattle.r4_suited.proofs.r4_leaf_edits.Lookups.{found}
use Rattle.r4_suited.specs.r4_reach.Reach.{is_body}
use Rattle.r4_suited.specs.r4_reach.Touched.{Body, body_key, body_of, body_on, edits_on, first_byte, size_in}
use Rattle.r4_suited.specs.Suited.{AreLawfulSeen}
use Rattle.r4_extent_commands.specs.Bodies.{HaveSizes, KeepsFileSize, LieInBody, LiesInBody}
use Rattle.r4_extent_commands.proofs.Made.{AreOfOne, IsOfFile, command_of_one}
use Rattle.r4_extent_commands.proofs.Own.{Any, AreAll, IsOff, IsOwn, KeepsSize, byte_on}

-- ---- the first key of a body

-- all intervals of edits
all_changed : (I : ℕ × ℕ → Type 0) (V : ℕ × Value → Type 0) (e : Edits) → AreAll I V e → All I (changed e)
all_changed I V e h =
    All-append I (put_keys e.puts) (e.zeros ++ e.cuts) h.keys (All-append I e.zeros e.cuts h.zeros h.cuts)

no_key : (rs : Intervals) → All IsOff rs → body_key rs ≡ None
no_key [] all = refl
no_key (r ∷ rs) all = by_test (nat_lt r.0 r.1) (is_body r.0) refl (All-head IsOff r rs all)
    (no_key rs (All-tail IsOff r rs all))
  where
    by_test : (t b : Bool) → is_body r.0 ≡ b → is_body r.0 ≡ false → body_key rs ≡ None
        → (if t && b then Some r.0 else body_key rs) ≡ None
    by_test true true is off rest = absurd (let both = sym is ∙ off in cc)
    by_test true false is off rest = rest
    by_test false b is off rest = rest

-- the interval that begins with it
record IsFirst (f : Target) (rs : Intervals) (j : ℕ) : Type 0 where
  x : ℕ
  below : x < 2 ^ 64
  is : j ≡ byte_rank f x
  body : is_body j ≡ true
  on : is_in rs j ≡ true

first_of : (f : Target) (rs : Intervals) (j : ℕ) → All (IsOwn f) rs → body_key rs ≡ Some j → IsFirst f rs j
first_of f [] j all key = absurd cc
first_of f (r ∷ rs) j all key =
    by_test (first_of f rs j (All-tail (IsOwn f) r rs all)) (nat_lt r.0 r.1) (is_body r.0) refl refl
    (All-head (IsOwn f) r rs all) key
  where
    rises : (m n x y : ℕ) → m ≡ byte_rank f x → n ≡ byte_rank f y → m < n → x < y
    rises m n x y from to lt =
        let a : byte_rank f (0 + x) ≡ byte_rank f 0 + x = byte_after f 0 x in
        let b : byte_rank f (0 + y) ≡ byte_rank f 0 + y = byte_after f 0 y in
        let p : byte_rank f (0 + x) ≡ byte_rank f x = ap (byte_rank f) (omega arith) in
        let q : byte_rank f (0 + y) ≡ byte_rank f y = ap (byte_rank f) (omega arith) in
        omega (arith, a, b, p, q, from, to, lt)

    starts : (m n : ℕ) → m < n → is_between m n m ≡ true
    starts m n lt = rw (le-leb m m (omega arith), lt-ltb m n lt) refl

    here : nat_lt r.0 r.1 ≡ true → is_body r.0 ≡ true → IsOwn f r → Some r.0 ≡ Some j → IsFirst f (r ∷ rs) j
    here some body (inl off) key = absurd (let both = sym body ∙ off in cc)
    here some body (inr (x, y, le, from, to)) key =
        let same : r.0 ≡ j = cc in
        let lt = ltb-true r.0 r.1 some in
        let less = rises r.0 r.1 x y from to lt in
        record {
          x = x;
          below = omega (arith, less, le);
          is = sym same ∙ from;
          body = sym (ap is_body same) ∙ body;
          on = or_left (is_between r.0 r.1 j) (is_in rs j) (sym (ap (is_between r.0 r.1) same) ∙ starts r.0 r.1 lt);
        }

    later : IsFirst f rs j → IsFirst f (r ∷ rs) j
    later h =
        record {
          x = h.x;
          below = h.below;
          is = h.is;
          body = h.body;
          on = or_right (is_between r.0 r.1 j) (is_in rs j) h.on;
        }

    by_test : (body_key rs ≡ Some j → IsFirst f rs j) → (t b : Bool) → nat_lt r.0 r.1 ≡ t → is_body r.0 ≡ b → IsOwn f r
        → (if t && b then Some r.0 else body_key rs) ≡ Some j → IsFirst f (r ∷ rs) j
    by_test rest true true some body own key = here some body own key
    by_test rest true false some off own key = later (rest key)
    by_test rest false b none off own key = later (rest key)

-- ---- where the intervals end

own_end : (f : Target) (r : ℕ × ℕ) → IsOwn f r → is_body r.0 ≡ true → r.1 ≤ byte_rank f 0 + 2 ^ 64
own_end f r (inl off) body = absurd (let both = sym body ∙ off in cc)
own_end f r (inr (x, y, le, from, to)) body =
    let b : byte_rank f (0 + y) ≡ byte_rank f 0 + y = byte_after f 0 y in
    let q : byte_rank f (0 + y) ≡ byte_rank f y = ap (byte_rank f) (omega arith) in
    omega (arith, b, q, to, le)

lies : (e : Edits) (s : Pairs) (in_extents : Bool) (o : Option ℕ) → body_key (changed e) ≡ o → AreOfOne s e
    → LiesInBody (option_map (body_of e s in_extents) o) (changed e)
lies e s in_extents None key h = tt
lies e s in_extents (Some j) key (inl off) =
    absurd (let none = sym (no_key (changed e) (all_changed IsOff Any e off)) ∙ key in cc)
lies e s in_extents (Some j) key (inr h) =
    let all = all_changed (IsOwn h.file) (KeepsSize s) e h.own in
    let first = first_of h.file (changed e) j all key in
    let file : object_of (key_of_rank j) ≡ h.file =
    ap (λ (k : ℕ). object_of (key_of_rank k)) first.is
    ∙ ap object_of (byte_back h.file first.x h.object first.below) ∙ byte_object h.file first.x in
    record {
      first = first.body;
      file = refl;
      among = first.on;
      within = λ r among body. subst (λ (t : Target). r.1 ≤ byte_rank t 0 + 2 ^ 64) (sym file)
          (own_end h.file r (All-contains (IsOwn h.file) (changed e) r all among) body);
    }

pub lies_in_body : (c : Command) (s : Pairs) (in_extents : Bool) → HasBytePaths c → AreLawfulSeen c s → HaveSizes c s
    → LiesInBody (body_on c s in_extents) (changed (edits_on c s))
lies_in_body c s in_extents bytes lawful sizes =
    lies (edits_on c s) s in_extents (body_key (changed (edits_on c s))) refl (command_of_one c s bytes lawful sizes)

-- ---- sizes

put_fits : (s ps : Pairs) (k : ℕ) (v : Option Value) → All (KeepsSize s) ps
    → size_in (find nat_cmp k s) ≤ greatest_size → size_in v ≤ greatest_size
    → size_in (last_put ps k v) ≤ greatest_size
put_fits s [] k v all was fits = fits
put_fits s (p ∷ ps) k v all was fits =
    put_fits s ps k (cond (k == p.0) (Some p.1) v) (All-tail (KeepsSize s) p ps all) was
    (by_test (k == p.0) refl)
  where
    value : (key : ℕ) (u : Value) → KeepsSize s (key, u) → size_in (find nat_cmp key s) ≤ greatest_size
        → size_in (Some u) ≤ greatest_size
    value key (Stat a) h le = h le
    value key (Entry n t) h le = omega arith
    value key (Byte x) h le = omega arith

    same : (m n : ℕ) → (m == n) ≡ true → m ≡ n
    same m n is = grind (arith, is)

    by_test : (b : Bool) → (k == p.0) ≡ b → size_in (cond b (Some p.1) v) ≤ greatest_size
    by_test true is = value p.0 p.1 (All-head (KeepsSize s) p ps all)
        (subst (λ (j : ℕ). size_in (find nat_cmp j s) ≤ greatest_size) (same k p.0 is) was)
    by_test false is = fits

keeps : (e : Edits) (s : Pairs) (in_extents : Bool) (o : Option ℕ) → Rises s → body_key (changed e) ≡ o → AreOfOne s e
    → KeepsFileSize (option_map (body_of e s in_extents) o)
keeps e s in_extents None r key h = tt
keeps e s in_extents (Some j) r key (inl off) =
    absurd (let none = sym (no_key (changed e) (all_changed IsOff Any e off)) ∙ key in cc)
keeps e s in_extents (Some j) r key (inr h) = λ was.
    let k = stat_rank (object_of (key_of_rank j)) in
    subst (λ v. size_in v ≤ greatest_size) (sym (found e s k r))
    (put_fits s e.puts k (cond (is_in e.zeros k) (Some (Byte 0)) (cond (is_in e.cuts k) None (find nat_cmp k s)))
    h.own.values was (by_tests k (is_in e.zeros k) (is_in e.cuts k) was))
  where
    by_tests : (k : ℕ) (a b : Bool) → size_in (find nat_cmp k s) ≤ greatest_size
        → size_in (cond a (Some (Byte 0)) (cond b None (find nat_cmp k s))) ≤ greatest_size
    by_tests k true b was = omega arith
    by_tests k false true was = omega arith
    by_tests k false false was = was

pub keeps_file_size : (c : Command) (s : Pairs) (in_extents : Bool) → HasBytePaths c → Rises s → AreLawfulSeen c s
    → HaveSizes c s → KeepsFileSize (body_on c s in_extents)
keeps_file_size c s in_extents bytes r lawful sizes =
    keeps (edits_on c s) s in_extents (body_key (changed (edits_on c s))) r refl (command_of_one c s bytes lawful sizes)
