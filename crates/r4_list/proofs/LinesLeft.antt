-- What is left to be printed of the directories that are open.
use Rattle.std.proofs.Common.{◌≡◌, inl, inr, ℕ, suc, ◌+◌, ◌-◌, ◌<◌, ◌≤◌, Bool, true, false, cond, nat_eq, nat_le, ◌&&◌, List, [], ◌∷◌, ◌++◌, length, filter, Contains, Some, refl, sym, ap, ◌∙◌, append_assoc, append-nil, arith}
use Rattle.std.specs.FinMap.{entries}
use Rattle.std.proofs.lemmas.Bool.{and_parts, and_from, and_right, cases_lt, false_from_ne_true, leb-true, le-leb, lt-leb, eqb-true, eq-eqb}
use Rattle.r4_base.specs.Key.{key_of_rank}
use Rattle.r4_base.specs.Name.{dir_of_key}
use Rattle.r4_base.specs.Value.{Value, Stat, Entry, Byte, Content}
use Rattle.r4_base.specs.Volume.{is_directory, is_entry_in}
use Rattle.r4_base.specs.declared.items.Attr.{Attr}
use Rattle.r4_base.specs.declared.items.Target.{Target}
use Rattle.r4_content.specs.Walk.{attr_at}
use Rattle.r4_list.specs.Listing.{entries_of, line_of, lines_at, lines_below, lines_of}
use Rattle.r4_list.specs.Walking.{OpenDir, open_dir, open_from, is_left, left_of, rest_of, IsLeftAt, NoneBefore, NoneLeft}
use Rattle.r4_list.proofs.WalkEntries.{entry_at, entry_there, filter_first, filter_none, filter_same, in_order}

-- ---- entries that are left

-- the unit is an entry of the directory
pub record IsEntryOf (dir k : ℕ) (v : Value) : Type 0 where
  pub name : List ℕ
  pub object : Target
  pub is : v ≡ Entry name object
  pub in_dir : dir_of_key (key_of_rank k) ≡ dir

pub entry_of : (dir k : ℕ) (v : Value) → is_entry_in dir (k, v) ≡ true → IsEntryOf dir k v
entry_of dir k (Stat a) e = absurd cc
entry_of dir k (Entry s o) e = record { name = s; object = o; is = refl; in_dir = eqb-true _ _ e }
entry_of dir k (Byte x) e = absurd cc

left_at : (m : Content) (f : OpenDir) (u : ℕ × Value) → Contains (entries m) u → is_left f.dir.oid.0 f.from u ≡ true → (s : List ℕ) × (o : Target) × IsLeftAt m f u.0 s o
left_at m f u c e =
    let p = and_parts (is_entry_in f.dir.oid.0 u) (nat_le f.from u.0) e in
    let entry = entry_of f.dir.oid.0 u.0 u.1 p.0 in
    (entry.name, entry.object, record { stands = entry_at m u.0 u.1 c ∙ ap Some entry.is; in_dir = entry.in_dir; left = leb-true _ _ p.1 })

not_left : (dir from : ℕ) (u : ℕ × Value) → u.0 < from → is_left dir from u ≡ false
not_left dir from u lt = and_right (is_entry_in dir u) (nat_le from u.0) (lt-leb from u.0 lt)

left_alike : (dir from to : ℕ) (u : ℕ × Value) → from ≤ u.0 → to ≤ u.0 → is_left dir from u ≡ is_left dir to u
left_alike dir from to u one two = ap (λ (b : Bool). is_entry_in dir u && b) (le-leb from u.0 one ∙ sym (le-leb to u.0 two))

module _ (m : Content) (f : OpenDir) where
  abbrev dir : ℕ
  dir = f.dir.oid.0

  first_left : (k : ℕ) (s : List ℕ) (o : Target) → IsLeftAt m f k s o → NoneBefore m f k → filter (is_left dir f.from) (entries m) ≡ (k, Entry s o) ∷ filter (is_left dir (k + 1)) (entries m)
  first_left k s o at none =
      filter_first (is_left dir f.from) (is_left dir (k + 1)) (k, Entry s o) (entries m) (in_order m) (entry_there m k (Entry s o) at.stands)
      (and_from (nat_eq (dir_of_key (key_of_rank k)) dir) (nat_le f.from k) (eq-eqb _ _ at.in_dir) (le-leb _ _ at.left))
      (not_left dir (k + 1) (k, Entry s o) (omega arith))
      (λ u c lt. (false_from_ne_true _ (λ e. let (t, p, is) = left_at m f u c e in let le = none u.0 t p is in absurd (omega arith)), not_left dir (k + 1) u (omega arith)))
      (λ u c lt. let le = at.left in left_alike dir f.from (k + 1) u (omega arith) (omega arith))

  same_left : (to : ℕ) → f.from ≤ to → NoneBefore m f to → filter (is_left dir f.from) (entries m) ≡ filter (is_left dir to) (entries m)
  same_left to le none =
      filter_same (is_left dir f.from) (is_left dir to) (entries m) (λ u c. elim (cases_lt u.0 to) [
        | inl lt ↦ false_from_ne_true _ (λ e. let (t, p, is) = left_at m f u c e in let high = none u.0 t p is in absurd (omega arith)) ∙ sym (not_left dir to u lt)
        | inr past ↦ left_alike dir f.from to u (omega arith) past
      ])

  nothing_left : NoneLeft m f → filter (is_left dir f.from) (entries m) ≡ []
  nothing_left none = filter_none (is_left dir f.from) (entries m) (λ u c. false_from_ne_true _ (λ e. let (t, p, is) = left_at m f u c e in none u.0 t p is))

all_left : (m : Content) (dir : ℕ) → entries_of m dir ≡ filter (is_left dir 0) (entries m)
unfolding entries_of
all_left m dir = filter_same (is_entry_in dir) (is_left dir 0) (entries m) (λ u c. sym (with_true (is_entry_in dir u)) ∙ ap (λ (b : Bool). is_entry_in dir u && b) (sym (le-leb 0 u.0 (omega arith))))
  where
    with_true : (b : Bool) → (b && true) ≡ b
    with_true true = refl
    with_true false = refl

-- ---- the lines of an object

pub file_lines : (m : Content) (steps : ℕ) (o : Target) (path : List ℕ) (a : Attr) → attr_at m o ≡ Some a → is_directory a ≡ false → lines_of m (suc steps) o path ≡ line_of a path
unfolding lines_of
file_lines m steps o path a is file =
    ap (lines_at m (lines_of m steps) o path) is
    ∙ ap (λ (b : Bool). line_of a path ++ cond b (lines_below (lines_of m steps) path (entries_of m o.oid.0)) []) file
    ∙ append-nil (line_of a path)

dir_lines : (m : Content) (steps : ℕ) (o : Target) (path : List ℕ) (a : Attr) → attr_at m o ≡ Some a → is_directory a ≡ true
    → lines_of m (suc steps) o path ≡ line_of a path ++ left_of m (lines_of m steps) (open_dir o path 0)
unfolding lines_of left_of
dir_lines m steps o path a is dir =
    ap (lines_at m (lines_of m steps) o path) is
    ∙ ap (λ (b : Bool). line_of a path ++ cond b (lines_below (lines_of m steps) path (entries_of m o.oid.0)) []) dir
    ∙ ap (λ (us : List (ℕ × Value)). line_of a path ++ lines_below (lines_of m steps) path us) (all_left m o.oid.0)

-- ---- what is left of all

pub begun : (m : Content) (steps : ℕ) (start : Target) (path : List ℕ) (a : Attr) → attr_at m start ≡ Some a → is_directory a ≡ true
    → lines_of m (suc steps) start path ≡ line_of a path ++ rest_of m steps (open_dir start path 0 ∷ [])
unfolding rest_of
begun m steps start path a is dir =
    let same : steps ≡ steps - 0 = omega arith in
    dir_lines m steps start path a is dir
    ∙ ap (λ (n : ℕ). line_of a path ++ left_of m (lines_of m n) (open_dir start path 0)) same
    ∙ ap (λ (xs : List ℕ). line_of a path ++ xs) (sym (append-nil (left_of m (lines_of m (steps - 0)) (open_dir start path 0))))

left_first : (m : Content) (lines : Target → List ℕ → List ℕ) (f : OpenDir) (k : ℕ) (s : List ℕ) (o : Target) → IsLeftAt m f k s o → NoneBefore m f k
    → left_of m lines f ≡ lines o (f.path ++ 47 ∷ s) ++ left_of m lines (open_from f (k + 1))
unfolding left_of lines_below
left_first m lines f k s o at none = ap (lines_below lines f.path) (first_left m f k s o at none)

rest_first : (m : Content) (steps : ℕ) (f : OpenDir) (fs : List OpenDir) (k : ℕ) (s : List ℕ) (o : Target) → IsLeftAt m f k s o → NoneBefore m f k
    → rest_of m steps (f ∷ fs) ≡ lines_of m (steps - length fs) o (f.path ++ 47 ∷ s) ++ rest_of m steps (open_from f (k + 1) ∷ fs)
unfolding rest_of
rest_first m steps f fs k s o at none =
    ap (λ (xs : List ℕ). xs ++ rest_of m steps fs) (left_first m (lines_of m (steps - length fs)) f k s o at none)
    ∙ append_assoc (lines_of m (steps - length fs) o (f.path ++ 47 ∷ s)) (left_of m (lines_of m (steps - length fs)) (open_from f (k + 1))) (rest_of m steps fs)

pub met_file : (m : Content) (steps : ℕ) (f : OpenDir) (fs : List OpenDir) (k : ℕ) (s : List ℕ) (o : Target) (a : Attr) → IsLeftAt m f k s o → NoneBefore m f k
    → attr_at m o ≡ Some a → is_directory a ≡ false → length fs < steps
    → rest_of m steps (f ∷ fs) ≡ line_of a (f.path ++ 47 ∷ s) ++ rest_of m steps (open_from f (k + 1) ∷ fs)
met_file m steps f fs k s o a at none is file lt =
    let one : steps - length fs ≡ suc (steps - suc (length fs)) = omega arith in
    rest_first m steps f fs k s o at none
    ∙ ap (λ (xs : List ℕ). xs ++ rest_of m steps (open_from f (k + 1) ∷ fs)) (ap (λ (n : ℕ). lines_of m n o (f.path ++ 47 ∷ s)) one ∙ file_lines m (steps - suc (length fs)) o (f.path ++ 47 ∷ s) a is file)

pub met_dir : (m : Content) (steps : ℕ) (f : OpenDir) (fs : List OpenDir) (k : ℕ) (s : List ℕ) (o : Target) (a : Attr) → IsLeftAt m f k s o → NoneBefore m f k
    → attr_at m o ≡ Some a → is_directory a ≡ true → length fs < steps
    → rest_of m steps (f ∷ fs) ≡ line_of a (f.path ++ 47 ∷ s) ++ rest_of m steps (open_dir o (f.path ++ 47 ∷ s) 0 ∷ open_from f (k + 1) ∷ fs)
unfolding rest_of
met_dir m steps f fs k s o a at none is dir lt =
    let one : steps - length fs ≡ suc (steps - suc (length fs)) = omega arith in
    let path : List ℕ = f.path ++ 47 ∷ s in
    rest_first m steps f fs k s o at none
    ∙ ap (λ (xs : List ℕ). xs ++ rest_of m steps (open_from f (k + 1) ∷ fs)) (ap (λ (n : ℕ). lines_of m n o path) one ∙ dir_lines m (steps - suc (length fs)) o path a is dir)
    ∙ append_assoc (line_of a path) (left_of m (lines_of m (steps - suc (length fs))) (open_dir o path 0)) (rest_of m steps (open_from f (k + 1) ∷ fs))

pub moved : (m : Content) (steps : ℕ) (f : OpenDir) (fs : List OpenDir) (to : ℕ) → f.from ≤ to → NoneBefore m f to → rest_of m steps (f ∷ fs) ≡ rest_of m steps (open_from f to ∷ fs)
unfolding rest_of left_of
moved m steps f fs to le none = ap (λ (us : List (ℕ × Value)). lines_below (lines_of m (steps - length fs)) f.path us ++ rest_of m steps fs) (same_left m f to le none)

pub ended : (m : Content) (steps : ℕ) (f : OpenDir) (fs : List OpenDir) → NoneLeft m f → rest_of m steps (f ∷ fs) ≡ rest_of m steps fs
unfolding rest_of left_of lines_below
ended m steps f fs none = ap (λ (us : List (ℕ × Value)). lines_below (lines_of m (steps - length fs)) f.path us ++ rest_of m steps fs) (nothing_left m f none)

pub nothing_open : (m : Content) (steps : ℕ) → rest_of m steps [] ≡ []
unfolding rest_of
nothing_open m steps = refl
