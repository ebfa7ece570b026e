-- A walk goes on: a directory is opened, some of its entries are passed, and it is left.
use Rattle.std.proofs.Common.{◌≡◌, ◌≢◌, ◌⊎◌, ◌↔◌, inl, inr, ℕ, zero, suc, ◌+◌, ◌<◌, ◌≤◌, Bool, true, false, List, [], ◌∷◌, length, All, AllPairs, Some, refl, sym, ap, subst, ◌∙◌, arith}
use Rattle.std.proofs.lemmas.Bool.{false_from_ne_true}
use Rattle.std.proofs.lemmas.List.Elements.{All-nil, All-cons, All-head, All-tail, All-weaker}
use Rattle.std.proofs.lemmas.List.Kept.{AllPairs-cons}
use Rattle.std.proofs.lemmas.Option.{same_Some}
use Rattle.r4_base.specs.Image.{Image}
use Rattle.r4_base.specs.Key.{key_of_rank}
use Rattle.r4_base.specs.Name.{dir_of_key}
use Rattle.r4_base.specs.Value.{Entry, Content, at_key}
use Rattle.r4_base.specs.Volume.{HasContent, HasStat, IsReached, is_directory}
use Rattle.r4_base.specs.declared.items.Attr.{Attr}
use Rattle.r4_base.specs.declared.items.Target.{Target}
use Rattle.r4_content.specs.Walk.{attr_at}
use Rattle.r4_list.specs.Walking.{OpenDir, open_dir, open_from, IsLeftAt, IsDirectoryAt, IsMet, IsNamed, IsWalking, PrintsToo}
use Rattle.r4_list.proofs.WalkObjects.{attr_of_stat, one_depth, one_entry, raw_at, reached_raw, reached_stat, same_object}

-- ---- what is said of each that is open

abbrev IsThere : Content → OpenDir → Type 0
IsThere m f = IsDirectoryAt m f.dir

abbrev IsOn : (ℕ → Bool) → OpenDir → Type 0
IsOn printed f = printed f.dir.oid.0 ≡ true

abbrev AreTwo : OpenDir → OpenDir → Type 0
AreTwo f g = f.dir.oid.0 ≢ g.dir.oid.0

abbrev IsPast : (key : ℕ) → OpenDir → Type 0
IsPast key f = f.dir.oid.0 ≡ dir_of_key (key_of_rank key) → key < f.from

no_pairs : AllPairs AreTwo []
no_pairs i j d lt within = absurd (omega arith)

first_pairs : (f : OpenDir) (fs : List OpenDir) → AllPairs AreTwo (f ∷ fs) → All (AreTwo f) fs
first_pairs f fs h k d within = h zero (suc k) d (omega arith) (omega arith)

other_pairs : (f : OpenDir) (fs : List OpenDir) → AllPairs AreTwo (f ∷ fs) → AllPairs AreTwo fs
other_pairs f fs h i j d lt within = h (suc i) (suc j) d (omega arith) (omega arith)

one_later : (m : Content) (o : Target) (steps n : ℕ) → IsReached m (suc (steps + n)) o → IsReached m (steps + suc n) o
one_later m o steps n r = let e : suc (steps + n) ≡ steps + suc n = omega arith in subst (λ (x : ℕ). IsReached m x o) e r

-- ---- the first directory

pub begun_walk : (m : Content) (s : ℕ) (start : Target) (path : List ℕ) (a : Attr) (printed : ℕ → Bool) → attr_at m start ≡ Some a → is_directory a ≡ true → IsReached m s start
    → ((d : ℕ) → (printed d ≡ true) ↔ (d ≡ start.oid.0)) → IsWalking m start (open_dir start path 0 ∷ []) printed
begun_walk m s start path a printed is dir reached only =
    let first = open_dir start path 0 in
    record {
      steps = s;
      begins = reached;
      reached = (let e : s ≡ s + 0 = omega arith in subst (λ (x : ℕ). IsReached m x start) e reached, tt);
      dirs = All-cons (IsThere m) first [] (a, is, dir) (All-nil (IsThere m));
      on = All-cons (IsOn printed) first [] ((only start.oid.0).1 refl) (All-nil (IsOn printed));
      apart = AllPairs-cons AreTwo first [] (All-nil (AreTwo first)) no_pairs;
      named = λ id on. inl ((only id).0 on);
    }

-- ---- some entries are passed

met_past : (f : OpenDir) (fs : List OpenDir) (printed : ℕ → Bool) (to key : ℕ) → f.from ≤ to → IsMet (f ∷ fs) printed key → IsMet (open_from f to ∷ fs) printed key
met_past f fs printed to key le (on, all) =
    (on, All-cons (IsPast key) (open_from f to) fs (λ e. let lt = All-head (IsPast key) f fs all e in omega arith) (All-tail (IsPast key) f fs all))

pub passed : (m : Content) (start : Target) (f : OpenDir) (fs : List OpenDir) (printed : ℕ → Bool) (to : ℕ) → f.from ≤ to → IsWalking m start (f ∷ fs) printed
    → IsWalking m start (open_from f to ∷ fs) printed
passed m start f fs printed to le w =
    let now = open_from f to in
    record {
      steps = w.steps;
      begins = w.begins;
      reached = w.reached;
      dirs = All-cons (IsThere m) now fs (All-head (IsThere m) f fs w.dirs) (All-tail (IsThere m) f fs w.dirs);
      on = All-cons (IsOn printed) now fs (All-head (IsOn printed) f fs w.on) (All-tail (IsOn printed) f fs w.on);
      apart = AllPairs-cons AreTwo now fs (first_pairs f fs w.apart) (other_pairs f fs w.apart);
      named = λ id on. still id (w.named id on);
    }
  where
    still : (id : ℕ) → (id ≡ start.oid.0) ⊎ IsNamed m (f ∷ fs) printed id → (id ≡ start.oid.0) ⊎ IsNamed m (open_from f to ∷ fs) printed id
    still id (inl e) = inl e
    still id (inr (k, s, o, at, is, met)) = inr (k, s, o, at, is, met_past f fs printed to k le met)

pub file_passed : (m : Content) (start : Target) (f : OpenDir) (fs : List OpenDir) (printed : ℕ → Bool) → IsWalking m start (f ∷ fs) printed
    → (k : ℕ) (name : List ℕ) (o : Target) → IsLeftAt m f k name o → IsWalking m start (open_from f (k + 1) ∷ fs) printed
file_passed m start f fs printed w k name o at = passed m start f fs printed (k + 1) (let le = at.left in omega arith) w

-- ---- a directory is left

pub left : (m : Content) (start : Target) (f : OpenDir) (fs : List OpenDir) (printed : ℕ → Bool) → IsWalking m start (f ∷ fs) printed → IsWalking m start fs printed
left m start f fs printed w =
    record {
      steps = w.steps;
      begins = w.begins;
      reached = w.reached.1;
      dirs = All-tail (IsThere m) f fs w.dirs;
      on = All-tail (IsOn printed) f fs w.on;
      apart = other_pairs f fs w.apart;
      named = λ id on. still id (w.named id on);
    }
  where
    still : (id : ℕ) → (id ≡ start.oid.0) ⊎ IsNamed m (f ∷ fs) printed id → (id ≡ start.oid.0) ⊎ IsNamed m fs printed id
    still id (inl e) = inl e
    still id (inr (k, s, o, at, is, (on, all))) = inr (k, s, o, at, is, (on, All-tail (IsPast k) f fs all))

-- ---- a directory is opened

module _ (m : Content) (start : Target) (f : OpenDir) (fs : List OpenDir) (printed : ℕ → Bool) (w : IsWalking m start (f ∷ fs) printed) where
  -- what the first that is left names is reached by one step more
  below_reached : (k : ℕ) (s : List ℕ) (o : Target) → IsLeftAt m f k s o → IsReached m (suc (w.steps + length fs)) o
  below_reached k s o at = (f.dir, w.reached.0, (k, s, at.stands, at.in_dir))

  -- a directory that is named by an entry that is left was not printed
  module _ (n : ℕ) (image : Image) (c : HasContent n image m) (k : ℕ) (s : List ℕ) (o : Target) (a : Attr) (at : IsLeftAt m f k s o) (is : attr_at m o ≡ Some a) (dir : is_directory a ≡ true) where
    not_twice : printed o.oid.0 ≡ true → ⊥
    not_twice on =
        let here = raw_at n image m c k (Entry s o) at.stands in
        let (b, h) = c.objects.target k s o here in
        let attr = same_Some b a (sym (attr_of_stat n image m c o b h) ∙ is) in
        let is_dir : is_directory b ≡ true = ap is_directory attr ∙ dir in
        go b h is_dir here (w.named o.oid.0 on)
      where
        go : (b : Attr) → HasStat c.raw o b → is_directory b ≡ true → at_key c.raw k ≡ Some (Entry s o) → (o.oid.0 ≡ start.oid.0) ⊎ IsNamed m (f ∷ fs) printed o.oid.0 → ⊥
        go b h is_dir here (inl e) =
            let from_root = reached_raw n image m c w.steps start w.begins in
            let (d, g) = reached_stat n image m c w.steps start from_root in
            let same = same_object n image m c o start b d h g e in
            let below = reached_raw n image m c (suc (w.steps + length fs)) o (below_reached k s o at) in
            let depth = one_depth n image m c w.steps (suc (w.steps + length fs)) o b h is_dir (subst (λ (p : Target). IsReached c.raw w.steps p) (sym same) from_root) below in
            absurd (omega arith)
        go b h is_dir here (inr (j, t, p, there, e, (on, all))) =
            let other = raw_at n image m c j (Entry t p) there in
            let (d, g) = c.objects.target j t p other in
            let same = same_object n image m c p o d b g h e in
            let key = one_entry n image m c o b j k t s h is_dir (subst (λ (q : Target). at_key c.raw j ≡ Some (Entry t q)) same other) here in
            let past = All-head (IsPast j) f fs all (sym at.in_dir ∙ ap (λ (i : ℕ). dir_of_key (key_of_rank i)) (sym key)) in
            let left = at.left in
            absurd (omega arith)

    pub new_dir : printed o.oid.0 ≡ false
    new_dir = false_from_ne_true (printed o.oid.0) not_twice

    module _ (path : List ℕ) (next : ℕ → Bool) (too : PrintsToo printed o.oid.0 next) where
      abbrev child : OpenDir
      child = open_dir o path 0

      abbrev now : OpenDir
      now = open_from f (k + 1)

      still_on : (d : ℕ) → printed d ≡ true → next d ≡ true
      still_on d on = (too d).1 (inl on)

      met_below : (key : ℕ) → IsMet (now ∷ fs) printed key → IsMet (child ∷ now ∷ fs) next key
      met_below key (on, all) =
          (still_on (dir_of_key (key_of_rank key)) on, All-cons (IsPast key) child (now ∷ fs) (λ e. absurd (not_twice (ap printed e ∙ on))) all)

      -- the directory in which the entry stands
      holder_on : printed (dir_of_key (key_of_rank k)) ≡ true
      holder_on = ap printed at.in_dir ∙ All-head (IsOn printed) f fs w.on

      met_here : IsMet (child ∷ now ∷ fs) next k
      met_here =
          let others = All-weaker (AreTwo f) (IsPast k) (λ g two e. absurd (two (sym at.in_dir ∙ sym e))) fs (first_pairs f fs w.apart) in (
            still_on (dir_of_key (key_of_rank k)) holder_on,
            All-cons (IsPast k) child (now ∷ fs) (λ e. absurd (not_twice (ap printed e ∙ holder_on)))
                (All-cons (IsPast k) now fs (λ e. omega arith) others),
          )

      named_below : (id : ℕ) → (printed id ≡ true) ⊎ (id ≡ o.oid.0) → (id ≡ start.oid.0) ⊎ IsNamed m (child ∷ now ∷ fs) next id
      named_below id (inr e) = inr (k, s, o, at.stands, sym e, met_here)
      named_below id (inl on) = again ((file_passed m start f fs printed w k s o at).named id on)
        where
          again : (id ≡ start.oid.0) ⊎ IsNamed m (now ∷ fs) printed id → (id ≡ start.oid.0) ⊎ IsNamed m (child ∷ now ∷ fs) next id
          again (inl e) = inl e
          again (inr (j, t, p, there, e, met)) = inr (j, t, p, there, e, met_below j met)

      pub opened : IsWalking m start (child ∷ now ∷ fs) next
      opened =
          let on_before : IsWalking m start (now ∷ fs) printed = file_passed m start f fs printed w k s o at in
          record {
            steps = w.steps;
            begins = w.begins;
            reached = (one_later m o w.steps (length fs) (below_reached k s o at), w.reached);
            dirs = All-cons (IsThere m) child (now ∷ fs) (a, is, dir) on_before.dirs;
            on = All-cons (IsOn next) child (now ∷ fs) ((too o.oid.0).1 (inr refl)) (All-weaker (IsOn printed) (IsOn next) (λ g on. still_on g.dir.oid.0 on) (now ∷ fs) on_before.on);
            apart = AllPairs-cons AreTwo child (now ∷ fs) (All-weaker (IsOn printed) (AreTwo child) (λ g on e. not_twice (ap printed e ∙ on)) (now ∷ fs) on_before.on) on_before.apart;
            named = λ id on. named_below id ((too id).0 on);
          }
