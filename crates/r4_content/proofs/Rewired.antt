-- A content stays lawful where entries at two keys change, and attributes of objects with them.
use Rattle.std.specs.Prelude.{◌≡◌, ◌≢◌, ◌⊎◌, ℕ, zero, suc, ◌+◌, ◌≤◌, List, Bool, true, false, ◌&&◌, ◌==◌, Option, Some, None, if◌then◌else◌}
use Rattle.std.proofs.Common.{arith, inl, inr, refl, sym, ap, subst, ◌∙◌}
use Rattle.std.proofs.lemmas.Bool.{eq-eqb, eqb-true, ne_eqb}
use Rattle.std.proofs.lemmas.Option.{same_Some}
use Rattle.std.specs.Option.{is_some}
use Rattle.r4_base.specs.Key.{key_of_rank}
use Rattle.r4_base.specs.Name.{dir_of_key}
use Rattle.r4_base.specs.Value.{Value, Stat, Entry, Byte, Content, at_key}
use Rattle.r4_base.specs.Volume.{HasObjects, HasStat, IsReached, directories_in, entries_in, is_directory, is_directory_value, is_entry_in, links_to, names_directory, names_object, root_object, stat_rank}
use Rattle.r4_base.specs.declared.items.Attr.{Attr}
use Rattle.r4_base.specs.declared.items.Target.{Target}
use Rattle.r4_base.specs.declared.things.Oid.{Oid}
use Rattle.r4_content.specs.Objects.{is_same_target}
use Rattle.r4_content.specs.Ways.{Named, entry_in}
use Rattle.r4_content.proofs.Counting.{count, here, none_there, not_same, one_there, pick, some_counted, two_counts}
use Rattle.r4_content.proofs.EditParts.{true_not_false}
use Rattle.r4_content.proofs.Ranks.{same_itself, told_same}

-- ---- tests that entries alone pass

pub record OnEntries (p : ℕ × Value → Bool) : Type 0 where
  pub stat : (k : ℕ) (a : Attr) → p (k, Stat a) ≡ false
  pub byte : (k x : ℕ) → p (k, Byte x) ≡ false

abbrev pub named : Target → ℕ × Value → Bool
named t = λ (u : ℕ × Value). names_object t u.1

abbrev pub directory_in : Content → ℕ → ℕ × Value → Bool
directory_in m dir = λ (u : ℕ × Value). is_entry_in dir u && names_directory m u.1

pub named_on : (t : Target) → OnEntries (named t)
named_on t = record { stat = λ k a. refl; byte = λ k x. refl }

pub entry_on : (dir : ℕ) → OnEntries (is_entry_in dir)
entry_on dir = record { stat = λ k a. refl; byte = λ k x. refl }

pub directory_on : (m : Content) (dir : ℕ) → OnEntries (directory_in m dir)
directory_on m dir = record { stat = λ k a. refl; byte = λ k x. refl }

pub entry_is : (v : Option Value) (s : List ℕ) (t : Target) → entry_in v ≡ Some (record { name = s; target = t }) → v ≡ Some (Entry s t)
entry_is None s t e = absurd cc
entry_is (Some (Stat a)) s t e = absurd cc
entry_is (Some (Entry n u)) s t e =
    let is = same_Some (record { name = n; target = u }) (record { name = s; target = t }) e in
    let named_as : n ≡ s = ap (λ (x : Named). x.name) is in
    let aims : u ≡ t = ap (λ (x : Named). x.target) is in
    λ i. Some (Entry (named_as i) (aims i))
entry_is (Some (Byte x)) s t e = absurd cc

-- with the same entry, or none
pub entry_same : (v w : Option Value) (s : List ℕ) (t : Target) → entry_in v ≡ entry_in w → v ≡ Some (Entry s t) → w ≡ Some (Entry s t)
entry_same v w s t e is = entry_is w s t (sym e ∙ ap entry_in is)

pub pick_not : (p : ℕ × Value → Bool) (k : ℕ) (v : Option Value) → OnEntries p → ((s : List ℕ) (t : Target) → v ≡ Some (Entry s t) → p (k, Entry s t) ≡ false) → pick p k v ≡ None
pick_not p k None on h = refl
pick_not p k (Some (Stat a)) on h = ap (λ (b : Bool). if b then Some (Stat a) else None) (on.stat k a)
pick_not p k (Some (Entry s t)) on h = ap (λ (b : Bool). if b then Some (Entry s t) else None) (h s t refl)
pick_not p k (Some (Byte x)) on h = ap (λ (b : Bool). if b then Some (Byte x) else None) (on.byte k x)

pub here_not : (p : ℕ × Value → Bool) (k : ℕ) (v : Option Value) → OnEntries p → ((s : List ℕ) (t : Target) → v ≡ Some (Entry s t) → p (k, Entry s t) ≡ false) → here p k v ≡ 0
here_not p k v on h = ap (λ (x : Option Value). if is_some x then 1 else 0) (pick_not p k v on h)

pub not_entry : (v : Option Value) (s : List ℕ) (t : Target) → entry_in v ≡ None → v ≡ Some (Entry s t) → ⊥
not_entry v s t none is = not_some (record { name = s; target = t }) (sym (ap entry_in is) ∙ none)
  where
    not_some : (x : Named) → Some x ≡ None → ⊥
    not_some x e = cc

pub here_empty : (p : ℕ × Value → Bool) (k : ℕ) (v : Option Value) → OnEntries p → entry_in v ≡ None → here p k v ≡ 0
here_empty p k v on none = here_not p k v on (λ s t is. absurd (not_entry v s t none is))

no_entry : (v : Option Value) (s : List ℕ) (t : Target) → None ≡ entry_in v → v ≡ Some (Entry s t) → ⊥
no_entry v s t none is = not_some (record { name = s; target = t }) (none ∙ ap entry_in is)
  where
    not_some : (x : Named) → None ≡ Some x → ⊥
    not_some x e = cc

pub pick_same : (p q : ℕ × Value → Bool) (k : ℕ) (v w : Option Value) → OnEntries p → OnEntries q → entry_in v ≡ entry_in w → ((s : List ℕ) (t : Target) → v ≡ Some (Entry s t) → p (k, Entry s t) ≡ q (k, Entry s t))
    → pick p k v ≡ pick q k w
pick_same p q k None w on also e h = sym (pick_not q k w also (λ s t is. absurd (no_entry w s t e is)))
pick_same p q k (Some (Stat a)) w on also e h = pick_not p k (Some (Stat a)) on (λ s t is. absurd cc) ∙ sym (pick_not q k w also (λ s t is. absurd (no_entry w s t e is)))
pick_same p q k (Some (Byte x)) w on also e h = pick_not p k (Some (Byte x)) on (λ s t is. absurd cc) ∙ sym (pick_not q k w also (λ s t is. absurd (no_entry w s t e is)))
pick_same p q k (Some (Entry s t)) w on also e h =
    ap (λ (b : Bool). if b then Some (Entry s t) else None) (h s t refl) ∙ sym (ap (pick q k) (entry_is w s t (sym e)))

here_less : (p q : ℕ × Value → Bool) (k : ℕ) (v : Option Value) → here (λ u. p u && q u) k v ≤ here p k v
here_less p q k None = omega arith
here_less p q k (Some x) = by_test (p (k, x)) (q (k, x))
  where
    by_test : (a b : Bool) → (if is_some (if a && b then Some x else None) then 1 else 0) ≤ (if is_some (if a then Some x else None) then 1 else 0)
    by_test true true = omega arith
    by_test true false = omega arith
    by_test false b = omega arith

-- an object is named by an entry of it
pub names_it : (t u : Target) (s : List ℕ) → names_object t (Entry s u) ≡ true → u ≡ t
names_it t u s e = told_same u t e

pub names_itself : (t : Target) (s : List ℕ) → names_object t (Entry s t) ≡ true
names_itself t s = same_itself t

pub names_other : (t u : Target) (s : List ℕ) → u ≢ t → names_object t (Entry s u) ≡ false
names_other t u s ne = by_test (is_same_target u t) refl
  where
    by_test : (b : Bool) → is_same_target u t ≡ b → is_same_target u t ≡ false
    by_test true e = absurd (ne (told_same u t e))
    by_test false e = e

-- ---- what a change of entries has to keep

-- Beside an entry that is new: it names an object that is no root, and stands in a directory.
pub record IsPlaced (n : Content) (k : ℕ) (t : Target) : Type 0 where
  pub no_root : t ≢ root_object
  pub object : (b : Attr) × HasStat n t b
  pub holder : (p : Target) × (b : Attr) × HasStat n p b × (is_directory b ≡ true) × (dir_of_key (key_of_rank k) ≡ p.oid.0)

-- how many of two entries pass a test
abbrev pub both_here : (ℕ × Value → Bool) → (i j : ℕ) → Content → ℕ
both_here p i j m = here p i (at_key m i) + here p j (at_key m j)

pub record IsBorn (m n : Content) (i j : ℕ) (t : Target) (b : Attr) : Type 0 where
  pub unused : (u : Target) (a : Attr) → HasStat m u a → u.oid.0 ≢ t.oid.0
  pub size : b.size ≡ 0
  pub no_entries : both_here (is_entry_in t.oid.0) i j n ≡ 0
  pub named : both_here (named t) i j n ≡ 1
  pub links : (is_directory b ≡ true → b.nlink ≡ 2) × (is_directory b ≡ false → b.nlink ≡ 1)

-- From m to n the entries at i and j change, and attributes become others, or go.
pub record Rewired (m n : Content) (i j : ℕ) (became : Target → Attr → Option Attr) (Born : Target → Attr → Type 0) : Type 0 where
  pub apart : i ≢ j
  pub others : (k : ℕ) → k ≢ i → k ≢ j → entry_in (at_key m k) ≡ entry_in (at_key n k)
  pub kept : (t : Target) (a b : Attr) → HasStat m t a → became t a ≡ Some b → HasStat n t b
  pub from : (t : Target) (b : Attr) → HasStat n t b → ((a : Attr) × HasStat m t a × (became t a ≡ Some b)) ⊎ Born t b
  pub kind : (t : Target) (a b : Attr) → HasStat m t a → became t a ≡ Some b → is_directory b ≡ is_directory a
  pub stays : (k : ℕ) (s : List ℕ) (t : Target) (a : Attr) → k ≢ i → k ≢ j → at_key m k ≡ Some (Entry s t) → HasStat m t a → (b : Attr) × (became t a ≡ Some b)
  pub holder_stays : (k : ℕ) (s : List ℕ) (t p : Target) (a : Attr) → k ≢ i → k ≢ j → at_key m k ≡ Some (Entry s t) → HasStat m p a → is_directory a ≡ true → dir_of_key (key_of_rank k) ≡ p.oid.0
      → (b : Attr) × (became p a ≡ Some b)
  pub root_stays : (a : Attr) → HasStat m root_object a → (b : Attr) × (became root_object a ≡ Some b)
  pub placed : (k : ℕ) (s : List ℕ) (t : Target) → (k ≡ i) ⊎ (k ≡ j) → at_key n k ≡ Some (Entry s t) → IsPlaced n k t
  pub directory_links : (t : Target) (a b : Attr) → HasStat m t a → became t a ≡ Some b → is_directory a ≡ true → t ≢ root_object → both_here (named t) i j m ≡ both_here (named t) i j n
  pub file_links : (t : Target) (a b : Attr) → HasStat m t a → became t a ≡ Some b → is_directory a ≡ false → b.nlink + both_here (named t) i j m ≡ a.nlink + both_here (named t) i j n
  pub alive : (t : Target) (a b : Attr) → HasStat m t a → became t a ≡ Some b → is_directory a ≡ false → 1 ≤ a.nlink → 1 ≤ b.nlink
  pub sizes : (t : Target) (a b : Attr) → HasStat m t a → became t a ≡ Some b → is_directory a ≡ true → b.size + both_here (is_entry_in t.oid.0) i j m ≡ a.size + both_here (is_entry_in t.oid.0) i j n
  pub directories : (t : Target) (a b : Attr) → HasStat m t a → became t a ≡ Some b → is_directory a ≡ true
      → b.nlink + both_here (directory_in m t.oid.0) i j m ≡ a.nlink + both_here (directory_in n t.oid.0) i j n
  pub born : (t : Target) (b : Attr) → Born t b → IsBorn m n i j t b
  pub one_born : (t u : Target) (a b : Attr) → Born t a → Born u b → t ≡ u
  pub moved : (k : ℕ) (s : List ℕ) (t : Target) (a b : Attr) → (k ≡ i) ⊎ (k ≡ j) → at_key m k ≡ Some (Entry s t) → HasStat m t a → is_directory a ≡ true → became t a ≡ Some b → (steps : ℕ) × IsReached n steps t

one_of : (k i j : ℕ) → ((k ≡ i) ⊎ (k ≡ j)) ⊎ ((k ≢ i) × (k ≢ j))
one_of k i j = by_test (k == i) (k == j) refl refl
  where
    by_test : (a b : Bool) → (k == i) ≡ a → (k == j) ≡ b → ((k ≡ i) ⊎ (k ≡ j)) ⊎ ((k ≢ i) × (k ≢ j))
    by_test true b e f = inl (inl (eqb-true k i e))
    by_test false true e f = inl (inr (eqb-true k j f))
    by_test false false e f = inr (not_same k i e, not_same k j f)

same_oid : (a b : Oid) → a.0 ≡ b.0 → a ≡ b
same_oid a b e i = record { 0 = e i }

module _ (m n : Content) (i j : ℕ) (became : Target → Attr → Option Attr) (Born : Target → Attr → Type 0) (lawful : HasObjects m) (r : Rewired m n i j became Born) where
  -- what is at a key that stays
  entry_stays : (k : ℕ) (s : List ℕ) (t : Target) → k ≢ i → k ≢ j → at_key m k ≡ Some (Entry s t) → at_key n k ≡ Some (Entry s t)
  entry_stays k s t a b at = entry_same (at_key m k) (at_key n k) s t (r.others k a b) at

  entry_was : (k : ℕ) (s : List ℕ) (t : Target) → k ≢ i → k ≢ j → at_key n k ≡ Some (Entry s t) → at_key m k ≡ Some (Entry s t)
  entry_was k s t a b at = entry_same (at_key n k) (at_key m k) s t (sym (r.others k a b)) at

  links_are : (t : Target) → links_to n t + both_here (named t) i j m ≡ links_to m t + both_here (named t) i j n
  links_are t = two_counts (named t) (named t) m n i j r.apart (λ k a b. pick_same (named t) (named t) k (at_key m k) (at_key n k) (named_on t) (named_on t) (r.others k a b) (λ s u is. refl))

  entries_are : (dir : ℕ) → count (is_entry_in dir) n + both_here (is_entry_in dir) i j m ≡ count (is_entry_in dir) m + both_here (is_entry_in dir) i j n
  entries_are dir =
      two_counts (is_entry_in dir) (is_entry_in dir) m n i j r.apart (λ k a b. pick_same (is_entry_in dir) (is_entry_in dir) k (at_key m k) (at_key n k) (entry_on dir) (entry_on dir) (r.others k a b) (λ s u is. refl))

  directories_are : (dir : ℕ) → count (directory_in n dir) n + both_here (directory_in m dir) i j m ≡ count (directory_in m dir) m + both_here (directory_in n dir) i j n
  directories_are dir = two_counts (directory_in m dir) (directory_in n dir) m n i j r.apart (λ k a b. pick_same (directory_in m dir) (directory_in n dir) k (at_key m k) (at_key n k) (directory_on m dir) (directory_on n dir) (r.others k a b) (same k a b))
    where
      same : (k : ℕ) → k ≢ i → k ≢ j → (s : List ℕ) (t : Target) → at_key m k ≡ Some (Entry s t) → directory_in m dir (k, Entry s t) ≡ directory_in n dir (k, Entry s t)
      same k a b s t at =
          let (c, h) = lawful.target k s t at in
          let (d, e) = r.stays k s t c a b at h in
          let old : is_directory_value (at_key m (stat_rank t)) ≡ is_directory c = ap is_directory_value h.1 in
          let new : is_directory_value (at_key n (stat_rank t)) ≡ is_directory d = ap is_directory_value (r.kept t c d h e).1 in
          ap (λ (x : Bool). is_entry_in dir (k, Entry s t) && x) (old ∙ sym (r.kind t c d h e) ∙ sym new)

  -- nothing in m speaks of what is born
  born_unnamed : (t : Target) (b : Attr) → Born t b → (k : ℕ) (s : List ℕ) (u : Target) → at_key m k ≡ Some (Entry s u) → names_object t (Entry s u) ≡ false
  born_unnamed t b h k s u at =
      let (a, there) = lawful.target k s u at in
      names_other t u s (λ is. (r.born t b h).unused u a there (ap (λ (x : Target). x.oid.0) is))

  born_no_entry : (t : Target) (b : Attr) → Born t b → (k : ℕ) (s : List ℕ) (u : Target) → at_key m k ≡ Some (Entry s u) → is_entry_in t.oid.0 (k, Entry s u) ≡ false
  born_no_entry t b h k s u at =
      let (p, a, there, dir, is) = lawful.holder k s u at in
      ne_eqb (dir_of_key (key_of_rank k)) t.oid.0 (λ same. (r.born t b h).unused p a there (sym is ∙ same))

  fails_on : (p : ℕ × Value → Bool) → OnEntries p → ((k : ℕ) (s : List ℕ) (u : Target) → at_key m k ≡ Some (Entry s u) → p (k, Entry s u) ≡ false) → (k : ℕ) (v : Value) → at_key m k ≡ Some v → p (k, v) ≡ false
  fails_on p on h k (Stat a) at = on.stat k a
  fails_on p on h k (Entry s u) at = h k s u at
  fails_on p on h k (Byte x) at = on.byte k x

  nothing_of : (p : ℕ × Value → Bool) → OnEntries p → ((k : ℕ) (s : List ℕ) (u : Target) → at_key m k ≡ Some (Entry s u) → p (k, Entry s u) ≡ false) → (count p m ≡ 0) × (both_here p i j m ≡ 0)
  nothing_of p on h =
      let a = here_not p i (at_key m i) on (λ s u is. h i s u is) in
      let b = here_not p j (at_key m j) on (λ s u is. h j s u is) in
      (none_there p m (fails_on p on h), omega arith)

  root : (b : Attr) × HasStat n root_object b × (is_directory b ≡ true)
  root =
      let (a, h, dir) = lawful.root in
      let (b, e) = r.root_stays a h in
      (b, r.kept root_object a b h e, r.kind root_object a b h e ∙ dir)

  root_unnamed : links_to n root_object ≡ 0
  root_unnamed =
      let all = links_are root_object in
      let none = lawful.root_unnamed in
      let a = here_not (named root_object) i (at_key n i) (named_on root_object) (λ s t is. names_other root_object t s (r.placed i s t (inl refl) is).no_root) in
      let b = here_not (named root_object) j (at_key n j) (named_on root_object) (λ s t is. names_other root_object t s (r.placed j s t (inr refl) is).no_root) in
      omega arith

  links_once : (t : Target) (b : Attr) → Born t b → links_to n t ≡ 1
  links_once t b h =
      let all = links_are t in
      let none = nothing_of (named t) (named_on t) (born_unnamed t b h) in
      let is = (r.born t b h).named in
      let zero_count = none.0 in
      let zero_here = none.1 in
      omega arith

  named_once : (t : Target) (b : Attr) → HasStat n t b → is_directory b ≡ true → t ≢ root_object → links_to n t ≡ 1
  named_once t b there dir no_root = elim (r.from t b there) [
    | inl (a, h, e) ↦
        let was = sym (r.kind t a b h e) ∙ dir in
        let all = links_are t in
        let one = lawful.named_once t a h was no_root in
        let same = r.directory_links t a b h e was no_root in
        omega arith
    | inr h ↦ links_once t b h
  ]

  directories : (t : Target) (b : Attr) → HasStat n t b → is_directory b ≡ true → (b.size ≡ entries_in n t) × (b.nlink ≡ 2 + directories_in n t)
  directories t b there dir = elim (r.from t b there) [
    | inl (a, h, e) ↦
        let was = sym (r.kind t a b h e) ∙ dir in
        let held = lawful.directories t a h was in
        let all = entries_are t.oid.0 in
        let dirs = directories_are t.oid.0 in
        let sizes = r.sizes t a b h e was in
        let links = r.directories t a b h e was in
        let size : a.size ≡ count (is_entry_in t.oid.0) m = held.0 in
        let nlink : a.nlink ≡ 2 + count (directory_in m t.oid.0) m = held.1 in
        (omega arith, omega arith)
    | inr h ↦
        let is = r.born t b h in
        let none = nothing_of (is_entry_in t.oid.0) (entry_on t.oid.0) (born_no_entry t b h) in
        let no_dir = nothing_of (directory_in m t.oid.0) (directory_on m t.oid.0) (λ k s u at. ap (λ (x : Bool). x && names_directory m (Entry s u)) (born_no_entry t b h k s u at)) in
        let all = entries_are t.oid.0 in
        let dirs = directories_are t.oid.0 in
        let a = here_less (is_entry_in t.oid.0) (λ (u : ℕ × Value). names_directory n u.1) i (at_key n i) in
        let c = here_less (is_entry_in t.oid.0) (λ (u : ℕ × Value). names_directory n u.1) j (at_key n j) in
        let one = none.0 in
        let two = none.1 in
        let three = no_dir.0 in
        let four = no_dir.1 in
        let size = is.size in
        let no_entries = is.no_entries in
        let links = is.links.0 dir in
        (omega arith, omega arith)
  ]

  files : (t : Target) (b : Attr) → HasStat n t b → is_directory b ≡ false → b.nlink ≡ links_to n t
  files t b there file = elim (r.from t b there) [
    | inl (a, h, e) ↦
        let was = sym (r.kind t a b h e) ∙ file in
        let all = links_are t in
        let held = lawful.files t a h was in
        let same = r.file_links t a b h e was in
        omega arith
    | inr h ↦ (r.born t b h).links.1 file ∙ sym (links_once t b h)
  ]

  -- an entry of n stands in a directory, which is in m too where it is an old one
  holder : (k : ℕ) (s : List ℕ) (t : Target) → at_key n k ≡ Some (Entry s t) → (p : Target) × (b : Attr) × HasStat n p b × (is_directory b ≡ true) × (dir_of_key (key_of_rank k) ≡ p.oid.0)
  holder k s t at = elim (one_of k i j) [
    | inl new ↦ (r.placed k s t new at).holder
    | inr (a, b) ↦
        let was = entry_was k s t a b at in
        let (p, c, there, dir, is) = lawful.holder k s t was in
        let (d, e) = r.holder_stays k s t p c a b was there dir is in
        (p, d, r.kept p c d there e, r.kind p c d there e ∙ dir, is)
  ]

  target : (k : ℕ) (s : List ℕ) (t : Target) → at_key n k ≡ Some (Entry s t) → (b : Attr) × HasStat n t b
  target k s t at = elim (one_of k i j) [
    | inl new ↦ (r.placed k s t new at).object
    | inr (a, b) ↦
        let was = entry_was k s t a b at in
        let (c, there) = lawful.target k s t was in
        let (d, e) = r.stays k s t c a b was there in
        (d, r.kept t c d there e)
  ]

  one_id : (t u : Target) (a b : Attr) → HasStat n t a → HasStat n u b → t.oid ≡ u.oid → t ≡ u
  one_id t u a b h g same = elim (r.from t a h) [
    | inl (c, x, e) ↦ elim (r.from u b g) [
      | inl (d, y, f) ↦ lawful.one_id t u c d x y same
      | inr y ↦ absurd ((r.born u b y).unused t c x (ap (λ (o : Oid). o.0) same))
    ]
    | inr x ↦ elim (r.from u b g) [
      | inl (d, y, f) ↦ absurd ((r.born t a x).unused u d y (ap (λ (o : Oid). o.0) (sym same)))
      | inr y ↦ r.one_born t u a b x y
    ]
  ]

  -- ---- what is reached

  reached_stat : (steps : ℕ) (t : Target) → IsReached m steps t → (a : Attr) × HasStat m t a
  reached_stat zero t is = let (a, h, dir) = lawful.root in (a, subst (λ (p : Target). HasStat m p a) (sym is) h)
  reached_stat (suc steps) t (p, is, (k, s, at, dir)) = lawful.target k s t at

  directory_reached : (steps : ℕ) (t : Target) (a b : Attr) → IsReached m steps t → HasStat m t a → is_directory a ≡ true → became t a ≡ Some b → (more : ℕ) × IsReached n more t
  directory_reached zero t a b is h dir e = (zero, is)
  directory_reached (suc steps) t a b (p, is, (k, s, at, in_p)) h dir e = elim (one_of k i j) [
    | inl new ↦ r.moved k s t a b new at h dir e
    | inr (x, y) ↦
        let (q, c, there, dir_q, in_q) = lawful.holder k s t at in
        let (d, there_p) = reached_stat steps p is in
        let same : q ≡ p = lawful.one_id q p c d there there_p (same_oid q.oid p.oid (sym in_q ∙ in_p)) in
        let there_too : HasStat m p c = subst (λ (u : Target). HasStat m u c) same there in
        let (f, goes) = r.holder_stays k s t p c x y at there_too dir_q in_p in
        let (more, rest) = directory_reached steps p c f is there_too dir_q goes in
        (suc more, (p, rest, (k, s, entry_stays k s t x y at, in_p)))
  ]

  -- what an entry of n names, in a directory that is an old one
  named_reached : (t : Target) → 1 ≤ links_to n t → (steps : ℕ) × IsReached n steps t
  named_reached t some =
      let c = some_counted (named t) n some in
      by_value c.key c.value c.there c.passes
    where
      by_value : (k : ℕ) (v : Value) → at_key n k ≡ Some v → names_object t v ≡ true → (steps : ℕ) × IsReached n steps t
      by_value k (Stat a) at e = absurd cc
      by_value k (Byte x) at e = absurd cc
      by_value k (Entry s u) at e =
          let is : u ≡ t = names_it t u s e in
          let at_t : at_key n k ≡ Some (Entry s t) = at ∙ ap (λ (x : Target). Some (Entry s x)) is in
          let (p, b, there, dir, in_p) = holder k s t at_t in
          elim (r.from p b there) [
            | inl (a, h, goes) ↦
                let was = sym (r.kind p a b h goes) ∙ dir in
                let (steps, old) = lawful.reached p a h in
                let (more, rest) = directory_reached steps p a b old h was goes in
                (suc more, (p, rest, (k, s, at_t, in_p)))
            | inr h ↦
                let none = (directories p b there dir).0 in
                let zero_size = (r.born p b h).size in
                let one = one_there (is_entry_in p.oid.0) n k (Entry s t) at_t (eq-eqb (dir_of_key (key_of_rank k)) p.oid.0 in_p) in
                absurd (omega arith)
          ]

  file_named : (t : Target) (a : Attr) → HasStat m t a → is_directory a ≡ false → 1 ≤ links_to m t
  file_named t a h file =
      let (steps, is) = lawful.reached t a h in by_steps steps is
    where
      by_steps : (steps : ℕ) → IsReached m steps t → 1 ≤ links_to m t
      by_steps zero is =
          let (c, g, dir) = lawful.root in
          let same : Some (Stat c) ≡ Some (Stat a) = sym g.1 ∙ ap (λ (u : Target). at_key m (stat_rank u)) (sym is) ∙ h.1 in
          absurd (true_not_false (sym dir ∙ ap is_directory_value same ∙ file))
      by_steps (suc steps) (p, is, (k, s, at, in_p)) = one_there (named t) m k (Entry s t) at (names_itself t s)

  reached : (t : Target) (b : Attr) → HasStat n t b → (steps : ℕ) × IsReached n steps t
  reached t b there = elim (r.from t b there) [
    | inl (a, h, e) ↦ by_kind a h e (is_directory a) refl
    | inr h ↦ let one = links_once t b h in named_reached t (omega arith)
  ]
    where
      by_kind : (a : Attr) → HasStat m t a → became t a ≡ Some b → (d : Bool) → is_directory a ≡ d → (steps : ℕ) × IsReached n steps t
      by_kind a h e true dir = let (steps, is) = lawful.reached t a h in directory_reached steps t a b is h dir e
      by_kind a h e false file =
          let links = lawful.files t a h file in
          let some = file_named t a h file in
          let alive = r.alive t a b h e file (omega arith) in
          let new = files t b there (r.kind t a b h e ∙ file) in
          named_reached t (omega arith)

  pub rewired_lawful : HasObjects n
  rewired_lawful = record {
    root = root;
    root_unnamed = root_unnamed;
    named_once = named_once;
    directories = directories;
    files = files;
    holder = holder;
    target = target;
    one_id = one_id;
    reached = reached;
  }
