-- The pieces of a path, one after the other, and the steps of a walk.
use Rattle.std.proofs.Common.{◌≡◌, ◌≢◌, ◌⊎◌, inl, inr, ℕ, zero, suc, ◌+◌, ◌-◌, ◌<◌, ◌≤◌, Bool, true, false, List, [], ◌∷◌, length, take, drop, refl, sym, ap, ◌∙◌, arith}
use Rattle.std.specs.Prelude.{Option, Some, None, nat_le, nat_lt, nat_eq, slice_index, slice_range, if◌then◌else◌}
use Rattle.std.specs.List.{list_all}
use Rattle.std.specs.Option.{is_none}
use Rattle.std.proofs.Math.Decide.{dec_le, ℕ_discrete}
use Rattle.std.proofs.Math.Nat.{lt_of_not-le}
use Rattle.std.proofs.lemmas.Bool.{and_parts, eq-eqb, le-leb, le-ltb, lt-leb, lt-ltb, ne_eqb}
use Rattle.std.proofs.lemmas.List.{length-drop, get_or-drop, drop-drop, drop_all}
use Rattle.r4_base.specs.Name.{name_fault}
use Rattle.r4_base.specs.Value.{Content}
use Rattle.r4_base.specs.Volume.{is_directory, root_object}
use Rattle.r4_base.specs.declared.items.Attr.{Attr}
use Rattle.r4_base.specs.declared.items.Target.{Target}
use Rattle.r4_base.proofs.Names.{is_none_none}
use Rattle.r4_content.specs.Walk.{At, NoName, NoDirectory, NoEntry, attr_at, before_first, names_in, pieces_of, target_at, walk, walk_from, walk_on, walk_root}
use Rattle.r4_list.specs.OverWalks.{IsStep, pieces_from}

-- ---- the pieces of what is behind a place

pieces_more : (x : ℕ) (xs : List ℕ) (j : ℕ) → pieces_from xs j ≡ pieces_from (x ∷ xs) (suc j)
pieces_more x xs j = elim (dec_le j (length xs)) [
  | yes le ↦
      let a : nat_le j (length xs) ≡ true = le-leb j (length xs) le in
      let b : nat_le (suc j) (suc (length xs)) ≡ true = le-leb (suc j) (suc (length xs)) (omega (arith, le)) in
      rw (a, b) refl
  | no gt ↦
      let a : nat_le j (length xs) ≡ false = lt-leb j (length xs) (lt_of_not-le gt) in
      let b : nat_le (suc j) (suc (length xs)) ≡ false = lt-leb (suc j) (suc (length xs)) (let lt = lt_of_not-le gt in omega (arith, lt)) in
      rw (a, b) refl
]

pieces_dropped : (path : List ℕ) (from j : ℕ) → from ≤ length path → pieces_from (drop from path) j ≡ pieces_from path (from + j)
pieces_dropped path from j within =
    let long = length-drop from path in
    elim (dec_le j (length (drop from path))) [
      | yes le ↦
          let a : nat_le j (length (drop from path)) ≡ true = le-leb j (length (drop from path)) le in
          let b : nat_le (from + j) (length path) ≡ true = le-leb (from + j) (length path) (omega (arith, le, long, within)) in
          rw (a, b) (ap pieces_of (drop-drop j from path))
      | no gt ↦
          let lt = lt_of_not-le gt in
          let a : nat_le j (length (drop from path)) ≡ false = lt-leb j (length (drop from path)) lt in
          let b : nat_le (from + j) (length path) ≡ false = lt-leb (from + j) (length path) (omega (arith, lt, long, within)) in
          rw (a, b) refl
    ]

end_of : (k : ℕ) (xs : List ℕ) → (suc k ≡ suc (length xs)) ⊎ (slice_index xs k ≡ 47) → (k ≡ length xs) ⊎ (slice_index xs k ≡ 47)
end_of k xs (inl e) = inl (omega (arith, e))
end_of k xs (inr e) = inr e

-- the first piece ends at the first slash, or at the end
piece_first : (xs : List ℕ) (k : ℕ) → k ≤ length xs → ((i : ℕ) → i < k → slice_index xs i ≢ 47) → (k ≡ length xs) ⊎ (slice_index xs k ≡ 47) → pieces_of xs ≡ take k xs ∷ pieces_from xs (k + 1)
unfolding pieces_of
piece_first [] zero le none end = refl
piece_first [] (suc k) le none end = absurd (omega (arith, le))
piece_first (x ∷ xs) zero le none (inl last) = absurd (omega (arith, last))
piece_first (x ∷ xs) zero le none (inr slash) =
    let t : nat_eq x 47 ≡ true = eq-eqb x 47 slash in
    let u : nat_le (0 + 1) (suc (length xs)) ≡ true = le-leb 1 (suc (length xs)) (omega arith) in
    rw (t, u) refl
piece_first (x ∷ xs) (suc k) le none end =
    let t : nat_eq x 47 ≡ false = ne_eqb x 47 (none 0 (omega arith)) in
    let ih = piece_first xs k (omega (arith, le)) (λ i lt. none (suc i) (omega (arith, lt))) (end_of k xs end) in
    let e : suc (k + 1) ≡ suc k + 1 = omega arith in
    let rest : pieces_from xs (k + 1) ≡ pieces_from (x ∷ xs) (suc k + 1) = pieces_more x xs (k + 1) ∙ ap (pieces_from (x ∷ xs)) e in
    let first : pieces_of (x ∷ xs) ≡ before_first x (pieces_of xs) = rw t refl in
    first ∙ (ap (before_first x) ih ∙ ap (λ (ps : List (List ℕ)). (x ∷ take k xs) ∷ ps) rest)

pub piece_at : (path : List ℕ) (from end : ℕ) → from ≤ end → end ≤ length path → ((i : ℕ) → from ≤ i → i < end → slice_index path i ≢ 47) → (end ≡ length path) ⊎ (slice_index path end ≡ 47)
    → pieces_of (drop from path) ≡ slice_range path from end ∷ pieces_from path (end + 1)
piece_at path from end order within none last =
    let k = end - from in
    let long = length-drop from path in
    let place : from + k ≡ end = omega (arith, order) in
    let more : from + (k + 1) ≡ end + 1 = omega (arith, order) in
    let ends : (k ≡ length (drop from path)) ⊎ (slice_index (drop from path) k ≡ 47) = elim last [
      | inl e ↦ inl (omega (arith, e, long))
      | inr s ↦ inr (get_or-drop from path k 0 ∙ (ap (slice_index path) place ∙ s))
    ] in
    let first = piece_first (drop from path) k (omega (arith, within, long)) (λ i lt h. none (from + i) (omega arith) (omega (arith, lt)) (sym (get_or-drop from path i 0) ∙ h)) ends in
    first ∙ ap (λ (ps : List (List ℕ)). slice_range path from end ∷ ps) (pieces_dropped path from (k + 1) (omega (arith, order, within)) ∙ ap (pieces_from path) more)

-- ---- the names of a path, and what is left of them

pieces_of_nil : pieces_of [] ≡ [] ∷ []
unfolding pieces_of
pieces_of_nil = refl

by_directory : (m : Content) (s : List ℕ) (names : List (List ℕ)) (o : Target) (a : Attr) → is_directory a ≡ true → walk_from m (s ∷ names) o (Some a) ≡ walk_on (λ q. walk_from m names q (attr_at m q)) (target_at m o.oid.0 s)
unfolding walk_from
by_directory m s names o a dir = rw dir refl

no_attr : (m : Content) (names : List (List ℕ)) (p : Target) → walk_from m names p None ≡ NoEntry
unfolding walk_from
no_attr m names p = refl

pub walk_no_dir : (m : Content) (s : List ℕ) (names : List (List ℕ)) (o : Target) (a : Attr) → is_directory a ≡ false → walk_from m (s ∷ names) o (Some a) ≡ NoDirectory
unfolding walk_from
walk_no_dir m s names o a dir = rw dir refl

pub walk_at : (m : Content) (o : Target) (a : Attr) → walk_from m [] o (Some a) ≡ At o a
unfolding walk_from
walk_at m o a = refl

abbrev pub is_legal : List ℕ → Bool
is_legal s = is_none (name_fault s)

pub pieces_here : (path : List ℕ) (from : ℕ) → from ≤ length path → pieces_from path from ≡ pieces_of (drop from path)
pieces_here path from le = let a : nat_le from (length path) ≡ true = le-leb from (length path) le in rw a refl

pub pieces_done : (path : List ℕ) (from : ℕ) → length path < from → pieces_from path from ≡ []
pieces_done path from lt = let a : nat_le from (length path) ≡ false = lt-leb from (length path) lt in rw a refl

pub names_one : (path : List ℕ) → length path ≡ 1 → names_in path ≡ []
names_one [] e = refl
names_one (x ∷ []) e = refl
names_one (x ∷ (y ∷ xs)) e = absurd (omega (arith, e))

pub names_more : (path : List ℕ) → 2 ≤ length path → names_in path ≡ pieces_from path 1
names_more [] e = absurd (omega (arith, e))
names_more (x ∷ []) e = absurd (omega (arith, e))
names_more (x ∷ (y ∷ xs)) e = sym (pieces_here (x ∷ (y ∷ xs)) 1 e')
  where
    e' : 1 ≤ suc (suc (length xs))
    e' = omega arith

-- the names from a place on
abbrev pub left : (path : List ℕ) → (from : ℕ) → List (List ℕ)
left path from = if nat_lt from (length path) then pieces_of (drop from path) else []

pub left_here : (path : List ℕ) (from : ℕ) → from < length path → left path from ≡ pieces_of (drop from path)
left_here path from lt = let a : nat_lt from (length path) ≡ true = lt-ltb from (length path) lt in rw a refl

pub left_done : (path : List ℕ) (from : ℕ) → length path ≤ from → left path from ≡ []
left_done path from le = let a : nat_lt from (length path) ≡ false = le-ltb from (length path) le in rw a refl

pub names_left : (path : List ℕ) → 1 ≤ length path → names_in path ≡ left path 1
names_left path some = elim (ℕ_discrete (length path) 1) [
  | yes one ↦ names_one path one ∙ sym (left_done path 1 (omega (arith, one)))
  | no other ↦ names_more path (omega (arith, some, other)) ∙ (pieces_here path 1 some ∙ sym (left_here path 1 (omega (arith, some, other))))
]

empty_is_none : list_all is_legal ([] ∷ []) ≡ true → ⊥
unfolding name_fault
empty_is_none h = cc

-- where each piece is a name, no slash ends the path
pub pieces_left : (path : List ℕ) (from : ℕ) → list_all is_legal (pieces_from path from) ≡ true → pieces_from path from ≡ left path from
pieces_left path from legal = elim (dec_le (length path) from) [
  | no lt ↦ pieces_here path from (let l = lt_of_not-le lt in omega (arith, l)) ∙ sym (left_here path from (lt_of_not-le lt))
  | yes le ↦ elim (ℕ_discrete from (length path)) [
    | no other ↦ pieces_done path from (omega (arith, le, other)) ∙ sym (left_done path from le)
    | yes same ↦
        let none : pieces_from path from ≡ [] ∷ [] = pieces_here path from (omega (arith, same)) ∙ (ap pieces_of (drop_all from path (omega (arith, same))) ∙ pieces_of_nil) in
        absurd (empty_is_none (sym (ap (list_all is_legal) none) ∙ legal))
  ]
]

-- ---- what is left of a list of names that are legal

pub legal_first : (s : List ℕ) (names : List (List ℕ)) → list_all is_legal (s ∷ names) ≡ true → (is_legal s ≡ true) × (list_all is_legal names ≡ true)
legal_first s names h = and_parts (is_legal s) (list_all is_legal names) h

pub legal_both : (s : List ℕ) (names : List (List ℕ)) → is_legal s ≡ true → list_all is_legal names ≡ list_all is_legal (s ∷ names)
legal_both s names h = rw h refl

pub legal_not : (s : List ℕ) (names : List (List ℕ)) → is_legal s ≡ false → false ≡ list_all is_legal (s ∷ names)
legal_not s names h = rw h refl

pub no_fault : (s : List ℕ) → is_legal s ≡ true → name_fault s ≡ None
no_fault s h = is_none_none (name_fault s) h

-- ---- steps of a walk

pub walk_no_name : (m : Content) (names : List (List ℕ)) → list_all is_legal names ≡ false → NoName ≡ walk m names
walk_no_name m names h = rw h refl

pub walk_no_root : (m : Content) (names : List (List ℕ)) → list_all is_legal names ≡ true → None ≡ attr_at m root_object → NoDirectory ≡ walk m names
walk_no_root m names h e = by_root (attr_at m root_object) e ∙ sym (whole h)
  where
    by_root : (r : Option Attr) → None ≡ r → NoDirectory ≡ walk_root m names r
    by_root None e = refl
    by_root (Some a) e = absurd cc

    whole : list_all is_legal names ≡ true → walk m names ≡ walk_root m names (attr_at m root_object)
    whole h = rw h refl

pub walk_begun : (m : Content) (names : List (List ℕ)) (a : Attr) → list_all is_legal names ≡ true → Some a ≡ attr_at m root_object → walk m names ≡ walk_from m names root_object (Some a)
walk_begun m names a h e = whole h ∙ ap (walk_root m names) (sym e)
  where
    whole : list_all is_legal names ≡ true → walk m names ≡ walk_root m names (attr_at m root_object)
    whole h = rw h refl

pub walk_step : (m : Content) (s : List ℕ) (names : List (List ℕ)) (o p : Target) (a b : Attr) → is_directory a ≡ true → target_at m o.oid.0 s ≡ Some p → attr_at m p ≡ Some b → walk_from m (s ∷ names) o (Some a) ≡ walk_from m names p (Some b)
walk_step m s names o p a b dir t e = directory ∙ (ap (walk_on (λ q. walk_from m names q (attr_at m q))) t ∙ ap (walk_from m names p) e)
  where
    directory : walk_from m (s ∷ names) o (Some a) ≡ walk_on (λ q. walk_from m names q (attr_at m q)) (target_at m o.oid.0 s)
    directory = by_directory m s names o a dir

pub walk_no_entry : (m : Content) (s : List ℕ) (names : List (List ℕ)) (o : Target) (a : Attr) → is_directory a ≡ true → IsStep m o.oid.0 s None → walk_from m (s ∷ names) o (Some a) ≡ NoEntry
walk_no_entry m s names o a dir (inl none) = by_directory m s names o a dir ∙ ap (walk_on (λ q. walk_from m names q (attr_at m q))) none
walk_no_entry m s names o a dir (inr (p, t, e)) = by_directory m s names o a dir ∙ (ap (walk_on (λ q. walk_from m names q (attr_at m q))) t ∙ (ap (walk_from m names p) e ∙ no_attr m names p))

-- a path has a piece
by_pieces : (ps : List (List ℕ)) (m : Content) (o : Target) (a : Attr) → ps ≢ [] → is_directory a ≡ false → walk_from m ps o (Some a) ≡ NoDirectory
by_pieces [] m o a some dir = absurd (some refl)
by_pieces (s ∷ ps) m o a some dir = walk_no_dir m s ps o a dir

some_piece : (xs : List ℕ) → pieces_of xs ≢ []
unfolding pieces_of
some_piece [] h = cc
some_piece (x ∷ xs) h = by_test (nat_eq x 47) (pieces_of xs) h
  where
    by_test : (t : Bool) (ps : List (List ℕ)) → (if t then [] ∷ ps else before_first x ps) ≡ [] → ⊥
    by_test true ps h = cc
    by_test false [] h = cc
    by_test false (p ∷ ps) h = cc

pub by_first : (xs : List ℕ) (m : Content) (o : Target) (a : Attr) → is_directory a ≡ false → walk_from m (pieces_of xs) o (Some a) ≡ NoDirectory
by_first xs m o a dir = by_pieces (pieces_of xs) m o a (some_piece xs) dir
