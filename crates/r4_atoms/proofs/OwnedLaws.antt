-- Labels of nodes after a change of one list of entries or another.
use Rattle.std.proofs.Common.{◌≡◌, ◌≢◌, ◌⊎◌, ℕ, suc, ◌+◌, ◌<◌, ◌≤◌, true, false, eqb, not, cond, List, [], ◌∷◌, ◌++◌, length, get_or, drop, drop-cons, append-nil, append_assoc, filter, Option, Some, None, Result, IsOk, Ok, Err, IfOk, OnOk, is_some, refl, sym, ap, ◌∙◌, inl, inr, arith}
use Rattle.std.proofs.lemmas.Bool.{cases_Bool, cases_eq, eqb-true, eq-eqb, ne_eqb}
use Rattle.std.proofs.lemmas.List.{map-append}
use Rattle.r4_atoms.specs.declared.owners.Label.{Label}
use Rattle.r4_atoms.specs.Owned.{is_of, label_of, pair_of, pairs_of}

pub label-append_some : (n x : ℕ) (front back : List (ℕ × ℕ)) → label_of n front ≡ Some x → label_of n (front ++ back) ≡ Some x
label-append_some n x [] back found = absurd (cc)
label-append_some n x (e ∷ front) back found = elim (cases_Bool (eqb n e.0)) [
  | inl hit ↦ rw hit (rw hit at found)
  | inr miss ↦ rw miss (label-append_some n x front back (rw miss at found))
]

pub label-append_none : (n : ℕ) (front back : List (ℕ × ℕ)) → label_of n front ≡ None → label_of n (front ++ back) ≡ label_of n back
label-append_none n [] back none = refl
label-append_none n (e ∷ front) back none = elim (cases_Bool (eqb n e.0)) [
  | inl hit ↦ let bad : Some e.1 ≡ None = rw hit at none in absurd (cc)
  | inr miss ↦ rw miss (label-append_none n front back (rw miss at none))
]

-- two pairs of lists with the same labels in front, and behind
pub label-append_same : (n : ℕ) (front front' back back' : List (ℕ × ℕ)) → label_of n front ≡ label_of n front' → label_of n back ≡ label_of n back' → label_of n (front ++ back) ≡ label_of n (front' ++ back')
label-append_same n front front' back back' one two = elim (some_or_none (label_of n front)) [
  | inl none ↦ label-append_none n front back none ∙ two ∙ sym (label-append_none n front' back' (sym one ∙ none))
  | inr some ↦ label-append_some n some.0 front back some.1 ∙ sym (label-append_some n some.0 front' back' (sym one ∙ some.1))
]
  where
    some_or_none : (o : Option ℕ) → (o ≡ None) ⊎ ((x : ℕ) × (o ≡ Some x))
    some_or_none None = inl refl
    some_or_none (Some x) = inr (x, refl)

pub label_forgotten : (n : ℕ) (row : List Label) → label_of n (pairs_of (filter (λ l. not (is_of n l)) row)) ≡ None
label_forgotten n [] = refl
label_forgotten n (l ∷ row) = elim (cases_Bool (is_of n l)) [
  | inl hit ↦ rw hit (label_forgotten n row)
  | inr miss ↦
      let other : eqb n l.node ≡ false = ne_eqb n l.node (λ e. absurd (let h = eq-eqb l.node n (sym e) in cc)) in
      rw (miss, other) (label_forgotten n row)
]

pub label_not_forgotten : (n m : ℕ) (row : List Label) → n ≢ m → label_of n (pairs_of (filter (λ l. not (is_of m l)) row)) ≡ label_of n (pairs_of row)
label_not_forgotten n m [] apart = refl
label_not_forgotten n m (l ∷ row) apart = elim (cases_Bool (is_of m l)) [
  | inl hit ↦
      let same = eqb-true l.node m hit in
      let other : eqb n l.node ≡ false = ne_eqb n l.node (λ e. apart (e ∙ same)) in
      rw (hit, other) (label_not_forgotten n m row apart)
  | inr miss ↦ rw miss (elim (cases_Bool (eqb n l.node)) [
    | inl here ↦ rw here refl
    | inr there ↦ rw there (label_not_forgotten n m row apart)
  ])
]

pub length-forgotten : (m : ℕ) (row : List Label) → length (filter (λ l. not (is_of m l)) row) ≤ length row
length-forgotten m [] = omega arith
length-forgotten m (l ∷ row) = let h = length-forgotten m row in elim (cases_Bool (is_of m l)) [
  | inl hit ↦ rw hit (omega arith)
  | inr miss ↦ rw miss (omega arith)
]

-- a node that has a label in the row leaves a place
pub length-forgotten_some : (m x : ℕ) (row : List Label) → label_of m (pairs_of row) ≡ Some x → length (filter (λ l. not (is_of m l)) row) < length row
length-forgotten_some m x [] found = absurd (cc)
length-forgotten_some m x (l ∷ row) found = elim (cases_Bool (is_of m l)) [
  | inl hit ↦ let h = length-forgotten m row in rw hit (omega arith)
  | inr miss ↦
      let other : eqb m l.node ≡ false = ne_eqb m l.node (λ e. absurd (let h = eq-eqb l.node m (sym e) in cc)) in
      let h = length-forgotten_some m x row (rw other at found) in
      rw miss (omega arith)
]

-- ---- what the two parts together say

-- a node has this label in the table, or none there, and its others are gone from the row
pub labels_changed : (node : ℕ) (label : Option ℕ) (t t' : List (ℕ × ℕ)) (row : List Label) → ((q : ℕ) → label_of q t' ≡ cond (eqb node q) label (label_of q t)) → (n : ℕ)
    → label_of n (t' ++ pairs_of (filter (λ l. not (is_of node l)) row)) ≡ cond (eqb node n) label (label_of n (t ++ pairs_of row))
labels_changed node label t t' row set n = elim (cases_eq node n) [
  | inl same ↦
      let hit = eq-eqb node n same in
      let there : label_of n t' ≡ label = rw hit at (set n) in
      let gone : label_of n (pairs_of (filter (λ l. not (is_of node l)) row)) ≡ None = rw (ap (λ (m : ℕ). label_of n (pairs_of (filter (λ l. not (is_of m l)) row))) same) (label_forgotten n row) in
      rw hit (front n label t' (pairs_of (filter (λ l. not (is_of node l)) row)) there gone)
  | inr apart ↦
      let miss = ne_eqb node n apart in
      let there : label_of n t' ≡ label_of n t = rw miss at (set n) in
      rw miss (label-append_same n t' t (pairs_of (filter (λ l. not (is_of node l)) row)) (pairs_of row) there (label_not_forgotten n node row (λ e. apart (sym e))))
]
  where
    front : (n : ℕ) (label : Option ℕ) (a b : List (ℕ × ℕ)) → label_of n a ≡ label → label_of n b ≡ None → label_of n (a ++ b) ≡ label
    front n None a b none gone = label-append_none n a b none ∙ gone
    front n (Some x) a b some gone = label-append_some n x a b some

-- a node without a label gets one at the end
pub labels_added : (node label : ℕ) (entries : List (ℕ × ℕ)) → label_of node entries ≡ None → (n : ℕ) → label_of n (entries ++ (node, label) ∷ []) ≡ cond (eqb node n) (Some label) (label_of n entries)
labels_added node label [] none n = elim (cases_eq node n) [
  | inl same ↦ rw (eq-eqb node n same, eq-eqb n node (sym same)) refl
  | inr apart ↦ rw (ne_eqb node n apart, ne_eqb n node (λ e. apart (sym e))) refl
]
labels_added node label (e ∷ entries) none n = elim (cases_Bool (eqb n e.0)) [
  | inl hit ↦
      let other : eqb node n ≡ false = ne_eqb node n (λ same. absurd (let here : eqb node e.0 ≡ true = eq-eqb node e.0 (same ∙ eqb-true n e.0 hit) in let bad : Some e.1 ≡ None = rw here at none in cc)) in
      rw (hit, other) refl
  | inr miss ↦
      let left : label_of node entries ≡ None = elim (cases_Bool (eqb node e.0)) [
        | inl here ↦ let bad : Some e.1 ≡ None = rw here at none in absurd (cc)
        | inr there ↦ rw there at none
      ] in
      rw miss (labels_added node label entries left n)
]

pub pairs-append : (row : List Label) (one : Label) → pairs_of (row ++ one ∷ []) ≡ pairs_of row ++ (one.node, one.label) ∷ []
pairs-append row one = map-append pair_of row (one ∷ [])

pub on_ok_at : {T E P : Type 0} (r : Result T E) → IsOk r → OnOk r P → P
on_ok_at (Ok x) is p = p
on_ok_at (Err e) is p = absurd (cc)

-- the steps of `rename`: first `from` and then `to` loses its label, and `to` gets that of `from`
pub labels_renamed : (from to label n : ℕ) (l0 l1 l2 l3 : Option ℕ) → from ≢ to → l1 ≡ cond (eqb from n) None l0 → l2 ≡ cond (eqb to n) None l1 → l3 ≡ cond (eqb to n) (Some label) l2
    → l3 ≡ cond (eqb to n) (Some label) (cond (eqb from n) None l0)
labels_renamed from to label n l0 l1 l2 l3 apart a b c = elim (cases_Bool (eqb to n)) [
  | inl hit ↦ rw hit (rw hit at c)
  | inr miss ↦
      let one : l3 ≡ l2 = rw miss at c in
      let two : l2 ≡ l1 = rw miss at b in
      rw miss (one ∙ two ∙ a)
]

-- a node that is taken out leaves a place
pub places_left : (from label left : ℕ) (t : List (ℕ × ℕ)) (row : List Label) → label_of from (t ++ pairs_of row) ≡ Some label → left + cond (is_some (label_of from t)) 1 0 ≡ length t
    → left + length (filter (λ l. not (is_of from l)) row) < length t + length row
places_left from label left t row found count = by_table (label_of from t) refl
  where
    by_table : (o : Option ℕ) → label_of from t ≡ o → left + length (filter (λ l. not (is_of from l)) row) < length t + length row
    by_table None none =
        let there : label_of from (pairs_of row) ≡ Some label = sym (label-append_none from t (pairs_of row) none) ∙ found in
        let less = length-forgotten_some from label row there in
        let same : left + 0 ≡ length t = rw none at count in
        omega arith
    by_table (Some x) some =
        let less = length-forgotten from row in
        let same : left + 1 ≡ length t = rw some at count in
        omega arith

pub grown : {E : Type 0} (r : Result (Option ℕ) E) (m n : ℕ) → IfOk r (λ old. m ≡ n + cond (is_some old) 0 1) → IsOk r → m ≤ n + 1
grown (Ok None) m n e is = omega arith
grown (Ok (Some x)) m n e is = omega arith
grown (Err x) m n e is = absurd (cc)

-- a node has this label in the table, whatever stands behind
pub labels_put : (node label : ℕ) (t t' back : List (ℕ × ℕ)) → ((q : ℕ) → label_of q t' ≡ cond (eqb node q) (Some label) (label_of q t)) → (n : ℕ)
    → label_of n (t' ++ back) ≡ cond (eqb node n) (Some label) (label_of n (t ++ back))
labels_put node label t t' back put n = elim (cases_Bool (eqb node n)) [
  | inl hit ↦
      let there : label_of n t' ≡ Some label = rw hit at (put n) in
      rw hit (label-append_some n label t' back there)
  | inr miss ↦
      let there : label_of n t' ≡ label_of n t = rw miss at (put n) in
      rw miss (label-append_same n t' t back back there refl)
]

-- ---- what has moved is put into the table

-- a node that has a label keeps it, whatever comes behind
pub labels_shadowed : (node label : ℕ) (t : List (ℕ × ℕ)) → is_some (label_of node t) ≡ true → (n : ℕ) → label_of n (t ++ (node, label) ∷ []) ≡ label_of n t
labels_shadowed node label t has n = by_label (label_of n t) refl
  where
    by_label : (o : Option ℕ) → label_of n t ≡ o → label_of n (t ++ (node, label) ∷ []) ≡ label_of n t
    by_label (Some x) found = label-append_some n x t ((node, label) ∷ []) found ∙ sym found
    by_label None none =
        let miss : eqb n node ≡ false = ne_eqb n node (λ e. absurd (let h : is_some (label_of n t) ≡ true = ap (λ (m : ℕ). is_some (label_of m t)) e ∙ has in let bad : false ≡ true = rw none at h in cc)) in
        label-append_none n t ((node, label) ∷ []) none ∙ rw miss (sym none)

pub none_by_test : (o : Option ℕ) → is_some o ≡ false → o ≡ None
none_by_test None e = refl
none_by_test (Some x) e = absurd (cc)

-- the next one of a row has gone into the table
pub put_next : (t t' : List (ℕ × ℕ)) (row : List Label) (k : ℕ) (d : Label) → k < length row → ((n : ℕ) → label_of n t' ≡ label_of n (t ++ pair_of (get_or row k d) ∷ [])) → (n : ℕ)
    → label_of n (t' ++ pairs_of (drop (k + 1) row)) ≡ label_of n (t ++ pairs_of (drop k row))
put_next t t' row k d within put n =
    let one : Label = get_or row k d in
    let suc_is : suc k ≡ k + 1 = omega arith in
    let cut : drop k row ≡ one ∷ drop (k + 1) row = drop-cons row k d within ∙ ap (λ (j : ℕ). one ∷ drop j row) suc_is in
    let back : List (ℕ × ℕ) = pairs_of (drop (k + 1) row) in
    label-append_same n t' (t ++ pair_of one ∷ []) back back (put n) refl ∙ ap (label_of n) (append_assoc t (pair_of one ∷ []) back) ∙ ap (λ (r : List Label). label_of n (t ++ pairs_of r)) (sym cut)

-- all of a row has gone into the table
pub put_last : (t t' : List (ℕ × ℕ)) (row : List Label) → ((n : ℕ) → label_of n t' ≡ label_of n (t ++ pairs_of row)) → (n : ℕ) → label_of n (t' ++ []) ≡ label_of n (t ++ pairs_of row)
put_last t t' row put n = ap (label_of n) (append-nil t') ∙ put n
