-- The rows of transactions and atoms stay well kept.
use Rattle.std.proofs.Common.{◌≡◌, ◌≢◌, ◌⊎◌, ℕ, zero, suc, ◌+◌, ◌-◌, ◌<◌, ◌≤◌, ◌^◌, Bool, true, false, cond, List, [], ◌∷◌, ◌++◌, length, get_or, set, map, Some, refl, sym, ap, ◌∙◌, inl, inr, arith, count_by}
use Rattle.std.proofs.lemmas.Bool.{cases_Bool, cases_eq, eq-eqb, ne_eqb}
use Rattle.std.proofs.lemmas.List.{get_or-set_same, get_or-set_other, length-set, length-append, get_or_append_left, get_or_push, get_or-map, length-map, map-append}
use Rattle.std.proofs.lemmas.List.Sums.{sum_by-set, sum_by_push, sum_by-cons, get_or-le-sum_by}
use Rattle.r4_base.specs.declared.things.ScriptNo.{ScriptNo}
use Rattle.r4_atoms.specs.declared.things.AtomState.{AtomState}
use Rattle.r4_atoms.specs.declared.things.Row.{Row}
use Rattle.r4_atoms.specs.Names.{renamed}
use Rattle.r4_atoms.specs.Owned.{label_of}
use Rattle.r4_atoms.specs.Atoms.{AreKept, ended, is_open_in, joined, joined_rows, new_atom, new_row, no_account, no_row, no_txn, renamed_txn, row_at, script_in, state_at, txn_seen, txns_of, TxnSeen, with_account, with_open_txns, sum_of}
use Rattle.r4_atoms.proofs.ForestLaws.{AreNames-more, AreNames-renamed}
use Rattle.r4_atoms.proofs.AtomLaws.{length-txns, txn_at, txns-push, txns-set, txns-set_unseen}

-- ---- other states, other entries

pub kept_states : (names : List ℕ) (rows : List Row) (states states' : List AtomState) (entries : List (ℕ × ℕ)) (low : ℕ) → AreKept names rows states entries low → length states' ≡ length states
    → ((i : ℕ) → i < length names → (state_at states' i).committed ≡ true → (state_at states' i).sealed ≡ true)
    → ((i : ℕ) → i < length names → (state_at states' i).cleaned ≡ true → (state_at states' i).sealed ≡ true)
    → ((i : ℕ) → i < length names → (state_at states' i).sealed ≡ true → (row_at rows i).open_txns ≡ 0)
    → ((i : ℕ) → i < low → (state_at states' (get_or names i 0)).committed ≡ true)
    → AreKept names rows states' entries low
kept_states names rows states states' entries low kept long sound clean closed settled = record {
  named = kept.named;
  few = kept.few;
  same_rows = kept.same_rows;
  same_states = long ∙ kept.same_states;
  counted = kept.counted;
  sound = sound;
  sound_clean = clean;
  closed = closed;
  begun = kept.begun;
  low_within = kept.low_within;
  settled = settled;
}

pub kept_entries : (names : List ℕ) (rows : List Row) (states : List AtomState) (entries entries' : List (ℕ × ℕ)) (low : ℕ) → AreKept names rows states entries low
    → ((node t : ℕ) → label_of node entries' ≡ Some t → (0 < t) × (t ≤ length names)) → AreKept names rows states entries' low
kept_entries names rows states entries entries' low kept begun = record {
  named = kept.named;
  few = kept.few;
  same_rows = kept.same_rows;
  same_states = kept.same_states;
  counted = kept.counted;
  sound = kept.sound;
  sound_clean = kept.sound_clean;
  closed = kept.closed;
  begun = begun;
  low_within = kept.low_within;
  settled = kept.settled;
}

-- ---- numbers of open transactions

bit : Bool → ℕ
bit b = cond b 1 0

bit-true : bit true ≡ 1
unfolding bit
bit-true = refl

bit-false : bit false ≡ 0
unfolding bit
bit-false = refl

-- 1 for an open transaction of the atom
worth : ℕ → TxnSeen → ℕ
worth a t = cond (is_open_in a t) 1 0

worth_this : (a : ℕ) (t : TxnSeen) → t.atom ≡ a → worth a t ≡ bit t.is_open
unfolding worth bit
worth_this a t e = rw (eq-eqb t.atom a e) (elim (cases_Bool t.is_open) [ inl aye ↦ rw aye refl | inr nay ↦ rw nay refl ])

worth_other : (a : ℕ) (t : TxnSeen) → t.atom ≢ a → worth a t ≡ 0
unfolding worth
worth_other a t apart = rw (ne_eqb t.atom a apart) (elim (cases_Bool t.is_open) [ inl aye ↦ rw aye refl | inr nay ↦ rw nay refl ])

worth_ended : (a : ℕ) (t : TxnSeen) → t.is_open ≡ false → worth a t ≡ 0
unfolding worth
worth_ended a t now = rw now refl

-- how many transactions of an atom are open
pub count : ℕ → List TxnSeen → ℕ
count a ts = count_by (is_open_in a) ts

pub count_is : (a : ℕ) (ts : List TxnSeen) → count a ts ≡ count_by (is_open_in a) ts
unfolding count
count_is a ts = refl

count_nil : (a : ℕ) → count a [] ≡ 0
unfolding count
count_nil a = refl

count_cons : (a : ℕ) (t : TxnSeen) (ts : List TxnSeen) → count a (t ∷ ts) ≡ worth a t + count a ts
unfolding count worth
count_cons a t ts = sum_by-cons (λ x. cond (is_open_in a x) 1 0) t ts

count_push : (a : ℕ) (ts : List TxnSeen) (t : TxnSeen) → count a (ts ++ t ∷ []) ≡ count a ts + worth a t
unfolding count worth
count_push a ts t = sum_by_push (λ x. cond (is_open_in a x) 1 0) ts t

count_set : (a : ℕ) (ts : List TxnSeen) (i : ℕ) (t : TxnSeen) → i < length ts → count a (set ts i t) + worth a (get_or ts i no_txn) ≡ count a ts + worth a t
unfolding count worth
count_set a ts i t within = sum_by-set (λ x. cond (is_open_in a x) 1 0) ts i t no_txn within

counts_worth : (a : ℕ) (ts : List TxnSeen) (i : ℕ) → i < length ts → worth a (get_or ts i no_txn) ≤ count a ts
unfolding count worth
counts_worth a ts i within = get_or-le-sum_by (λ x. cond (is_open_in a x) 1 0) ts i no_txn within

worth_small : (a : ℕ) (t : TxnSeen) → worth a t ≤ 1
unfolding worth
worth_small a t = elim (cases_Bool (is_open_in a t)) [ inl aye ↦ rw aye (omega arith) | inr nay ↦ rw nay (omega arith) ]

pub count_within : (a : ℕ) (ts : List TxnSeen) → count a ts ≤ length ts
count_within a [] = omega (arith, count_nil a)
count_within a (t ∷ ts) = let h = count_within a ts in omega (arith, count_cons a t ts, worth_small a t)

-- an open transaction is counted
pub counts_one : (a : ℕ) (ts : List TxnSeen) (i : ℕ) → i < length ts → (get_or ts i no_txn).atom ≡ a → (get_or ts i no_txn).is_open ≡ true → 0 < count a ts
counts_one a ts i within mine opened =
    let le = counts_worth a ts i within in
    let one = worth_this a (get_or ts i no_txn) mine ∙ ap bit opened ∙ bit-true in
    omega arith

-- one fewer in the atom of a transaction that ends
pub count_ended : (a : ℕ) (ts : List TxnSeen) (i : ℕ) → i < length ts → (get_or ts i no_txn).is_open ≡ true → (t : TxnSeen) → t.is_open ≡ false → (get_or ts i no_txn).atom ≡ a → count a (set ts i t) + 1 ≡ count a ts
count_ended a ts i within was t now mine =
    let e = count_set a ts i t within in
    let none = worth_ended a t now in
    let one = worth_this a (get_or ts i no_txn) mine ∙ ap bit was ∙ bit-true in
    omega arith

-- and as many in each other
pub count_ended_other : (a : ℕ) (ts : List TxnSeen) (i : ℕ) → i < length ts → (t : TxnSeen) → t.is_open ≡ false → (get_or ts i no_txn).atom ≢ a → count a (set ts i t) ≡ count a ts
count_ended_other a ts i within t now other =
    let e = count_set a ts i t within in
    let none = worth_ended a t now in
    let zero = worth_other a (get_or ts i no_txn) other in
    omega arith

-- nothing is counted where no transaction is of the atom
count_none : (a : ℕ) (ts : List TxnSeen) → ((i : ℕ) → i < length ts → (get_or ts i no_txn).atom ≢ a) → count a ts ≡ 0
count_none a [] others = count_nil a
count_none a (t ∷ ts) others =
    let later = count_none a ts (λ i within. others (suc i) (omega arith)) in
    let here = worth_other a t (others 0 (omega arith)) in
    omega (arith, count_cons a t ts, later, here)

-- nor where none of the atom is open
pub count_closed : (a : ℕ) (ts : List TxnSeen) → ((i : ℕ) → i < length ts → (get_or ts i no_txn).atom ≡ a → (get_or ts i no_txn).is_open ≡ true → ⊥) → count a ts ≡ 0
count_closed a [] none = count_nil a
count_closed a (t ∷ ts) none =
    let later = count_closed a ts (λ i within. none (suc i) (omega arith)) in
    let here : worth a t ≡ 0 = elim (cases_eq t.atom a) [
      | inl mine ↦ elim (cases_Bool t.is_open) [ inl aye ↦ absurd (none 0 (omega arith) mine aye) | inr nay ↦ worth_ended a t nay ]
      | inr other ↦ worth_other a t other
    ] in
    omega (arith, count_cons a t ts, later, here)

-- ---- two atoms that become one count together

moved_txn : (kept gone : ℕ) (t : TxnSeen) → t.atom ≡ gone → (renamed_txn kept gone t).atom ≡ kept
moved_txn kept gone t left = rw (eq-eqb t.atom gone left) refl

stays_txn : (kept gone : ℕ) (t : TxnSeen) → t.atom ≢ gone → renamed_txn kept gone t ≡ t
stays_txn kept gone t stays = let same : renamed kept gone t.atom ≡ t.atom = rw (ne_eqb t.atom gone stays) refl in ap (λ (a : ℕ). record { script = t.script; atom = a; is_open = t.is_open }) same

pub count_kept : (kept gone : ℕ) → kept ≢ gone → (ts : List TxnSeen) → count kept (map (renamed_txn kept gone) ts) ≡ count kept ts + count gone ts
count_kept kept gone apart [] = omega (arith, count_nil kept, count_nil gone)
count_kept kept gone apart (t ∷ ts) =
    let later = count_kept kept gone apart ts in
    let e = count_cons kept (renamed_txn kept gone t) (map (renamed_txn kept gone) ts) in
    let k = count_cons kept t ts in
    let g = count_cons gone t ts in
    elim (cases_eq t.atom gone) [
      | inl left ↦
          let now = worth_this kept (renamed_txn kept gone t) (moved_txn kept gone t left) in
          let one = worth_this gone t left in
          let zero = worth_other kept t (λ h. apart (sym h ∙ left)) in
          omega (arith, e, k, g, later, now, one, zero)
      | inr stays ↦
          let now = ap (worth kept) (stays_txn kept gone t stays) in
          let zero = worth_other gone t stays in
          omega (arith, e, k, g, later, now, zero)
    ]

pub count_gone : (kept gone : ℕ) → kept ≢ gone → (ts : List TxnSeen) → count gone (map (renamed_txn kept gone) ts) ≡ 0
count_gone kept gone apart [] = count_nil gone
count_gone kept gone apart (t ∷ ts) =
    let later = count_gone kept gone apart ts in
    let e = count_cons gone (renamed_txn kept gone t) (map (renamed_txn kept gone) ts) in
    elim (cases_eq t.atom gone) [
      | inl left ↦
          let now = worth_other gone (renamed_txn kept gone t) (λ h. apart (sym (moved_txn kept gone t left) ∙ h)) in
          omega (arith, e, later, now)
      | inr stays ↦
          let now = ap (worth gone) (stays_txn kept gone t stays) in
          let zero = worth_other gone t stays in
          omega (arith, e, later, now, zero)
    ]

pub count_other : (kept gone a : ℕ) → a ≢ kept → a ≢ gone → (ts : List TxnSeen) → count a (map (renamed_txn kept gone) ts) ≡ count a ts
count_other kept gone a off away [] = refl
count_other kept gone a off away (t ∷ ts) =
    let later = count_other kept gone a off away ts in
    let e = count_cons a (renamed_txn kept gone t) (map (renamed_txn kept gone) ts) in
    let o = count_cons a t ts in
    elim (cases_eq t.atom gone) [
      | inl left ↦
          let now = worth_other a (renamed_txn kept gone t) (λ h. off (sym h ∙ moved_txn kept gone t left)) in
          let zero = worth_other a t (λ h. away (sym h ∙ left)) in
          omega (arith, e, o, later, now, zero)
      | inr stays ↦
          let now = ap (worth a) (stays_txn kept gone t stays) in
          omega (arith, e, o, later, now)
    ]

-- ---- a transaction ends

pub length-ended : (rows : List Row) (at name : ℕ) → length (ended rows at name) ≡ length rows
length-ended rows at name = length-set (set rows at _) name _ ∙ length-set rows at _

module _ (names : List ℕ) (rows : List Row) (states : List AtomState) (entries : List (ℕ × ℕ)) (low : ℕ) (kept : AreKept names rows states entries low) (at : ℕ) (within : at < length names) (was : (row_at rows at).is_open ≡ true) where
  abbrev name : ℕ
  name = get_or names at 0

  name_within : name < length names
  name_within = let h = kept.named.least at within in omega arith

  -- the atom of an open transaction counts it
  pub some_open : 0 < (row_at rows name).open_txns
  some_open =
      let long = length-txns rows names kept.same_rows in
      let e = txn_at rows names at kept.same_rows within in
      let atom : (get_or (txns_of rows names) at no_txn).atom ≡ name + 1 = ap (λ (t : TxnSeen). t.atom) e in
      let opened : (get_or (txns_of rows names) at no_txn).is_open ≡ true = ap (λ (t : TxnSeen). t.is_open) e ∙ was in
      let some = counts_one (name + 1) (txns_of rows names) at (omega arith) atom opened in
      let c = kept.counted name name_within ∙ sym (count_is (name + 1) (txns_of rows names)) in
      omega arith

  pub txns_ended : txns_of (ended rows at name) names ≡ set (txns_of rows names) at (record { script = (get_or (txns_of rows names) at no_txn).script; atom = (get_or (txns_of rows names) at no_txn).atom; is_open = false })
  txns_ended =
      let first = set rows at (record { script = (row_at rows at).script; is_open = false; open_txns = (row_at rows at).open_txns }) in
      let e = txn_at rows names at kept.same_rows within in
      txns-set_unseen first names name (record { script = (row_at first name).script; is_open = (row_at first name).is_open; open_txns = (row_at first name).open_txns - 1 }) refl refl
      ∙ txns-set rows names at _ kept.same_rows within ∙ rw e refl

  abbrev first : List Row
  first = set rows at (record { script = (row_at rows at).script; is_open = false; open_txns = (row_at rows at).open_txns })

  row_first : (i : ℕ) → (row_at first i).open_txns ≡ (row_at rows i).open_txns
  row_first i = elim (cases_eq i at) [
    | inl here ↦ ap (λ (k : ℕ). (row_at first k).open_txns) here ∙ ap (λ (r : Row). r.open_txns) (get_or-set_same rows at _ no_row (omega (arith, kept.same_rows))) ∙ ap (λ (k : ℕ). (row_at rows k).open_txns) (sym here)
    | inr there ↦ ap (λ (r : Row). r.open_txns) (get_or-set_other rows at i _ no_row there)
  ]

  row_name : (row_at (ended rows at name) name).open_txns ≡ (row_at rows name).open_txns - 1
  row_name =
      let long = length-set rows at (record { script = (row_at rows at).script; is_open = false; open_txns = (row_at rows at).open_txns }) in
      let inside : name < length first = omega (arith, name_within, kept.same_rows) in
      ap (λ (r : Row). r.open_txns) (get_or-set_same first name _ no_row inside) ∙ ap (λ (n : ℕ). n - 1) (row_first name)

  row_other : (i : ℕ) → i ≢ name → (row_at (ended rows at name) i).open_txns ≡ (row_at rows i).open_txns
  row_other i apart = ap (λ (r : Row). r.open_txns) (get_or-set_other first name i _ no_row apart) ∙ row_first i

  pub kept_ended : AreKept names (ended rows at name) states entries low
  kept_ended =
      let ts = txns_of rows names in
      let long = length-txns rows names kept.same_rows in
      let e = txn_at rows names at kept.same_rows within in
      let mine : (get_or ts at no_txn).atom ≡ name + 1 = ap (λ (t : TxnSeen). t.atom) e in
      let opened : (get_or ts at no_txn).is_open ≡ true = ap (λ (t : TxnSeen). t.is_open) e ∙ was in
      let now : TxnSeen = record { script = (get_or ts at no_txn).script; atom = (get_or ts at no_txn).atom; is_open = false } in
      let some = some_open in
      record {
        named = kept.named;
        few = kept.few;
        same_rows = length-ended rows at name ∙ kept.same_rows;
        same_states = kept.same_states;
        counted = λ i inside.
            let was_counted = kept.counted i inside ∙ sym (count_is (i + 1) ts) in
            let open_now : (row_at (ended rows at name) i).open_txns ≡ count (i + 1) (set ts at now) = elim (cases_eq i name) [
              | inl here ↦
                  let less = count_ended (i + 1) ts at (omega arith) opened now refl (mine ∙ ap (λ (k : ℕ). k + 1) (sym here)) in
                  let row = ap (λ (k : ℕ). (row_at (ended rows at name) k).open_txns) here ∙ row_name ∙ ap (λ (k : ℕ). (row_at rows k).open_txns - 1) (sym here) in
                  omega (arith, less, row, was_counted)
              | inr there ↦
                  let same = count_ended_other (i + 1) ts at (omega arith) now refl (λ e. there (let h : name + 1 ≡ i + 1 = sym mine ∙ e in omega arith)) in
                  let row = row_other i there in
                  omega (arith, same, row, was_counted)
            ] in
            open_now ∙ sym (ap (count (i + 1)) txns_ended) ∙ count_is (i + 1) (txns_of (ended rows at name) names);
        sound = kept.sound;
        sound_clean = kept.sound_clean;
        closed = λ i inside sealed. elim (cases_eq i name) [
          | inl here ↦ let zero = kept.closed i inside sealed in let same = ap (λ (k : ℕ). (row_at rows k).open_txns) here in absurd (omega arith)
          | inr there ↦ row_other i there ∙ kept.closed i inside sealed
        ];
        begun = kept.begun;
        low_within = kept.low_within;
        settled = kept.settled;
      }

-- ---- a transaction begins

pub kept_more : (names : List ℕ) (rows : List Row) (states : List AtomState) (entries : List (ℕ × ℕ)) (low : ℕ) (script : ScriptNo) → AreKept names rows states entries low → length names < 4294967295
    → AreKept (names ++ length names ∷ []) (rows ++ new_row script ∷ []) (states ++ new_atom ∷ []) entries low
kept_more names rows states entries low script kept few =
    let ts = txns_of rows names in
    let n = length names in
    let new : TxnSeen = txn_seen (new_row script) n in
    let seen = txns-push rows names (new_row script) n kept.same_rows in
    let long_names = length-append names (n ∷ []) in
    let long_rows = length-append rows (new_row script ∷ []) in
    let long_states = length-append states (new_atom ∷ []) in
    let place : (i : ℕ) → i < length (names ++ n ∷ []) → (i < n) ⊎ (i ≡ n) = λ i within. elim (cases_eq i n) [ inl same ↦ inr same | inr other ↦ inl (omega arith) ] in
    let old_row : (i : ℕ) → i < n → row_at (rows ++ new_row script ∷ []) i ≡ row_at rows i = λ i within. get_or_append_left rows _ no_row i (omega (arith, kept.same_rows)) in
    let old_state : (i : ℕ) → i < n → state_at (states ++ new_atom ∷ []) i ≡ state_at states i = λ i within. get_or_append_left states _ new_atom i (omega (arith, kept.same_states)) in
    let next_state : state_at (states ++ new_atom ∷ []) n ≡ new_atom = get_or_push states new_atom new_atom n kept.same_states in
    record {
      named = AreNames-more names kept.named;
      few = let e : 4294967295 + 1 ≡ 2 ^ 32 = refl in omega arith;
      same_rows = omega (arith, kept.same_rows);
      same_states = omega (arith, kept.same_states);
      counted = λ i within.
          let push = count_push (i + 1) ts new in
          let whole = ap (count (i + 1)) seen in
          let last = count_is (i + 1) (txns_of (rows ++ new_row script ∷ []) (names ++ n ∷ [])) in
          elim (place i within) [
            | inl old ↦
                let row = ap (λ (r : Row). r.open_txns) (old_row i old) in
                let was = kept.counted i old ∙ sym (count_is (i + 1) ts) in
                let zero = worth_other (i + 1) new (λ (e : n + 1 ≡ i + 1). absurd (omega arith)) in
                omega (arith, row, was, zero, push, whole, last)
            | inr next ↦
                let row : (row_at (rows ++ new_row script ∷ []) i).open_txns ≡ 1 = ap (λ (r : Row). r.open_txns) (get_or_push rows (new_row script) no_row i (omega (arith, kept.same_rows))) in
                let long = length-txns rows names kept.same_rows in
                let none = count_none (i + 1) ts (λ k inside e.
                let below : k < n = omega arith in
                let named : get_or names k 0 + 1 ≡ i + 1 = sym (ap (λ (t : TxnSeen). t.atom) (txn_at rows names k kept.same_rows below)) ∙ e in
                let least = kept.named.least k below in
                absurd (omega arith)) in
                let one = worth_this (i + 1) new (ap (λ (k : ℕ). k + 1) (sym next)) ∙ bit-true in
                omega (arith, row, none, one, push, whole, last)
          ];
      sound = λ i within yes_committed. elim (place i within) [
        | inl old ↦ rw (old_state i old) (kept.sound i old (rw (old_state i old) at yes_committed))
        | inr next ↦ let bad : false ≡ true = rw (next, next_state) at yes_committed in absurd (cc)
      ];
      sound_clean = λ i within yes_cleaned. elim (place i within) [
        | inl old ↦ rw (old_state i old) (kept.sound_clean i old (rw (old_state i old) at yes_cleaned))
        | inr next ↦ let bad : false ≡ true = rw (next, next_state) at yes_cleaned in absurd (cc)
      ];
      closed = λ i within sealed. elim (place i within) [
        | inl old ↦ rw (old_row i old) (kept.closed i old (rw (old_state i old) at sealed))
        | inr next ↦ let bad : false ≡ true = rw (next, next_state) at sealed in absurd (cc)
      ];
      begun = λ node t found. let b = kept.begun node t found in (b.0, omega arith);
      low_within = omega (arith, kept.low_within);
      settled = λ i below.
          let inside : i < n = omega (arith, kept.low_within) in
          let least = kept.named.least i inside in
          rw (get_or_append_left names _ 0 i inside, old_state (get_or names i 0) (omega arith)) (kept.settled i below);
    }

-- ---- two atoms become one

txns-renamed : (rows : List Row) (names : List ℕ) (to from : ℕ) → txns_of rows (map (renamed to from) names) ≡ map (renamed_txn (to + 1) (from + 1)) (txns_of rows names)
txns-renamed [] names to from = refl
txns-renamed (r ∷ rows) [] to from = refl
txns-renamed (r ∷ rows) (n ∷ names) to from =
    let same : renamed to from n + 1 ≡ renamed (to + 1) (from + 1) (n + 1) = elim (cases_eq n from) [
      | inl hit ↦ rw (eq-eqb n from hit, eq-eqb (n + 1) (from + 1) (ap (λ (k : ℕ). k + 1) hit)) refl
      | inr miss ↦ rw (ne_eqb n from miss, ne_eqb (n + 1) (from + 1) (λ e. miss (omega arith))) refl
    ] in
    ap (λ (a : ℕ). record { script = r.script.0; atom = a; is_open = r.is_open } ∷ txns_of rows (map (renamed to from) names)) same
    ∙ ap (λ (ts : List TxnSeen). renamed_txn (to + 1) (from + 1) (txn_seen r n) ∷ ts) (txns-renamed rows names to from)

module _ (names : List ℕ) (rows : List Row) (states : List AtomState) (entries : List (ℕ × ℕ)) (low : ℕ) (kept : AreKept names rows states entries low) (to from : ℕ) (less : to < from) (within : from < length names)
    (own_to : get_or names to 0 ≡ to) (own_from : get_or names from 0 ≡ from) (open_to : (state_at states to).sealed ≡ false) (open_from : (state_at states from).sealed ≡ false) where
  to_within : to < length names
  to_within = omega arith

  apart : to ≢ from
  apart e = absurd (omega arith)

  pub txns_joined : txns_of (joined_rows rows to from) (map (renamed to from) names) ≡ map (renamed_txn (to + 1) (from + 1)) (txns_of rows names)
  txns_joined =
      let first = set rows from (with_open_txns (row_at rows from) 0) in
      let there : row_at first to ≡ row_at rows to = get_or-set_other rows from to _ no_row apart in
      txns-set_unseen first (map (renamed to from) names) to (with_open_txns (row_at rows to) ((row_at rows to).open_txns + (row_at rows from).open_txns)) (ap (λ (r : Row). r.script) (sym there)) (ap (λ (r : Row). r.is_open) (sym there))
      ∙ txns-set_unseen rows (map (renamed to from) names) from (with_open_txns (row_at rows from) 0) refl refl
      ∙ txns-renamed rows names to from

  -- the two together have no more open transactions than there are
  pub sum_fits : (row_at rows to).open_txns + (row_at rows from).open_txns < 2 ^ 32
  sum_fits =
      let ts = txns_of rows names in
      let a = kept.counted to to_within ∙ sym (count_is (to + 1) ts) in
      let b = kept.counted from within ∙ sym (count_is (from + 1) ts) in
      let both = count_kept (to + 1) (from + 1) (λ e. apart (omega arith)) ts in
      let most = count_within (to + 1) (map (renamed_txn (to + 1) (from + 1)) ts) in
      let long = length-map ts (renamed_txn (to + 1) (from + 1)) in
      let all = length-txns rows names kept.same_rows in
      let few = kept.few in
      omega arith

  row_to : (row_at (joined_rows rows to from) to).open_txns ≡ (row_at rows to).open_txns + (row_at rows from).open_txns
  row_to =
      let first = set rows from (with_open_txns (row_at rows from) 0) in
      let long = length-set rows from (with_open_txns (row_at rows from) 0) in
      ap (λ (r : Row). r.open_txns) (get_or-set_same first to _ no_row (omega (arith, kept.same_rows, to_within)))

  row_from : (row_at (joined_rows rows to from) from).open_txns ≡ 0
  row_from =
      let first = set rows from (with_open_txns (row_at rows from) 0) in
      ap (λ (r : Row). r.open_txns) (get_or-set_other first to from _ no_row (λ e. apart (sym e)) ∙ get_or-set_same rows from _ no_row (omega (arith, kept.same_rows)))

  row_apart : (i : ℕ) → i ≢ to → i ≢ from → row_at (joined_rows rows to from) i ≡ row_at rows i
  row_apart i a b = get_or-set_other (set rows from (with_open_txns (row_at rows from) 0)) to i _ no_row a ∙ get_or-set_other rows from i _ no_row b

  -- all but the accounts stays
  same_flags : (i : ℕ) → ((state_at (joined states to from) i).sealed ≡ (state_at states i).sealed) × ((state_at (joined states to from) i).committed ≡ (state_at states i).committed) × ((state_at (joined states to from) i).cleaned ≡ (state_at states i).cleaned)
  same_flags i =
      let first = set states from (with_account (state_at states from) no_account) in
      let long = length-set states from (with_account (state_at states from) no_account) in
      elim (cases_eq i to) [
        | inl here ↦
            let e = get_or-set_same first to (with_account (state_at states to) (sum_of (state_at states to).account (state_at states from).account)) new_atom (omega (arith, kept.same_states, to_within)) in
            rw (here, e) (refl, refl, refl)
        | inr there ↦ elim (cases_eq i from) [
          | inl at_from ↦
              let e = get_or-set_other first to from (with_account (state_at states to) (sum_of (state_at states to).account (state_at states from).account)) new_atom (λ h. apart (sym h)) ∙ get_or-set_same states from (with_account (state_at states from) no_account) new_atom (omega (arith, kept.same_states)) in
              rw (at_from, e) (refl, refl, refl)
          | inr off ↦
              let e = get_or-set_other first to i (with_account (state_at states to) (sum_of (state_at states to).account (state_at states from).account)) new_atom there ∙ get_or-set_other states from i (with_account (state_at states from) no_account) new_atom off in
              rw e (refl, refl, refl)
        ]
      ]

  pub cleaned_joined : (i : ℕ) → (state_at (joined states to from) i).cleaned ≡ (state_at states i).cleaned
  cleaned_joined i = (same_flags i).2

  pub length-joined_rows : length (joined_rows rows to from) ≡ length rows
  length-joined_rows = length-set (set rows from _) to _ ∙ length-set rows from _

  pub length-joined : length (joined states to from) ≡ length states
  length-joined = length-set (set states from _) to _ ∙ length-set states from _

  pub kept_joined : AreKept (map (renamed to from) names) (joined_rows rows to from) (joined states to from) entries low
  kept_joined =
      let ts = txns_of rows names in
      let long = length-map names (renamed to from) in
      record {
        named = AreNames-renamed names to from kept.named less own_to to_within;
        few = let few = kept.few in omega arith;
        same_rows = length-joined_rows ∙ kept.same_rows ∙ sym long;
        same_states = length-joined ∙ kept.same_states ∙ sym long;
        counted = λ i inside.
            let old : i < length names = omega arith in
            let was = kept.counted i old ∙ sym (count_is (i + 1) ts) in
            let a = kept.counted to to_within ∙ sym (count_is (to + 1) ts) in
            let b = kept.counted from within ∙ sym (count_is (from + 1) ts) in
            let two : to + 1 ≢ from + 1 = λ e. apart (omega arith) in
            let now : (row_at (joined_rows rows to from) i).open_txns ≡ count (i + 1) (map (renamed_txn (to + 1) (from + 1)) ts) = elim (cases_eq i to) [
              | inl here ↦
                  let both = count_kept (to + 1) (from + 1) two ts in
                  ap (λ (k : ℕ). (row_at (joined_rows rows to from) k).open_txns) here ∙ row_to ∙ (let sum : (row_at rows to).open_txns + (row_at rows from).open_txns ≡ count (to + 1) (map (renamed_txn (to + 1) (from + 1)) ts) = omega (arith, a, b, both) in sum)
                  ∙ ap (λ (k : ℕ). count (k + 1) (map (renamed_txn (to + 1) (from + 1)) ts)) (sym here)
              | inr there ↦ elim (cases_eq i from) [
                | inl at_from ↦ ap (λ (k : ℕ). (row_at (joined_rows rows to from) k).open_txns) at_from ∙ row_from ∙ sym (count_gone (to + 1) (from + 1) two ts) ∙ ap (λ (k : ℕ). count (k + 1) (map (renamed_txn (to + 1) (from + 1)) ts)) (sym at_from)
                | inr off ↦ ap (λ (r : Row). r.open_txns) (row_apart i there off) ∙ was ∙ sym (count_other (to + 1) (from + 1) (i + 1) (λ e. there (omega arith)) (λ e. off (omega arith)) ts)
              ]
            ] in
            now ∙ sym (ap (count (i + 1)) txns_joined) ∙ count_is (i + 1) (txns_of (joined_rows rows to from) (map (renamed to from) names));
        sound = λ i inside was. (same_flags i).0 ∙ kept.sound i (omega arith) (sym (same_flags i).1 ∙ was);
        sound_clean = λ i inside was. (same_flags i).0 ∙ kept.sound_clean i (omega arith) (sym (same_flags i).2 ∙ was);
        closed = λ i inside sealed.
            let was : (state_at states i).sealed ≡ true = sym (same_flags i).0 ∙ sealed in
            let off_to : i ≢ to = λ e. absurd (let h = ap (λ (k : ℕ). (state_at states k).sealed) e in cc) in
            let off_from : i ≢ from = λ e. absurd (let h = ap (λ (k : ℕ). (state_at states k).sealed) e in cc) in
            ap (λ (r : Row). r.open_txns) (row_apart i off_to off_from) ∙ kept.closed i (omega arith) was;
        begun = λ node t found. let b = kept.begun node t found in (b.0, omega arith);
        low_within = omega (arith, kept.low_within);
        settled = λ i below.
            let inside : i < length names = omega (arith, kept.low_within) in
            let done = kept.settled i below in
            let least = kept.named.least i inside in
            let sealed = kept.sound (get_or names i 0) (omega arith) done in
            let stays : get_or names i 0 ≢ from = λ e. absurd (let h = ap (λ (k : ℕ). (state_at states k).sealed) e in cc) in
            let name : get_or (map (renamed to from) names) i 0 ≡ get_or names i 0 = get_or-map (renamed to from) names i 0 0 inside ∙ rw (ne_eqb (get_or names i 0) from stays) refl in
            ap (λ (k : ℕ). (state_at (joined states to from) k).committed) name ∙ (same_flags (get_or names i 0)).1 ∙ done;
      }

-- ---- an atom is sealed

-- no transaction of an atom is open where none is counted
pub none_open : (names : List ℕ) (rows : List Row) (states : List AtomState) (entries : List (ℕ × ℕ)) (low : ℕ) → AreKept names rows states entries low → (at : ℕ) → at < length names → (row_at rows at).open_txns ≡ 0
    → (i : ℕ) → i < length names → (get_or (txns_of rows names) i no_txn).atom ≡ at + 1 → (get_or (txns_of rows names) i no_txn).is_open ≡ true → ⊥
none_open names rows states entries low kept at within nothing i inside mine opened =
    let long = length-txns rows names kept.same_rows in
    let some = counts_one (at + 1) (txns_of rows names) i (omega arith) mine opened in
    let was = kept.counted at within ∙ sym (count_is (at + 1) (txns_of rows names)) in
    absurd (omega arith)

pub kept_sealed : (names : List ℕ) (rows : List Row) (states : List AtomState) (entries : List (ℕ × ℕ)) (low : ℕ) → AreKept names rows states entries low → (at : ℕ) → at < length names
    → ((i : ℕ) → i < length names → (get_or (txns_of rows names) i no_txn).atom ≡ at + 1 → (get_or (txns_of rows names) i no_txn).is_open ≡ true → ⊥) → (st : AtomState) → st.sealed ≡ true → st.committed ≡ (state_at states at).committed
    → AreKept names rows (set states at st) entries low
kept_sealed names rows states entries low kept at within none st sealed committed =
    let ts = txns_of rows names in
    let long = length-txns rows names kept.same_rows in
    let inside : at < length states = omega (arith, kept.same_states) in
    let here = get_or-set_same states at st new_atom inside in
    let there : (i : ℕ) → i ≢ at → state_at (set states at st) i ≡ state_at states i = λ i off. get_or-set_other states at i st new_atom off in
    kept_states names rows states (set states at st) entries low kept (length-set states at st)
    (λ i below was. elim (cases_eq i at) [
      | inl same ↦ ap (λ (k : ℕ). (state_at (set states at st) k).sealed) same ∙ ap (λ (x : AtomState). x.sealed) here ∙ sealed
      | inr off ↦ rw (there i off) (kept.sound i below (rw (there i off) at was))
    ])
    (λ i below was. elim (cases_eq i at) [
      | inl same ↦ ap (λ (k : ℕ). (state_at (set states at st) k).sealed) same ∙ ap (λ (x : AtomState). x.sealed) here ∙ sealed
      | inr off ↦ rw (there i off) (kept.sound_clean i below (rw (there i off) at was))
    ])
    (λ i below was. elim (cases_eq i at) [
      | inl same ↦
          let zero = count_closed (at + 1) ts (λ j in_ts mine opened. none j (omega arith) mine opened) in
          ap (λ (k : ℕ). (row_at rows k).open_txns) same ∙ kept.counted at within ∙ sym (count_is (at + 1) ts) ∙ zero
      | inr off ↦ kept.closed i below (rw (there i off) at was)
    ])
    (λ i below. elim (cases_eq (get_or names i 0) at) [
      | inl same ↦ ap (λ (k : ℕ). (state_at (set states at st) k).committed) same ∙ ap (λ (x : AtomState). x.committed) here ∙ committed ∙ ap (λ (k : ℕ). (state_at states k).committed) (sym same) ∙ kept.settled i below
      | inr off ↦ rw (there (get_or names i 0) off) (kept.settled i below)
    ])

-- ---- the scripts of the rows

scripts-set : (rows : List Row) (i : ℕ) (row : Row) → row.script ≡ (row_at rows i).script → map script_in (set rows i row) ≡ map script_in rows
scripts-set [] i row e = refl
scripts-set (r ∷ rows) zero row e = rw e refl
scripts-set (r ∷ rows) (suc i) row e = ap (λ (ts : List ℕ). r.script.0 ∷ ts) (scripts-set rows i row e)

pub scripts_ended : (rows : List Row) (at name : ℕ) → map script_in (ended rows at name) ≡ map script_in rows
scripts_ended rows at name =
    let first = set rows at (record { script = (row_at rows at).script; is_open = false; open_txns = (row_at rows at).open_txns }) in
    scripts-set first name (record { script = (row_at first name).script; is_open = (row_at first name).is_open; open_txns = (row_at first name).open_txns - 1 }) refl ∙ scripts-set rows at _ refl

pub scripts_joined : (rows : List Row) (to from : ℕ) → to ≢ from → map script_in (joined_rows rows to from) ≡ map script_in rows
scripts_joined rows to from apart =
    let first = set rows from (with_open_txns (row_at rows from) 0) in
    let there : row_at first to ≡ row_at rows to = get_or-set_other rows from to _ no_row apart in
    scripts-set first to (with_open_txns (row_at rows to) ((row_at rows to).open_txns + (row_at rows from).open_txns)) (ap (λ (r : Row). r.script) (sym there)) ∙ scripts-set rows from _ refl

pub scripts_push : (rows : List Row) (script : ScriptNo) → map script_in (rows ++ new_row script ∷ []) ≡ map script_in rows ++ script.0 ∷ []
scripts_push rows script = map-append script_in rows (new_row script ∷ [])
