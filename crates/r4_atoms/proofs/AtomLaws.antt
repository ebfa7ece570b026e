-- What one sees of transactions and atoms, from the rows that keep them.
use Rattle.std.proofs.Common.{◌≡◌, ◌≢◌, ℕ, zero, suc, ◌+◌, ◌-◌, ◌<◌, ◌≤◌, Bool, true, false, cond, List, [], ◌∷◌, ◌++◌, length, get_or, set, map, Option, Some, None, refl, sym, ap, ◌∙◌, inl, inr, arith}
use Rattle.std.proofs.lemmas.Bool.{cases_Bool, cases_eq, eq-eqb, ne_eqb}
use Rattle.std.proofs.lemmas.List.{get_or-set_same, get_or-set_other, get_or_append_left, get_or-map, length-map}
use Rattle.r4_atoms.specs.declared.things.AtomState.{AtomState}
use Rattle.r4_atoms.specs.declared.things.Row.{Row}
use Rattle.r4_atoms.specs.Names.{AreNames, renamed}
use Rattle.r4_atoms.specs.Owned.{label_of}
use Rattle.r4_atoms.specs.Scripts.{IsLatest}
use Rattle.r4_atoms.specs.Atoms.{AreKept, atom_of, AtomsSeen, IsClosedAtom, is_committed, is_sealed, open_count, IsAtom, IsBegun, new_atom, no_row, no_txn, owner_by, owner_of, row_at, script_in, state_at, state_of, txn_of, txn_seen, txns_of, TxnSeen, without_owner}
use Rattle.std.specs.Option.{option_map}

pub length-txns : (rows : List Row) (names : List ℕ) → length rows ≡ length names → length (txns_of rows names) ≡ length names
length-txns [] [] e = refl
length-txns [] (n ∷ names) e = absurd (omega arith)
length-txns (r ∷ rows) [] e = absurd (omega arith)
length-txns (r ∷ rows) (n ∷ names) e = ap suc (length-txns rows names (omega arith))

pub txn_at : (rows : List Row) (names : List ℕ) (i : ℕ) → length rows ≡ length names → i < length names → get_or (txns_of rows names) i no_txn ≡ txn_seen (row_at rows i) (get_or names i 0)
txn_at [] [] i e within = absurd (omega arith)
txn_at [] (n ∷ names) i e within = absurd (omega arith)
txn_at (r ∷ rows) [] i e within = absurd (omega arith)
txn_at (r ∷ rows) (n ∷ names) zero e within = refl
txn_at (r ∷ rows) (n ∷ names) (suc i) e within = txn_at rows names i (omega arith) (omega arith)

pub txns-push : (rows : List Row) (names : List ℕ) (row : Row) (name : ℕ) → length rows ≡ length names → txns_of (rows ++ row ∷ []) (names ++ name ∷ []) ≡ txns_of rows names ++ txn_seen row name ∷ []
txns-push [] [] row name e = refl
txns-push [] (n ∷ names) row name e = absurd (omega arith)
txns-push (r ∷ rows) [] row name e = absurd (omega arith)
txns-push (r ∷ rows) (n ∷ names) row name e = ap (λ (ts : List TxnSeen). txn_seen r n ∷ ts) (txns-push rows names row name (omega arith))

-- a change of a row is seen at its place
pub txns-set : (rows : List Row) (names : List ℕ) (i : ℕ) (row : Row) → length rows ≡ length names → i < length names → txns_of (set rows i row) names ≡ set (txns_of rows names) i (txn_seen row (get_or names i 0))
txns-set [] [] i row e within = absurd (omega arith)
txns-set [] (n ∷ names) i row e within = absurd (omega arith)
txns-set (r ∷ rows) [] i row e within = absurd (omega arith)
txns-set (r ∷ rows) (n ∷ names) zero row e within = refl
txns-set (r ∷ rows) (n ∷ names) (suc i) row e within = ap (λ (ts : List TxnSeen). txn_seen r n ∷ ts) (txns-set rows names i row (omega arith) (omega arith))

-- a change of a row of which nothing is seen
pub txns-set_unseen : (rows : List Row) (names : List ℕ) (i : ℕ) (row : Row) → row.script ≡ (row_at rows i).script → row.is_open ≡ (row_at rows i).is_open → txns_of (set rows i row) names ≡ txns_of rows names
txns-set_unseen [] names i row a b = refl
txns-set_unseen (r ∷ rows) [] zero row a b = refl
txns-set_unseen (r ∷ rows) [] (suc i) row a b = refl
txns-set_unseen (r ∷ rows) (n ∷ names) zero row a b = rw (a, b) refl
txns-set_unseen (r ∷ rows) (n ∷ names) (suc i) row a b = ap (λ (ts : List TxnSeen). txn_seen r n ∷ ts) (txns-set_unseen rows names i row a b)

-- a transaction of a script, or 0
pub record IsOfScript (s : AtomsSeen) (script at : ℕ) : Type 0 where
  pub within : at ≤ length s.txns
  pub own : 0 < at → (txn_of s at).script ≡ script

-- the owner by the label of a node
abbrev pub raw_owner : List ℕ → List AtomState → Option ℕ → Option ℕ
raw_owner names states None = None
raw_owner names states (Some t) = cond (state_at states (get_or names (t - 1) 0)).cleaned None (Some (get_or names (t - 1) 0 + 1))

module _ (names : List ℕ) (rows : List Row) (states : List AtomState) (entries : List (ℕ × ℕ)) (low spare txn_spare : ℕ) (kept : AreKept names rows states entries low)
    (s : AtomsSeen) (seen : (record { txns = txns_of rows names; atoms = states; captured = entries; spare = spare; txn_spare = txn_spare }) ≡ s) where
  pub length-seen : length s.txns ≡ length names
  length-seen = ap (λ (a : AtomsSeen). length a.txns) (sym seen) ∙ length-txns rows names kept.same_rows

  pub begun_within : (t : ℕ) → IsBegun s t → t - 1 < length names
  begun_within t begun = let e = length-seen in omega (arith, begun.some, begun.within)

  pub txn_is : (t : ℕ) → IsBegun s t → txn_of s t ≡ txn_seen (row_at rows (t - 1)) (get_or names (t - 1) 0)
  txn_is t begun = ap (λ (a : AtomsSeen). get_or a.txns (t - 1) no_txn) (sym seen) ∙ txn_at rows names (t - 1) kept.same_rows (begun_within t begun)

  pub script_is : (scripts : List ℕ) → scripts ≡ map script_in rows → (t : ℕ) → IsBegun s t → get_or scripts (t - 1) 0 ≡ (txn_of s t).script
  script_is scripts same t begun =
      let within = begun_within t begun in
      ap (λ (xs : List ℕ). get_or xs (t - 1) 0) same ∙ get_or-map script_in rows (t - 1) no_row 0 (omega (arith, kept.same_rows)) ∙ sym (ap (λ (x : TxnSeen). x.script) (txn_is t begun))

  pub length-scripts_seen : (scripts : List ℕ) → scripts ≡ map script_in rows → length scripts ≡ length s.txns
  length-scripts_seen scripts same =
      let long = length-map rows script_in in
      let e = ap length same in
      omega (arith, long, e, kept.same_rows, length-seen)

  -- the last transaction of a script, and none behind it is of the script
  pub at_last : (scripts : List ℕ) → scripts ≡ map script_in rows → (script at : ℕ) → IsLatest scripts script (length scripts) at → IsOfScript s script at × ((t : ℕ) → IsBegun s t → at < t → (txn_of s t).script ≢ script)
  at_last scripts same script at is =
      let long = length-scripts_seen scripts same in (
        record { within = omega (arith, is.within); own = λ some. sym (script_is scripts same at (record { some = some; within = omega (arith, is.within) })) ∙ is.own some },
        λ t begun above e. is.last (t - 1) (omega arith) (omega (arith, begun.some, begun.within)) (script_is scripts same t begun ∙ e),
      )

  -- the one before a transaction of it, and none between the two is of it
  pub at_before : (scripts : List ℕ) → scripts ≡ map script_in rows → (script at next : ℕ) → 0 < at → IsOfScript s script at → IsLatest scripts (get_or scripts (at - 1) 0) (at - 1) next
      → IsOfScript s script next × ((t : ℕ) → IsBegun s t → next < t → t < at → (txn_of s t).script ≢ script)
  at_before scripts same script at next some here is =
      let own : get_or scripts (at - 1) 0 ≡ script = script_is scripts same at (record { some = some; within = here.within }) ∙ here.own some in (
        record {
          within = omega (arith, is.within, here.within);
          own = λ more. sym (script_is scripts same next (record { some = more; within = omega (arith, is.within, here.within) })) ∙ is.own more ∙ own;
        },
        λ t begun above below e. is.last (t - 1) (omega arith) (omega (arith, begun.some)) (script_is scripts same t begun ∙ e ∙ sym own),
      )

  pub atom_is : (t : ℕ) → IsBegun s t → atom_of s t ≡ get_or names (t - 1) 0 + 1
  atom_is t begun = ap (λ (x : TxnSeen). x.atom) (txn_is t begun)

  pub state_is : (a : ℕ) → state_of s a ≡ state_at states (a - 1)
  state_is a = ap (λ (x : AtomsSeen). get_or x.atoms (a - 1) new_atom) (sym seen)

  -- the label of a captured node is a transaction that was begun
  pub label_begun : (node t : ℕ) → label_of node entries ≡ Some t → IsBegun s t
  label_begun node t found = let e = length-seen in let b = kept.begun node t found in record { some = b.0; within = omega arith }

  -- the owner of a captured node
  pub owner_found : (node t : ℕ) → label_of node entries ≡ Some t → owner_of s node ≡ cond (state_at states (get_or names (t - 1) 0)).cleaned None (Some (get_or names (t - 1) 0 + 1))
  owner_found node t found =
      let begun = label_begun node t found in
      let named = atom_is t begun in
      let label : label_of node s.captured ≡ Some t = ap (λ (a : AtomsSeen). label_of node a.captured) (sym seen) ∙ found in
      let minus : get_or names (t - 1) 0 + 1 - 1 ≡ get_or names (t - 1) 0 = omega arith in
      ap (owner_by s) label ∙ ap (λ (a : ℕ). cond (state_of s a).cleaned None (Some a)) named ∙ ap (λ (st : AtomState). cond st.cleaned None (Some (get_or names (t - 1) 0 + 1))) (state_is (get_or names (t - 1) 0 + 1) ∙ ap (state_at states) minus)

  pub owner_not_found : (node : ℕ) → label_of node entries ≡ None → owner_of s node ≡ None
  owner_not_found node none = ap (λ (a : AtomsSeen). owner_by s (label_of node a.captured)) (sym seen) ∙ ap (owner_by s) none

  pub owner_raw : (node : ℕ) → owner_of s node ≡ raw_owner names states (label_of node entries)
  owner_raw node = by_label (label_of node entries) refl
    where
      by_label : (o : Option ℕ) → label_of node entries ≡ o → owner_of s node ≡ raw_owner names states (label_of node entries)
      by_label None none = owner_not_found node none ∙ ap (raw_owner names states) (sym none)
      by_label (Some t) found = owner_found node t found ∙ ap (raw_owner names states) (sym found)

  -- an atom that is not cleaned owns what is labelled with it
  pub own_label : (a : ℕ) → IsAtom s a → (state_at states (a - 1)).cleaned ≡ false → raw_owner names states (Some a) ≡ Some a
  own_label a atom clean =
      let name = sym (atom_is a atom.begun) ∙ atom.own in
      let some = atom.begun.some in
      let index : get_or names (a - 1) 0 ≡ a - 1 = omega arith in
      let not_clean : (state_at states (get_or names (a - 1) 0)).cleaned ≡ false = ap (λ (k : ℕ). (state_at states k).cleaned) index ∙ clean in
      rw not_clean (ap (λ (k : ℕ). Some k) name)

  -- the place of an atom's name is its own name
  pub own_name : (a : ℕ) → IsAtom s a → get_or names (a - 1) 0 ≡ a - 1
  own_name a atom = let name = sym (atom_is a atom.begun) ∙ atom.own in let some = atom.begun.some in omega arith

  pub unsealed_at : (a : ℕ) → (state_of s a).sealed ≡ false → (state_at states (a - 1)).sealed ≡ false
  unsealed_at a open_atom = ap (λ (st : AtomState). st.sealed) (sym (state_is a)) ∙ open_atom

  -- an owner is an atom, and not cleaned
  pub owner_begun : (node a : ℕ) → owner_of s node ≡ Some a → (0 < a) × (a - 1 < length names) × (get_or names (a - 1) 0 ≡ a - 1) × ((state_at states (a - 1)).cleaned ≡ false)
  owner_begun node a owned = by_label (label_of node entries) refl
    where
      by_label : (o : Option ℕ) → label_of node entries ≡ o → (0 < a) × (a - 1 < length names) × (get_or names (a - 1) 0 ≡ a - 1) × ((state_at states (a - 1)).cleaned ≡ false)
      by_label None none = let e = sym owned ∙ owner_not_found node none in absurd (cc)
      by_label (Some t) found =
          let e = sym owned ∙ owner_found node t found in
          let b = kept.begun node t found in
          let within : t - 1 < length names = omega arith in
          let least = kept.named.least (t - 1) within in
          let own = kept.named.own (t - 1) within in
          elim (cases_Bool (state_at states (get_or names (t - 1) 0)).cleaned) [
            | inl gone ↦ let bad : Some a ≡ None = rw gone at e in absurd (cc)
            | inr stays ↦
                let same : Some a ≡ Some (get_or names (t - 1) 0 + 1) = rw stays at e in
                let is : a ≡ get_or names (t - 1) 0 + 1 = cc in
                let index : a - 1 ≡ get_or names (t - 1) 0 = omega arith in
                (omega arith, omega arith, ap (λ (k : ℕ). get_or names k 0) index ∙ own ∙ sym index, ap (λ (k : ℕ). (state_at states k).cleaned) index ∙ stays)
          ]

  -- an atom that is not sealed and has no open transaction, in the rows
  pub count_seen : (at : ℕ) → at < length names → open_count s (at + 1) ≡ (row_at rows at).open_txns
  count_seen at within = ap (λ (a : AtomsSeen). open_count a (at + 1)) (sym seen) ∙ sym (kept.counted at within)

  minus_one : (at : ℕ) → at + 1 - 1 ≡ at
  minus_one at = omega arith

  pub begun_at : (at : ℕ) → at < length names → IsBegun s (at + 1)
  begun_at at within = let e = length-seen in record { some = omega arith; within = omega arith }

  pub atom_at : (at : ℕ) → at < length names → atom_of s (at + 1) ≡ get_or names at 0 + 1
  atom_at at within = atom_is (at + 1) (begun_at at within) ∙ ap (λ (x : ℕ). get_or names x 0 + 1) (minus_one at)

  pub state_of_at : (at : ℕ) → state_of s (at + 1) ≡ state_at states at
  state_of_at at = state_is (at + 1) ∙ ap (state_at states) (minus_one at)

  pub is_closed : (at : ℕ) → at < length names → get_or names at 0 ≡ at → (state_at states at).sealed ≡ false → (row_at rows at).open_txns ≡ 0 → IsClosedAtom s (at + 1)
  is_closed at within own unsealed none = record {
    unsealed = record {
      atom = record { begun = begun_at at within; own = atom_at at within ∙ ap (λ (x : ℕ). x + 1) own };
      unsealed = ap (λ (x : AtomState). x.sealed) (state_of_at at) ∙ unsealed;
    };
    none = count_seen at within ∙ none;
  }

  pub closed_parts : (at : ℕ) → at < length names → IsClosedAtom s (at + 1) → (get_or names at 0 ≡ at) × ((state_at states at).sealed ≡ false) × ((row_at rows at).open_txns ≡ 0)
  closed_parts at within closed = (
    (let e = sym (atom_at at within) ∙ closed.unsealed.atom.own in omega arith),
    ap (λ (x : AtomState). x.sealed) (sym (state_of_at at)) ∙ closed.unsealed.unsealed,
    sym (count_seen at within) ∙ closed.none,
  )

  -- a transaction below `low` is in a committed atom, which is sealed
  pub low_committed : (t : ℕ) → IsBegun s t → t ≤ low → (is_committed s (atom_of s t) ≡ true) × (is_sealed s (atom_of s t) ≡ true)
  low_committed t begun below =
      let some = begun.some in
      let within = begun_within t begun in
      let least = kept.named.least (t - 1) within in
      let inside : get_or names (t - 1) 0 < length names = omega arith in
      let settled = kept.settled (t - 1) (omega arith) in
      let sealed = kept.sound (get_or names (t - 1) 0) inside settled in
      let state : state_of s (atom_of s t) ≡ state_at states (get_or names (t - 1) 0) = ap (state_of s) (atom_is t begun) ∙ state_of_at (get_or names (t - 1) 0) in
      (ap (λ (x : AtomState). x.committed) state ∙ settled, ap (λ (x : AtomState). x.sealed) state ∙ sealed)

  -- the state of a transaction's atom
  pub state_by : (t : ℕ) → IsBegun s t → state_of s (atom_of s t) ≡ state_at states (get_or names (t - 1) 0)
  state_by t begun = ap (state_of s) (atom_is t begun) ∙ state_of_at (get_or names (t - 1) 0)

  pub name_within : (t : ℕ) → IsBegun s t → get_or names (t - 1) 0 < length names
  name_within t begun = let within = begun_within t begun in let least = kept.named.least (t - 1) within in omega arith

  pub count_by_txn : (t : ℕ) → IsBegun s t → open_count s (atom_of s t) ≡ (row_at rows (get_or names (t - 1) 0)).open_txns
  count_by_txn t begun = ap (open_count s) (atom_is t begun) ∙ count_seen (get_or names (t - 1) 0) (name_within t begun)

-- ---- owners after a change of the atoms

pub raw_more : (names : List ℕ) (states : List AtomState) (n : ℕ) (o : Option ℕ) → length states ≡ length names → AreNames names → ((t : ℕ) → o ≡ Some t → (0 < t) × (t ≤ length names))
    → raw_owner (names ++ n ∷ []) (states ++ new_atom ∷ []) o ≡ raw_owner names states o
raw_more names states n None long named begun = refl
raw_more names states n (Some t) long named begun =
    let b = begun t refl in
    let inside : t - 1 < length names = omega arith in
    let least = named.least (t - 1) inside in
    let name : get_or (names ++ n ∷ []) (t - 1) 0 ≡ get_or names (t - 1) 0 = get_or_append_left names _ 0 (t - 1) inside in
    let state : state_at (states ++ new_atom ∷ []) (get_or names (t - 1) 0) ≡ state_at states (get_or names (t - 1) 0) = get_or_append_left states _ new_atom (get_or names (t - 1) 0) (omega arith) in
    ap (λ (k : ℕ). cond (state_at (states ++ new_atom ∷ []) k).cleaned None (Some (k + 1))) name ∙ ap (λ (st : AtomState). cond st.cleaned None (Some (get_or names (t - 1) 0 + 1))) state

pub raw_joined : (names : List ℕ) (states states' : List AtomState) (to from : ℕ) (o : Option ℕ) → ((i : ℕ) → (state_at states' i).cleaned ≡ (state_at states i).cleaned) → (state_at states to).cleaned ≡ false → (state_at states from).cleaned ≡ false
    → ((t : ℕ) → o ≡ Some t → (0 < t) × (t ≤ length names)) → raw_owner (map (renamed to from) names) states' o ≡ option_map (renamed (to + 1) (from + 1)) (raw_owner names states o)
raw_joined names states states' to from None same clean_to clean_from begun = refl
raw_joined names states states' to from (Some t) same clean_to clean_from begun =
    let b = begun t refl in
    let inside : t - 1 < length names = omega arith in
    let j : ℕ = get_or names (t - 1) 0 in
    let name : get_or (map (renamed to from) names) (t - 1) 0 ≡ renamed to from j = get_or-map (renamed to from) names (t - 1) 0 0 inside in
    ap (λ (k : ℕ). cond (state_at states' k).cleaned None (Some (k + 1))) name ∙ elim (cases_eq j from) [
      | inl hit ↦
          let r : renamed to from j ≡ to = rw (eq-eqb j from hit) refl in
          let r' : renamed (to + 1) (from + 1) (j + 1) ≡ to + 1 = rw (eq-eqb (j + 1) (from + 1) (ap (λ (k : ℕ). k + 1) hit)) refl in
          let clean : (state_at states' to).cleaned ≡ false = same to ∙ clean_to in
          let clean_j : (state_at states j).cleaned ≡ false = ap (λ (k : ℕ). (state_at states k).cleaned) hit ∙ clean_from in
          ap (λ (k : ℕ). cond (state_at states' k).cleaned None (Some (k + 1))) r ∙ ap (λ (x : Bool). cond x None (Some (to + 1))) clean
          ∙ sym (ap (λ (x : Bool). option_map (renamed (to + 1) (from + 1)) (cond x None (Some (j + 1)))) clean_j ∙ ap (λ (k : ℕ). Some k) r')
      | inr miss ↦
          let r : renamed to from j ≡ j = rw (ne_eqb j from miss) refl in
          let r' : renamed (to + 1) (from + 1) (j + 1) ≡ j + 1 = rw (ne_eqb (j + 1) (from + 1) (λ e. miss (omega arith))) refl in
          ap (λ (k : ℕ). cond (state_at states' k).cleaned None (Some (k + 1))) r ∙ ap (λ (x : Bool). cond x None (Some (j + 1))) (same j)
          ∙ elim (cases_Bool (state_at states j).cleaned) [
            | inl gone ↦ ap (λ (x : Bool). cond x None (Some (j + 1))) gone ∙ sym (ap (λ (x : Bool). option_map (renamed (to + 1) (from + 1)) (cond x None (Some (j + 1)))) gone)
            | inr stays ↦ ap (λ (x : Bool). cond x None (Some (j + 1))) stays ∙ sym (ap (λ (x : Bool). option_map (renamed (to + 1) (from + 1)) (cond x None (Some (j + 1)))) stays ∙ ap (λ (k : ℕ). Some k) r')
          ]
    ]

pub raw_cleaned : (names : List ℕ) (states : List AtomState) (at : ℕ) (st : AtomState) (o : Option ℕ) → at < length states → st.cleaned ≡ true → raw_owner names (set states at st) o ≡ without_owner (at + 1) (raw_owner names states o)
raw_cleaned names states at st None within clean = refl
raw_cleaned names states at st (Some t) within clean =
    let j : ℕ = get_or names (t - 1) 0 in
    elim (cases_eq j at) [
      | inl hit ↦
          let now : (state_at (set states at st) j).cleaned ≡ true = ap (λ (k : ℕ). (state_at (set states at st) k).cleaned) hit ∙ ap (λ (x : AtomState). x.cleaned) (get_or-set_same states at st new_atom within) ∙ clean in
          ap (λ (x : Bool). cond x None (Some (j + 1))) now ∙ sym (elim (cases_Bool (state_at states j).cleaned) [
            | inl gone ↦ ap (λ (x : Bool). without_owner (at + 1) (cond x None (Some (j + 1)))) gone
            | inr stays ↦ ap (λ (x : Bool). without_owner (at + 1) (cond x None (Some (j + 1)))) stays ∙ ap (λ (x : Bool). cond x None (Some (j + 1))) (eq-eqb (j + 1) (at + 1) (ap (λ (k : ℕ). k + 1) hit))
          ])
      | inr miss ↦
          let now : (state_at (set states at st) j).cleaned ≡ (state_at states j).cleaned = ap (λ (x : AtomState). x.cleaned) (get_or-set_other states at j st new_atom miss) in
          ap (λ (x : Bool). cond x None (Some (j + 1))) now ∙ sym (elim (cases_Bool (state_at states j).cleaned) [
            | inl gone ↦ ap (λ (x : Bool). without_owner (at + 1) (cond x None (Some (j + 1)))) gone ∙ sym (ap (λ (x : Bool). cond x None (Some (j + 1))) gone)
            | inr stays ↦ ap (λ (x : Bool). without_owner (at + 1) (cond x None (Some (j + 1)))) stays ∙ ap (λ (x : Bool). cond x None (Some (j + 1))) (ne_eqb (j + 1) (at + 1) (λ e. miss (omega arith))) ∙ sym (ap (λ (x : Bool). cond x None (Some (j + 1))) stays)
          ])
    ]
