-- The space where two atoms become one: no more is used and no more is taken up, and each other atom has what it had.
use Rattle.std.proofs.Common.{◌≡◌, ◌≢◌, ℕ, ◌+◌, ◌≤◌, true, false, cond, get_or, length, Bool, ◌||◌, not, List, [], ◌∷◌}
use Rattle.std.proofs.Common.{◌++◌, map, inl, inr, refl, sym, ap, ◌∙◌, arith}
use Rattle.std.specs.Prelude.{count_by}
use Rattle.std.specs.List.{range_with_len}
use Rattle.std.proofs.lemmas.Bool.{cases_Bool, eq-eqb, eqb-true, ne_eqb, or_left}
use Rattle.std.proofs.lemmas.List.{get_or-map, length-map, length-replicate}
use Rattle.std.proofs.lemmas.List.FromFn.{get_or-map-range_with_len, length-map-range_with_len}
use Rattle.r4_base.specs.Bitmap.{bitmap_count, is_fixed}
use Rattle.r4_base.specs.declared.things.AtomNo.{AtomNo}
use Rattle.r4_kept.specs.r4_space.Accounts.{EachOnce, account_at, dues, in_place, is_account_of, is_atom, is_open, sum_account}
use Rattle.r4_kept.specs.r4_space.Accounts.{with_account, with_merged, without_account, due_of}
use Rattle.r4_kept.specs.r4_space.Books.{IsBooks}
use Rattle.r4_kept.specs.r4_space.Lawful.{IsLawful}
use Rattle.r4_kept.specs.r4_space.Space.{Space, claims_of, claims_without, is_claimed, is_marked_after, is_taken, is_taken_by}
use Rattle.r4_kept.specs.r4_space.Space.{merged, renamed}
use Rattle.r4_kept.specs.r4_space.Space.{settled, unused_count}
use Rattle.r4_kept.specs.r4_space.declared.things.Account.{Account}
use Rattle.r4_kept.specs.r4_space.declared.things.Claim.{Claim}
use Rattle.r4_kept.proofs.r4_space.AccountLaws.{books_merged, due_small, due_together, dues-without, no_account_at}
use Rattle.r4_kept.proofs.r4_space.AccountLaws.{once-without}
use Rattle.r4_kept.proofs.r4_space.AccountLaws.{other_account}
use Rattle.r4_kept.proofs.r4_space.ClaimLaws.{claimed-renamed, renamed_block, within-without}

-- ---- which blocks are used

taken_merged : (s : Space) (kept gone : AtomNo) (b : ℕ) → is_taken (merged s kept gone) b ≡ is_taken s b
unfolding is_taken_by
taken_merged s kept gone b =
    ap (λ (x : Bool). get_or s.marked b false || (get_or s.placed b false || (is_claimed s.held b || x)))
    (claimed-renamed kept gone s.deferred b)

pub unused_merged : (s : Space) (kept gone : AtomNo) → unused_count (merged s kept gone) ≡ unused_count s
unfolding unused_count
unused_merged s kept gone =
    ap (λ (f : ℕ → Bool). count_by (λ b. not (f b)) (range_with_len 0 s.block_count))
    (λ j b. taken_merged s kept gone b j)

-- ---- accounts

-- an account stands where it was put
at_placed : (accounts : List Account) (a : Account) → is_open accounts a.atom ≡ true
    → account_at (map (in_place a) accounts) a.atom ≡ a
at_placed [] a some = absurd cc
at_placed (b ∷ rest) a some =
    let own : is_account_of a.atom a ≡ true = eq-eqb a.atom.0 a.atom.0 refl in
    elim (cases_Bool (is_account_of a.atom b)) [
      | inl hit ↦ rw (hit, own) refl
      | inr miss ↦ let e = rw miss at some in rw miss (rw miss (at_placed rest a e))
    ]

at_added : (accounts : List Account) (a : Account) → is_open accounts a.atom ≡ false
    → account_at (accounts ++ a ∷ []) a.atom ≡ a
at_added [] a none = let own : is_account_of a.atom a ≡ true = eq-eqb a.atom.0 a.atom.0 refl in rw own refl
at_added (b ∷ rest) a none = elim (cases_Bool (is_account_of a.atom b)) [
  | inl hit ↦ let e = rw hit at none in absurd cc
  | inr miss ↦ let e = rw miss at none in rw miss (at_added rest a e)
]

pub account_put : (accounts : List Account) (a : Account) → account_at (with_account accounts a) a.atom ≡ a
account_put accounts a = elim (cases_Bool (is_open accounts a.atom)) [
  | inl there ↦ rw there (at_placed accounts a there)
  | inr new ↦ rw new (at_added accounts a new)
]

-- and the others stay
module _ (a : Account) (other : AtomNo) (unlike : other.0 ≢ a.atom.0) where
  not_its : is_account_of other a ≡ false
  not_its = ne_eqb a.atom.0 other.0 (λ e. unlike (sym e))

  still_placed : (accounts : List Account) → account_at (map (in_place a) accounts) other ≡ account_at accounts other
  still_placed [] = refl
  still_placed (b ∷ rest) = elim (cases_Bool (is_account_of a.atom b)) [
    | inl hit ↦
        let miss : is_account_of other b ≡ false =
        ne_eqb b.atom.0 other.0 (λ e. unlike (sym e ∙ eqb-true b.atom.0 a.atom.0 hit)) in
        rw (hit, not_its, miss) (still_placed rest)
    | inr stays ↦ elim (cases_Bool (is_account_of other b)) [
      | inl here ↦ rw (stays, here) refl
      | inr miss ↦ rw (stays, miss) (still_placed rest)
    ]
  ]

  still_added : (accounts : List Account) → account_at (accounts ++ a ∷ []) other ≡ account_at accounts other
  still_added [] = rw not_its refl
  still_added (b ∷ rest) = elim (cases_Bool (is_account_of other b)) [
    | inl here ↦ rw here refl
    | inr miss ↦ rw miss (still_added rest)
  ]

  pub account_stays : (accounts : List Account) → account_at (with_account accounts a) other ≡ account_at accounts other
  account_stays accounts = elim (cases_Bool (is_open accounts a.atom)) [
    | inl there ↦ rw there (still_placed accounts)
    | inr new ↦ rw new (still_added accounts)
  ]

-- ---- two atoms become one

module _ (accounts : List Account) (kept gone : AtomNo) where
  abbrev sum : Account
  sum = sum_account kept (account_at accounts kept) (account_at accounts gone)

  -- its account is the sum of both
  pub merged_cells : (account_at (with_merged accounts kept gone) kept).cells
      ≡ (account_at accounts kept).cells + (account_at accounts gone).cells
  merged_cells = elim (cases_Bool (is_open accounts gone)) [
    | inl there ↦ rw there (ap (λ (x : Account). x.cells) (account_put (without_account gone accounts) sum))
    | inr none ↦
        let e = ap (λ (x : Account). x.cells) (no_account_at accounts gone none) in
        rw none (omega (arith, e))
  ]

  pub merged_fresh : (account_at (with_merged accounts kept gone) kept).fresh
      ≡ (account_at accounts kept).fresh + (account_at accounts gone).fresh
  merged_fresh = elim (cases_Bool (is_open accounts gone)) [
    | inl there ↦ rw there (ap (λ (x : Account). x.fresh) (account_put (without_account gone accounts) sum))
    | inr none ↦
        let e = ap (λ (x : Account). x.fresh) (no_account_at accounts gone none) in
        rw none (omega (arith, e))
  ]

  -- each other one has what it had
  pub merged_other : (other : AtomNo) → other.0 ≢ kept.0 → other.0 ≢ gone.0
      → account_at (with_merged accounts kept gone) other ≡ account_at accounts other
  merged_other other not_kept not_gone = elim (cases_Bool (is_open accounts gone)) [
    | inl there ↦
        rw there (account_stays sum other not_kept (without_account gone accounts)
        ∙ other_account other gone accounts not_gone)
    | inr none ↦ rw none refl
  ]

-- ---- what they take up

module _ (s : Space) (lawful : IsLawful s) where
  abbrev bitmaps : ℕ
  bitmaps = bitmap_count s.block_count

  books : IsBooks bitmaps s.atoms [] (dues bitmaps s.atoms) 0 (length s.atoms) (length s.atoms)
  books =
      let most = lawful.most in
      record {
        few = omega (arith, most);
        once = lawful.once;
        counted = refl;
        small = lawful.dues_small;
        enough = omega arith;
        enough_sealed = omega arith;
      }

  -- no account has a greater number than there may be blocks
  pub space_account_small : (atom : AtomNo)
      → ((account_at s.atoms atom).cells ≤ 1048576) × ((account_at s.atoms atom).fresh ≤ 1048576)
  space_account_small atom =
      let small = due_small bitmaps (dues bitmaps s.atoms) 0 (length s.atoms) (length s.atoms) s.atoms [] atom books in
      (small.1, small.2)

module _ (s : Space) (lawful : IsLawful s) (kept gone : AtomNo) (differ : kept.0 ≢ gone.0) where
  abbrev maps : ℕ
  maps = bitmap_count s.block_count

  pub dues_merged : dues maps (with_merged s.atoms kept gone) ≤ dues maps s.atoms
  dues_merged = elim (cases_Bool (is_open s.atoms gone)) [
    | inl there ↦
        let b = books_merged maps (dues maps s.atoms) 0 (length s.atoms) (length s.atoms) (length s.atoms) s.atoms
        [] kept gone (books s lawful) differ there (omega arith) in
        let counted = b.counted in
        let one = dues-without maps gone s.atoms lawful.once in
        let two = dues-without maps kept (without_account gone s.atoms) (once-without gone s.atoms lawful.once) in
        let same : due_of maps (account_at (without_account gone s.atoms) kept) ≡ due_of maps
        (account_at s.atoms kept) = ap (due_of maps) (other_account kept gone s.atoms differ) in
        let less = due_together maps kept (account_at s.atoms kept) (account_at s.atoms gone) in
        rw there (omega (arith, counted, one, two, same, less))
    | inr none ↦ rw none (omega arith)
  ]

  pub once_merged : EachOnce (with_merged s.atoms kept gone)
  once_merged = elim (cases_Bool (is_open s.atoms gone)) [
    | inl there ↦
        let b = books_merged maps (dues maps s.atoms) 0 (length s.atoms) (length s.atoms) (length s.atoms) s.atoms
        [] kept gone (books s lawful) differ there (omega arith) in
        rw there b.once
    | inr none ↦ rw none lawful.once
  ]

  pub lawful_merged : IsLawful (merged s kept gone)
  lawful_merged =
      let less = dues_merged in
      let small = lawful.dues_small in
      record {
        least = lawful.least;
        most = lawful.most;
        marked_size = lawful.marked_size;
        placed_size = lawful.placed_size;
        fixed = lawful.fixed;
        held_within = lawful.held_within;
        deferred_within = λ k d lt.
            (let size = length-map s.deferred (renamed kept gone) in
            let at : get_or (map (renamed kept gone) s.deferred) k d ≡ renamed kept gone (get_or s.deferred k d) =
            get_or-map (renamed kept gone) s.deferred k d d (omega (arith, lt, size)) in
            let one = lawful.deferred_within k d (omega (arith, lt, size)) in
            let same = renamed_block kept gone (get_or s.deferred k d) in
            rw at (omega (arith, one, same)));
        once = once_merged;
        dues_small = omega (arith, less, small);
      }

-- ---- a lawful space settles to one

pub lawful_settled : (s : Space) (atom : AtomNo) → IsLawful s → IsLawful (settled s atom)
unfolding is_marked_after
lawful_settled s atom h = record {
  least = h.least;
  most = h.most;
  marked_size = length-map-range_with_len
      (is_marked_after s.block_count s.marked s.placed (claims_of atom s.deferred)) 0 s.block_count;
  placed_size = length-replicate s.block_count false;
  fixed = λ b lt is.
      get_or-map-range_with_len (is_marked_after s.block_count s.marked s.placed (claims_of atom s.deferred)) 0
      s.block_count b b false lt (omega arith) ∙ or_left (is_fixed s.block_count b) _ is;
  held_within = within-without s.block_count atom s.held h.held_within;
  deferred_within = within-without s.block_count atom s.deferred h.deferred_within;
  once = once-without atom s.atoms h.once;
  dues_small =
      let all = dues-without (bitmap_count s.block_count) atom s.atoms h.once in
      let small = h.dues_small in
      omega (arith, all, small);
}

-- ---- claims

-- an atom that is neither of both has the claims that it had
module _ (kept gone a : AtomNo) (not_kept : a.0 ≢ kept.0) (not_gone : a.0 ≢ gone.0) where
  pub claims_other : (l : List Claim) → claims_of a (map (renamed kept gone) l) ≡ claims_of a l
  claims_other [] = refl
  claims_other (x ∷ l) = elim (cases_Bool (is_atom gone x.atom)) [
    | inl hit ↦
        let one : is_atom a kept ≡ false = ne_eqb kept.0 a.0 (λ e. not_kept (sym e)) in
        let two : is_atom a x.atom ≡ false =
        ne_eqb x.atom.0 a.0 (λ e. not_gone (sym e ∙ eqb-true x.atom.0 gone.0 hit)) in
        rw (hit, one, two) (claims_other l)
    | inr miss ↦ rw miss (ap (λ (r : List Claim). cond (is_atom a x.atom) (x ∷ r) r) (claims_other l))
  ]

-- and what is left without its claims is renamed as all is
module _ (kept gone atom : AtomNo) (not_kept : atom.0 ≢ kept.0) (not_gone : atom.0 ≢ gone.0) where
  pub without_renamed : (l : List Claim)
      → map (renamed kept gone) (claims_without atom l) ≡ claims_without atom (map (renamed kept gone) l)
  without_renamed [] = refl
  without_renamed (x ∷ l) = elim (cases_Bool (is_atom gone x.atom)) [
    | inl hit ↦
        let one : is_atom atom kept ≡ false = ne_eqb kept.0 atom.0 (λ e. not_kept (sym e)) in
        let two : is_atom atom x.atom ≡ false =
        ne_eqb x.atom.0 atom.0 (λ e. not_gone (sym e ∙ eqb-true x.atom.0 gone.0 hit)) in
        rw (two, hit, one) (ap (λ (r : List Claim). record x { atom = kept } ∷ r) (without_renamed l))
    | inr miss ↦ elim (cases_Bool (is_atom atom x.atom)) [
      | inl own ↦ rw (miss, own) (without_renamed l)
      | inr other ↦ rw (miss, other) (rw miss (ap (λ (r : List Claim). x ∷ r) (without_renamed l)))
    ]
  ]

-- the claims of another atom are there without those of one
pub claims_left : (a atom : AtomNo) → a.0 ≢ atom.0 → (l : List Claim)
    → claims_of a (claims_without atom l) ≡ claims_of a l
claims_left a atom other [] = refl
claims_left a atom other (x ∷ l) = elim (cases_Bool (is_atom atom x.atom)) [
  | inl own ↦
      let two : is_atom a x.atom ≡ false =
      ne_eqb x.atom.0 a.0 (λ e. other (sym e ∙ eqb-true x.atom.0 atom.0 own)) in
      rw (own, two) (claims_left a atom other l)
  | inr not ↦ rw not (ap (λ (r : List Claim). cond (is_atom a x.atom) (x ∷ r) r) (claims_left a atom other l))
]

pub none_left : (atom : AtomNo) (l : List Claim) → claims_of atom (claims_without atom l) ≡ []
none_left atom [] = refl
none_left atom (x ∷ l) = elim (cases_Bool (is_atom atom x.atom)) [
  | inl own ↦ rw own (none_left atom l)
  | inr not ↦ rw not (rw not (none_left atom l))
]
