-- The space where an atom is charged, and blocks are deferred for it that are used: what open atoms take up is free for
-- them still, and the other atoms have what they had.
use Rattle.std.proofs.Common.{◌≡◌, ◌≢◌, inl, inr, ℕ, ◌+◌, ◌≤◌, Bool, true, false, ◌||◌, not, eqb, List, []}
use Rattle.std.proofs.Common.{◌∷◌, ◌++◌}
use Rattle.std.proofs.Common.{length, refl, ◌∙◌, ap, arith}
use Rattle.std.specs.Prelude.{count_by}
use Rattle.std.specs.List.{range_with_len}
use Rattle.std.proofs.lemmas.Bool.{cases_Bool, eqb-true}
use Rattle.std.proofs.lemmas.List.FromFn.{length-range_with_len}
use Rattle.std.proofs.lemmas.List.Sums.{count_by-le-length}
use Rattle.r4_base.specs.Bitmap.{bitmap_count}
use Rattle.r4_base.specs.declared.things.AtomNo.{AtomNo}
use Rattle.r4_base.specs.declared.things.BlockNo.{BlockNo}
use Rattle.r4_taking.specs.r4_space.Accounts.{account_at, due_of, dues, is_account_of, is_open, is_sealed, no_account}
use Rattle.r4_taking.specs.r4_space.Accounts.{with_atom}
use Rattle.r4_taking.specs.r4_space.Books.{IsBooks}
use Rattle.r4_taking.specs.r4_space.Lawful.{IsLawful}
use Rattle.r4_taking.specs.r4_space.Space.{Space, charged, free_of, is_taken, need_at, unused_count, with_deferred}
use Rattle.r4_taking.specs.r4_space.declared.things.Account.{Account}
use Rattle.r4_taking.proofs.r4_space.AccountLaws.{books_charged, due_small, dues-add}
use Rattle.r4_taking.proofs.r4_space.UsedLaws.{deferred_used}
use Rattle.r4_taking.proofs.Merged.{account_put, account_stays}

abbrev bits : Space → ℕ
bits s = bitmap_count s.block_count

-- what open atoms take up is free for them
abbrev pub IsCovered : Space → Type 0
IsCovered s = dues (bits s) s.atoms ≤ unused_count s

unused_small : (s : Space) → unused_count s ≤ s.block_count
unfolding unused_count
unused_small s =
    let le = count_by-le-length (λ b. not (is_taken s b)) (range_with_len 0 s.block_count) in
    let size = length-range_with_len 0 s.block_count in
    omega (arith, le, size)

-- ---- a charge

module _ (s : Space) (lawful : IsLawful s) (covered : IsCovered s) (atom : AtomNo) (cells fresh : ℕ)
    (fits : need_at s atom cells fresh ≤ free_of s) where
  abbrev account : Account
  account = record { atom = atom; cells = cells; fresh = fresh }

  same_unused : unused_count (charged s atom cells fresh) ≡ unused_count s
  unfolding unused_count
  same_unused = refl

  books : IsBooks (bits s) s.atoms [] (dues (bits s) s.atoms) 1 (length s.atoms + 1) (length s.atoms + 1)
  books =
      let most = lawful.most in
      record {
        few = omega (arith, most);
        once = lawful.once;
        counted = refl;
        small = lawful.dues_small;
        enough = omega arith;
        enough_sealed = omega arith;
      }

  pub covers_charge : IsCovered (charged s atom cells fresh)
  covers_charge =
      let small = unused_small s in
      let most = lawful.most in
      let after = books_charged (bits s) (dues (bits s) s.atoms) 1 (length s.atoms + 1) (length s.atoms + 1)
      (length s.atoms + 1) (due_of (bits s) (account_at s.atoms atom)) (due_of (bits s) account)
      (need_at s atom cells fresh) (free_of s) s.atoms [] account books refl refl refl fits
      (omega (arith, covered, small, most)) (omega arith) (omega arith) in
      let counted = after.counted in
      let same = same_unused in
      let part = (due_small (bits s) (dues (bits s) s.atoms) 1 (length s.atoms + 1) (length s.atoms + 1) s.atoms [] atom
      books).0 in
      omega (arith, counted, same, fits, covered, part)

  pub account_charged : account_at (charged s atom cells fresh).atoms atom ≡ account
  account_charged = account_put s.atoms account

  pub others_charged : (other : AtomNo) → other.0 ≢ atom.0
      → account_at (charged s atom cells fresh).atoms other ≡ account_at s.atoms other
  others_charged other unlike = account_stays account other unlike s.atoms

-- ---- an atom with nothing in its account

at_none : (accounts : List Account) (atom other : AtomNo)
    → account_at (accounts ++ no_account atom ∷ []) other ≡ account_at accounts other
at_none [] atom other = elim (cases_Bool (eqb atom.0 other.0)) [
  | inl is ↦
      let same : atom ≡ other = ap (λ (n : ℕ). record { 0 = n }) (eqb-true atom.0 other.0 is) in
      rw is (ap no_account same)
  | inr not ↦ rw not refl
]
at_none (a ∷ rest) atom other = elim (cases_Bool (is_account_of other a)) [
  | inl hit ↦ rw hit refl
  | inr miss ↦ rw miss (at_none rest atom other)
]

dues_none : (bitmaps : ℕ) (accounts : List Account) (atom : AtomNo)
    → dues bitmaps (accounts ++ no_account atom ∷ []) ≡ dues bitmaps accounts
dues_none bitmaps accounts atom = let e = dues-add bitmaps accounts (no_account atom) in omega (arith, e)

module _ (accounts : List Account) (sealed : List AtomNo) (atom : AtomNo) where
  same_at : (other : AtomNo) → account_at (with_atom accounts sealed atom) other ≡ account_at accounts other
  same_at other = elim (cases_Bool (is_open accounts atom || is_sealed sealed atom)) [
    | inl known ↦ rw known refl
    | inr new ↦ rw new (at_none accounts atom other)
  ]

  same_dues : (bitmaps : ℕ) → dues bitmaps (with_atom accounts sealed atom) ≡ dues bitmaps accounts
  same_dues bitmaps = elim (cases_Bool (is_open accounts atom || is_sealed sealed atom)) [
    | inl known ↦ rw known refl
    | inr new ↦ rw new (dues_none bitmaps accounts atom)
  ]

-- ---- a used block is deferred

module _ (s : Space) (atom : AtomNo) (block : BlockNo) (used : is_taken s block.0 ≡ true) where
  same_taken : (k : ℕ) → is_taken (with_deferred s atom block) k ≡ is_taken s k
  same_taken k =
      deferred_used s atom block k ∙ elim (cases_Bool (eqb k block.0)) [
        | inl is ↦
            let here : is_taken s k ≡ true = ap (is_taken s) (eqb-true k block.0 is) ∙ used in
            rw (is, here) refl
        | inr not ↦ rw not (neither (is_taken s k))
      ]
    where
      neither : (x : Bool) → (x || false) ≡ x
      neither true = refl
      neither false = refl

  pub deferred_unused : unused_count (with_deferred s atom block) ≡ unused_count s
  unfolding unused_count
  deferred_unused =
      ap (λ (f : ℕ → Bool). count_by (λ b. not (f b)) (range_with_len 0 s.block_count)) (λ j b. same_taken b j)

  pub covers_deferred : IsCovered s → IsCovered (with_deferred s atom block)
  covers_deferred covered =
      let one = same_dues s.atoms s.sealed atom (bits s) in
      let two = deferred_unused in
      omega (arith, one, two, covered)

  pub accounts_deferred : (other : AtomNo)
      → account_at (with_deferred s atom block).atoms other ≡ account_at s.atoms other
  accounts_deferred other = same_at s.atoms s.sealed atom other
