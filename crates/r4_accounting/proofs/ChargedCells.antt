-- What the space says of an atom once it is charged, and the blocks of cells that go are deferred for it.
use Rattle.std.proofs.Common.{◌≡◌, ◌+◌, ◌≤◌, ◌||◌, ◌∷◌, ◌∙◌, ℕ, Bool, List, [], arith, length, map}
use Rattle.std.proofs.Common.{ap, false, inl, inr, not, refl, sym, true}
use Rattle.std.specs.Prelude.{count_by}
use Rattle.std.specs.List.{range_with_len}
use Rattle.std.proofs.lemmas.Bool.{cases_Bool, eq-eqb}
use Rattle.std.proofs.lemmas.List.Folds.{list_any-append}
use Rattle.r4_base.specs.Bitmap.{bitmap_count}
use Rattle.r4_base.specs.declared.things.AtomNo.{AtomNo}
use Rattle.r4_cell.specs.Seen.{CellSeen}
use Rattle.r4_done.specs.Doing.{HasCharged}
use Rattle.r4_done.proofs.Charged.{IsCovered, account_charged, covers_charge, others_charged}
use Rattle.r4_space.specs.Accounts.{account_at, dues, in_place, is_account_of, is_open, with_account}
use Rattle.r4_space.specs.Lawful.{IsLawful}
use Rattle.r4_space.specs.Space.{Space, charged, free_of, is_taken, need_at, unused_count}
use Rattle.r4_space.specs.declared.things.Account.{Account}
use Rattle.r4_accounting.specs.Accounting.{HasDeferred, freed}

own_account : (account : Account) → is_account_of account.atom account ≡ true
own_account account = eq-eqb account.atom.0 account.atom.0 refl

-- one that is put in place of an account has its atom
still_its : (account b : Account) → is_account_of account.atom b ≡ true
    → is_account_of account.atom (in_place account b) ≡ true
still_its account b is = rw is (own_account account)

put_open : (account : Account) (accounts : List Account) → is_open accounts account.atom ≡ true
    → is_open (map (in_place account) accounts) account.atom ≡ true
put_open account [] h = absurd (cc h)
put_open account (b ∷ rest) h = elim (cases_Bool (is_account_of account.atom b)) [
  | inl is ↦ rw (still_its account b is) refl
  | inr not ↦
      let tail : is_open rest account.atom ≡ true = sym (rw not refl) ∙ h in
      let more = put_open account rest tail in
      rw more (or_last (is_account_of account.atom (in_place account b)))
]
  where
    or_last : (x : Bool) → (x || true) ≡ true
    or_last true = refl
    or_last false = refl

-- an atom that has an account from now on is open
pub charged_open : (accounts : List Account) (account : Account)
    → is_open (with_account accounts account) account.atom ≡ true
charged_open accounts account = elim (cases_Bool (is_open accounts account.atom)) [
  | inl there ↦ rw there (put_open account accounts there)
  | inr none ↦
      let own = own_account account in
      let all = list_any-append (is_account_of account.atom) accounts (account ∷ []) in
      rw none (all ∙ rw (none, own) refl)
]

-- what is told of the space, once the atom is charged and the blocks of cells that go are deferred
pub has_charged : (s t : Space) → IsLawful s → IsCovered s → (atom : AtomNo) (cells fresh : ℕ)
    → need_at s atom cells fresh ≤ free_of s → (old new : List CellSeen)
    → HasDeferred (charged s atom cells fresh) t atom old new → (calls : ℕ)
    → 1 + length (freed s old new) ≤ calls → HasCharged s t atom cells fresh calls
unfolding unused_count
has_charged s t lawful covered atom cells fresh fits old new h calls few =
    let c = charged s atom cells fresh in
    let left = ap (λ (v : Space). v.spare) h.is in
    let free : unused_count t ≡ unused_count c =
    ap (λ (n : ℕ). count_by (λ b. not (is_taken t b)) (range_with_len 0 n)) (ap (λ (v : Space). v.block_count) h.is)
    ∙ ap (λ (f : ℕ → Bool). count_by (λ b. not (f b)) (range_with_len 0 c.block_count)) (λ j b. h.taken b j) in
    let own = account_charged s lawful covered atom cells fresh fits in
    let same = ap (λ (v : Space). v.atoms) h.is in
    record {
      covered =
          let charge = covers_charge s lawful covered atom cells fresh fits in
          let due = ap (λ (v : Space). dues (bitmap_count v.block_count) v.atoms) h.is in
          omega (arith, charge, due, free);
      own_cells = ap (λ (l : List Account). (account_at l atom).cells) same ∙ ap (λ (a : Account). a.cells) own;
      own_fresh = ap (λ (l : List Account). (account_at l atom).fresh) same ∙ ap (λ (a : Account). a.fresh) own;
      others = λ a other. ap (λ (l : List Account). account_at l a) same
          ∙ others_charged s lawful covered atom cells fresh fits a other;
      sealed = ap (λ (v : Space). v.sealed) h.is;
      held = ap (λ (v : Space). v.held) h.is;
      placed = ap (λ (v : Space). v.placed) h.is;
      spare = omega (arith, left, few);
    }
