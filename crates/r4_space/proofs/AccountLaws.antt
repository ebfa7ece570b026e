-- Accounts of atoms, each of which has one at most.
use Rattle.std.proofs.Common.{◌≡◌, ◌≢◌, ℕ, zero, suc, get_or, set, ◌+◌, ◌-◌, ◌<◌, ◌≤◌, true, false, not, eqb, List, [], ◌∷◌, ◌++◌, length, refl, sym, ap, ◌∙◌, arith, inl, inr}
use Rattle.std.specs.Prelude.{map}
use Rattle.std.specs.List.{list_any, remove}
use Rattle.std.proofs.lemmas.Bool.{cases_Bool, eqb-true, eq-eqb, ne_eqb}
use Rattle.std.proofs.lemmas.List.{length-append, length-map, get_or-map}
use Rattle.std.proofs.lemmas.List.Elements.{All-filter, All-push}
use Rattle.std.proofs.lemmas.List.Sums.{sum_by-cons, sum_by-append, length-filter, count_by-le-length}
use Rattle.std.proofs.lemmas.List.Folds.{list_any-append}
use Rattle.r4_base.specs.declared.things.AtomNo.{AtomNo}
use Rattle.r4_space.specs.declared.things.Account.{Account}
use Rattle.r4_space.specs.Books.{AreUpTo, IsBooks}
use Rattle.r4_space.specs.Accounts.{StandsAt, account_at, in_place, due_of, dues, EachOnce, is_account_of, is_open, no_account, price_formula, price_of, sum_account, with_account, without_account, without_atom, is_atom}

-- ---- what an atom takes up

pub dues-cons : (bitmaps : ℕ) (a : Account) (rest : List Account) → dues bitmaps (a ∷ rest) ≡ due_of bitmaps a + dues bitmaps rest
unfolding dues
dues-cons bitmaps a rest = sum_by-cons (due_of bitmaps) a rest

pub dues-none : (bitmaps : ℕ) → dues bitmaps [] ≡ 0
unfolding dues
dues-none bitmaps = refl

pub dues-add : (bitmaps : ℕ) (accounts : List Account) (a : Account) → dues bitmaps (accounts ++ a ∷ []) ≡ dues bitmaps accounts + due_of bitmaps a
unfolding dues
dues-add bitmaps accounts a = let e = sum_by-append (due_of bitmaps) accounts (a ∷ []) in omega (arith, e)

-- two atoms that become one take up no more
priced : (n bitmaps : ℕ) → 0 < n → price_of n bitmaps ≡ price_formula n bitmaps
priced n bitmaps some = let e : eqb n 0 ≡ false = ne_eqb _ _ (λ h. absurd (omega arith)) in rw e refl

price_together : (a b bitmaps : ℕ) → price_of (a + b) bitmaps ≤ price_of a bitmaps + price_of b bitmaps
price_together zero b bitmaps = let e : zero + b ≡ b = omega arith in rw e (omega arith)
price_together (suc a) zero bitmaps = let e : suc a + zero ≡ suc a = omega arith in rw e (omega arith)
price_together (suc a) (suc b) bitmaps =
    let one = priced (suc a) bitmaps (omega arith) in
    let two = priced (suc b) bitmaps (omega arith) in
    let both = priced (suc a + suc b) bitmaps (omega arith) in
    rw (one, two, both) (omega arith)

pub due_together : (bitmaps : ℕ) (atom : AtomNo) (a b : Account) → due_of bitmaps (sum_account atom a b) ≤ due_of bitmaps a + due_of bitmaps b
due_together bitmaps atom a b = let e = price_together a.cells b.cells bitmaps in omega arith

-- the numbers of an atom are no greater than what it takes up
pub numbers_small : (bitmaps : ℕ) (a : Account) → (a.cells ≤ due_of bitmaps a) × (a.fresh ≤ due_of bitmaps a)
numbers_small bitmaps a = elim (cases_Bool (eqb a.cells 0)) [
  | inl none ↦ let e = eqb-true a.cells 0 none in (rw e (omega arith), omega arith)
  | inr some ↦ (rw some (omega arith), omega arith)
]

-- ---- without the account of an atom

pub none_without : (atom : AtomNo) (accounts : List Account) → is_open accounts atom ≡ false → without_account atom accounts ≡ accounts
none_without atom [] none = refl
none_without atom (a ∷ rest) none = elim (cases_Bool (is_account_of atom a)) [
  | inl hit ↦ let e = rw hit at none in absurd cc
  | inr miss ↦ let e = rw miss at none in rw miss (ap (λ (others : List Account). a ∷ others) (none_without atom rest e))
]

same_open : (accounts : List Account) (a b : AtomNo) → a.0 ≡ b.0 → is_open accounts a ≡ is_open accounts b
same_open accounts a b e = ap (λ (n : ℕ). list_any (λ (x : Account). eqb x.atom.0 n) accounts) e

pub dues-without : (bitmaps : ℕ) (atom : AtomNo) (accounts : List Account) → EachOnce accounts → dues bitmaps (without_account atom accounts) + due_of bitmaps (account_at accounts atom) ≡ dues bitmaps accounts
unfolding EachOnce
dues-without bitmaps atom [] once = let e = dues-none bitmaps in omega arith
dues-without bitmaps atom (a ∷ rest) once = elim (cases_Bool (is_account_of atom a)) [
  | inl hit ↦
      let same : is_open rest atom ≡ false = same_open rest atom a.atom (sym (eqb-true _ _ hit)) ∙ once.0 in
      let gone : without_account atom rest ≡ rest = none_without atom rest same in
      let all = dues-cons bitmaps a rest in
      rw (hit, gone) (omega arith)
  | inr miss ↦
      let all = dues-cons bitmaps a rest in
      let part = dues-cons bitmaps a (without_account atom rest) in
      let ih = dues-without bitmaps atom rest once.1 in
      rw miss (omega arith)
]

still_closed : (atom other : AtomNo) (accounts : List Account) → is_open accounts other ≡ false → is_open (without_account atom accounts) other ≡ false
still_closed atom other [] none = refl
still_closed atom other (a ∷ rest) none = elim (cases_Bool (is_account_of other a)) [
  | inl hit ↦ let e = rw hit at none in absurd cc
  | inr miss ↦
      let e = rw miss at none in
      let ih = still_closed atom other rest e in
      elim (cases_Bool (is_account_of atom a)) [ inl out ↦ rw out ih | inr stays ↦ rw (stays, miss) ih ]
]

pub once-without : (atom : AtomNo) (accounts : List Account) → EachOnce accounts → EachOnce (without_account atom accounts)
unfolding EachOnce
once-without atom [] once = once
once-without atom (a ∷ rest) once = elim (cases_Bool (is_account_of atom a)) [
  | inl hit ↦ rw hit (once-without atom rest once.1)
  | inr miss ↦ rw miss (still_closed atom a.atom rest once.0, once-without atom rest once.1)
]

pub closed-without : (atom : AtomNo) (accounts : List Account) → is_open (without_account atom accounts) atom ≡ false
closed-without atom [] = refl
closed-without atom (a ∷ rest) = elim (cases_Bool (is_account_of atom a)) [
  | inl hit ↦ rw hit (closed-without atom rest)
  | inr miss ↦ rw miss (rw miss (closed-without atom rest))
]

-- ---- with one account more

pub once-add : (accounts : List Account) (a : Account) → EachOnce accounts → is_open accounts a.atom ≡ false → EachOnce (accounts ++ a ∷ [])
unfolding EachOnce
once-add [] a once none = (refl, tt)
once-add (b ∷ rest) a once none = elim (cases_Bool (is_account_of a.atom b)) [
  | inl hit ↦ let e = rw hit at none in absurd cc
  | inr miss ↦
      let e = rw miss at none in
      let back : is_account_of b.atom a ≡ false = ne_eqb _ _ (λ h. let y : eqb b.atom.0 a.atom.0 ≡ true = eq-eqb _ _ (sym h) in absurd cc) in
      let more : is_open (rest ++ a ∷ []) b.atom ≡ false = list_any-append (is_account_of b.atom) rest (a ∷ []) ∙ rw (once.0, back) refl in
      (more, once-add rest a once.1 e)
]

-- ---- one account, among the others

pub other_account : (kept gone : AtomNo) (accounts : List Account) → kept.0 ≢ gone.0 → account_at (without_account gone accounts) kept ≡ account_at accounts kept
other_account kept gone [] ne = refl
other_account kept gone (a ∷ rest) ne = elim (cases_Bool (is_account_of gone a)) [
  | inl hit ↦
      let miss : is_account_of kept a ≡ false = ne_eqb _ _ (λ e. ne (sym e ∙ eqb-true _ _ hit)) in
      rw (hit, miss) (other_account kept gone rest ne)
  | inr stays ↦ elim (cases_Bool (is_account_of kept a)) [
    | inl hit ↦ rw (stays, hit) refl
    | inr miss ↦ rw (stays, miss) (other_account kept gone rest ne)
  ]
]

pub length-without : (atom : AtomNo) (accounts : List Account) → length (without_account atom accounts) ≤ length accounts
length-without atom [] = omega arith
length-without atom (a ∷ rest) = let ih = length-without atom rest in elim (cases_Bool (is_account_of atom a)) [
  | inl hit ↦ rw hit (omega arith)
  | inr miss ↦ rw miss (omega arith)
]

-- the account of an open atom is one fewer
pub length-without_open : (atom : AtomNo) (accounts : List Account) → is_open accounts atom ≡ true → length (without_account atom accounts) + 1 ≤ length accounts
length-without_open atom [] hit = absurd cc
length-without_open atom (a ∷ rest) open_atom = elim (cases_Bool (is_account_of atom a)) [
  | inl hit ↦ let e = length-without atom rest in rw hit (omega arith)
  | inr miss ↦ let e = rw miss at open_atom in let ih = length-without_open atom rest e in rw miss (omega arith)
]

-- ---- where an account stands

pub stands_open : (accounts : List Account) (atom : AtomNo) (i : ℕ) → StandsAt accounts atom i → is_open accounts atom ≡ true
stands_open [] atom i at = absurd (omega (arith, at.0))
stands_open (a ∷ rest) atom zero at = rw at.1 refl
stands_open (a ∷ rest) atom (suc i) at =
    let ih = stands_open rest atom i (omega (arith, at.0), at.1) in
    elim (cases_Bool (is_account_of atom a)) [ inl hit ↦ rw hit refl | inr miss ↦ rw miss ih ]

pub account_is : (accounts : List Account) (atom : AtomNo) (i : ℕ) → EachOnce accounts → StandsAt accounts atom i → get_or accounts i (no_account atom) ≡ account_at accounts atom
unfolding EachOnce
account_is [] atom i once at = absurd (omega (arith, at.0))
account_is (a ∷ rest) atom zero once at = rw at.1 refl
account_is (a ∷ rest) atom (suc i) once at =
    let later : StandsAt rest atom i = (omega (arith, at.0), at.1) in
    elim (cases_Bool (is_account_of atom a)) [
      | inl hit ↦
          let none : is_open rest atom ≡ false = same_open rest atom a.atom (sym (eqb-true _ _ hit)) ∙ once.0 in
          let some = stands_open rest atom i later in
          absurd cc
      | inr miss ↦ rw miss (account_is rest atom i once.1 later)
    ]

pub no_account_at : (accounts : List Account) (atom : AtomNo) → is_open accounts atom ≡ false → account_at accounts atom ≡ no_account atom
no_account_at [] atom none = refl
no_account_at (a ∷ rest) atom none = elim (cases_Bool (is_account_of atom a)) [
  | inl hit ↦ let e = rw hit at none in absurd cc
  | inr miss ↦ let e = rw miss at none in rw miss (no_account_at rest atom e)
]

pub removed : (accounts : List Account) (atom : AtomNo) (i : ℕ) → EachOnce accounts → StandsAt accounts atom i → remove accounts i ≡ without_account atom accounts
unfolding EachOnce
removed [] atom i once at = absurd (omega (arith, at.0))
removed (a ∷ rest) atom zero once at =
    let none : is_open rest atom ≡ false = same_open rest atom a.atom (sym (eqb-true _ _ at.1)) ∙ once.0 in
    rw at.1 (sym (none_without atom rest none))
removed (a ∷ rest) atom (suc i) once at =
    let later : StandsAt rest atom i = (omega (arith, at.0), at.1) in
    elim (cases_Bool (is_account_of atom a)) [
      | inl hit ↦
          let none : is_open rest atom ≡ false = same_open rest atom a.atom (sym (eqb-true _ _ hit)) ∙ once.0 in
          let some = stands_open rest atom i later in
          absurd cc
      | inr miss ↦ rw miss (ap (λ (others : List Account). a ∷ others) (removed rest atom i once.1 later))
    ]

-- ---- an account in place of its atom's

none_placed : (accounts : List Account) (a : Account) → is_open accounts a.atom ≡ false → map (in_place a) accounts ≡ accounts
none_placed [] a none = refl
none_placed (b ∷ rest) a none = elim (cases_Bool (is_account_of a.atom b)) [
  | inl hit ↦ let e = rw hit at none in absurd cc
  | inr miss ↦ let e = rw miss at none in rw miss (ap (λ (others : List Account). b ∷ others) (none_placed rest a e))
]

pub placed : (accounts : List Account) (a : Account) (i : ℕ) → EachOnce accounts → StandsAt accounts a.atom i → set accounts i a ≡ map (in_place a) accounts
unfolding EachOnce
placed [] a i once at = absurd (omega (arith, at.0))
placed (b ∷ rest) a zero once at =
    let none : is_open rest a.atom ≡ false = same_open rest a.atom b.atom (sym (eqb-true _ _ at.1)) ∙ once.0 in
    rw at.1 (ap (λ (others : List Account). a ∷ others) (sym (none_placed rest a none)))
placed (b ∷ rest) a (suc i) once at =
    let later : StandsAt rest a.atom i = (omega (arith, at.0), at.1) in
    elim (cases_Bool (is_account_of a.atom b)) [
      | inl hit ↦
          let none : is_open rest a.atom ≡ false = same_open rest a.atom b.atom (sym (eqb-true _ _ hit)) ∙ once.0 in
          let some = stands_open rest a.atom i later in
          absurd cc
      | inr miss ↦ rw miss (ap (λ (others : List Account). b ∷ others) (placed rest a i once.1 later))
    ]

same_atom : (a b : Account) → (in_place a b).atom.0 ≡ b.atom.0
same_atom a b = elim (cases_Bool (is_account_of a.atom b)) [ inl hit ↦ rw hit (sym (eqb-true _ _ hit)) | inr miss ↦ rw miss refl ]

open_placed : (accounts : List Account) (a : Account) (atom : AtomNo) → is_open (map (in_place a) accounts) atom ≡ is_open accounts atom
open_placed [] a atom = refl
open_placed (b ∷ rest) a atom =
    let here : is_account_of atom (in_place a b) ≡ is_account_of atom b = ap (λ (n : ℕ). eqb n atom.0) (same_atom a b) in
    rw (here, open_placed rest a atom) refl

once-placed : (accounts : List Account) (a : Account) → EachOnce accounts → EachOnce (map (in_place a) accounts)
unfolding EachOnce
once-placed [] a once = once
once-placed (b ∷ rest) a once =
    (open_placed rest a (in_place a b).atom ∙ same_open rest (in_place a b).atom b.atom (same_atom a b) ∙ once.0, once-placed rest a once.1)

dues-placed : (bitmaps : ℕ) (accounts : List Account) (a : Account) → EachOnce accounts → is_open accounts a.atom ≡ true
    → dues bitmaps (map (in_place a) accounts) + due_of bitmaps (account_at accounts a.atom) ≡ dues bitmaps accounts + due_of bitmaps a
unfolding EachOnce
dues-placed bitmaps [] a once hit = absurd cc
dues-placed bitmaps (b ∷ rest) a once some = elim (cases_Bool (is_account_of a.atom b)) [
  | inl hit ↦
      let none : is_open rest a.atom ≡ false = same_open rest a.atom b.atom (sym (eqb-true _ _ hit)) ∙ once.0 in
      let same : map (in_place a) rest ≡ rest = none_placed rest a none in
      let all = dues-cons bitmaps b rest in
      let new = dues-cons bitmaps a rest in
      rw (hit, same) (omega arith)
  | inr miss ↦
      let e = rw miss at some in
      let ih = dues-placed bitmaps rest a once.1 e in
      let all = dues-cons bitmaps b rest in
      let new = dues-cons bitmaps b (map (in_place a) rest) in
      rw miss (omega arith)
]

-- ---- no atom above the highest

pub upto_add : (highest more : ℕ) (accounts : List Account) (a : Account) → AreUpTo highest accounts → highest ≤ more → a.atom.0 ≤ more → AreUpTo more (accounts ++ a ∷ [])
upto_add highest more accounts a are le within = All-push (λ (x : Account). x.atom.0 ≤ more) accounts a (λ k d lt. let one = are k d lt in omega arith) within

pub upto_without : (highest : ℕ) (accounts : List Account) (atom : AtomNo) → AreUpTo highest accounts → AreUpTo highest (without_account atom accounts)
upto_without highest accounts atom are = All-filter (λ (a : Account). not (is_account_of atom a)) (λ (a : Account). a.atom.0 ≤ highest) accounts are

upto_placed : (highest more : ℕ) (accounts : List Account) (a : Account) → AreUpTo highest accounts → highest ≤ more → AreUpTo more (map (in_place a) accounts)
upto_placed highest more accounts a are le = λ k d lt.
    let size = length-map accounts (in_place a) in
    let at : get_or (map (in_place a) accounts) k d ≡ in_place a (get_or accounts k d) = get_or-map (in_place a) accounts k d d (omega arith) in
    let one = are k d (omega arith) in
    let same = same_atom a (get_or accounts k d) in
    rw at (omega arith)

pub upto_with : (highest more : ℕ) (accounts : List Account) (a : Account) → AreUpTo highest accounts → highest ≤ more → a.atom.0 ≤ more → AreUpTo more (with_account accounts a)
upto_with highest more accounts a are le within = elim (cases_Bool (is_open accounts a.atom)) [
  | inl there ↦ rw there (upto_placed highest more accounts a are le)
  | inr new ↦ rw new (upto_add highest more accounts a are le within)
]

pub none_above : (highest : ℕ) (accounts : List Account) (atom : AtomNo) → AreUpTo highest accounts → highest < atom.0 → is_open accounts atom ≡ false
none_above highest [] atom are above = refl
none_above highest (a ∷ rest) atom are above =
    let here = are 0 a (omega arith) in
    let miss : is_account_of atom a ≡ false = ne_eqb _ _ (omega arith) in
    rw miss (none_above highest rest atom (λ k d lt. are (suc k) d (omega arith)) above)

-- ---- the books as a whole

-- what one atom takes up is a part of what all take up
pub due_small : (bitmaps owed spare room room_sealed : ℕ) (atoms : List Account) (sealed : List AtomNo) (atom : AtomNo) → IsBooks bitmaps atoms sealed owed spare room room_sealed
    → (due_of bitmaps (account_at atoms atom) ≤ owed) × ((account_at atoms atom).cells ≤ 1048576) × ((account_at atoms atom).fresh ≤ 1048576)
due_small bitmaps owed spare room room_sealed atoms sealed atom is =
    let all = dues-without bitmaps atom atoms is.once in
    let counted = is.counted in
    let small = is.small in
    let numbers = numbers_small bitmaps (account_at atoms atom) in
    let one = numbers.0 in
    let two = numbers.1 in
    (omega arith, omega arith, omega arith)

-- the account of an atom goes
pub books_without : (bitmaps owed spare room room_sealed : ℕ) (atoms : List Account) (sealed : List AtomNo) (atom : AtomNo) → IsBooks bitmaps atoms sealed owed spare room room_sealed
    → IsBooks bitmaps (without_account atom atoms) sealed (owed - due_of bitmaps (account_at atoms atom)) spare room room_sealed
books_without bitmaps owed spare room room_sealed atoms sealed atom is =
    let all = dues-without bitmaps atom atoms is.once in
    let fewer = length-without atom atoms in
    let counted = is.counted in
    let small = is.small in
    let enough = is.enough in
    let enough_sealed = is.enough_sealed in
    record {
      few = is.few;
      once = once-without atom atoms is.once;
      counted = omega arith;
      small = omega arith;
      enough = omega arith;
      enough_sealed = omega arith;
    }

-- an account comes, of an atom that has none
pub books_with : (bitmaps owed spare room room_sealed less more : ℕ) (atoms : List Account) (sealed : List AtomNo) (a : Account) → IsBooks bitmaps atoms sealed owed spare room room_sealed
    → is_open atoms a.atom ≡ false → owed + due_of bitmaps a ≤ 1048576 → room ≤ more → less + 1 ≤ spare
    → IsBooks bitmaps (atoms ++ a ∷ []) sealed (owed + due_of bitmaps a) less more room_sealed
books_with bitmaps owed spare room room_sealed less more atoms sealed a is closed fits grows left =
    let all = dues-add bitmaps atoms a in
    let size = length-append atoms (a ∷ []) in
    let counted = is.counted in
    let enough = is.enough in
    let enough_sealed = is.enough_sealed in
    record {
      few = is.few;
      once = once-add atoms a is.once closed;
      counted = omega arith;
      small = fits;
      enough = omega arith;
      enough_sealed = omega arith;
    }

-- one of the calls for which there is room is used up
pub books_used : (bitmaps owed spare room room_sealed : ℕ) (atoms : List Account) (sealed : List AtomNo) → IsBooks bitmaps atoms sealed owed spare room room_sealed → IsBooks bitmaps atoms sealed owed (spare - 1) room room_sealed
books_used bitmaps owed spare room room_sealed atoms sealed is =
    let enough = is.enough in
    let enough_sealed = is.enough_sealed in
    record { few = is.few; once = is.once; counted = is.counted; small = is.small; enough = omega arith; enough_sealed = omega arith }

-- where an atom is open, there is room for one call more after its account went
pub books_freed : (bitmaps owed spare room room_sealed : ℕ) (atoms : List Account) (sealed : List AtomNo) (atom : AtomNo) → IsBooks bitmaps atoms sealed owed spare room room_sealed → is_open atoms atom ≡ true
    → IsBooks bitmaps (without_account atom atoms) sealed (owed - due_of bitmaps (account_at atoms atom)) (spare + 1) room room_sealed
books_freed bitmaps owed spare room room_sealed atoms sealed atom is open_atom =
    let less = books_without bitmaps owed spare room room_sealed atoms sealed atom is in
    let fewer = length-without_open atom atoms open_atom in
    let enough = is.enough in
    let enough_sealed = is.enough_sealed in
    record { few = less.few; once = less.once; counted = less.counted; small = less.small; enough = omega arith; enough_sealed = omega arith }

-- the account in place of its atom's
pub books_put : (bitmaps owed spare room room_sealed less more after : ℕ) (atoms : List Account) (sealed : List AtomNo) (a : Account) → IsBooks bitmaps atoms sealed owed spare room room_sealed
    → owed - due_of bitmaps (account_at atoms a.atom) + due_of bitmaps a ≡ after → after ≤ 1048576 → room ≤ more → less + 1 ≤ spare
    → IsBooks bitmaps (with_account atoms a) sealed after less more room_sealed
books_put bitmaps owed spare room room_sealed less more after atoms sealed a is sum fits grows left = elim (cases_Bool (is_open atoms a.atom)) [
  | inl there ↦
      let all = dues-placed bitmaps atoms a is.once there in
      let part = (due_small bitmaps owed spare room room_sealed atoms sealed a.atom is).0 in
      let size = length-map atoms (in_place a) in
      let counted = is.counted in
      let enough = is.enough in
      let enough_sealed = is.enough_sealed in
      rw there (record { few = is.few; once = once-placed atoms a is.once; counted = omega arith; small = fits; enough = omega arith; enough_sealed = omega arith })
  | inr new ↦
      let nothing : due_of bitmaps (account_at atoms a.atom) ≡ 0 = ap (due_of bitmaps) (no_account_at atoms a.atom new) in
      let same : owed + due_of bitmaps a ≡ after = omega arith in
      rw (new, ← same) (books_with bitmaps owed spare room room_sealed less more atoms sealed a is new (omega arith) grows left)
]

-- the account of `gone` is added to that of `kept`
pub books_merged : (bitmaps owed spare room room_sealed more : ℕ) (atoms : List Account) (sealed : List AtomNo) (kept gone : AtomNo) → IsBooks bitmaps atoms sealed owed spare room room_sealed
    → kept.0 ≢ gone.0 → is_open atoms gone ≡ true → room ≤ more
    → IsBooks bitmaps (with_account (without_account gone atoms) (sum_account kept (account_at atoms kept) (account_at atoms gone))) sealed
    (owed - due_of bitmaps (account_at atoms kept) - due_of bitmaps (account_at atoms gone) + due_of bitmaps (sum_account kept (account_at atoms kept) (account_at atoms gone))) spare more room_sealed
books_merged bitmaps owed spare room room_sealed more atoms sealed kept gone is ne open_gone grows =
    let out = books_freed bitmaps owed spare room room_sealed atoms sealed gone is open_gone in
    let other : account_at (without_account gone atoms) kept ≡ account_at atoms kept = other_account kept gone atoms ne in
    let own = (due_small bitmaps owed spare room room_sealed atoms sealed gone is).0 in
    let part = due_small bitmaps (owed - due_of bitmaps (account_at atoms gone)) (spare + 1) room room_sealed (without_account gone atoms) sealed kept out in
    let part_too : due_of bitmaps (account_at atoms kept) ≤ owed - due_of bitmaps (account_at atoms gone) = rw (← other) part.0 in
    let less = due_together bitmaps kept (account_at atoms kept) (account_at atoms gone) in
    let small = is.small in
    let same : due_of bitmaps (account_at (without_account gone atoms) kept) ≡ due_of bitmaps (account_at atoms kept) = ap (due_of bitmaps) other in
    books_put bitmaps (owed - due_of bitmaps (account_at atoms gone)) (spare + 1) room room_sealed spare more (owed - due_of bitmaps (account_at atoms kept) - due_of bitmaps (account_at atoms gone) + due_of bitmaps (sum_account kept (account_at atoms kept) (account_at atoms gone))) (without_account gone atoms) sealed (sum_account kept (account_at atoms kept) (account_at atoms gone)) out (omega arith) (omega arith) grows (omega arith)

-- an open atom is sealed
pub books_sealed : (bitmaps owed spare room room_sealed more : ℕ) (atoms : List Account) (sealed : List AtomNo) (atom : AtomNo) → IsBooks bitmaps atoms sealed owed spare room room_sealed → is_open atoms atom ≡ true → room_sealed ≤ more
    → IsBooks bitmaps (without_account atom atoms) (sealed ++ atom ∷ []) (owed - due_of bitmaps (account_at atoms atom)) spare room more
books_sealed bitmaps owed spare room room_sealed more atoms sealed atom is open_atom grows =
    let out = books_freed bitmaps owed spare room room_sealed atoms sealed atom is open_atom in
    let size = length-append sealed (atom ∷ []) in
    let enough = out.enough in
    let enough_sealed = out.enough_sealed in
    record { few = out.few; once = out.once; counted = out.counted; small = out.small; enough = omega arith; enough_sealed = omega arith }

-- no atom is open or sealed
pub books_none : (bitmaps room room_sealed : ℕ) → bitmaps ≤ 64 → IsBooks bitmaps [] [] 0 0 room room_sealed
unfolding EachOnce
books_none bitmaps room room_sealed few =
    let none = dues-none bitmaps in
    record { few = few; once = tt; counted = sym none; small = omega arith; enough = omega arith; enough_sealed = omega arith }

-- a sealed atom is forgotten
pub books_forgotten : (bitmaps owed spare room room_sealed : ℕ) (atoms : List Account) (sealed rest : List AtomNo) → IsBooks bitmaps atoms sealed owed spare room room_sealed → length rest ≤ length sealed → IsBooks bitmaps atoms rest owed spare room room_sealed
books_forgotten bitmaps owed spare room room_sealed atoms sealed rest is fewer =
    let enough_sealed = is.enough_sealed in
    record { few = is.few; once = is.once; counted = is.counted; small = is.small; enough = is.enough; enough_sealed = omega arith }

-- an atom settles, with the account that it may have
pub books_settled : (bitmaps owed spare room room_sealed : ℕ) (atoms : List Account) (sealed : List AtomNo) (atom : AtomNo) → IsBooks bitmaps atoms sealed owed spare room room_sealed
    → IsBooks bitmaps (without_account atom atoms) (without_atom atom sealed) (owed - due_of bitmaps (account_at atoms atom)) spare room room_sealed
books_settled bitmaps owed spare room room_sealed atoms sealed atom is =
    let count = length-filter (λ (a : AtomNo). not (is_atom atom a)) sealed in
    let most = count_by-le-length (λ (a : AtomNo). not (is_atom atom a)) sealed in
    books_forgotten bitmaps (owed - due_of bitmaps (account_at atoms atom)) spare room room_sealed (without_account atom atoms) sealed (without_atom atom sealed)
    (books_without bitmaps owed spare room room_sealed atoms sealed atom is) (omega arith)

-- a charge: the new numbers take the place of the old ones
pub books_charged : (bitmaps owed spare room room_sealed more before after need free : ℕ) (atoms : List Account) (sealed : List AtomNo) (a : Account) → IsBooks bitmaps atoms sealed owed spare room room_sealed
    → before ≡ due_of bitmaps (account_at atoms a.atom) → after ≡ due_of bitmaps a → need ≡ after - before → need ≤ free → free + owed ≤ 1048576 → room ≤ more → 0 < spare
    → IsBooks bitmaps (with_account atoms a) sealed (owed - before + after) (spare - 1) more room_sealed
books_charged bitmaps owed spare room room_sealed more before after need free atoms sealed a is was new needs enough fits grows some =
    let part = (due_small bitmaps owed spare room room_sealed atoms sealed a.atom is).0 in
    let small = is.small in
    books_put bitmaps owed spare room room_sealed (spare - 1) more (owed - before + after) atoms sealed a is (omega arith) (omega arith) grows (omega arith)

-- an atom is opened
pub books_opened : (bitmaps owed spare room room_sealed more : ℕ) (atoms : List Account) (sealed : List AtomNo) (atom : AtomNo) → IsBooks bitmaps atoms sealed owed spare room room_sealed
    → is_open atoms atom ≡ false → room ≤ more → 0 < spare → IsBooks bitmaps (atoms ++ no_account atom ∷ []) sealed owed (spare - 1) more room_sealed
books_opened bitmaps owed spare room room_sealed more atoms sealed atom is closed grows some =
    let small = is.small in
    let same : owed + due_of bitmaps (no_account atom) ≡ owed = omega arith in
    let one = books_with bitmaps owed spare room room_sealed (spare - 1) more atoms sealed (no_account atom) is closed (omega arith) grows (omega arith) in
    rw same at one

-- both accounts are small, and so is their sum
pub record SmallPair (owed had left sum : ℕ) (a b : Account) : Type 0 where
  pub first : (a.cells ≤ 1048576) × (a.fresh ≤ 1048576)
  pub second : (b.cells ≤ 1048576) × (b.fresh ≤ 1048576)
  pub part : had ≤ owed
  pub rest : left ≤ owed - had

pub small_pair : (bitmaps owed spare room room_sealed : ℕ) (atoms : List Account) (sealed : List AtomNo) (kept gone : AtomNo) → IsBooks bitmaps atoms sealed owed spare room room_sealed → kept.0 ≢ gone.0
    → SmallPair owed (due_of bitmaps (account_at atoms kept)) (due_of bitmaps (account_at atoms gone)) (due_of bitmaps (sum_account kept (account_at atoms kept) (account_at atoms gone))) (account_at atoms kept) (account_at atoms gone)
small_pair bitmaps owed spare room room_sealed atoms sealed kept gone is ne =
    let one = due_small bitmaps owed spare room room_sealed atoms sealed kept is in
    let two = due_small bitmaps owed spare room room_sealed atoms sealed gone is in
    let out = books_without bitmaps owed spare room room_sealed atoms sealed kept is in
    let other : account_at (without_account kept atoms) gone ≡ account_at atoms gone = other_account gone kept atoms (λ e. ne (sym e)) in
    let part = due_small bitmaps (owed - due_of bitmaps (account_at atoms kept)) spare room room_sealed (without_account kept atoms) sealed gone out in
    let rest : due_of bitmaps (account_at atoms gone) ≤ owed - due_of bitmaps (account_at atoms kept) = rw (← other) part.0 in
    record { first = (one.1, one.2); second = (two.1, two.2); part = one.0; rest = rest }
