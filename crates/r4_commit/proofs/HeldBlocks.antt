-- Blocks that are held for an atom, one more at a time.
use Rattle.std.proofs.Common.{◌≡◌, ◌≢◌, ◌⊎◌, inl, inr, ⊎_elim, ℕ, zero, suc, ◌+◌, ◌-◌, ◌≤◌, ◌<◌, Bool, true, false, ◌||◌, List, [], ◌∷◌, ◌++◌, length, map, take, get_or, refl, sym, ap, ◌∙◌, subst, append_assoc, length-append, arith}
use Rattle.std.specs.Prelude.{Contains, All}
use Rattle.std.proofs.lemmas.Bool.{cases_Bool, cases_eq, cases_lt, eq-eqb, ne_eqb, or_left}
use Rattle.std.proofs.lemmas.List.{length-map, map-append, take_more}
use Rattle.std.proofs.lemmas.List.Folds.{list_any-append}
use Rattle.r4_base.specs.Image.{AreDifferent}
use Rattle.r4_base.specs.declared.things.AtomNo.{AtomNo}
use Rattle.r4_base.specs.declared.things.BlockNo.{BlockNo}
use Rattle.r4_base.proofs.Members.{member_cases, member_here, member_later, no_member}
use Rattle.r4_space.specs.declared.things.Account.{Account}
use Rattle.r4_space.specs.declared.things.Claim.{Claim}
use Rattle.r4_space.specs.Accounts.{is_account_of, is_open, is_sealed, no_account, with_atom}
use Rattle.r4_space.specs.Space.{Space, is_block, is_claimed, is_taken, is_taken_by, with_held}
use Rattle.r4_space.specs.Words.{IsNextClear}
use Rattle.r4_commit.specs.Planned.{IsUnused, with_all_held}

abbrev pub claim : AtomNo → ℕ → Claim
claim atom b = record { atom = atom; block = record { 0 = b } }

-- ---- an atom is opened once

or_one : (a b : Bool) → b ≡ true → (a || (b || false)) ≡ true
or_one true b e = refl
or_one false true e = refl
or_one false false e = absurd cc

open_now : (accounts : List Account) (atom : AtomNo) → is_open (accounts ++ no_account atom ∷ []) atom ≡ true
open_now accounts atom = list_any-append (is_account_of atom) accounts (no_account atom ∷ []) ∙ or_one (is_open accounts atom) (is_account_of atom (no_account atom)) (eq-eqb _ _ refl)

opened_once : (accounts : List Account) (sealed : List AtomNo) (atom : AtomNo) → with_atom (with_atom accounts sealed atom) sealed atom ≡ with_atom accounts sealed atom
opened_once accounts sealed atom = elim (cases_Bool (is_open accounts atom || is_sealed sealed atom)) [
  | inl there ↦ rw (there, there) refl
  | inr not_there ↦ rw (not_there, or_left (is_open (accounts ++ no_account atom ∷ []) atom) (is_sealed sealed atom) (open_now accounts atom)) refl
]

-- ---- which blocks are taken then

pub four_false : (a b c d : Bool) → (a || (b || (c || d))) ≡ false → (a ≡ false) × (b ≡ false) × (c ≡ false) × (d ≡ false)
four_false false false false false e = (refl, refl, refl, refl)
four_false true b c d e = absurd cc
four_false false true c d e = absurd cc
four_false false false true d e = absurd cc
four_false false false false true e = absurd cc

four_clear : (a b c d : Bool) → a ≡ false → b ≡ false → c ≡ false → d ≡ false → (a || (b || (c || d))) ≡ false
four_clear a b c d one two three last = rw (one, two, three, last) refl

both_clear : (a b : Bool) → a ≡ false → b ≡ false → (a || b) ≡ false
both_clear a b one two = rw (one, two) refl

not_claimed : (atom : AtomNo) (bs : List ℕ) (k : ℕ) → (Contains bs k → ⊥) → is_claimed (map (claim atom) bs) k ≡ false
not_claimed atom [] k out = refl
not_claimed atom (b ∷ bs) k out = both_clear (is_block k (claim atom b)) (is_claimed (map (claim atom) bs) k) (ne_eqb b k (λ is. out (member_here b bs k (sym is)))) (not_claimed atom bs k (λ h. out (member_later b bs k h)))

-- a block that was not taken, and is none of those that are held
pub still_clear : (s : Space) (atom : AtomNo) (bs : List ℕ) (k : ℕ) → is_taken s k ≡ false → (Contains bs k → ⊥) → is_taken (record s { held = s.held ++ map (claim atom) bs }) k ≡ false
unfolding is_taken_by
still_clear s atom bs k clear out =
    let four = four_false (get_or s.marked k false) (get_or s.placed k false) (is_claimed s.held k) (is_claimed s.deferred k) clear in
    let held : is_claimed (s.held ++ map (claim atom) bs) k ≡ false = list_any-append (is_block k) s.held (map (claim atom) bs) ∙ both_clear (is_claimed s.held k) (is_claimed (map (claim atom) bs) k) four.2 (not_claimed atom bs k out) in
    four_clear (get_or s.marked k false) (get_or s.placed k false) (is_claimed (s.held ++ map (claim atom) bs) k) (is_claimed s.deferred k) four.0 four.1 held four.3

-- the next one from a block on that is not taken is that block
pub next_is : (set : ℕ → Bool) (n near i : ℕ) → IsNextClear set n near i → near < n → set near ≡ false → i ≡ near
next_is set n near i next lt clear = elim (cases_eq i near) [
  | inl is ↦ is
  | inr other ↦ absurd (go (omega_cases i near other))
]
  where
    omega_cases : (i near : ℕ) → i ≢ near → (i < near) ⊎ (near < i)
    omega_cases i near other = elim (cases_lt i near) [ inl lt ↦ inl lt | inr ge ↦ inr (omega (arith, ge, other)) ]

    go : (i < near) ⊎ (near < i) → ⊥
    go (inl below) = let full = (next.around below).0 near (omega arith) lt in absurd (cc (sym full ∙ clear))
    go (inr above) = let full = next.ahead (omega (arith, above)) near (omega arith) above in absurd (cc (sym full ∙ clear))

-- ---- one more

-- The space from which blocks were held, and how it stands with these held.
pub record IsHolding (s now : Space) (atom : AtomNo) (blocks : List ℕ) : Type 0 where
  pub block_count : now.block_count ≡ s.block_count
  pub marked : now.marked ≡ s.marked
  pub placed : now.placed ≡ s.placed
  pub held : now.held ≡ s.held ++ map (claim atom) blocks
  pub deferred : now.deferred ≡ s.deferred
  pub sealed : now.sealed ≡ s.sealed
  pub opens : with_atom now.atoms s.sealed atom ≡ with_atom s.atoms s.sealed atom
  pub opened : 1 ≤ length blocks → now.atoms ≡ with_atom s.atoms s.sealed atom
  pub spare : now.spare + length blocks ≡ s.spare

pub none_more : {X : Type 0} (xs : List X) → xs ++ [] ≡ xs
none_more [] = refl
none_more {X = X} (x ∷ xs) = ap (λ (l : List X). x ∷ l) (none_more xs)

pub holding_none : (s : Space) (atom : AtomNo) → IsHolding s s atom []
holding_none s atom = record {
  block_count = refl;
  marked = refl;
  placed = refl;
  held = sym (none_more s.held);
  deferred = refl;
  sealed = refl;
  opens = refl;
  opened = λ some. absurd (omega (arith, some));
  spare = omega arith;
}

pub holding_more : (s now new : Space) (atom : AtomNo) (blocks : List ℕ) (b : BlockNo) → IsHolding s now atom blocks → new ≡ with_held now atom b → 1 ≤ now.spare → IsHolding s new atom (blocks ++ b.0 ∷ [])
holding_more s now new atom blocks b h is some =
    let atoms : new.atoms ≡ with_atom s.atoms s.sealed atom = ap (λ (t : Space). t.atoms) is ∙ ap (λ (l : List AtomNo). with_atom now.atoms l atom) h.sealed ∙ h.opens in
    let longer = length-append blocks (b.0 ∷ []) in
    let spare : new.spare ≡ now.spare - 1 = ap (λ (t : Space). t.spare) is in
    record {
      block_count = ap (λ (t : Space). t.block_count) is ∙ h.block_count;
      marked = ap (λ (t : Space). t.marked) is ∙ h.marked;
      placed = ap (λ (t : Space). t.placed) is ∙ h.placed;
      held = ap (λ (t : Space). t.held) is ∙ ap (λ (l : List Claim). l ++ claim atom b.0 ∷ []) h.held ∙ append_assoc s.held (map (claim atom) blocks) (claim atom b.0 ∷ []) ∙ ap (λ (l : List Claim). s.held ++ l) (sym (map-append (claim atom) blocks (b.0 ∷ [])));
      deferred = ap (λ (t : Space). t.deferred) is ∙ h.deferred;
      sealed = ap (λ (t : Space). t.sealed) is ∙ h.sealed;
      opens = ap (λ (l : List Account). with_atom l s.sealed atom) atoms ∙ opened_once s.atoms s.sealed atom;
      opened = λ more. atoms;
      spare = omega (arith, h.spare, spare, some, longer);
    }

-- a block that is neither taken nor held so far is not taken then
pub clear_held : (s now : Space) (atom : AtomNo) (blocks : List ℕ) (k : ℕ) → IsHolding s now atom blocks → is_taken s k ≡ false → (Contains blocks k → ⊥) → is_taken now k ≡ false
unfolding is_taken_by
clear_held s now atom blocks k h clear out =
    let still : is_taken_by s.marked s.placed (s.held ++ map (claim atom) blocks) s.deferred k ≡ false = still_clear s atom blocks k clear out in
    rw (h.marked, h.placed, h.held, h.deferred) still

pub held_all : (s now : Space) (atom : AtomNo) (blocks : List ℕ) (spare : ℕ) → IsHolding s now atom blocks → 1 ≤ length blocks → now.spare ≡ spare → now ≡ record (with_all_held s atom blocks) { spare = spare }
held_all s now atom blocks spare h some left = λ i. record {
  block_count = h.block_count i;
  marked = h.marked i;
  placed = h.placed i;
  held = h.held i;
  deferred = h.deferred i;
  atoms = h.opened some i;
  sealed = h.sealed i;
  spare = left i;
}

-- ---- the next of different blocks

abbrev pub number : BlockNo → ℕ
number b = b.0

pub numbers_more : (bs : List BlockNo) (i : ℕ) (d : BlockNo) → i < length bs → map number (take (i + 1) bs) ≡ map number (take i bs) ++ (get_or bs i d).0 ∷ []
numbers_more bs i d lt = ap (map number) (take_more bs i d lt) ∙ map-append number (take i bs) (get_or bs i d ∷ [])

-- a block in its list of numbers
pub number_in : (bs : List BlockNo) (i : ℕ) (d : BlockNo) (n : ℕ) → i < length bs → get_or (map number bs) i n ≡ (get_or bs i d).0
number_in [] i d n lt = absurd (omega (arith, lt))
number_in (b ∷ bs) zero d n lt = refl
number_in (b ∷ bs) (suc i) d n lt = number_in bs i d n (omega (arith, lt))

-- the number of a block in its list
pub number_at : (bs : List BlockNo) (k : ℕ) (b : BlockNo) → k < length bs → b ≡ get_or bs k b → get_or (map number bs) k 0 ≡ b.0
number_at [] k b lt is = absurd (omega (arith, lt))
number_at (x ∷ xs) zero b lt is = sym (ap number is)
number_at (x ∷ xs) (suc k) b lt is = number_at xs k b (omega (arith, lt)) is

pub unused_at : (s : Space) (bs : List BlockNo) (i : ℕ) (d : BlockNo) → All (IsUnused s) (map number bs) → i < length bs → IsUnused s (get_or bs i d).0
unused_at s bs i d unused lt = subst (IsUnused s) (number_in bs i d 0 lt) (unused i 0 (omega (arith, lt, length-map bs number)))

-- none of the blocks before is the same
pub not_before : (bs : List BlockNo) (i : ℕ) (d : BlockNo) → AreDifferent (map number bs) → i < length bs → Contains (map number (take i bs)) (get_or bs i d).0 → ⊥
not_before [] i d different lt h = absurd (omega (arith, lt))
not_before (x ∷ bs) zero d different lt h = no_member x.0 h
not_before (x ∷ bs) (suc i) d different lt h = ⊎_elim
    (λ same. different.0 (i, (let long = length-map bs number in omega (arith, lt, long)), number_in bs i d x.0 (omega (arith, lt)) ∙ same))
    (λ later. not_before bs i d different.1 (omega (arith, lt)) later)
    (member_cases x.0 (map number (take i bs)) (get_or bs i d).0 h)
