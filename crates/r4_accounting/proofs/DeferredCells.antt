-- The blocks of cells are deferred, one after another.
use Rattle.std.proofs.Common.{◌≡◌, ◌+◌, ◌-◌, ◌<◌, ◌≤◌, ◌++◌, ◌∷◌, ◌∙◌, ◌&&◌, ◌||◌, ℕ, Bool, List, [], arith, cond, drop}
use Rattle.std.proofs.Common.{eqb, false, get_or, length, map, not, refl, sym, take, true, ap}
use Rattle.std.specs.Arc.{arc_value}
use Rattle.std.proofs.lemmas.Bool.{cond-true, eqb-true}
use Rattle.std.proofs.lemmas.List.{append_assoc, length-append, map-append, take-append-drop}
use Rattle.std.proofs.lemmas.List.Elements.{filter-append}
use Rattle.r4_base.specs.declared.things.AtomNo.{AtomNo}
use Rattle.r4_done.specs.r4_buffer.Changed.{has_name}
use Rattle.r4_done.specs.r4_buffer.Seen.{cells_of}
use Rattle.r4_cell.specs.Seen.{CellSeen}
use Rattle.r4_done.specs.r4_search.Keeping.{Shared}
use Rattle.r4_space.specs.Accounts.{is_open, with_atom}
use Rattle.r4_space.specs.Space.{Space, is_taken, with_deferred}
use Rattle.r4_space.specs.declared.things.Account.{Account}
use Rattle.r4_space.proofs.UsedLaws.{deferred_used}
use Rattle.r4_space.specs.declared.things.Claim.{Claim}
use Rattle.r4_accounting.specs.Accounting.{HasDeferred, claim_of, deferring, freed, frees, is_fresh}
use Rattle.r4_accounting.proofs.CellLists.{cells_more}

pub deferred_more : (s : Space) (atom : AtomNo) (xs ys : List CellSeen)
    → deferring (deferring s atom xs) atom ys ≡ deferring s atom (xs ++ ys)
deferred_more s atom xs ys =
    let all = length-append xs ys in
    ap (λ (l : List Claim). record s { deferred = l; spare = s.spare - length xs - length ys })
    (append_assoc s.deferred (map (claim_of atom) xs) (map (claim_of atom) ys)
    ∙ ap (λ (l : List Claim). s.deferred ++ l) (sym (map-append (claim_of atom) xs ys)))
    ∙ ap (λ (n : ℕ). record s { deferred = s.deferred ++ map (claim_of atom) (xs ++ ys); spare = n })
    (omega (arith, all))

-- a space in which the same blocks are used frees the same
same_freed : (s t : Space) (xs new : List CellSeen) → ((b : ℕ) → is_taken t b ≡ is_taken s b)
    → freed t xs new ≡ freed s xs new
same_freed s t [] new same = refl
same_freed s t (x ∷ xs) new same =
    ap (λ (b : Bool). cond (not (is_fresh x) && (not (has_name new x.id) && b)) (x ∷ freed t xs new) (freed t xs new))
    (same x.id)
    ∙ ap (λ (l : List CellSeen). cond (frees s new x) (x ∷ l) l) (same_freed s t xs new same)

pub deferred_both : (s t u : Space) (atom : AtomNo) (xs ys new : List CellSeen) → HasDeferred s t atom xs new
    → HasDeferred t u atom ys new → HasDeferred s u atom (xs ++ ys) new
deferred_both s t u atom xs ys new h k = record {
  is = k.is
      ∙ ap (λ (l : List CellSeen). deferring t atom l) (same_freed s t ys new h.taken)
      ∙ ap (λ (v : Space). deferring v atom (freed s ys new)) h.is
      ∙ deferred_more s atom (freed s xs new) (freed s ys new)
      ∙ ap (λ (l : List CellSeen). deferring s atom l) (sym (filter-append (frees s new) xs ys));
  taken = λ b. k.taken b ∙ h.taken b;
}

-- there is room for the next one
pub room_left : (s t : Space) (atom : AtomNo) (xs : List Shared) (new : List CellSeen) (i : ℕ) (d : Shared)
    → i < length xs → HasDeferred s t atom (cells_of (take i xs)) new
    → length (freed s (cells_of xs) new) ≤ s.spare
    → length (freed t (arc_value (get_or xs i d) ∷ []) new) ≤ t.spare
room_left s t atom xs new i d lt h room =
    let x = arc_value (get_or xs i d) in
    let first = cells_of (take i xs) in
    let rest = cells_of (drop (i + 1) xs) in
    let split = ap (λ (l : List CellSeen). length (freed s l new))
    (ap (λ (l : List Shared). cells_of l) (sym (take-append-drop (i + 1) xs))
    ∙ map-append (λ (y : Shared). arc_value y) (take (i + 1) xs) (drop (i + 1) xs)
    ∙ ap (λ (l : List CellSeen). l ++ rest) (cells_more xs i d lt)) in
    let cut = ap (λ (l : List CellSeen). length l) (filter-append (frees s new) (first ++ x ∷ []) rest) in
    let sum = length-append (freed s (first ++ x ∷ []) new) (freed s rest new) in
    let cut2 = ap (λ (l : List CellSeen). length l) (filter-append (frees s new) first (x ∷ [])) in
    let sum2 = length-append (freed s first new) (freed s (x ∷ []) new) in
    let same = ap (λ (l : List CellSeen). length l) (same_freed s t (x ∷ []) new h.taken) in
    let left = ap (λ (v : Space). v.spare) h.is in
    omega (arith, split, cut, sum, cut2, sum2, same, left, room)

last_of : (a b c : Bool) → (a && (b && c)) ≡ true → c ≡ true
last_of false b c h = absurd (cc h)
last_of true false c h = absurd (cc h)
last_of true true c h = h

taken_still : (x y : Bool) → (y ≡ true → x ≡ true) → (x || y) ≡ x
taken_still true y h = refl
taken_still false true h = sym (h refl)
taken_still false false h = refl

-- one cell goes
pub deferred_one : (s t : Space) (atom : AtomNo) (x : CellSeen) (new : List CellSeen) → is_open s.atoms atom ≡ true
    → frees s new x ≡ true → t ≡ with_deferred s atom (record { 0 = x.id }) → HasDeferred s t atom (x ∷ []) new
deferred_one s t atom x new known goes are =
    let used = last_of (not (is_fresh x)) (not (has_name new x.id)) (is_taken s x.id) goes in
    let same : with_atom s.atoms s.sealed atom ≡ s.atoms = rw known refl in
    record {
      is = are
          ∙ ap (λ (l : List Account).
          record s { deferred = s.deferred ++ claim_of atom x ∷ []; atoms = l; spare = s.spare - 1 }) same
          ∙ ap (λ (l : List CellSeen). deferring s atom l) (sym (cond-true (frees s new x) (x ∷ []) [] goes));
      taken = λ k. ap (λ (v : Space). is_taken v k) are
          ∙ deferred_used s atom (record { 0 = x.id }) k
          ∙ taken_still (is_taken s k) (eqb k x.id) (λ e. ap (is_taken s) (eqb-true k x.id e) ∙ used);
    }
