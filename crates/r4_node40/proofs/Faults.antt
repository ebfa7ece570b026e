-- What it says that a node has no fault, and what the reader answers.
use Rattle.std.proofs.Common.{◌≡◌, ℕ, zero, suc, ◌+◌, ◌-◌, ◌*◌, ◌<◌, ◌≤◌, Bool, true, false, cond, ◌&&◌, ◌||◌, not, eqb, List, length, Option, Some, None, refl, sym, ◌∙◌, arith, inl, inr}
use Rattle.std.proofs.lemmas.Bool.{and_parts, cases_eq, eq-eqb, eqb-true, leb-true, ltb-true, ne_eqb, not-false}
use Rattle.std.specs.Prelude.{nat_lt, nat_le}
use Rattle.r4_base.specs.declared.node.NodeFault.TheVariants.{Magic, Level, Empty, Space}
use Rattle.r4_base.specs.declared.node.NodeFault.{NodeFault}
use Rattle.r4_node40.specs.Laid.{IsPlaced, IsLaid}
use Rattle.r4_base.specs.Node.{count_of, start_of, free_of, then_fault, header_fault, item_fault, items_fault, node_fault, offset_at, offset_is_good, magic_is_good, level_is_good, is_empty_branch, space_is_good}
use Rattle.r4_base.proofs.Choices.{if_true}

pub chosen_none : (t : Bool) (f : NodeFault) (r : Option NodeFault) → cond t (Some f) r ≡ None → (t ≡ false) × (r ≡ None)
chosen_none true f r e = absurd cc
chosen_none false f r e = (refl, e)

then_none : (f g : Option NodeFault) → then_fault f g ≡ None → (f ≡ None) × (g ≡ None)
then_none None g e = (refl, e)
then_none (Some f) g e = absurd cc

pub record HeaderIsGood (b : List ℕ) : Type 0 where
  pub low : 28 ≤ start_of b
  pub sum : start_of b + free_of b + 38 * count_of b ≡ 4096

pub header_is_good : (b : List ℕ) → header_fault b ≡ None → HeaderIsGood b
unfolding header_fault
header_is_good b e =
    let space : Option NodeFault = cond (not (space_is_good b)) (Some Space) None in
    let empty : Option NodeFault = cond (is_empty_branch b) (Some Empty) space in
    let level : Option NodeFault = cond (not (level_is_good b)) (Some Level) empty in
    let first = chosen_none (not (magic_is_good b)) Magic level e in
    let second = chosen_none (not (level_is_good b)) Level empty first.1 in
    let third = chosen_none (is_empty_branch b) Empty space second.1 in
    let fourth = chosen_none (not (space_is_good b)) Space None third.1 in
    let both = and_parts (nat_le 28 (start_of b)) (eqb (start_of b + free_of b + 38 * count_of b) 4096) (not-false (space_is_good b) fourth.0) in
    record { low = leb-true _ _ both.0; sum = eqb-true _ _ both.1 }

-- ---- a loop over the items

pub passed : (b : List ℕ) (n i : ℕ) (total : Option NodeFault) → i < n → item_fault b i ≡ None → items_fault (n - i) i b ≡ total → items_fault (n - (i + 1)) (i + 1) b ≡ total
unfolding items_fault
passed b n i total lt ok so_far =
    let k : n - i ≡ suc (n - (i + 1)) = omega arith in
    let one : items_fault (n - i) i b ≡ items_fault (n - (i + 1)) (i + 1) b = rw (k, ok) refl in
    sym one ∙ so_far

pub stopped : (b : List ℕ) (n i : ℕ) (f : NodeFault) (total : Option NodeFault) → i < n → item_fault b i ≡ Some f → items_fault (n - i) i b ≡ total → Some f ≡ total
unfolding items_fault
stopped b n i f total lt e so_far =
    let k : n - i ≡ suc (n - (i + 1)) = omega arith in
    let one : items_fault (n - i) i b ≡ Some f = rw (k, e) refl in
    sym one ∙ so_far

pub all_passed : (b : List ℕ) (n i : ℕ) (total : Option NodeFault) → n ≤ i → items_fault (n - i) i b ≡ total → None ≡ total
unfolding items_fault
all_passed b n i total le so_far =
    let k : n - i ≡ 0 = omega arith in
    let one : items_fault (n - i) i b ≡ None = rw k refl in
    sym one ∙ so_far

-- ---- a node with no fault

pub node_parts : (b : List ℕ) → node_fault b ≡ None → (header_fault b ≡ None) × (items_fault (count_of b) 0 b ≡ None)
unfolding node_fault
node_parts b e = then_none (header_fault b) (items_fault (count_of b) 0 b) e

pub each_good : (b : List ℕ) (n i k : ℕ) → items_fault n i b ≡ None → i ≤ k → k < i + n → item_fault b k ≡ None
unfolding items_fault
each_good b zero i k e le lt = absurd (omega arith)
each_good b (suc n) i k e le lt =
    let here = then_none (item_fault b i) (items_fault n (i + 1) b) e in
    elim (cases_eq k i) [
      | inl same ↦ rw same here.0
      | inr other ↦ each_good b n (i + 1) k here.1 (omega arith) (omega arith)
    ]

pub offset_good : (b : List ℕ) (i : ℕ) → item_fault b i ≡ None → offset_is_good b i ≡ true
unfolding item_fault
offset_good b i e = not-false _ (chosen_none _ _ _ e).0

when_false : (t x y : Bool) → t ≡ false → cond t x y ≡ true → y ≡ true
when_false true x y e h = absurd cc
when_false false x y e h = h

neq_by : (t : Bool) (m n : ℕ) → t ≡ eqb m n → (m ≡ n → ⊥) → t ≡ false
neq_by true m n e ne = absurd (ne (eqb-true m n (sym e)))
neq_by false m n e ne = refl

pub is_placed : (b : List ℕ) (i : ℕ) → item_fault b i ≡ None → IsPlaced b i
is_placed b i e =
    let start : Bool = eqb (offset_at b i) 28 in
    let next : Bool = nat_lt (offset_at b (i - 1)) (offset_at b i) in
    let good = and_parts (cond (eqb i 0) start next) (nat_lt (offset_at b i) (start_of b)) (offset_good b i e) in
    record {
      first = λ z. eqb-true _ _ (if_true (eqb i 0) start next (eq-eqb i 0 z) good.0);
      later = λ pos. ltb-true _ _ (when_false (eqb i 0) start next (ne_eqb i 0 (λ z. omega (arith, z))) good.0);
      below = ltb-true _ _ good.1;
    }

places : (b : List ℕ) → node_fault b ≡ None → (k : ℕ) → k < count_of b → IsPlaced b k
places b e k lt = is_placed b k (each_good b (count_of b) 0 k (node_parts b e).1 (omega arith) (omega arith))

pub laid_from_good : (b : List ℕ) → length b ≡ 4096 → node_fault b ≡ None → IsLaid b
laid_from_good b whole e =
    let head = header_is_good b (node_parts b e).0 in
    record { whole = whole; low = head.low; sum = head.sum; placed = places b e }

pub room_from_header : (b : List ℕ) (n : ℕ) → header_fault b ≡ None → n ≡ count_of b → 38 * n ≤ 4096
room_from_header b n e is = let sum = (header_is_good b e).sum in omega arith

-- ---- what the reader answers

pub header_stops : (b : List ℕ) (f : NodeFault) → header_fault b ≡ Some f → node_fault b ≡ Some f
unfolding node_fault
header_stops b f e = rw e refl

pub items_stop : (b : List ℕ) (n : ℕ) (f : NodeFault) → header_fault b ≡ None → n ≡ count_of b → items_fault n 0 b ≡ Some f → node_fault b ≡ Some f
unfolding node_fault
items_stop b n f head is e = rw (head, ← is, e) refl

pub no_fault : (b : List ℕ) (n : ℕ) → header_fault b ≡ None → n ≡ count_of b → items_fault n 0 b ≡ None → node_fault b ≡ None
unfolding node_fault
no_fault b n head is e = rw (head, ← is, e) refl
