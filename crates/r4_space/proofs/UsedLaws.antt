-- How the unused blocks change, and what a commit leaves marked.
use Rattle.std.proofs.Common.{◌≡◌, ◌≢◌, ℕ, ◌+◌, ◌<◌, Bool, true, false, not, ◌||◌, eqb, List, [], ◌∷◌, ◌++◌, length, get_or, set, refl, sym, ap, ◌∙◌, arith, inl, inr}
use Rattle.std.specs.Prelude.{map, count_by, nat_le}
use Rattle.std.specs.List.{range_with_len}
use Rattle.std.proofs.lemmas.Bool.{cases_eq, eq-eqb, ne_eqb, lt-leb}
use Rattle.std.proofs.lemmas.List.{length-set, get_or-set_same, get_or-set_other}
use Rattle.std.proofs.lemmas.List.FromFn.{fill_by_all, get_or-map-range_with_len, length-map-range_with_len}
use Rattle.r4_base.proofs.Bitmaps.{free_bits-set}
use Rattle.r4_base.specs.declared.things.AtomNo.{AtomNo}
use Rattle.r4_base.specs.declared.things.BlockNo.{BlockNo}
use Rattle.r4_space.specs.declared.things.Claim.{Claim}
use Rattle.r4_space.specs.Accounts.{is_atom, is_sealed}
use Rattle.r4_space.specs.Lawful.{IsLawful}
use Rattle.r4_space.specs.Space.{Space, claims_of, freed_by, is_claimed, is_marked_after, is_marked_by, is_taken, is_taken_by, settled, unused_count, up_to, with_deferred, with_held, with_placed}
use Rattle.r4_space.proofs.ClaimLaws.{claimed-new, claimed-old, count-map, second, third, fourth}

-- ---- one number fewer is clear

one_fewer : (n b : ℕ) (p q : ℕ → Bool) → b < n → p b ≡ false → q b ≡ true → ((k : ℕ) → k ≢ b → q k ≡ p k) → count_by (λ k. not (q k)) (range_with_len 0 n) + 1 ≡ count_by (λ k. not (p k)) (range_with_len 0 n)
one_fewer n b p q lt clear on others =
    let bits = map p (range_with_len 0 n) in
    let size : length bits ≡ n = length-map-range_with_len p 0 n in
    let at : get_or bits b true ≡ false = get_or-map-range_with_len p 0 n b b true lt (omega arith) ∙ clear in
    let one : count_by not (set bits b true) + 1 ≡ count_by not bits = free_bits-set bits b true (omega arith) at in
    let same : set bits b true ≡ map q (range_with_len 0 n) = fill_by_all q (set bits b true) n true (length-set bits b true ∙ size) (λ k within. elim (cases_eq k b) [
      | inl is ↦ rw is (get_or-set_same bits b true true (omega arith) ∙ sym on)
      | inr other ↦ get_or-set_other bits b k true true other ∙ get_or-map-range_with_len p 0 n k k true within (omega arith) ∙ sym (others k other)
    ]) in
    let new : count_by not (map q (range_with_len 0 n)) + 1 ≡ count_by not bits = rw same at one in
    let a = count-map q (range_with_len 0 n) in
    let c = count-map p (range_with_len 0 n) in
    omega arith

pub placed_fewer : (s : Space) (b : ℕ) → IsLawful s → b < s.block_count → is_taken s b ≡ false → unused_count (with_placed s b) + 1 ≡ unused_count s
unfolding unused_count is_taken_by
placed_fewer s b lawful lt clear =
    let size = lawful.placed_size in
    one_fewer s.block_count b (is_taken s) (is_taken (with_placed s b)) lt clear
    (second (get_or s.marked b false) (get_or (set s.placed b true) b false) (is_claimed s.held b) (is_claimed s.deferred b) (get_or-set_same s.placed b true false (omega arith)))
    (λ k other. ap (λ (p : Bool). get_or s.marked k false || (p || (is_claimed s.held k || is_claimed s.deferred k))) (get_or-set_other s.placed b k true false other))

pub held_fewer : (s : Space) (atom : AtomNo) (b : BlockNo) → IsLawful s → b.0 < s.block_count → is_taken s b.0 ≡ false → unused_count (with_held s atom b) + 1 ≡ unused_count s
unfolding unused_count is_taken_by
held_fewer s atom b lawful lt clear =
    let claim : Claim = record { atom = atom; block = b } in
    one_fewer s.block_count b.0 (is_taken s) (is_taken (with_held s atom b)) lt clear
    (third (get_or s.marked b.0 false) (get_or s.placed b.0 false) (is_claimed (s.held ++ claim ∷ []) b.0) (is_claimed s.deferred b.0) (claimed-new s.held claim b.0 refl))
    (λ k other. ap (λ (h : Bool). get_or s.marked k false || (get_or s.placed k false || (h || is_claimed s.deferred k))) (claimed-old s.held claim k other))

pub deferred_used : (s : Space) (atom : AtomNo) (b : BlockNo) (k : ℕ) → is_taken (with_deferred s atom b) k ≡ (is_taken s k || eqb k b.0)
unfolding is_taken_by
deferred_used s atom b k =
    let claim : Claim = record { atom = atom; block = b } in
    elim (cases_eq k b.0) [
      | inl at ↦
          let hit : eqb k b.0 ≡ true = eq-eqb _ _ at in
          fourth (get_or s.marked k false) (get_or s.placed k false) (is_claimed s.held k) (is_claimed (s.deferred ++ claim ∷ []) k) (claimed-new s.deferred claim k at) ∙ sym (last_true (is_taken s k) (eqb k b.0) hit)
      | inr other ↦
          let miss : eqb k b.0 ≡ false = ne_eqb _ _ other in
          ap (λ (d : Bool). get_or s.marked k false || (get_or s.placed k false || (is_claimed s.held k || d))) (claimed-old s.deferred claim k other) ∙ sym (last_false (is_taken s k) (eqb k b.0) miss)
    ]
  where
    last_true : (a b : Bool) → b ≡ true → (a || b) ≡ true
    last_true true b e = refl
    last_true false b e = e

    last_false : (a b : Bool) → b ≡ false → (a || b) ≡ a
    last_false true b e = refl
    last_false false b e = e

-- ---- what the commit of the first sealed atom leaves

first_up_to : (sealed later : List AtomNo) (atom : AtomNo) → sealed ≡ atom ∷ later → up_to sealed atom ≡ atom ∷ []
first_up_to sealed later atom is =
    let same : is_atom atom atom ≡ true = eq-eqb atom.0 atom.0 refl in
    rw (is, same) refl

alone : (atom other : AtomNo) → is_sealed (atom ∷ []) other ≡ is_atom atom other
alone atom other = elim (cases_eq atom.0 other.0) [
  | inl same ↦
      let one : eqb atom.0 other.0 ≡ true = eq-eqb _ _ same in
      let two : eqb other.0 atom.0 ≡ true = eq-eqb _ _ (sym same) in
      rw (one, two) refl
  | inr differ ↦
      let one : eqb atom.0 other.0 ≡ false = ne_eqb _ _ differ in
      let two : eqb other.0 atom.0 ≡ false = ne_eqb _ _ (λ e. differ (sym e)) in
      rw (one, two) refl
]

freed_alone : (atom : AtomNo) (claims : List Claim) → freed_by (atom ∷ []) claims ≡ claims_of atom claims
freed_alone atom [] = refl
freed_alone atom (c ∷ rest) = rw (alone atom c.atom, freed_alone atom rest) refl

pub settled_marks : (s : Space) (atom : AtomNo) (later : List AtomNo) (b : ℕ) → s.sealed ≡ atom ∷ later → b < s.block_count → get_or (settled s atom).marked b false ≡ is_marked_by s atom b
unfolding is_marked_by
settled_marks s atom later b first lt =
    let within : nat_le s.block_count b ≡ false = lt-leb s.block_count b lt in
    get_or-map-range_with_len (is_marked_after s.block_count s.marked s.placed (claims_of atom s.deferred)) 0 s.block_count b b false lt (omega arith)
    ∙ rw (within, first_up_to s.sealed later atom first, freed_alone atom s.deferred) refl
