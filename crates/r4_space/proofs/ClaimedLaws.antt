-- The blocks that are claimed, and those that are claimed twice.
use Rattle.std.proofs.Common.{◌≡◌, ℕ, ◌+◌, ◌<◌, ◌≤◌, Bool, true, false, not, ◌||◌, ◌&&◌, cond, eqb, List, [], ◌∷◌, ◌++◌, length, get_or, set, refl, sym, ap, ◌∙◌, arith, inl, inr}
use Rattle.std.specs.Prelude.{map, replicate}
use Rattle.std.proofs.lemmas.Bool.{cases_Bool, cases_eq, eq-eqb, ne_eqb}
use Rattle.std.proofs.lemmas.List.{length-set, length-replicate, get_or-set_same, get_or-set_other, get_or-replicate}
use Rattle.std.proofs.lemmas.List.Sums.{sum_by-cons, sum_by-append}
use Rattle.std.specs.List.{range_with_len}
use Rattle.std.proofs.lemmas.List.FromFn.{get_or-map-range_with_len}
use Rattle.r4_base.specs.Bitmap.{is_fixed}
use Rattle.r4_base.specs.declared.things.AtomNo.{AtomNo}
use Rattle.r4_space.specs.declared.things.Claim.{Claim}
use Rattle.r4_space.specs.Accounts.{is_atom}
use Rattle.r4_space.specs.Space.{claims_of, claims_without, is_block, is_claimed, is_marked_after, is_taken_by, renamed}
use Rattle.r4_space.specs.Kept.{AreBlocks, AreClaimed, claims_on}
use Rattle.r4_space.proofs.ClaimLaws.{claimed-new, claimed-old, claimed-renamed, renamed_block}

-- ---- how many claims are on a block

on-cons : (c : Claim) (rest : List Claim) (b : ℕ) → claims_on (c ∷ rest) b ≡ cond (is_block b c) 1 0 + claims_on rest b
on-cons c rest b = sum_by-cons (λ (x : Claim). cond (is_block b x) 1 0) c rest

none_on : (claims : List Claim) (b : ℕ) → is_claimed claims b ≡ false → claims_on claims b ≡ 0
none_on [] b e = refl
none_on (c ∷ rest) b e = elim (cases_Bool (is_block b c)) [
  | inl hit ↦ let on : (is_block b c || is_claimed rest b) ≡ true = rw hit refl in absurd cc
  | inr miss ↦
      let later : is_claimed rest b ≡ false = rw miss at e in
      let all : claims_on (c ∷ rest) b ≡ 0 + claims_on rest b = on-cons c rest b ∙ rw miss refl in
      let ih = none_on rest b later in
      omega arith
]

some_on : (claims : List Claim) (b : ℕ) → is_claimed claims b ≡ true → 1 ≤ claims_on claims b
some_on [] b e = absurd cc
some_on (c ∷ rest) b e = elim (cases_Bool (is_block b c)) [
  | inl hit ↦ let all : claims_on (c ∷ rest) b ≡ 1 + claims_on rest b = on-cons c rest b ∙ rw hit refl in omega arith
  | inr miss ↦
      let later : is_claimed rest b ≡ true = rw miss at e in
      let all : claims_on (c ∷ rest) b ≡ 0 + claims_on rest b = on-cons c rest b ∙ rw miss refl in
      let ih = some_on rest b later in
      omega arith
]

no_claim : (claims : List Claim) (b : ℕ) → claims_on claims b ≡ 0 → is_claimed claims b ≡ false
no_claim claims b e = elim (cases_Bool (is_claimed claims b)) [
  | inl on ↦ let some = some_on claims b on in absurd (omega arith)
  | inr off ↦ off
]

-- those of an atom and those of the others
parted : (atom : AtomNo) (claims : List Claim) (b : ℕ) → claims_on claims b ≡ claims_on (claims_of atom claims) b + claims_on (claims_without atom claims) b
parted atom [] b = refl
parted atom (c ∷ rest) b =
    let ih = parted atom rest b in
    let all = on-cons c rest b in
    elim (cases_Bool (is_atom atom c.atom)) [
      | inl hit ↦
          let one = on-cons c (claims_of atom rest) b in
          rw hit (omega (arith, ih, all, one))
      | inr miss ↦
          let one = on-cons c (claims_without atom rest) b in
          rw miss (omega (arith, ih, all, one))
    ]

claimed_parted : (atom : AtomNo) (claims : List Claim) (b : ℕ) → is_claimed claims b ≡ (is_claimed (claims_of atom claims) b || is_claimed (claims_without atom claims) b)
claimed_parted atom [] b = refl
claimed_parted atom (c ∷ rest) b = elim (cases_Bool (is_atom atom c.atom)) [
  | inl hit ↦ rw (hit, claimed_parted atom rest b) (to_front (is_block b c) (is_claimed (claims_of atom rest) b) (is_claimed (claims_without atom rest) b))
  | inr miss ↦ rw (miss, claimed_parted atom rest b) (to_back (is_block b c) (is_claimed (claims_of atom rest) b) (is_claimed (claims_without atom rest) b))
]
  where
    to_front : (x y z : Bool) → (x || (y || z)) ≡ ((x || y) || z)
    to_front true y z = refl
    to_front false y z = refl

    to_back : (x y z : Bool) → (x || (y || z)) ≡ (y || (x || z))
    to_back true true z = refl
    to_back true false z = refl
    to_back false y z = refl

-- ---- one claim more

on-add : (claims : List Claim) (c : Claim) (b : ℕ) → claims_on (claims ++ c ∷ []) b ≡ claims_on claims b + cond (is_block b c) 1 0
on-add claims c b =
    let parts = sum_by-append (λ (x : Claim). cond (is_block b x) 1 0) claims (c ∷ []) in
    let one = on-cons c [] b in
    omega (arith, parts, one)

set_bit : (bits : List Bool) (b k : ℕ) (v : Bool) → b < length bits → k ≡ b → get_or (set bits b v) k false ≡ v
set_bit bits b k v lt is = ap (λ (j : ℕ). get_or (set bits b v) j false) is ∙ get_or-set_same bits b v false lt

either : (a b : Bool) → a ≡ true → (a || b) ≡ true
either a b e = rw e refl

either_too : (a b : Bool) → b ≡ true → (a || b) ≡ true
either_too true b e = refl
either_too false b e = e

pub claims_held : (n : ℕ) (held deferred : List Claim) (claimed twice : List Bool) (c : Claim) → AreClaimed n held deferred claimed twice → c.block.0 < n → is_claimed held c.block.0 ≡ false → is_claimed deferred c.block.0 ≡ false
    → AreClaimed n (held ++ c ∷ []) deferred (set claimed c.block.0 true) twice
claims_held n held deferred claimed twice c are lt free free_too =
    let size = are.claimed_size in
    record {
      claimed_size = length-set claimed c.block.0 true ∙ size;
      twice_size = are.twice_size;
      tells = λ k within. elim (cases_eq k c.block.0) [
        | inl is ↦ set_bit claimed c.block.0 k true (omega arith) is ∙ sym (either (is_claimed (held ++ c ∷ []) k) (is_claimed deferred k) (claimed-new held c k is))
        | inr other ↦ get_or-set_other claimed c.block.0 k true false other ∙ are.tells k within ∙ ap (λ (h : Bool). h || is_claimed deferred k) (sym (claimed-old held c k other))
      ];
      once = λ k within single. elim (cases_eq k c.block.0) [
        | inl is ↦
            let none : claims_on held k ≡ 0 = none_on held k (ap (is_claimed held) is ∙ free) in
            let none_too : claims_on deferred k ≡ 0 = none_on deferred k (ap (is_claimed deferred) is ∙ free_too) in
            let hit : is_block k c ≡ true = eq-eqb _ _ (sym is) in
            let more : claims_on (held ++ c ∷ []) k ≡ claims_on held k + 1 = on-add held c k ∙ rw hit refl in
            omega arith
        | inr other ↦
            let miss : is_block k c ≡ false = ne_eqb _ _ (λ e. other (sym e)) in
            let more : claims_on (held ++ c ∷ []) k ≡ claims_on held k + 0 = on-add held c k ∙ rw miss refl in
            let was = are.once k within single in
            omega arith
      ];
    }

pub claims_deferred : (n : ℕ) (held deferred : List Claim) (claimed twice : List Bool) (c : Claim) → AreClaimed n held deferred claimed twice → c.block.0 < n
    → AreClaimed n held (deferred ++ c ∷ []) (set claimed c.block.0 true) (cond (get_or claimed c.block.0 false) (set twice c.block.0 true) twice)
claims_deferred n held deferred claimed twice c are lt =
    let size = are.claimed_size in
    let size_too = are.twice_size in
    record {
      claimed_size = length-set claimed c.block.0 true ∙ size;
      twice_size = elim (cases_Bool (get_or claimed c.block.0 false)) [ inl on ↦ rw on (length-set twice c.block.0 true ∙ size_too) | inr off ↦ rw off size_too ];
      tells = λ k within. elim (cases_eq k c.block.0) [
        | inl is ↦ set_bit claimed c.block.0 k true (omega arith) is ∙ sym (either_too (is_claimed held k) (is_claimed (deferred ++ c ∷ []) k) (claimed-new deferred c k is))
        | inr other ↦ get_or-set_other claimed c.block.0 k true false other ∙ are.tells k within ∙ ap (λ (h : Bool). is_claimed held k || h) (sym (claimed-old deferred c k other))
      ];
      once = λ k within single. elim (cases_eq k c.block.0) [
        | inl is ↦
            let off : get_or claimed k false ≡ false = elim (cases_Bool (get_or claimed c.block.0 false)) [
              | inl on ↦
                  let noted : get_or (set twice c.block.0 true) k false ≡ true = set_bit twice c.block.0 k true (omega arith) is in
                  let not_noted : get_or (set twice c.block.0 true) k false ≡ false = rw on at single in
                  absurd cc
              | inr off ↦ ap (λ (j : ℕ). get_or claimed j false) is ∙ off
            ] in
            let free = neither (is_claimed held k) (is_claimed deferred k) (sym (are.tells k within) ∙ off) in
            let none : claims_on held k ≡ 0 = none_on held k free.0 in
            let none_too : claims_on deferred k ≡ 0 = none_on deferred k free.1 in
            let hit : is_block k c ≡ true = eq-eqb _ _ (sym is) in
            let more : claims_on (deferred ++ c ∷ []) k ≡ claims_on deferred k + 1 = on-add deferred c k ∙ rw hit refl in
            omega arith
        | inr other ↦
            let miss : is_block k c ≡ false = ne_eqb _ _ (λ e. other (sym e)) in
            let more : claims_on (deferred ++ c ∷ []) k ≡ claims_on deferred k + 0 = on-add deferred c k ∙ rw miss refl in
            let same : get_or twice k false ≡ false = elim (cases_Bool (get_or claimed c.block.0 false)) [
              | inl on ↦ sym (get_or-set_other twice c.block.0 k true false other) ∙ (rw on at single)
              | inr off ↦ rw off at single
            ] in
            let was = are.once k within same in
            omega arith
      ];
    }
  where
    neither : (a b : Bool) → (a || b) ≡ false → (a ≡ false) × (b ≡ false)
    neither true b e = absurd cc
    neither false b e = (refl, e)

on-renamed : (kept gone : AtomNo) (claims : List Claim) (k : ℕ) → claims_on (map (renamed kept gone) claims) k ≡ claims_on claims k
on-renamed kept gone [] k = refl
on-renamed kept gone (c ∷ rest) k =
    let here : is_block k (renamed kept gone c) ≡ is_block k c = ap (λ (b : ℕ). eqb b k) (renamed_block kept gone c) in
    let ih = on-renamed kept gone rest k in
    on-cons (renamed kept gone c) (map (renamed kept gone) rest) k ∙ rw (here, ih) (sym (on-cons c rest k))

pub claims_merged : (n : ℕ) (held deferred : List Claim) (claimed twice : List Bool) (kept gone : AtomNo) → AreClaimed n held deferred claimed twice → AreClaimed n held (map (renamed kept gone) deferred) claimed twice
claims_merged n held deferred claimed twice kept gone are = record {
  claimed_size = are.claimed_size;
  twice_size = are.twice_size;
  tells = λ k within. are.tells k within ∙ ap (λ (d : Bool). is_claimed held k || d) (sym (claimed-renamed kept gone deferred k));
  once = λ k within single. let was = are.once k within single in let same = on-renamed kept gone deferred k in omega arith;
}

pub claims_none : (n : ℕ) (held deferred : List Claim) (claimed twice : List Bool) → held ≡ [] → deferred ≡ [] → claimed ≡ replicate n false → twice ≡ replicate n false → AreClaimed n held deferred claimed twice
claims_none n held deferred claimed twice none none_too clear clear_too = rw (none, none_too, clear, clear_too) (record {
  claimed_size = length-replicate n false;
  twice_size = length-replicate n false;
  tells = λ k within. get_or-replicate n k false false within;
  once = λ k within single. omega arith;
})

pub claims_settled : (n : ℕ) (held deferred : List Claim) (claimed twice new : List Bool) (atom : AtomNo) → AreClaimed n held deferred claimed twice → length new ≡ n
    → ((b : ℕ) → b < n → get_or new b false ≡ (is_claimed (claims_without atom held) b || is_claimed (claims_without atom deferred) b)) → AreClaimed n (claims_without atom held) (claims_without atom deferred) new twice
claims_settled n held deferred claimed twice new atom are size tells = record {
  claimed_size = size;
  twice_size = are.twice_size;
  tells = tells;
  once = λ k within single.
      let was = are.once k within single in
      let h = parted atom held k in
      let d = parted atom deferred k in
      omega arith;
}

-- ---- what is still taken once an atom settles

still : (m p f ch cd wh wd t m' c' t1 t2 : Bool) → (f ≡ true → m ≡ true) → t ≡ (m || (p || ((ch || wh) || (cd || wd)))) → m' ≡ (f || ((m || p) && not cd)) → c' ≡ (wh || wd)
    → t1 ≡ (t && not (ch && not (m' || c'))) → t2 ≡ (t1 && not (cd && not (m' || c'))) → t2 ≡ (m' || (false || (wh || wd)))
still m p f ch cd wh wd t m' c' t1 t2 fixed et em ec e1 e2 = grind arith

pub settled_taken : (n b : ℕ) (marked placed new none claimed taken first second : List Bool) (held deferred : List Claim) (atom : AtomNo) → AreBlocks n marked placed held deferred taken → b < n
    → new ≡ map (is_marked_after n marked placed (claims_of atom deferred)) (range_with_len 0 n) → none ≡ replicate n false
    → get_or claimed b false ≡ (is_claimed (claims_without atom held) b || is_claimed (claims_without atom deferred) b)
    → get_or first b true ≡ (get_or taken b true && not (is_claimed (claims_of atom held) b && not (get_or new b false || get_or claimed b false)))
    → get_or second b true ≡ (get_or first b true && not (is_claimed (claims_of atom deferred) b && not (get_or new b false || get_or claimed b false)))
    → get_or second b true ≡ is_taken_by new none (claims_without atom held) (claims_without atom deferred) b
unfolding is_taken_by is_marked_after
settled_taken n b marked placed new none claimed taken first second held deferred atom is lt marks no_place tells one two =
    let mark : get_or new b false ≡ is_marked_after n marked placed (claims_of atom deferred) b = ap (λ (bits : List Bool). get_or bits b false) marks ∙ get_or-map-range_with_len (is_marked_after n marked placed (claims_of atom deferred)) 0 n b b false lt (omega arith) in
    let unplaced : get_or none b false ≡ false = ap (λ (bits : List Bool). get_or bits b false) no_place ∙ get_or-replicate n b false false lt in
    still (get_or marked b false) (get_or placed b false) (is_fixed n b) (is_claimed (claims_of atom held) b) (is_claimed (claims_of atom deferred) b) (is_claimed (claims_without atom held) b) (is_claimed (claims_without atom deferred) b) _ _ _ _ _
    (is.fixed b lt) (is.tells b lt ∙ rw (claimed_parted atom held b, claimed_parted atom deferred b) refl) mark tells one two
    ∙ ap (λ (p : Bool). get_or new b false || (p || (is_claimed (claims_without atom held) b || is_claimed (claims_without atom deferred) b))) (sym unplaced)

-- ---- an atom's claims go

left : (c oh od wh wd t x y : Bool) → c ≡ ((oh || wh) || (od || wd)) → ((oh || od) ≡ true → t ≡ false → (wh || wd) ≡ false)
    → x ≡ (c && not (oh && not (t && (wh || wd)))) → y ≡ (x && not (od && not (t && (wh || wd)))) → y ≡ (wh || wd)
left c false false wh wd t x y e once f g = g ∙ rw (f, e) (plain wh wd)
  where
    plain : (a b : Bool) → ((((false || a) || (false || b)) && true) && true) ≡ (a || b)
    plain true b = refl
    plain false true = refl
    plain false false = refl
left c true od wh wd true x y e once f g = g ∙ rw (f, e) (kept od (wh || wd))
  where
    kept : (o w : Bool) → ((true && not (not w)) && not (o && not w)) ≡ w
    kept true true = refl
    kept true false = refl
    kept false true = refl
    kept false false = refl
left c true od wh wd false x y e once f g = g ∙ rw (f, e) (sym (once refl refl))
left c false true wh wd true x y e once f g = g ∙ rw (f, e) (kept wh wd)
  where
    kept : (a b : Bool) → ((((false || a) || true) && true) && not (not (a || b))) ≡ (a || b)
    kept true b = refl
    kept false true = refl
    kept false false = refl
left c false true wh wd false x y e once f g = g ∙ rw (f, e) (gone wh (wh || wd) (once refl refl))
  where
    gone : (a w : Bool) → w ≡ false → ((((false || a) || true) && true) && false) ≡ w
    gone true w e = sym e
    gone false w e = sym e

pub unclaimed : (n b : ℕ) (held deferred : List Claim) (claimed twice first second : List Bool) (atom : AtomNo) → AreClaimed n held deferred claimed twice → b < n
    → get_or first b false ≡ (get_or claimed b false && not (is_claimed (claims_of atom held) b && not (get_or twice b false && (is_claimed (claims_without atom held) b || is_claimed (claims_without atom deferred) b))))
    → get_or second b false ≡ (get_or first b false && not (is_claimed (claims_of atom deferred) b && not (get_or twice b false && (is_claimed (claims_without atom held) b || is_claimed (claims_without atom deferred) b))))
    → get_or second b false ≡ (is_claimed (claims_without atom held) b || is_claimed (claims_without atom deferred) b)
unclaimed n b held deferred claimed twice first second atom are lt one two =
    left (get_or claimed b false) (is_claimed (claims_of atom held) b) (is_claimed (claims_of atom deferred) b) (is_claimed (claims_without atom held) b) (is_claimed (claims_without atom deferred) b) (get_or twice b false) _ _
    (are.tells b lt ∙ rw (claimed_parted atom held b, claimed_parted atom deferred b) refl)
    (λ some single. alone some (are.once b lt single)) one two
  where
    alone : (is_claimed (claims_of atom held) b || is_claimed (claims_of atom deferred) b) ≡ true → claims_on held b + claims_on deferred b ≤ 1 → (is_claimed (claims_without atom held) b || is_claimed (claims_without atom deferred) b) ≡ false
    alone some few =
        let h = parted atom held b in
        let d = parted atom deferred b in
        elim (cases_Bool (is_claimed (claims_of atom held) b)) [
          | inl on ↦
              let one = some_on (claims_of atom held) b on in
              let no_held = no_claim (claims_without atom held) b (omega arith) in
              let no_deferred = no_claim (claims_without atom deferred) b (omega arith) in
              rw (no_held, no_deferred) refl
          | inr off ↦
              let on : is_claimed (claims_of atom deferred) b ≡ true = rw off at some in
              let one = some_on (claims_of atom deferred) b on in
              let no_held = no_claim (claims_without atom held) b (omega arith) in
              let no_deferred = no_claim (claims_without atom deferred) b (omega arith) in
              rw (no_held, no_deferred) refl
        ]
