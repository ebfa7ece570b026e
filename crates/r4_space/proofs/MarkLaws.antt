-- The bits of a bitmap, as they are written one by one.
use Rattle.std.proofs.Common.{◌≡◌, ℕ, ◌+◌, ◌-◌, ◌<◌, ◌≤◌, Bool, true, false, not, ◌||◌, ◌&&◌, cond, eqb, List, [], ◌∷◌, ◌++◌, get_or, set, refl, sym, ap, ◌∙◌, arith, inl, inr}
use Rattle.std.specs.Prelude.{nat_le}
use Rattle.std.specs.List.{list_any}
use Rattle.std.proofs.lemmas.Bool.{cases_Bool, cases_eq, eq-eqb, ne_eqb, eqb-true, leb-true, leb-false}
use Rattle.std.proofs.lemmas.List.{get_or-set_same, get_or-set_other}
use Rattle.std.proofs.lemmas.List.Elements.{filter-append, All-filter}
use Rattle.std.proofs.lemmas.List.Folds.{list_any-append, list_any_none}
use Rattle.r4_base.specs.Bitmap.{bits_of, is_fixed, is_used}
use Rattle.r4_base.specs.declared.things.AtomNo.{AtomNo}
use Rattle.r4_base.proofs.Bits.{length-bits_of, get_or-bits_of}
use Rattle.r4_space.specs.declared.things.Claim.{Claim}
use Rattle.r4_space.specs.Accounts.{is_sealed}
use Rattle.r4_space.specs.Space.{freed_by, is_block, is_claimed, is_marked_after}
use Rattle.r4_space.specs.Kept.{AreWithin}

-- ---- one bit is set or cleared

shown : (old new : List ℕ) (i k : ℕ) (v : Bool) → bits_of new ≡ set (bits_of old) i v → k < 32736 → is_used new k ≡ get_or (set (bits_of old) i v) k false
shown old new i k v is lt = sym (get_or-bits_of k false new lt) ∙ ap (λ (bits : List Bool). get_or bits k false) is

pub shows_clear : (old new : List ℕ) (first b k : ℕ) → bits_of new ≡ set (bits_of old) (b - first) false → first ≤ b → b - first < 32736 → k < 32736 → is_used new k ≡ (is_used old k && not (true && eqb b (first + k)))
shows_clear old new first b k is le lt within =
    let size = length-bits_of old in
    elim (cases_eq k (b - first)) [
      | inl at ↦
          let hit : eqb b (first + k) ≡ true = eq-eqb _ _ (omega arith) in
          shown old new (b - first) k false is within ∙ rw (at, get_or-set_same (bits_of old) (b - first) false false (omega arith)) (sym (and_last (is_used old (b - first)) (eqb b (first + (b - first))) (eq-eqb _ _ (omega arith))))
      | inr other ↦
          let miss : eqb b (first + k) ≡ false = ne_eqb _ _ (λ e. other (omega arith)) in
          shown old new (b - first) k false is within ∙ get_or-set_other (bits_of old) (b - first) k false false other ∙ get_or-bits_of k false old within ∙ rw miss (sym (and_all (is_used old k)))
    ]
  where
    and_last : (a b : Bool) → b ≡ true → (a && not b) ≡ false
    and_last true b e = rw e refl
    and_last false b e = refl

    and_all : (a : Bool) → (a && true) ≡ a
    and_all true = refl
    and_all false = refl

-- a block outside the bitmap
pub shows_other : (old : List ℕ) (first b k : ℕ) (freed : Bool) → (freed ≡ true → first ≤ b → b - first < 32736 → ⊥) → k < 32736 → is_used old k ≡ (is_used old k && not (freed && eqb b (first + k)))
shows_other old first b k freed out within = elim (cases_Bool freed) [
  | inl on ↦
      let miss : eqb b (first + k) ≡ false = ne_eqb _ _ (λ e. out on (omega arith) (omega arith)) in
      rw (on, miss) (sym (and_all (is_used old k)))
  | inr off ↦ rw off (sym (and_all (is_used old k)))
]
  where
    and_all : (a : Bool) → (a && true) ≡ a
    and_all true = refl
    and_all false = refl

-- ---- one claim more

freed-add : (atoms : List AtomNo) (claims : List Claim) (c : Claim) (b : ℕ) → is_claimed (freed_by atoms (claims ++ c ∷ [])) b ≡ (is_claimed (freed_by atoms claims) b || (is_sealed atoms c.atom && eqb c.block.0 b))
freed-add atoms claims c b =
    let parts = filter-append (λ (x : Claim). is_sealed atoms x.atom) claims (c ∷ []) in
    ap (λ (cs : List Claim). is_claimed cs b) parts ∙ list_any-append (is_block b) (freed_by atoms claims) (freed_by atoms (c ∷ [])) ∙ ap (λ (x : Bool). is_claimed (freed_by atoms claims) b || x) (one (is_sealed atoms c.atom) c b)
  where
    one : (s : Bool) (c : Claim) (b : ℕ) → list_any (is_block b) (cond s (c ∷ []) []) ≡ (s && eqb c.block.0 b)
    one true c b = or_none (eqb c.block.0 b)
      where
        or_none : (a : Bool) → (a || false) ≡ a
        or_none true = refl
        or_none false = refl
    one false c b = refl

freed_step : (o f d s e fb : Bool) → (e ≡ true → fb ≡ f) → ((o && (f || not d)) && not ((not fb && s) && e)) ≡ (o && (f || not (d || (s && e))))
freed_step false f d s e fb same = refl
freed_step true true d s true fb same = rw (same refl) refl
freed_step true true d s false fb same = and_false (not fb && s)
  where
    and_false : (a : Bool) → not (a && false) ≡ true
    and_false true = refl
    and_false false = refl
freed_step true false true s e fb same = refl
freed_step true false false true true fb same = rw (same refl) refl
freed_step true false false true false true same = refl
freed_step true false false true false false same = refl
freed_step true false false false e true same = refl
freed_step true false false false e false same = refl

pub freed_more : (blocks first i : ℕ) (atoms : List AtomNo) (claims : List Claim) (c : Claim) (o : Bool)
    → ((o && (is_fixed blocks (first + i) || not (is_claimed (freed_by atoms claims) (first + i)))) && not ((not (is_fixed blocks c.block.0) && is_sealed atoms c.atom) && eqb c.block.0 (first + i)))
    ≡ (o && (is_fixed blocks (first + i) || not (is_claimed (freed_by atoms (claims ++ c ∷ [])) (first + i))))
freed_more blocks first i atoms claims c o =
    freed_step o (is_fixed blocks (first + i)) (is_claimed (freed_by atoms claims) (first + i)) (is_sealed atoms c.atom) (eqb c.block.0 (first + i)) (is_fixed blocks c.block.0) (λ e. ap (is_fixed blocks) (eqb-true _ _ e))
    ∙ ap (λ (x : Bool). o && (is_fixed blocks (first + i) || not x)) (sym (freed-add atoms claims c (first + i)))

-- ---- a bitmap as a whole

none_past : (n b : ℕ) (atoms : List AtomNo) (claims : List Claim) → AreWithin n claims → n ≤ b → is_claimed (freed_by atoms claims) b ≡ false
none_past n b atoms claims within le =
    let some = All-filter (λ (x : Claim). is_sealed atoms x.atom) (λ (c : Claim). c.block.0 < n) claims within in
    list_any_none (is_block b) (freed_by atoms claims) (λ k d lt. ne_eqb _ _ (λ e. let one = some k d lt in absurd (omega arith)))

bit_alike : (le x f c : Bool) → (le ≡ true → c ≡ false) → (le ≡ false → f ≡ true → x ≡ true) → ((le || x) && (f || not c)) ≡ (le || (f || (x && not c)))
bit_alike true x true c past fixed = refl
bit_alike true x false c past fixed = rw (past refl) refl
bit_alike false true true c past fixed = refl
bit_alike false true false c past fixed = refl
bit_alike false false true c past fixed = let e = fixed refl refl in absurd cc
bit_alike false false false c past fixed = refl

pub bit_is : (n b : ℕ) (marked placed : List Bool) (atoms : List AtomNo) (claims : List Claim) → AreWithin n claims → ((k : ℕ) → k < n → is_fixed n k ≡ true → get_or marked k false ≡ true)
    → ((nat_le n b || (get_or marked b false || get_or placed b false)) && (is_fixed n b || not (is_claimed (freed_by atoms claims) b))) ≡ (nat_le n b || is_marked_after n marked placed (freed_by atoms claims) b)
unfolding is_marked_after
bit_is n b marked placed atoms claims within fixed =
    bit_alike (nat_le n b) (get_or marked b false || get_or placed b false) (is_fixed n b) (is_claimed (freed_by atoms claims) b)
    (λ e. none_past n b atoms claims within (leb-true n b e))
    (λ e f. left_of (get_or marked b false) (get_or placed b false) (fixed b (leb-false n b e) f))
  where
    left_of : (m x : Bool) → m ≡ true → (m || x) ≡ true
    left_of m x e = rw e refl
