-- Writes of different blocks, in any order.
use Rattle.std.proofs.Common.{◌≡◌, ◌≢◌, inl, inr, ⊎_elim, ℕ, zero, suc, ◌<◌, ◌≤◌, true, false, List, [], ◌∷◌, length, slice_set, refl, sym, ◌∙◌, ap, subst, arith, get_or-set_same, get_or-set_other, eqb}
use Rattle.std.specs.Prelude.{Contains, All}
use Rattle.std.specs.List.{IsDistinct, AllByRecursion, list_any}
use Rattle.std.specs.List.Sorted.{IsPermutation}
use Rattle.std.proofs.lemmas.Bool.{cases_eq}
use Rattle.std.proofs.lemmas.Bool.Decides.{nat_tests}
use Rattle.std.proofs.lemmas.List.{length-set, ext_get_or}
use Rattle.std.proofs.lemmas.List.Elements.{All-head, All-tail}
use Rattle.std.proofs.lemmas.List.Sorted.{Contains-permutation, IsPermutation-sym}
use Rattle.std.proofs.lemmas.Map.Steps.{length-le_from_distinct_below}
use Rattle.r4_base.specs.Image.{AreDifferent, Image, IsBlock, IsImage, block_at}
use Rattle.r4_base.proofs.Members.{member_or_not, member_here, member_later}
use Rattle.r4_base.proofs.Choices.{nothing_in}
use Rattle.r4_wander.specs.Torn.{Write, put_writes, targets, IsTarget, IsTornBy}
use Rattle.r4_wander.specs.Parts.{Parts, part, base_of, IsOrderOf}
use Rattle.r4_wander.proofs.Members.{any_cases, any_here, any_later, from_map, in_map}
use Rattle.r4_wander.proofs.Settling.{length-put_writes, put_writes_other}

-- where all writes of a block write the same, that stands there
pub put_member : (ws : List Write) (base : Image) (b : ℕ) (x : List ℕ) → ((w : Write) → Contains ws w → w.0 ≡ b → w.1 ≡ x) → IsTarget ws b → b < length base → block_at (put_writes ws base) b ≡ x
put_member [] base b x each h lt = absurd (nothing_in b h)
put_member (v ∷ vs) base b x each h lt =
    let next : Image = slice_set base v.0 v.1 in
    let long : b < length next = omega (arith, lt, length-set base v.0 v.1) in
    ⊎_elim
    (λ later. put_member vs next b x (λ w one is. each w (any_later v vs w one) is) later long)
    (λ out. ⊎_elim
    (λ is. put_writes_other vs next b out ∙ ap (λ (k : ℕ). block_at next k) is ∙ get_or-set_same base v.0 v.1 [] (omega (arith, lt, is)) ∙ each v (any_here v vs v refl) (sym is))
    (λ later. absurd (out later))
    (any_cases v.0 (targets vs) b h))
    (member_or_not (targets vs) b)

pub one_write : (ws : List Write) → AreDifferent (targets ws) → (w v : Write) → Contains ws w → Contains ws v → w.0 ≡ v.0 → w.1 ≡ v.1
one_write [] different w v one two same = absurd (nothing_in w one)
one_write (x ∷ xs) different w v one two same = ⊎_elim
    (λ is. ⊎_elim
    (λ also. ap (λ (u : Write). u.1) (is ∙ sym also))
    (λ later. absurd (different.0 (subst (IsTarget xs) (sym same ∙ ap (λ (u : Write). u.0) is) (in_map (λ (u : Write). u.0) xs v later))))
    (any_cases x xs v two))
    (λ first. ⊎_elim
    (λ is. absurd (different.0 (subst (IsTarget xs) (same ∙ ap (λ (u : Write). u.0) is) (in_map (λ (u : Write). u.0) xs w first))))
    (λ later. one_write xs different.1 w v first later same)
    (any_cases x xs v two))
    (any_cases x xs w one)

-- what is written at a block stands there
pub put_at : (ws : List Write) (base : Image) (w : Write) → AreDifferent (targets ws) → Contains ws w → w.0 < length base → block_at (put_writes ws base) w.0 ≡ w.1
put_at ws base w different one lt = put_member ws base w.0 w.1 (λ v also is. one_write ws different v w also one is) (in_map (λ (u : Write). u.0) ws w one) lt

pub put_order : (ws vs : List Write) (base : Image) → AreDifferent (targets ws) → IsPermutation ws vs → put_writes vs base ≡ put_writes ws base
put_order ws vs base different p = ext_get_or [] (put_writes vs base) (put_writes ws base) (length-put_writes vs base ∙ sym (length-put_writes ws base)) (λ b lb.
    let lt : b < length base = omega (arith, lb, length-put_writes vs base) in
    ⊎_elim
    (λ h.
    let (w, one, at) = from_map (λ (u : Write). u.0) ws b h in
    let below : w.0 < length base = omega (arith, lt, at) in
    let there : block_at (put_writes vs base) w.0 ≡ w.1 = put_member vs base w.0 w.1 (λ v also is. one_write ws different v w (Contains-permutation vs ws v (IsPermutation-sym ws vs p) also) one is)
    (in_map (λ (u : Write). u.0) vs w (Contains-permutation ws vs w p one)) below in
    ap (λ (k : ℕ). block_at (put_writes vs base) k) at ∙ there ∙ sym (ap (λ (k : ℕ). block_at (put_writes ws base) k) at ∙ put_at ws base w different one below))
    (λ out. put_writes_other vs base b (λ h. let (w, one, at) = from_map (λ (u : Write). u.0) vs b h in
    out (subst (IsTarget ws) (sym at) (in_map (λ (u : Write). u.0) ws w (Contains-permutation vs ws w (IsPermutation-sym ws vs p) one)))) ∙ sym (put_writes_other ws base b out))
    (member_or_not (targets ws) b))

-- ---- whole blocks stay whole

pub all_of : {X : Type 0} (P : X → Type 0) (xs : List X) (x : X) → All P xs → Contains xs x → P x
all_of P [] x all h = absurd (nothing_in x h)
all_of P (y ∷ ys) x all h = ⊎_elim (λ is. subst P (sym is) (All-head P y ys all)) (λ later. all_of P ys x (All-tail P y ys all) later) (any_cases y ys x h)

pub image_put : (n : ℕ) (ws : List Write) (base : Image) → All (λ (w : Write). IsBlock w.1) ws → IsImage n base → IsImage n (put_writes ws base)
image_put n [] base all image = image
image_put n (w ∷ ws) base all image = image_put n ws (slice_set base w.0 w.1) (All-tail (λ (v : Write). IsBlock v.1) w ws all) (record {
  blocks = length-set base w.0 w.1 ∙ image.blocks;
  whole = λ b lt. elim (cases_eq b w.0) [
    | inl is ↦ subst IsBlock (sym (ap (λ (k : ℕ). block_at (slice_set base w.0 w.1) k) is ∙ get_or-set_same base w.0 w.1 [] (omega (arith, lt, is, image.blocks)))) (All-head (λ (v : Write). IsBlock v.1) w ws all)
    | inr other ↦ subst IsBlock (sym (get_or-set_other base w.0 b w.1 [] other)) (image.whole b lt)
  ];
})

-- ---- different blocks below a number are no more than that number

distinct : (bs : List ℕ) → AreDifferent bs → IsDistinct eqb bs
unfolding IsDistinct
distinct [] different = tt
distinct (b ∷ bs) different = (all_other bs different.0, distinct bs different.1)
  where
    all_other : (cs : List ℕ) → (Contains cs b → ⊥) → AllByRecursion (λ y. eqb b y ≡ false) cs
    all_other [] out = tt
    all_other (c ∷ cs) out = (let other : b ≢ c = λ is. out (member_here c cs b is) in grind (arith, nat_tests), all_other cs (λ h. out (member_later c cs b h)))

any_member : (bs : List ℕ) (q : ℕ) → list_any (eqb q) bs ≡ true → Contains bs q
any_member [] q h = absurd (cc (h))
any_member (b ∷ bs) q h = elim (cases_eq q b) [
  | inl is ↦ member_here b bs q is
  | inr other ↦ let later : list_any (eqb q) bs ≡ true = grind (arith, nat_tests) in member_later b bs q (any_member bs q later)
]

pub few_blocks : (n : ℕ) (bs : List ℕ) → AreDifferent bs → ((b : ℕ) → Contains bs b → b < n) → length bs ≤ n
few_blocks n bs different below = length-le_from_distinct_below bs n (distinct bs different) (λ q h. below q (any_member bs q h))

-- ---- the four parts in another order

module _ (plan sorted : Parts) (order : IsOrderOf plan sorted) where
  pub part_member : (i : ℕ) (w : Write) → Contains (part sorted i) w → Contains (part plan i) w
  part_member zero w h = Contains-permutation sorted.first plan.first w (IsPermutation-sym plan.first sorted.first order.first) h
  part_member (suc zero) w h = subst (λ (x : List ℕ). Contains ((19, x) ∷ []) w) order.header h
  part_member (suc (suc zero)) w h = Contains-permutation sorted.homes plan.homes w (IsPermutation-sym plan.homes sorted.homes order.homes) h
  part_member (suc (suc (suc zero))) w h = subst (λ (x : List ℕ). Contains ((20, x) ∷ []) w) order.footer h
  part_member (suc (suc (suc (suc i)))) w h = h

  pub part_target : (i b : ℕ) → IsTarget (part sorted i) b → IsTarget (part plan i) b
  part_target i b h = let (w, one, at) = from_map (λ (u : Write). u.0) (part sorted i) b h in
      subst (IsTarget (part plan i)) (sym at) (in_map (λ (u : Write). u.0) (part plan i) w (part_member i w one))

  module _ (first : AreDifferent (targets plan.first)) (homes : AreDifferent (targets plan.homes)) where
    part_put : (i : ℕ) (image : Image) → put_writes (part sorted i) image ≡ put_writes (part plan i) image
    part_put zero image = put_order plan.first sorted.first image first order.first
    part_put (suc zero) image = ap (λ (x : List ℕ). slice_set image 19 x) order.header
    part_put (suc (suc zero)) image = put_order plan.homes sorted.homes image homes order.homes
    part_put (suc (suc (suc zero))) image = ap (λ (x : List ℕ). slice_set image 20 x) order.footer
    part_put (suc (suc (suc (suc i)))) image = refl

    pub base_order : (base : Image) (i : ℕ) → base_of sorted base i ≡ base_of plan base i
    base_order base zero = refl
    base_order base (suc i) = part_put i (base_of sorted base i) ∙ ap (put_writes (part plan i)) (base_order base i)

    pub torn_order : (base : Image) (i : ℕ) (image : Image) → IsTornBy (part sorted i) (base_of sorted base i) image → IsTornBy (part plan i) (base_of plan base i) image
    torn_order base i image t =
        let here : IsTornBy (part sorted i) (base_of plan base i) image = subst (λ (j : Image). IsTornBy (part sorted i) j image) (base_order base i) t in
        record {
          blocks = here.blocks;
          whole = here.whole;
          sectors = λ b s lt ls. ⊎_elim inl (λ w. inr (w.0, part_member i w.0 w.1, w.2, w.3)) (here.sectors b s lt ls);
        }
