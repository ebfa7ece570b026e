-- Pairs that change places.
use Rattle.std.proofs.Common.{◌≡◌, ◌≢◌, ◌⊎◌, inl, inr, ⊎_elim, ℕ, Bool, cond, eqb, List, [], ◌∷◌, refl, sym, ap, ◌∙◌}
use Rattle.std.proofs.Common.{subst}
use Rattle.std.specs.Prelude.{Contains}
use Rattle.std.proofs.lemmas.Bool.{cases_eq, eq-eqb, ne_eqb}
use Rattle.r4_base.proofs.Choices.{nothing_in}
use Rattle.r4_sealed.proofs.r4_wander.Members.{any_cases, any_here, any_later}
use Rattle.r4_placed.specs.Flushing.{swapped}

-- the two pairs have no number in common
abbrev pub AreApart : ℕ × ℕ → ℕ × ℕ → Type 0
AreApart p q = (q.0 ≢ p.0) × (q.0 ≢ p.1) × (q.1 ≢ p.0) × (q.1 ≢ p.1)

abbrev pub AllApart : List (ℕ × ℕ) → Type 0
AllApart [] = Unit {0}
AllApart (p ∷ rest) = ((q : ℕ × ℕ) → Contains rest q → AreApart p q) × AllApart rest

swap_first : (p : ℕ × ℕ) (rest : List (ℕ × ℕ)) (i : ℕ) → i ≡ p.0 → swapped (p ∷ rest) i ≡ p.1
swap_first p rest i is = ap (λ (t : Bool). cond t p.1 (cond (eqb i p.1) p.0 (swapped rest i))) (eq-eqb i p.0 is)

swap_second : (p : ℕ × ℕ) (rest : List (ℕ × ℕ)) (i : ℕ) → i ≡ p.1 → swapped (p ∷ rest) i ≡ p.0
swap_second p rest i is = elim (cases_eq i p.0) [
  | inl first ↦ swap_first p rest i first ∙ sym is ∙ first
  | inr other ↦ ap (λ (t : Bool). cond t p.1 (cond (eqb i p.1) p.0 (swapped rest i))) (ne_eqb i p.0 other)
      ∙ ap (λ (t : Bool). cond t p.0 (swapped rest i)) (eq-eqb i p.1 is)
]

swap_later : (p : ℕ × ℕ) (rest : List (ℕ × ℕ)) (i : ℕ) → i ≢ p.0 → i ≢ p.1 → swapped (p ∷ rest) i ≡ swapped rest i
swap_later p rest i first second = ap (λ (t : Bool). cond t p.1 (cond (eqb i p.1) p.0 (swapped rest i)))
    (ne_eqb i p.0 first) ∙ ap (λ (t : Bool). cond t p.0 (swapped rest i)) (ne_eqb i p.1 second)

-- what is in none of the pairs stays
pub swap_stays : (ps : List (ℕ × ℕ)) (i : ℕ) → ((q : ℕ × ℕ) → Contains ps q → (i ≢ q.0) × (i ≢ q.1))
    → swapped ps i ≡ i
swap_stays [] i out = refl
swap_stays (p ∷ rest) i out = let (first, second) = out p (any_here p rest p refl) in swap_later p rest i first second
    ∙ swap_stays rest i (λ q one. out q (any_later p rest q one))

-- what stands in a pair goes to the other one
pub swap_to : (ps : List (ℕ × ℕ)) (q : ℕ × ℕ) → AllApart ps → Contains ps q → swapped ps q.0 ≡ q.1
swap_to [] q apart one = absurd (nothing_in q one)
swap_to (p ∷ rest) q apart one = ⊎_elim
    (λ is. swap_first p rest q.0 (ap (λ (r : ℕ × ℕ). r.0) is) ∙ ap (λ (r : ℕ × ℕ). r.1) (sym is))
    (λ later. let (a, b, c, d) = apart.0 q later in swap_later p rest q.0 a b ∙ swap_to rest q apart.1 later)
    (any_cases p rest q one)

-- where a number goes: it stays, or it is in a pair
where_to : (ps : List (ℕ × ℕ)) (i : ℕ) → (swapped ps i ≡ i)
    ⊎ ((q : ℕ × ℕ) × Contains ps q × ((swapped ps i ≡ q.0) ⊎ (swapped ps i ≡ q.1)))
where_to [] i = inl refl
where_to (p ∷ rest) i = elim (cases_eq i p.0) [
  | inl first ↦ inr (p, any_here p rest p refl, inr (swap_first p rest i first))
  | inr a ↦ elim (cases_eq i p.1) [
    | inl second ↦ inr (p, any_here p rest p refl, inl (swap_second p rest i second))
    | inr b ↦ ⊎_elim
        (λ stays. inl (swap_later p rest i a b ∙ stays))
        (λ (q, one, at). inr (
          q,
          any_later p rest q one,
          ⊎_elim (λ e. inl (swap_later p rest i a b ∙ e))
              (λ e. inr (swap_later p rest i a b ∙ e)) at,
        ))
        (where_to rest i)
  ]
]

pub swap_twice : (ps : List (ℕ × ℕ)) (i : ℕ) → AllApart ps → swapped ps (swapped ps i) ≡ i
swap_twice [] i apart = refl
swap_twice (p ∷ rest) i apart = elim (cases_eq i p.0) [
  | inl first ↦ swap_second p rest (swapped (p ∷ rest) i) (swap_first p rest i first) ∙ sym first
  | inr a ↦ elim (cases_eq i p.1) [
    | inl second ↦ swap_first p rest (swapped (p ∷ rest) i) (swap_second p rest i second) ∙ sym second
    | inr b ↦
        let j : ℕ = swapped rest i in
        let off : (j ≢ p.0) × (j ≢ p.1) = ⊎_elim
        (λ stays. (subst (λ k. k ≢ p.0) (sym stays) a, subst (λ k. k ≢ p.1) (sym stays) b))
        (λ (q, one, at). let (w, x, y, z) = apart.0 q one in
        ⊎_elim (λ e. (subst (λ k. k ≢ p.0) (sym e) w, subst (λ k. k ≢ p.1) (sym e) x))
        (λ e. (subst (λ k. k ≢ p.0) (sym e) y, subst (λ k. k ≢ p.1) (sym e) z)) at)
        (where_to rest i) in
        ap (swapped (p ∷ rest)) (swap_later p rest i a b) ∙ swap_later p rest j off.0 off.1
        ∙ swap_twice rest i apart.1
  ]
]

-- a number stays, or it is in a pair and goes to the other one
pub goes : (ps : List (ℕ × ℕ)) (i : ℕ) → (swapped ps i ≡ i)
    ⊎ ((q : ℕ × ℕ) × Contains ps q × (((i ≡ q.0) × (swapped ps i ≡ q.1)) ⊎ ((i ≡ q.1) × (swapped ps i ≡ q.0))))
goes [] i = inl refl
goes (p ∷ rest) i = elim (cases_eq i p.0) [
  | inl first ↦ inr (p, any_here p rest p refl, inl (first, swap_first p rest i first))
  | inr a ↦ elim (cases_eq i p.1) [
    | inl second ↦ inr (p, any_here p rest p refl, inr (second, swap_second p rest i second))
    | inr b ↦ ⊎_elim
        (λ stays. inl (swap_later p rest i a b ∙ stays))
        (λ (q, one, at). inr (
          q,
          any_later p rest q one,
          ⊎_elim (λ (e, f). inl (e, swap_later p rest i a b ∙ f))
              (λ (e, f). inr (e, swap_later p rest i a b ∙ f)) at,
        ))
        (goes rest i)
  ]
]
