-- The fields of a line are read as they are spelled.
use Rattle.std.proofs.Common.{◌≡◌, ◌≢◌, inl, inr, ℕ, ◌+◌, ◌<◌, ◌≤◌, Bool, true, false, cond, nat_lt, List, [], ◌∷◌, ◌++◌, length, drop, Option, Some, None, Result, Ok, Err, refl, ap, ◌∙◌, sym, subst, arith, length-drop, add_assoc, add-one, suc}
use Rattle.std.specs.List.{AllByRecursion}
use Rattle.std.proofs.lemmas.Bool.{lt-ltb, le-ltb, ltb-false, ne_eqb, cases_lt}
use Rattle.std.proofs.lemmas.Bool.Decides.{eqb_tells}
use Rattle.std.proofs.lemmas.List.{drop-drop, drop_at, length-append}
use Rattle.r4_script.specs.declared.fault.Spot.{Spot}
use Rattle.r4_script.specs.declared.fault.What.{What}
use Rattle.r4_script.specs.declared.fault.What.TheVariants as whats
use Rattle.r4_script.specs.Field.{◌>>=◌, at_place, or_at, field_at, ends_at}
use Rattle.r4_script.specs.Split.{until}

-- ---- results

pub bind_ok : {A B : Type 0} (r : Result A Spot) (f : A → Result B Spot) (y : B) → (r >>= f) ≡ Ok y → (x : A) × (r ≡ Ok x) × (f x ≡ Ok y)
bind_ok (Ok x) f y e = (x, refl, e)
bind_ok (Err d) f y e = absurd cc

abbrev pub done : {A : Type 0} → A → Result A Spot
done x = Ok x

pub ok_is : {A : Type 0} (x y : A) → done x ≡ done y → x ≡ y
ok_is x y e = cc

-- a test that did not fail
pub guard_ok : {A : Type 0} (b : Bool) (d : Spot) (x : Result A Spot) (y : A) → cond b (Err d) x ≡ Ok y → (b ≡ false) × (x ≡ Ok y)
guard_ok true d x y e = absurd cc
guard_ok false d x y e = (refl, e)

pub or_at_ok : {A : Type 0} (i : ℕ) (what : What) (o : Option A) (x : A) → or_at i what o ≡ Ok x → o ≡ Some x
or_at_ok i what None x e = absurd cc
or_at_ok i what (Some z) x e = ap Some (ok_is z x e)

-- ---- places

abbrev pub NoBlank : List ℕ → Type 0
NoBlank f = AllByRecursion (λ b. b ≢ 32) f

-- what stands from a place on
pub record Here (line : List ℕ) (i : ℕ) (more : List ℕ) : Type 0 where
  pub within : i ≤ length line
  pub rest : drop i line ≡ more

-- a field, and what stands behind the blank that ends it, if one does
abbrev pub with_tail : List ℕ → Option (List ℕ) → List ℕ
with_tail f None = f
with_tail f (Some more) = f ++ (32 ∷ more)

abbrev pub Follows : List ℕ → ℕ → Option (List ℕ) → Type 0
Follows line j None = j ≡ length line + 1
Follows line j (Some more) = Here line j more

-- what stands up to a blank
until_field : (f : List ℕ) (t : Option (List ℕ)) → NoBlank f → until 32 (with_tail f t) ≡ f
until_field [] None h = refl
until_field [] (Some more) h = refl
until_field (b ∷ f) None h = ap (λ (v : Bool). cond v [] (b ∷ until 32 f)) (ne_eqb b 32 h.0) ∙ ap (λ (l : List ℕ). b ∷ l) (until_field f None h.1)
until_field (b ∷ f) (Some more) h = ap (λ (v : Bool). cond v [] (b ∷ until 32 (f ++ (32 ∷ more)))) (ne_eqb b 32 h.0) ∙ ap (λ (l : List ℕ). b ∷ l) (until_field f (Some more) h.1)

-- what stands up to a blank has none
until_plain : (xs : List ℕ) → NoBlank (until 32 xs)
until_plain [] = tt
until_plain (b ∷ xs) = elim (eqb_tells b 32) [
  | inl p ↦ subst (λ (v : Bool). NoBlank (cond v [] (b ∷ until 32 xs))) (sym p.0) tt
  | inr q ↦ subst (λ (v : Bool). NoBlank (cond v [] (b ∷ until 32 xs))) (sym q.0) (q.1, until_plain xs)
]

-- a text is all up to a blank, or more follows the blank
until_tail : (xs : List ℕ) → (length (until 32 xs) < length xs) → xs ≡ until 32 xs ++ (32 ∷ drop (length (until 32 xs) + 1) xs)
until_tail [] h = absurd (omega arith)
until_tail (b ∷ xs) h = elim (eqb_tells b 32) [
  | inl p ↦ subst (λ (v : Bool). b ∷ xs ≡ cond v [] (b ∷ until 32 xs) ++ (32 ∷ drop (length (cond v [] (b ∷ until 32 xs)) + 1) (b ∷ xs))) (sym p.0) (ap (λ (n : ℕ). n ∷ xs) p.1)
  | inr q ↦
      let below : length (until 32 xs) < length xs = omega (arith, subst (λ (v : Bool). length (cond v [] (b ∷ until 32 xs)) < length (b ∷ xs)) q.0 h) in
      subst (λ (v : Bool). b ∷ xs ≡ cond v [] (b ∷ until 32 xs) ++ (32 ∷ drop (length (cond v [] (b ∷ until 32 xs)) + 1) (b ∷ xs))) (sym q.0)
      (ap (λ (l : List ℕ). b ∷ l) (until_tail xs below) ∙ ap (λ (l : List ℕ). (b ∷ until 32 xs) ++ (32 ∷ l)) (shift (length (until 32 xs)) b xs))
]
  where
    shift : (n b : ℕ) (xs : List ℕ) → drop (n + 1) xs ≡ drop (suc n + 1) (b ∷ xs)
    shift n b xs = rw (add-one, add-one) refl

until_whole : (xs : List ℕ) → (length xs ≤ length (until 32 xs)) → xs ≡ until 32 xs
until_whole [] h = refl
until_whole (b ∷ xs) h = elim (eqb_tells b 32) [
  | inl p ↦ absurd (omega (arith, subst (λ (v : Bool). length (b ∷ xs) ≤ length (cond v [] (b ∷ until 32 xs))) p.0 h))
  | inr q ↦
      let below : length xs ≤ length (until 32 xs) = omega (arith, subst (λ (v : Bool). length (b ∷ xs) ≤ length (cond v [] (b ∷ until 32 xs))) q.0 h) in
      subst (λ (v : Bool). b ∷ xs ≡ cond v [] (b ∷ until 32 xs)) (sym q.0) (ap (λ (l : List ℕ). b ∷ l) (until_whole xs below))
]

-- ---- a field

-- a field that stands there is read
pub field_again : (line : List ℕ) (i : ℕ) (f : List ℕ) (t : Option (List ℕ)) → Here line i (with_tail f t) → NoBlank f → field_at line i ≡ Ok (f, i + length f + 1)
unfolding field_at
field_again line i f t h plain =
    let early : nat_lt (length line) i ≡ false = le-ltb (length line) i h.within in
    let same : until 32 (drop i line) ≡ f = ap (until 32) h.rest ∙ until_field f t plain in
    ap (λ (v : Bool). cond v (at_place (length line) whats.Field) (Ok (until 32 (drop i line), i + length (until 32 (drop i line)) + 1))) early
    ∙ ap (λ (l : List ℕ). done (l, i + length l + 1)) same

pub field_follows : (line : List ℕ) (i : ℕ) (f : List ℕ) (t : Option (List ℕ)) → Here line i (with_tail f t) → Follows line (i + length f + 1) t
field_follows line i f None h = omega (arith, length-drop i line, ap length h.rest, h.within)
field_follows line i f (Some more) h =
    let long : length (drop i line) ≡ length f + suc (length more) = ap length h.rest ∙ length-append f (32 ∷ more) in
    record {
      within = omega (arith, length-drop i line, h.within, long);
      rest = ap (λ (n : ℕ). drop n line) (add_assoc i (length f) 1) ∙ sym (drop-drop (length f + 1) i line) ∙ ap (drop (length f + 1)) h.rest ∙ drop_past f 32 more;
    }
  where
    drop_past : (f : List ℕ) (b : ℕ) (more : List ℕ) → drop (length f + 1) (f ++ (b ∷ more)) ≡ more
    drop_past f b more = sym (drop-drop 1 (length f) (f ++ (b ∷ more))) ∙ ap (drop 1) (drop_at f (b ∷ more) (length f) refl)

-- what is read stands there
pub record ReadsField (line : List ℕ) (i : ℕ) (f : List ℕ) (j : ℕ) : Type 0 where
  pub plain : NoBlank f
  pub goes : j ≡ i + length f + 1
  pub tail : Option (List ℕ)
  pub here : Here line i (with_tail f tail)

pub field_is : (line : List ℕ) (i : ℕ) (f : List ℕ) (j : ℕ) → field_at line i ≡ Ok (f, j) → ReadsField line i f j
unfolding field_at
field_is line i f j e =
    let g = guard_ok (nat_lt (length line) i) _ (Ok (until 32 (drop i line), i + length (until 32 (drop i line)) + 1)) (f, j) e in
    let both = ok_is (until 32 (drop i line), i + length (until 32 (drop i line)) + 1) (f, j) g.1 in
    let f-is : until 32 (drop i line) ≡ f = ap (λ (p : List ℕ × ℕ). p.0) both in
    let j-is : i + length (until 32 (drop i line)) + 1 ≡ j = ap (λ (p : List ℕ × ℕ). p.1) both in
    let early : i ≤ length line = ltb-false (length line) i g.0 in
    let plain : NoBlank f = subst NoBlank f-is (until_plain (drop i line)) in
    let goes : j ≡ i + length f + 1 = sym j-is ∙ ap (λ (l : List ℕ). i + length l + 1) f-is in
    elim (cases_lt (length (until 32 (drop i line))) (length (drop i line))) [
      | inl lt ↦ record {
        plain = plain;
        goes = goes;
        tail = Some (drop (length (until 32 (drop i line)) + 1) (drop i line));
        here = record { within = early; rest = until_tail (drop i line) lt ∙ ap (λ (l : List ℕ). l ++ (32 ∷ drop (length (until 32 (drop i line)) + 1) (drop i line))) f-is };
      }
      | inr le ↦ record { plain = plain; goes = goes; tail = None; here = record { within = early; rest = until_whole (drop i line) le ∙ f-is } }
    ]

-- no field
pub ends_again : (line : List ℕ) (i : ℕ) → Follows line i None → ends_at line i ≡ Ok tt
unfolding ends_at
ends_again line i h = ap (λ (v : Bool). cond v (Ok tt) (at_place i whats.Field)) (lt-ltb (length line) i (omega (arith, h)))

pub ends_is : (line : List ℕ) (i : ℕ) (t : Option (List ℕ)) (u : Unit {0}) → ends_at line i ≡ Ok u → Follows line i t → t ≡ None
unfolding ends_at
ends_is line i None u e h = refl
ends_is line i (Some more) u e h = absurd (stands line i u h.within e)
  where
    stands : (line : List ℕ) (i : ℕ) (u : Unit {0}) → i ≤ length line → cond (nat_lt (length line) i) (Ok tt) (at_place i whats.Field) ≡ done u → ⊥
    stands line i u h e =
        let never : at_place i whats.Field ≡ done u = sym (ap (λ (v : Bool). cond v (Ok tt) (at_place i whats.Field)) (le-ltb (length line) i h)) ∙ e in
        cc

pub ends_past : (line : List ℕ) (i : ℕ) (u : Unit {0}) → ends_at line i ≡ Ok u → length line < i
unfolding ends_at
ends_past line i u e = elim (cases_lt (length line) i) [
  | inl lt ↦ lt
  | inr le ↦ absurd (never (at_place i whats.Field) refl (sym (ap (λ (v : Bool). cond v (Ok tt) (at_place i whats.Field)) (le-ltb (length line) i le)) ∙ e))
]
  where
    never : (r : Result (Unit {0}) Spot) → r ≡ at_place i whats.Field → at_place i whats.Field ≡ done u → ⊥
    never r same e = cc

-- what stands behind the first blank
pub front_more : (line : List ℕ) (rest : List ℕ) → Here line (length (until 32 line) + 1) rest → line ≡ until 32 line ++ (32 ∷ rest)
front_more line rest h = until_tail line (omega (arith, h.within)) ∙ ap (λ (l : List ℕ). until 32 line ++ (32 ∷ l)) h.rest

pub front_whole : (line : List ℕ) → length line < length (until 32 line) + 1 → line ≡ until 32 line
front_whole line h = until_whole line (omega arith)
