-- What the cells that a cell names ask for.
use Rattle.std.proofs.Common.{◌≡◌, ◌≢◌, ◌⊎◌, inl, inr, zero, suc, Bool, true, false, List, [], ◌∷◌, refl, ap, sym}
use Rattle.std.proofs.Common.{subst, ◌∙◌, arith}
use Rattle.std.specs.Prelude.{Contains, Option, None, Some, ◌==◌, if◌then◌else◌}
use Rattle.r4_base.specs.Tree.{Name, Node, Store}
use Rattle.r4_base.specs.Value.{Value}
use Rattle.r4_reach.specs.Demand.{ask_of, heard, heard_one}

module _ {A : Type 0} where
  pub here : (x : A) (xs : List A) → Contains (x ∷ xs) x
  here x xs = (zero, omega arith, refl)

  pub later : (y x : A) (xs : List A) → Contains xs x → Contains (y ∷ xs) x
  later y x xs (k, l, e) = (suc k, omega (arith, l), e)

  pub cases : (y x : A) (xs : List A) → Contains (y ∷ xs) x → (x ≡ y) ⊎ Contains xs x
  cases y x xs (zero, l, e) = inl (sym e)
  cases y x xs (suc k, l, e) = inr (k, omega (arith, l), e)

  pub none : (x : A) → Contains [] x → ⊥
  none x (k, l, e) = absurd (omega (arith, l))

  pub not_empty : (x : A) (xs : List A) → x ∷ xs ≡ [] → ⊥
  not_empty x xs e = absurd cc

  -- a list is empty or it isn't
  pub split : (xs : List A) → (xs ≡ []) ⊎ ((x : A) × (ys : List A) × (xs ≡ x ∷ ys))
  split [] = inl refl
  split (x ∷ xs) = inr (x, xs, refl)

  pub choose : (b : Bool) (x y z w : A) → x ≡ y → (b ≡ false → z ≡ w) → (if b then x else z) ≡ (if b then y else w)
  choose true x y z w e h = e
  choose false x y z w e h = h refl

  pub option_cases : (o : Option A) → (o ≡ None) ⊎ ((a : A) × (o ≡ Some a))
  option_cases None = inl refl
  option_cases (Some a) = inr (a, refl)

-- a node of one of the names that asks for something
pub record Asker {A : Type 0} (f : Node Value → Option A) (t : Store Value) (ns : List Name) : Type 0 where
  pub name : Name
  pub node : Node Value
  pub what : A
  pub named : Contains ns name
  pub pointed : name.level ≢ 0
  pub stands : t name.id ≡ Some node
  pub asks : f node ≡ Some what

module _ {A : Type 0} (f : Node Value → Option A) (t : Store Value) where
  behind : (n : Name) (ns : List Name) → Asker f t ns → Asker f t (n ∷ ns)
  behind n ns a = record {
    name = a.name;
    node = a.node;
    what = a.what;
    named = later n a.name ns a.named;
    pointed =
        a.pointed;
    stands = a.stands;
    asks = a.asks;
  }

  pub asker : (ns : List Name) → heard f t ns ≢ [] → Asker f t ns
  asker [] some = absurd (some refl)
  asker (n ∷ ns) some = by_level (asker ns) (n.level == 0) refl some
    where
      Rest : Type 0
      Rest = heard f t ns ≢ [] → Asker f t ns

      by_what : Rest → n.level ≢ 0 → (b : Node Value) → t n.id ≡ Some b → (o : Option A) → f b ≡ o
          → heard_one n o (heard f t ns) ≢ [] → Asker f t (n ∷ ns)
      by_what rest up b e None g s = behind n ns (rest s)
      by_what rest up b e (Some a) g s = record
          { name = n; node = b; what = a; named = here n ns; pointed = up; stands = e; asks = g }

      by_ask : Rest → (o : Option (Node Value)) → n.level ≢ 0 → t n.id ≡ o
          → heard_one n (ask_of f o) (heard f t ns) ≢ [] → Asker f t (n ∷ ns)
      by_ask rest None up e s = behind n ns (rest s)
      by_ask rest (Some b) up e s = by_what rest up b e (f b) refl s

      by_level : Rest → (v : Bool) → (n.level == 0) ≡ v
          → (if v then heard f t ns else heard_one n (ask_of f (t n.id)) (heard f t ns)) ≢ [] → Asker f t (n ∷ ns)
      by_level rest true e s = behind n ns (rest s)
      by_level rest false e s = by_ask rest (t n.id) (λ z. absurd (grind (arith, e, z))) refl s

  pub is_heard : (ns : List Name) (n : Name) (b : Node Value) (a : A) → Contains ns n → n.level ≢ 0 → t n.id ≡ Some b
      → f b ≡ Some a → heard f t ns ≢ []
  is_heard [] n b a c up tb fb = absurd (none n c)
  is_heard (m ∷ ns) n b a c up tb fb = elim (cases m n ns c) [
    | inl same ↦ by_level (m.level == 0) refl (λ z. up (ap (λ x. x.level) same ∙ z)) (ap (λ x. t x.id) (sym same)
        ∙ tb)
    | inr more ↦ pass (m.level == 0) (ask_of f (t m.id)) (is_heard ns n b a more up tb fb)
  ]
    where
      pass : (b : Bool) (o : Option A) → heard f t ns ≢ []
          → (if b then heard f t ns else heard_one m o (heard f t ns)) ≢ []
      pass true o s = s
      pass false None s = s
      pass false (Some x) s = not_empty (m, x) (heard f t ns)

      told : (o : Option (Node Value)) → o ≡ Some b → heard_one m (ask_of f o) (heard f t ns) ≢ []
      told o e = subst (λ w. heard_one m (ask_of f w) (heard f t ns) ≢ []) (sym e)
          (subst (λ w. heard_one m w (heard f t ns) ≢ []) (sym fb) (not_empty (m, a) (heard f t ns)))

      by_level : (v : Bool) → (m.level == 0) ≡ v → m.level ≢ 0 → t m.id ≡ Some b
          → (if v then heard f t ns else heard_one m (ask_of f (t m.id)) (heard f t ns)) ≢ []
      by_level true e w g = absurd (w (grind (arith, e)))
      by_level false e w g = told (t m.id) g
