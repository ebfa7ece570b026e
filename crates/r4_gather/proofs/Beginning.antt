-- What was asked for so far is the beginning of what is asked for.
use Rattle.std.proofs.Common.{◌≡◌, ℕ, ◌+◌, [], ◌∷◌, ◌++◌, refl, ap, sym, subst, ◌∙◌, append_assoc, arith, drop}
use Rattle.std.proofs.Common.{length, length-append, reverse, take}
use Rattle.std.proofs.Math.Seq.{drop-append_seam}
use Rattle.std.proofs.lemmas.List.{reverse-append, take-append-drop}
use Rattle.std.specs.Prelude.{◌-◌, Err, Ok, OnErr, Result}
use Rattle.r4_content.specs.Course.{Answer, Ask, Change, Course, Scan, Source, asked}
use Rattle.r4_content.specs.Edited.{Intervals}
use Rattle.r4_gather.specs.Asking.{EndsIn, IsLater, Sighting, asking}

one_more : (r : ℕ × ℕ) (xs g : Intervals) → reverse xs ++ r ∷ g ≡ reverse (r ∷ xs) ++ g
one_more r xs g = sym (ap (λ ys. ys ++ g) (reverse-append (r ∷ []) xs) ∙ append_assoc (reverse xs) (r ∷ []) g)

asks_on : (c : Course) (s : Source) (g : Intervals) → (more : Intervals) × (asking c s g ≡ more ++ g)
asks_on (Ask k next) s g =
    let (more, is) = asks_on (next (s.value k)) s ((k, k + 1) ∷ g) in
    (more ++ (k, k + 1) ∷ [], is ∙ sym (append_assoc more ((k, k + 1) ∷ []) g))
asks_on (Scan from to next) s g =
    let (more, is) = asks_on (next (s.pairs from to)) s ((from, to) ∷ g) in
    (more ++ (from, to) ∷ [], is ∙ sym (append_assoc more ((from, to) ∷ []) g))
asks_on (Answer r) s g = ([], refl)
asks_on (Change e) s g = ([], refl)

ends : (more g : Intervals) → EndsIn g (more ++ g)
ends more g =
    let e : length (more ++ g) - length g ≡ length more = let l = length-append more g in omega (arith, l) in
    ap (λ n. drop n (more ++ g)) e ∙ drop-append_seam more g

-- What was asked for before stands last.
pub asking_goes : (c : Course) (s : Source) (g : Intervals) → EndsIn g (asking c s g)
asking_goes c s g = let (more, is) = asks_on c s g in subst (λ xs. EndsIn g xs) (sym is) (ends more g)

split : (a b : Intervals) → EndsIn a b → b ≡ take (length b - length a) b ++ a
split a b h =
    sym (take-append-drop (length b - length a) b) ∙ ap (λ xs. take (length b - length a) b ++ xs) h

pub ends_both : (a b c : Intervals) → EndsIn a b → EndsIn b c → EndsIn a c
ends_both a b c h g =
    let low = take (length b - length a) b in
    let high = take (length c - length b) c in
    let whole : c ≡ (high ++ low) ++ a =
    split b c g ∙ ap (λ xs. high ++ xs) (split a b h) ∙ sym (append_assoc high low a) in
    subst (λ xs. EndsIn a xs) (sym whole) (ends (high ++ low) a)

-- What is a beginning of what was asked for is one of all that is asked for.
pub asking_on : (c : Course) (s : Source) (first g : Intervals) → EndsIn first g → EndsIn first (asking c s g)
asking_on c s first g h = ends_both first g (asking c s g) h (asking_goes c s g)

pub asking_is : (c : Course) (s : Source) (g : Intervals) → asking c s g ≡ reverse (asked c s) ++ g
asking_is (Ask k next) s g =
    asking_is (next (s.value k)) s ((k, k + 1) ∷ g) ∙ one_more (k, k + 1) (asked (next (s.value k)) s) g
asking_is (Scan from to next) s g =
    asking_is (next (s.pairs from to)) s ((from, to) ∷ g) ∙ one_more (from, to) (asked (next (s.pairs from to)) s) g
asking_is (Answer r) s g = refl
asking_is (Change e) s g = refl

pub later_both : (a b c : Sighting) → IsLater a b → IsLater b c → IsLater a c
later_both a b c ab bc = record {
  keeps = λ r h. bc.keeps r (ab.keeps r h);
  values = λ k h. bc.values k (ab.keeps (k, k + 1) h) ∙ ab.values k h;
}

pub later_same : (a : Sighting) → IsLater a a
later_same a = record { keeps = λ r h. h; values = λ k h. refl }

pub always_err : {T E P : Type 0} (r : Result T E) → P → OnErr r P
always_err (Ok x) p = record {}
always_err (Err e) p = p
