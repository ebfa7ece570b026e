-- Numbers and paths are read as they are spelled.
use Rattle.std.proofs.Common.{◌≡◌, ◌≢◌, inl, inr, ℕ, ◌+◌, ◌-◌, ◌*◌, ◌≤◌, Bool, true, false, cond, ◌&&◌, nat_eq, nat_lt, nat_le, List, [], ◌∷◌, ◌++◌, length, drop, Option, Some, None, refl, ap, ◌∙◌, sym, subst, arith, option_map, not, leb-true, le-leb, eq-eqb}
use Rattle.std.specs.Prelude.{flat_map}
use Rattle.std.specs.List.{AllByRecursion, list_all}
use Rattle.std.proofs.lemmas.Bool.{and_parts, eqb-true, lt-ltb, ltb-true, ne_eqb}
use Rattle.std.proofs.lemmas.Bool.Decides.{eqb_tells}
use Rattle.r4_script.specs.Field.{digits_from, up_to, number_of, is_path_byte, components, behind_root, path_of}
use Rattle.r4_script.specs.Grammar.{IsNumber, IsNameByte, IsPath}
use Rattle.r4_script.specs.Split.{onto_first, split}
use Rattle.r4_script.proofs.Fields.{NoBlank}
use Rattle.r4_script.proofs.Lines.{first_part}

-- ---- tests

pub chosen : {A : Type 0} (b : Bool) (x : Option A) (n : A) → cond b x None ≡ Some n → (b ≡ true) × (x ≡ Some n)
chosen true x n e = (refl, e)
chosen false x n e = absurd cc

-- ---- numbers

up_to_is : (most : ℕ) (o : Option ℕ) (n : ℕ) → up_to most o ≡ Some n → (o ≡ Some n) × (n ≤ most)
up_to_is most None n e = absurd cc
up_to_is most (Some m) n e =
    let c = chosen (nat_le m most) (Some m) n e in
    let same : m ≡ n = cc (c.1) in
    (c.1, omega (arith, leb-true m most c.0, same))

pub no_blank_digits : (base so_far : ℕ) (ds : List ℕ) (n : ℕ) → digits_from base so_far ds ≡ Some n → NoBlank ds
no_blank_digits base so_far [] n e = tt
no_blank_digits base so_far (d ∷ ds) n e =
    let c = chosen (nat_le 48 d && nat_lt d (48 + base)) (digits_from base (so_far * base + (d - 48)) ds) n e in
    let t = and_parts (nat_le 48 d) (nat_lt d (48 + base)) c.0 in
    let low : 48 ≤ d = leb-true 48 d t.0 in
    ((λ same. absurd (omega (arith, low, same))), no_blank_digits base (so_far * base + (d - 48)) ds n c.1)

pub number_is : (base count most : ℕ) (text : List ℕ) (n : ℕ) → number_of base count most text ≡ Some n → IsNumber base count most text n
unfolding number_of
number_is base count most text n e =
    let c = chosen (nat_lt 0 (length text) && nat_le (length text) count) (up_to most (digits_from base 0 text)) n e in
    let t = and_parts (nat_lt 0 (length text)) (nat_le (length text) count) c.0 in
    let u = up_to_is most (digits_from base 0 text) n c.1 in
    record { some = ltb-true 0 (length text) t.0; few = leb-true (length text) count t.1; value = u.0; below = u.1 }

pub number_again : (base count most : ℕ) (text : List ℕ) (n : ℕ) → IsNumber base count most text n → number_of base count most text ≡ Some n
unfolding number_of
number_again base count most text n h =
    ap (λ (b : Bool). cond (b && nat_le (length text) count) (up_to most (digits_from base 0 text)) None) (lt-ltb 0 (length text) h.some)
    ∙ ap (λ (b : Bool). cond b (up_to most (digits_from base 0 text)) None) (le-leb (length text) count h.few)
    ∙ ap (up_to most) h.value ∙ ap (λ (b : Bool). cond b (Some n) None) (le-leb n most h.below)

-- ---- paths

split_spells : (xs : List ℕ) → 47 ∷ xs ≡ flat_map (λ n. 47 ∷ n) (split 47 xs)
split_spells [] = refl
split_spells (b ∷ bs) = elim (eqb_tells b 47) [
  | inl p ↦ subst (λ (v : Bool). 47 ∷ b ∷ bs ≡ flat_map (λ n. 47 ∷ n) (cond v ([] ∷ split 47 bs) (onto_first b (split 47 bs)))) (sym p.0)
      (ap (λ (n : ℕ). 47 ∷ n ∷ bs) p.1 ∙ ap (λ (l : List ℕ). 47 ∷ l) (split_spells bs))
  | inr q ↦
      let f = first_part 47 bs in
      let rest : 47 ∷ bs ≡ 47 ∷ (f.0 ++ flat_map (λ n. 47 ∷ n) f.1.0) = split_spells bs ∙ ap (flat_map (λ n. 47 ∷ n)) f.1.1 in
      let tail : bs ≡ f.0 ++ flat_map (λ n. 47 ∷ n) f.1.0 = ap (drop 1) rest in
      subst (λ (v : Bool). 47 ∷ b ∷ bs ≡ flat_map (λ n. 47 ∷ n) (cond v ([] ∷ split 47 bs) (onto_first b (split 47 bs)))) (sym q.0)
      (ap (λ (l : List ℕ). 47 ∷ b ∷ l) tail ∙ sym (ap (λ (l : List (List ℕ)). flat_map (λ n. 47 ∷ n) (onto_first b l)) f.1.1))
]

split_names : (xs : List ℕ) → list_all is_path_byte xs ≡ true → AllByRecursion (AllByRecursion IsNameByte) (split 47 xs)
split_names [] e = (tt, tt)
split_names (b ∷ bs) e =
    let t = and_parts (is_path_byte b) (list_all is_path_byte bs) e in
    let u = and_parts (nat_lt 32 b) (not (nat_eq b 127)) t.0 in
    let rest = split_names bs t.1 in
    elim (eqb_tells b 47) [
      | inl p ↦ subst (λ (v : Bool). AllByRecursion (AllByRecursion IsNameByte) (cond v ([] ∷ split 47 bs) (onto_first b (split 47 bs)))) (sym p.0) (tt, rest)
      | inr q ↦ subst (λ (v : Bool). AllByRecursion (AllByRecursion IsNameByte) (cond v ([] ∷ split 47 bs) (onto_first b (split 47 bs)))) (sym q.0)
          (onto b (split 47 bs) (record { above = ltb-true 32 b u.0; plain = is_not b u.1; no_slash = q.1 }) rest)
    ]
  where
    onto : (b : ℕ) (parts : List (List ℕ)) → IsNameByte b → AllByRecursion (AllByRecursion IsNameByte) parts → AllByRecursion (AllByRecursion IsNameByte) (onto_first b parts)
    onto b [] h r = ((h, tt), tt)
    onto b (part ∷ parts) h r = ((h, r.0), r.1)

    never : (v : Bool) → v ≡ true → not v ≡ true → ⊥
    never true p q = cc
    never false p q = cc

    is_not : (b : ℕ) → not (nat_eq b 127) ≡ true → b ≢ 127
    is_not b e same = never (nat_eq b 127) (eq-eqb b 127 same) e

pub path_is : (text : List ℕ) (p : List (List ℕ)) → path_of text ≡ Some p → IsPath text p
unfolding path_of
path_is [] p e = absurd cc
path_is (b ∷ bytes) p e =
    let r = rooted (nat_eq b 47 && list_all is_path_byte bytes) bytes p e in
    let t = and_parts (nat_eq b 47) (list_all is_path_byte bytes) r.0 in
    let slash : b ≡ 47 = eqb-true b 47 t.0 in
    subst (λ (n : ℕ). IsPath (n ∷ bytes) p) (sym slash) (subst (IsPath (47 ∷ bytes)) r.1 (named bytes t.1))
  where
    some_is : (x y : List (List ℕ)) → Some x ≡ Some y → x ≡ y
    some_is x y e = cc

    rooted : (v : Bool) (bytes : List ℕ) (p : List (List ℕ)) → option_map components (cond v (Some bytes) None) ≡ Some p → (v ≡ true) × (components bytes ≡ p)
    rooted true bytes p e = (refl, some_is (components bytes) p e)
    rooted false bytes p e = absurd cc

    not_bare : (c : ℕ) (cs : List ℕ) → 47 ∷ c ∷ cs ≡ 47 ∷ [] → ⊥
    not_bare c cs e = cc

    shaped : (c : ℕ) (cs : List ℕ) (parts : List (List ℕ)) → 47 ∷ c ∷ cs ≡ flat_map (λ n. 47 ∷ n) parts → AllByRecursion (AllByRecursion IsNameByte) parts → IsPath (47 ∷ c ∷ cs) parts
    shaped c cs [] s a = absurd cc
    shaped c cs (name ∷ names) s a = (s, a, λ bare. not_bare c cs (s ∙ ap (flat_map (λ n. 47 ∷ n)) bare))

    named : (bytes : List ℕ) → list_all is_path_byte bytes ≡ true → IsPath (47 ∷ bytes) (components bytes)
    named [] e = refl
    named (c ∷ cs) e = shaped c cs (split 47 (c ∷ cs)) (split_spells (c ∷ cs)) (split_names (c ∷ cs) e)

split_again : (name : List ℕ) (names : List (List ℕ)) → AllByRecursion IsNameByte name → AllByRecursion (AllByRecursion IsNameByte) names → split 47 (name ++ flat_map (λ n. 47 ∷ n) names) ≡ name ∷ names
split_again [] [] h k = refl
split_again [] (m ∷ ms) h k = ap (λ (l : List (List ℕ)). [] ∷ l) (split_again m ms k.0 k.1)
split_again (b ∷ name) names h k =
    ap (λ (v : Bool). cond v ([] ∷ split 47 (name ++ flat_map (λ n. 47 ∷ n) names)) (onto_first b (split 47 (name ++ flat_map (λ n. 47 ∷ n) names)))) (ne_eqb b 47 (h.0).no_slash)
    ∙ ap (onto_first b) (split_again name names h.1 k)

all_visible : (name : List ℕ) (names : List (List ℕ)) → AllByRecursion IsNameByte name → AllByRecursion (AllByRecursion IsNameByte) names → list_all is_path_byte (name ++ flat_map (λ n. 47 ∷ n) names) ≡ true
all_visible [] [] h k = refl
all_visible [] (m ∷ ms) h k = all_visible m ms k.0 k.1
all_visible (b ∷ name) names h k =
    ap (λ (v : Bool). (v && not (nat_eq b 127)) && list_all is_path_byte (name ++ flat_map (λ n. 47 ∷ n) names)) (lt-ltb 32 b (h.0).above)
    ∙ ap (λ (v : Bool). not v && list_all is_path_byte (name ++ flat_map (λ n. 47 ∷ n) names)) (ne_eqb b 127 (h.0).plain)
    ∙ all_visible name names h.1 k

pub path_again : (text : List ℕ) (p : List (List ℕ)) → IsPath text p → path_of text ≡ Some p
unfolding path_of
path_again text [] h = ap (λ (l : List ℕ). option_map components (behind_root l)) h
path_again text (name ∷ names) h =
    ap (λ (l : List ℕ). option_map components (behind_root l)) h.0
    ∙ ap (λ (v : Bool). option_map components (cond v (Some (name ++ flat_map (λ n. 47 ∷ n) names)) None)) (all_visible name names h.1.0 h.1.1)
    ∙ ap Some (whole name names h.1.0 h.1.1 h.2)
  where
    whole : (name : List ℕ) (names : List (List ℕ)) → AllByRecursion IsNameByte name → AllByRecursion (AllByRecursion IsNameByte) names → (name ∷ names ≢ [] ∷ []) → components (name ++ flat_map (λ n. 47 ∷ n) names) ≡ name ∷ names
    whole [] [] h k bare = absurd (bare refl)
    whole [] (m ∷ ms) h k bare = split_again [] (m ∷ ms) h k
    whole (b ∷ name) names h k bare = split_again (b ∷ name) names h k

no_blank_names : (name : List ℕ) (names : List (List ℕ)) → AllByRecursion IsNameByte name → AllByRecursion (AllByRecursion IsNameByte) names → NoBlank (name ++ flat_map (λ n. 47 ∷ n) names)
no_blank_names [] [] h k = tt
no_blank_names [] (m ∷ ms) h k = ((λ same. absurd (omega (arith, same))), no_blank_names m ms k.0 k.1)
no_blank_names (b ∷ name) names h k = ((λ same. absurd (omega (arith, same, (h.0).above))), no_blank_names name names h.1 k)

pub no_blank_path : (text : List ℕ) (p : List (List ℕ)) → IsPath text p → NoBlank text
no_blank_path text [] h = subst NoBlank (sym h) ((λ same. absurd (omega (arith, same))), tt)
no_blank_path text (name ∷ names) h = subst NoBlank (sym h.0) ((λ same. absurd (omega (arith, same))), no_blank_names name names h.1.0 h.1.1)
