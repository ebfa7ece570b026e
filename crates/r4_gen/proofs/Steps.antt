-- Lists that are made of ranges, one more step each, and the directories of a script as a range.
use Rattle.std.proofs.Common.{◌≡◌, ℕ, zero, suc, ◌+◌, ◌-◌, ◌*◌, ◌%◌, ◌≤◌, Bool, true, false, cond, List, [], ◌∷◌, ◌++◌, map, if◌then◌else◌, ◌≢◌, inl, inr, eq-eqb, refl, sym, ap, ◌∙◌, arith}
use Rattle.std.specs.Prelude.{flat_map, ◌==◌}
use Rattle.std.specs.List.{enumerate_from, filter, range_with_len}
use Rattle.std.proofs.lemmas.Bool.Decides.{eqb_tells}
use Rattle.std.proofs.lemmas.Grind.{flat_map-append}
use Rattle.std.proofs.lemmas.List.{append-nil, append_assoc}
use Rattle.std.proofs.lemmas.List.FromFn.{map-range_with_len_more}
use Rattle.std.proofs.lemmas.List.Folds.{flat_map-map}
use Rattle.r4_content.specs.declared.command.Command.{Command}
use Rattle.r4_content.specs.declared.command.Command.TheVariants.{Begin, Create, Fill, End, Mkdir, Unlink}
use Rattle.r4_script.specs.Command.{no_oid}
use Rattle.r4_gen.specs.Workload.{byte_of, commit_behind, directories_of, directory_made, directory_path, directory_thinned, each_directory, file_made, file_path, files_in, size_of}

-- ---- ranges

range_more : (a n : ℕ) → range_with_len a (suc n) ≡ range_with_len a n ++ (a + n) ∷ []
range_more a zero = ap (λ k. k ∷ []) (omega arith)
range_more a (suc n) =
    let shifted : (a + 1) + n ≡ a + suc n = omega arith in
    ap (λ l. a ∷ l) (range_more (a + 1) n ∙ ap (λ k. range_with_len (a + 1) n ++ k ∷ []) shifted)

flat_map_more : {A : Type 0} (f : ℕ → List A) (a n : ℕ)
    → flat_map f (range_with_len a (n + 1)) ≡ flat_map f (range_with_len a n) ++ f (a + n)
flat_map_more f a n =
    let next : n + 1 ≡ suc n = omega arith in
    ap (λ k. flat_map f (range_with_len a k)) next
    ∙ (ap (flat_map f) (range_more a n)
    ∙ (flat_map-append f (range_with_len a n) ((a + n) ∷ [])
    ∙ ap (λ l. flat_map f (range_with_len a n) ++ l) (append-nil (f (a + n)))))

-- a list to which each step of a range adds its part
pub one_part_more : {A : Type 0} (f : ℕ → List A) (a n : ℕ) (old now new : List A)
    → now ≡ old ++ flat_map f (range_with_len a n) → new ≡ now ++ f (a + n)
    → new ≡ old ++ flat_map f (range_with_len a (n + 1))
one_part_more f a n old now new was adds =
    adds ∙ (ap (λ l. l ++ f (a + n)) was
    ∙ (append_assoc old (flat_map f (range_with_len a n)) (f (a + n))
    ∙ ap (λ l. old ++ l) (sym (flat_map_more f a n))))

-- what is chosen of a list, as parts
chosen_first : {A B : Type 0} (make : A → B) (b : Bool) (x : A) (xs : List A) (parts : List B) → map make xs ≡ parts
    → map make (cond b (x ∷ xs) xs) ≡ cond b (make x ∷ []) [] ++ parts
chosen_first make true x xs parts h = ap (λ l. make x ∷ l) h
chosen_first make false x xs parts h = h

chosen_parts : {A B : Type 0} (make : A → B) (test : A → Bool) (xs : List A)
    → map make (filter test xs) ≡ flat_map (λ x. cond (test x) (make x ∷ []) []) xs
chosen_parts make test [] = refl
chosen_parts make test (x ∷ xs) = chosen_first make (test x) x (filter test xs)
    (flat_map (λ x. cond (test x) (make x ∷ []) []) xs) (chosen_parts make test xs)

-- ---- files and directories

four_pushed : {A : Type 0} (old : List A) (w x y z : A)
    → (((old ++ w ∷ []) ++ x ∷ []) ++ y ∷ []) ++ z ∷ [] ≡ old ++ w ∷ x ∷ y ∷ z ∷ []
four_pushed [] w x y z = refl
four_pushed (o ∷ old) w x y z = ap (λ l. o ∷ l) (four_pushed old w x y z)

module _ (seed i size : ℕ) (p q : List (List ℕ)) (old b c d e : List Command) (p_is : p ≡ file_path i) (q_is : q ≡ p)
    (size_is : size ≡ size_of seed i) (begun : b ≡ old ++ Begin ∷ []) (created : c ≡ b ++ Create p no_oid ∷ [])
    (filled : d ≡ c ++ Fill q 0 size (byte_of i) ∷ []) (ended : e ≡ d ++ End ∷ []) where
  the_file : Begin ∷ Create p no_oid ∷ Fill q 0 size (byte_of i) ∷ End ∷ [] ≡ file_made seed i
  the_file = ap (λ r. Begin ∷ Create p no_oid ∷ Fill r 0 size (byte_of i) ∷ End ∷ []) q_is
      ∙ (ap (λ r. Begin ∷ Create r no_oid ∷ Fill r 0 size (byte_of i) ∷ End ∷ []) p_is
      ∙ ap (λ n. Begin ∷ Create (file_path i) no_oid ∷ Fill (file_path i) 0 n (byte_of i) ∷ End ∷ []) size_is)

  pub file_is_made : e ≡ old ++ file_made seed i
  file_is_made = ended ∙ (ap (λ l. l ++ End ∷ []) (filled
      ∙ ap (λ l. l ++ Fill q 0 size (byte_of i) ∷ []) (created
      ∙ ap (λ l. l ++ Create p no_oid ∷ []) begun))
      ∙ (four_pushed old Begin (Create p no_oid) (Fill q 0 size (byte_of i)) End
      ∙ ap (λ l. old ++ l) the_file))

pub directory_is_made : (seed dir : ℕ) (p : List (List ℕ)) (old b c : List Command) → p ≡ directory_path dir
    → b ≡ old ++ Mkdir p no_oid ∷ [] → c ≡ b ++ flat_map (file_made seed) (files_in dir)
    → c ≡ old ++ directory_made seed dir
directory_is_made seed dir p old b c p_is begun filled =
    let files = flat_map (file_made seed) (files_in dir) in
    filled ∙ (ap (λ l. l ++ files) (begun ∙ ap (λ r. old ++ Mkdir r no_oid ∷ []) p_is)
    ∙ append_assoc old (Mkdir (directory_path dir) no_oid ∷ []) files)

-- a file with an even number goes
abbrev pub unlinked : ℕ → List Command
unlinked i = if i % 2 == 0 then Unlink (file_path i) ∷ [] else []

pub even_goes : (i : ℕ) (p : List (List ℕ)) (old new : List Command) → i % 2 ≡ 0 → p ≡ file_path i
    → new ≡ old ++ Unlink p ∷ [] → new ≡ old ++ unlinked i
even_goes i p old new even p_is goes =
    goes ∙ (ap (λ r. old ++ Unlink r ∷ []) p_is
    ∙ ap (λ b. old ++ (if b then Unlink (file_path i) ∷ [] else [])) (sym (eq-eqb (i % 2) 0 even)))

pub odd_stays : (i : ℕ) (old new : List Command) → i % 2 ≢ 0 → new ≡ old → new ≡ old ++ unlinked i
odd_stays i old new odd same = elim (eqb_tells (i % 2) 0) [
  | inl p ↦ absurd (odd p.1)
  | inr p ↦ same ∙ (sym (append-nil old) ∙ ap (λ b. old ++ (if b then Unlink (file_path i) ∷ [] else [])) (sym p.0))
]

pub directory_is_thinned : (dir : ℕ) (old new : List Command) → new ≡ old ++ flat_map unlinked (files_in dir)
    → new ≡ old ++ directory_thinned dir
directory_is_thinned dir old new h =
    h ∙ ap (λ l. old ++ l) (sym (chosen_parts (λ i. Unlink (file_path i)) (λ i. i % 2 == 0) (files_in dir)))

-- ---- the directories of a script

-- the nth of them, from 0
abbrev pub part : (done : ℕ → List Command) → (s n : ℕ) → List Command
part done s n = done (4 * n + (s - 1)) ++ commit_behind (n + 1)

counted : (s : ℕ) → 1 ≤ s → s ≤ 4
    → enumerate_from 1 (directories_of s) ≡ map (λ n. (n + 1, 4 * n + (s - 1))) (range_with_len 0 50)
counted zero low high = absurd (omega (arith, low))
counted (suc zero) low high = refl
counted (suc (suc zero)) low high = refl
counted (suc (suc (suc zero))) low high = refl
counted (suc (suc (suc (suc zero)))) low high = refl
counted (suc (suc (suc (suc (suc s))))) low high = absurd (omega (arith, high))

pub all_parts : (done : ℕ → List Command) (s : ℕ) → 1 ≤ s → s ≤ 4
    → flat_map (part done s) (range_with_len 0 50) ≡ each_directory done s
all_parts done s low high =
    sym (ap (flat_map (λ (e : ℕ × ℕ). done e.1 ++ commit_behind e.0)) (counted s low high)
    ∙ flat_map-map {B = ℕ × ℕ} (λ e. done e.1 ++ commit_behind e.0) (λ n. (n + 1, 4 * n + (s - 1)))
    (range_with_len 0 50))

-- a part is what a directory adds and the commit behind it
pub part_more : (done : ℕ → List Command) (s n : ℕ) (old now mid new : List Command)
    → now ≡ old ++ flat_map (part done s) (range_with_len 0 n) → mid ≡ now ++ done (4 * n + (s - 1))
    → new ≡ mid ++ commit_behind (n + 1) → new ≡ old ++ flat_map (part done s) (range_with_len 0 (n + 1))
part_more done s n old now mid new was adds commits =
    let from_0 : n ≡ 0 + n = omega arith in
    let added : new ≡ now ++ part done s n =
    commits ∙ (ap (λ l. l ++ commit_behind (n + 1)) adds
    ∙ append_assoc now (done (4 * n + (s - 1))) (commit_behind (n + 1))) in
    one_part_more (part done s) 0 n old now new was (added ∙ ap (λ k. now ++ part done s k) from_0)

-- a script more
pub one_script_more : {A : Type 0} (f : ℕ → A) (n : ℕ) (x : A) (now new : List A)
    → now ≡ map f (range_with_len 0 n) → x ≡ f n → new ≡ now ++ x ∷ [] → new ≡ map f (range_with_len 0 (n + 1))
one_script_more f n x now new was is adds =
    adds ∙ (ap (λ l. l ++ x ∷ []) was ∙ (ap (λ y. map f (range_with_len 0 n) ++ y ∷ []) is
    ∙ sym (map-range_with_len_more f 0 n n (omega arith))))

-- ---- ends of loops

pub all_of : {A : Type 0} (f : ℕ → List A) (a n m : ℕ) (old now : List A) → n ≡ m
    → now ≡ old ++ flat_map f (range_with_len a n) → now ≡ old ++ flat_map f (range_with_len a m)
all_of f a n m old now end was = was ∙ ap (λ k. old ++ flat_map f (range_with_len a k)) end
