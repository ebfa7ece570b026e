-- Blocks that are marked, placed, held or deferred.
use Rattle.std.proofs.Common.{◌≡◌, ◌≢◌, ℕ, zero, suc, ◌+◌, ◌<◌, Bool, true, false, not, ◌||◌, ◌&&◌, cond, eqb, List, [], ◌∷◌, ◌++◌, length, get_or, set, refl, sym, ap, ◌∙◌, arith, inl, inr}
use Rattle.std.specs.Prelude.{map, replicate, count_by}
use Rattle.std.specs.List.{range_with_len}
use Rattle.std.proofs.lemmas.Bool.{cases_Bool, cases_eq, eq-eqb, ne_eqb, or_left}
use Rattle.std.proofs.lemmas.List.{same_lists, length-map, length-set, get_or-set_same, get_or-set_other, get_or-map, get_or-replicate}
use Rattle.std.proofs.lemmas.List.FromFn.{fill_by_all}
use Rattle.std.proofs.lemmas.List.Folds.{list_any-append}
use Rattle.std.proofs.lemmas.List.Elements.{All-append, All-filter}
use Rattle.std.proofs.lemmas.List.Sums.{sum_by-cons}
use Rattle.r4_base.specs.Bitmap.{is_fixed}
use Rattle.r4_base.specs.declared.things.AtomNo.{AtomNo}
use Rattle.r4_space.specs.declared.things.Claim.{Claim}
use Rattle.r4_space.specs.Accounts.{is_atom}
use Rattle.r4_space.specs.Space.{claims_without, is_block, is_claimed, is_marked_after, is_taken_by, renamed}
use Rattle.r4_space.specs.Kept.{AreBlocks, AreWithin}

-- ---- lists, element by element

pub mapped_all : (f : Claim → Claim) (xs ys : List Claim) → length xs ≡ length ys → ((k : ℕ) (d : Claim) → k < length ys → get_or xs k d ≡ f (get_or ys k d)) → xs ≡ map f ys
mapped_all f xs ys size each = same_lists xs (map f ys) (size ∙ sym (length-map ys f)) (λ k d lt. each k d (omega arith) ∙ sym (get_or-map f ys k d d (omega arith)))

-- ---- one of four

pub second : (a b c d : Bool) → b ≡ true → (a || (b || (c || d))) ≡ true
second true b c d e = refl
second false true c d e = refl
second false false c d e = absurd cc

pub third : (a b c d : Bool) → c ≡ true → (a || (b || (c || d))) ≡ true
third true b c d e = refl
third false true c d e = refl
third false false true d e = refl
third false false false d e = absurd cc

pub fourth : (a b c d : Bool) → d ≡ true → (a || (b || (c || d))) ≡ true
fourth true b c d e = refl
fourth false true c d e = refl
fourth false false true d e = refl
fourth false false false true e = refl
fourth false false false false e = absurd cc

or_true : (a : Bool) → (a || (true || false)) ≡ true
or_true true = refl
or_true false = refl

or_false : (a : Bool) → (a || (false || false)) ≡ a
or_false true = refl
or_false false = refl

claimed-add : (claims : List Claim) (c : Claim) (k : ℕ) → is_claimed (claims ++ c ∷ []) k ≡ (is_claimed claims k || (is_block k c || false))
claimed-add claims c k = list_any-append (is_block k) claims (c ∷ [])

pub claimed-new : (claims : List Claim) (c : Claim) (k : ℕ) → k ≡ c.block.0 → is_claimed (claims ++ c ∷ []) k ≡ true
claimed-new claims c k is =
    let hit : is_block k c ≡ true = eq-eqb _ _ (sym is) in
    claimed-add claims c k ∙ rw hit (or_true (is_claimed claims k))

pub claimed-old : (claims : List Claim) (c : Claim) (k : ℕ) → k ≢ c.block.0 → is_claimed (claims ++ c ∷ []) k ≡ is_claimed claims k
claimed-old claims c k ne =
    let miss : is_block k c ≡ false = ne_eqb _ _ (λ e. ne (sym e)) in
    claimed-add claims c k ∙ rw miss (or_false (is_claimed claims k))

-- ---- a block is placed, held or deferred

pub within-add : (n : ℕ) (claims : List Claim) (c : Claim) → AreWithin n claims → c.block.0 < n → AreWithin n (claims ++ c ∷ [])
within-add n claims c within lt = All-append (λ (x : Claim). x.block.0 < n) claims (c ∷ []) within (one n c lt)
  where
    one : (n : ℕ) (c : Claim) → c.block.0 < n → AreWithin n (c ∷ [])
    one n c lt zero d h = lt
    one n c lt (suc k) d h = absurd (omega arith)

pub blocks_placed : (n b : ℕ) (marked placed taken : List Bool) (held deferred : List Claim) → AreBlocks n marked placed held deferred taken → b < n → AreBlocks n marked (set placed b true) held deferred (set taken b true)
unfolding is_taken_by
blocks_placed n b marked placed taken held deferred is lt =
    let a = length-set placed b true in
    let t = length-set taken b true in
    let x = is.placed_size in
    let y = is.taken_size in
    record {
      least = is.least;
      most = is.most;
      marked_size = is.marked_size;
      placed_size = omega arith;
      taken_size = omega arith;
      fixed = is.fixed;
      tells = λ k within. elim (cases_eq k b) [
        | inl at ↦
            let new : get_or (set placed b true) k false ≡ true = rw at (get_or-set_same placed b true false (omega arith)) in
            let shown : get_or (set taken b true) k true ≡ true = rw at (get_or-set_same taken b true true (omega arith)) in
            shown ∙ sym (second (get_or marked k false) (get_or (set placed b true) k false) (is_claimed held k) (is_claimed deferred k) new)
        | inr other ↦ get_or-set_other taken b k true true other ∙ is.tells k within ∙ ap (λ (p : Bool). get_or marked k false || (p || (is_claimed held k || is_claimed deferred k))) (sym (get_or-set_other placed b k true false other))
      ];
      held_within = is.held_within;
      deferred_within = is.deferred_within;
    }

pub blocks_held : (n : ℕ) (marked placed taken : List Bool) (held deferred : List Claim) (c : Claim) → AreBlocks n marked placed held deferred taken → c.block.0 < n → AreBlocks n marked placed (held ++ c ∷ []) deferred (set taken c.block.0 true)
unfolding is_taken_by
blocks_held n marked placed taken held deferred c is lt =
    let t = length-set taken c.block.0 true in
    let y = is.taken_size in
    record {
      least = is.least;
      most = is.most;
      marked_size = is.marked_size;
      placed_size = is.placed_size;
      taken_size = omega arith;
      fixed = is.fixed;
      tells = λ k within. elim (cases_eq k c.block.0) [
        | inl at ↦
            let shown : get_or (set taken c.block.0 true) k true ≡ true = rw at (get_or-set_same taken c.block.0 true true (omega arith)) in
            shown ∙ sym (third (get_or marked k false) (get_or placed k false) (is_claimed (held ++ c ∷ []) k) (is_claimed deferred k) (claimed-new held c k at))
        | inr other ↦ get_or-set_other taken c.block.0 k true true other ∙ is.tells k within ∙ ap (λ (h : Bool). get_or marked k false || (get_or placed k false || (h || is_claimed deferred k))) (sym (claimed-old held c k other))
      ];
      held_within = within-add n held c is.held_within lt;
      deferred_within = is.deferred_within;
    }

pub blocks_deferred : (n : ℕ) (marked placed taken : List Bool) (held deferred : List Claim) (c : Claim) → AreBlocks n marked placed held deferred taken → c.block.0 < n → AreBlocks n marked placed held (deferred ++ c ∷ []) (set taken c.block.0 true)
unfolding is_taken_by
blocks_deferred n marked placed taken held deferred c is lt =
    let t = length-set taken c.block.0 true in
    let y = is.taken_size in
    record {
      least = is.least;
      most = is.most;
      marked_size = is.marked_size;
      placed_size = is.placed_size;
      taken_size = omega arith;
      fixed = is.fixed;
      tells = λ k within. elim (cases_eq k c.block.0) [
        | inl at ↦
            let shown : get_or (set taken c.block.0 true) k true ≡ true = rw at (get_or-set_same taken c.block.0 true true (omega arith)) in
            shown ∙ sym (fourth (get_or marked k false) (get_or placed k false) (is_claimed held k) (is_claimed (deferred ++ c ∷ []) k) (claimed-new deferred c k at))
        | inr other ↦ get_or-set_other taken c.block.0 k true true other ∙ is.tells k within ∙ ap (λ (d : Bool). get_or marked k false || (get_or placed k false || (is_claimed held k || d))) (sym (claimed-old deferred c k other))
      ];
      held_within = is.held_within;
      deferred_within = within-add n deferred c is.deferred_within lt;
    }

-- ---- the deferred blocks of one atom become another's

pub renamed_block : (kept gone : AtomNo) (c : Claim) → (renamed kept gone c).block.0 ≡ c.block.0
renamed_block kept gone c = elim (cases_Bool (is_atom gone c.atom)) [ inl hit ↦ rw hit refl | inr miss ↦ rw miss refl ]

pub claimed-renamed : (kept gone : AtomNo) (claims : List Claim) (k : ℕ) → is_claimed (map (renamed kept gone) claims) k ≡ is_claimed claims k
claimed-renamed kept gone [] k = refl
claimed-renamed kept gone (c ∷ rest) k =
    let here : is_block k (renamed kept gone c) ≡ is_block k c = ap (λ (b : ℕ). eqb b k) (renamed_block kept gone c) in
    let ih = claimed-renamed kept gone rest k in
    rw (here, ih) refl

pub blocks_merged : (n : ℕ) (marked placed taken : List Bool) (held deferred : List Claim) (kept gone : AtomNo) → AreBlocks n marked placed held deferred taken → AreBlocks n marked placed held (map (renamed kept gone) deferred) taken
unfolding is_taken_by
blocks_merged n marked placed taken held deferred kept gone is = record {
  least = is.least;
  most = is.most;
  marked_size = is.marked_size;
  placed_size = is.placed_size;
  taken_size = is.taken_size;
  fixed = is.fixed;
  tells = λ k within. is.tells k within ∙ ap (λ (d : Bool). get_or marked k false || (get_or placed k false || (is_claimed held k || d))) (sym (claimed-renamed kept gone deferred k));
  held_within = is.held_within;
  deferred_within = λ k d lt.
      let size = length-map deferred (renamed kept gone) in
      let at : get_or (map (renamed kept gone) deferred) k d ≡ renamed kept gone (get_or deferred k d) = get_or-map (renamed kept gone) deferred k d d (omega arith) in
      let one = is.deferred_within k d (omega arith) in
      rw (at, renamed_block) one;
}

-- ---- an atom settles

-- a fixed block stays marked
marks_alike : (x f c : Bool) → (f ≡ true → x ≡ true) → (x && (f || not c)) ≡ (f || (x && not c))
marks_alike true true c h = refl
marks_alike true false c h = refl
marks_alike false true c h = let e = h refl in absurd cc
marks_alike false false c h = refl

pub marks_settled : (n : ℕ) (marked placed new : List Bool) (freed : List Claim) → length marked ≡ n → length new ≡ n → ((b : ℕ) → b < n → is_fixed n b ≡ true → get_or marked b false ≡ true)
    → ((b : ℕ) → get_or new b false ≡ ((get_or marked b false || get_or placed b false) && (is_fixed n b || not (is_claimed freed b))))
    → new ≡ map (is_marked_after n marked placed freed) (range_with_len 0 n)
unfolding is_marked_after
marks_settled n marked placed new freed size size_new fixed each =
    fill_by_all (is_marked_after n marked placed freed) new n false size_new (λ k lt.
    each k ∙ marks_alike (get_or marked k false || get_or placed k false) (is_fixed n k) (is_claimed freed k) (λ f. or_left (get_or marked k false) (get_or placed k false) (fixed k lt f)))

regroup : (m h d : Bool) → (((false || m) || h) || d) ≡ (m || (false || (h || d)))
regroup true h d = refl
regroup false true d = refl
regroup false false d = refl

pub retaken : (n b : ℕ) (marked : List Bool) (held deferred : List Claim) (t0 t1 t2 t3 : Bool) → b < n → t0 ≡ false → t1 ≡ (t0 || get_or marked b false) → t2 ≡ (t1 || is_claimed held b) → t3 ≡ (t2 || is_claimed deferred b)
    → t3 ≡ is_taken_by marked (replicate n false) held deferred b
unfolding is_taken_by
retaken n b marked held deferred t0 t1 t2 t3 lt e0 e1 e2 e3 =
    let none : get_or (replicate n false) b false ≡ false = get_or-replicate n b false false lt in
    e3 ∙ rw (e2, e1, e0, none) (regroup (get_or marked b false) (is_claimed held b) (is_claimed deferred b))

pub within-without : (n : ℕ) (atom : AtomNo) (claims : List Claim) → AreWithin n claims → AreWithin n (claims_without atom claims)
within-without n atom claims within = All-filter (λ (c : Claim). not (is_atom atom c.atom)) (λ (c : Claim). c.block.0 < n) claims within

-- ---- how many blocks are unused

pub count-map : (f : ℕ → Bool) (xs : List ℕ) → count_by not (map f xs) ≡ count_by (λ b. not (f b)) xs
count-map f [] = refl
count-map f (x ∷ xs) =
    sum_by-cons (λ (used : Bool). cond (not used) 1 0) (f x) (map f xs) ∙ ap (λ (m : ℕ). cond (not (f x)) 1 0 + m) (count-map f xs) ∙ sym (sum_by-cons (λ (b : ℕ). cond (not (f b)) 1 0) x xs)

pub unused_is : (n : ℕ) (marked placed taken : List Bool) (held deferred : List Claim) → AreBlocks n marked placed held deferred taken → count_by not taken ≡ count_by (λ b. not (is_taken_by marked placed held deferred b)) (range_with_len 0 n)
unused_is n marked placed taken held deferred is =
    let same = fill_by_all (is_taken_by marked placed held deferred) taken n true is.taken_size is.tells in
    ap (λ (bits : List Bool). count_by not bits) same ∙ count-map (is_taken_by marked placed held deferred) (range_with_len 0 n)
