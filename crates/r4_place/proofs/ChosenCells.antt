-- What placing the cells of a slum leaves.
use Rattle.std.proofs.Common.{◌≡◌, ◌≢◌, inl, inr, ℕ, zero, suc, ◌+◌, ◌≤◌, ◌<◌, Bool, true, false, not, ◌||◌, List, [], ◌∷◌, ◌++◌, length, take, map, get_or, set, refl, sym, ap, ◌∙◌, subst, arith}
use Rattle.std.specs.Prelude.{Contains, All, count_by}
use Rattle.std.specs.List.{range_with_len}
use Rattle.std.proofs.lemmas.Bool.{cases_eq}
use Rattle.std.proofs.lemmas.List.FromFn.{length-range_with_len, get_or-range_with_len}
use Rattle.std.proofs.lemmas.List.Sums.{count_by_more_no}
use Rattle.std.proofs.lemmas.List.{take_all, take_more, map-append, length-set, get_or-set_same, get_or-set_other}
use Rattle.std.proofs.lemmas.List.Elements.{All-nil, All-cons}
use Rattle.r4_base.proofs.Members.{member_here, member_later}
use Rattle.r4_cell.specs.Seen.{CellSeen}
use Rattle.r4_space.specs.Words.{IsFull}
use Rattle.r4_space.specs.Space.{Space, is_claimed, is_taken, is_taken_by, unused_count, with_placed}
use Rattle.r4_space.proofs.ClaimLaws.{second}
use Rattle.r4_place.specs.declared.placed.How.{How}
use Rattle.r4_place.specs.declared.placed.How.TheVariants.{Fresh, Relocate, Overwrite}
use Rattle.r4_place.specs.declared.placed.Placed.{Placed}
use Rattle.r4_base.specs.Image.{AreDifferent}
use Rattle.r4_base.proofs.Choices.{never_both}
use Rattle.r4_place.specs.Chosen.{behind, placed_in, IsChosen, AreChosen, behind_all, placed_all, block_of, fresh_blocks}

-- ---- a full space has no unused block

count_none : (q : ℕ → Bool) (xs : List ℕ) (i : ℕ) → ((j : ℕ) → j < length xs → q (get_or xs j 0) ≡ false) → i ≤ length xs → count_by q (take i xs) ≡ 0
count_none q xs zero each le = refl
count_none q xs (suc i) each le =
    let lt : i < length xs = omega (arith, le) in
    let next : i + 1 ≡ suc i = omega arith in
    ap (λ (k : ℕ). count_by q (take k xs)) (sym next) ∙ count_by_more_no q xs i 0 lt (each i lt) ∙ count_none q xs i each (omega (arith, le))

pub none_unused : (s : Space) → IsFull (is_taken s) s.block_count 0 → unused_count s ≡ 0
unfolding unused_count
none_unused s full =
    let blocks : List ℕ = range_with_len 0 s.block_count in
    let long : length blocks ≡ s.block_count = length-range_with_len 0 s.block_count in
    ap (count_by (λ b. not (is_taken s b))) (sym (take_all (length blocks) blocks (omega arith)))
    ∙ count_none (λ b. not (is_taken s b)) blocks (length blocks) (λ j lt.
    let at : get_or blocks j 0 ≡ j = get_or-range_with_len 0 s.block_count j 0 (omega (arith, lt, long)) ∙ (let same : 0 + j ≡ j = omega arith in same) in
    ap (λ (k : ℕ). not (is_taken s k)) at ∙ ap not (full j (omega arith) (omega (arith, lt, long)))) (omega arith)

-- ---- one block placed

taken_here : (s : Space) (a : ℕ) → a < length s.placed → is_taken (with_placed s a) a ≡ true
unfolding is_taken_by
taken_here s a lt = second (get_or s.marked a false) (get_or (set s.placed a true) a false) (is_claimed s.held a) (is_claimed s.deferred a) (get_or-set_same s.placed a true false lt)

taken_other : (s : Space) (a b : ℕ) → b ≢ a → is_taken (with_placed s a) b ≡ is_taken s b
unfolding is_taken_by
taken_other s a b other = ap (λ (p : Bool). get_or s.marked b false || (p || (is_claimed s.held b || is_claimed s.deferred b))) (get_or-set_other s.placed a b true false other)

clear_before : (s : Space) (a b : ℕ) → a < length s.placed → is_taken (with_placed s a) b ≡ false → (is_taken s b ≡ false) × (b ≢ a)
clear_before s a b lt clear = elim (cases_eq b a) [
  | inl is ↦ absurd (never_both (is_taken (with_placed s a) a) (taken_here s a lt) (subst (λ (k : ℕ). is_taken (with_placed s a) k ≡ false) is clear))
  | inr other ↦ (sym (taken_other s a b other) ∙ clear, other)
]

-- ---- all of them

pub fresh_unused : (near : ℕ) (s : Space) (cs : List CellSeen) (ps : List Placed) → length s.placed ≡ s.block_count → AreChosen near s cs ps → All (λ b. (b < s.block_count) × (is_taken s b ≡ false)) (fresh_blocks ps)
fresh_unused near s [] [] size h = All-nil (λ (b : ℕ). (b < s.block_count) × (is_taken s b ≡ false))
fresh_unused near s [] (p ∷ ps) size h = absurd h
fresh_unused near s (c ∷ cs) [] size h = absurd h
fresh_unused near s (c ∷ cs) (p ∷ ps) size h = go p.how (λ near' s' long rest. fresh_unused near' s' cs ps long rest) h.1 h.2
  where
    go : (how : How) → ((near' : ℕ) (s' : Space) → length s'.placed ≡ s'.block_count → AreChosen near' s' cs ps → All (λ b. (b < s'.block_count) × (is_taken s' b ≡ false)) (fresh_blocks ps)) → IsChosen near s c how → AreChosen (behind near how) (placed_in s how) cs ps → All (λ b. (b < s.block_count) × (is_taken s b ≡ false)) (block_of how ++ fresh_blocks ps)
    go (Fresh a) ih one rest =
        let lt : a.0 < length s.placed = omega (arith, one.1.within, size) in
        let later = ih (a.0 + 1) (with_placed s a.0) (length-set s.placed a.0 true ∙ size) rest in
        All-cons (λ (b : ℕ). (b < s.block_count) × (is_taken s b ≡ false)) a.0 (fresh_blocks ps) (one.1.within, one.1.clear) (λ k d below. let l = later k d below in (l.0, (clear_before s a.0 _ lt l.1).0))
    go (Relocate a) ih one rest = absurd one
    go Overwrite ih one rest = ih near s size rest

pub fresh_different : (near : ℕ) (s : Space) (cs : List CellSeen) (ps : List Placed) → length s.placed ≡ s.block_count → AreChosen near s cs ps → AreDifferent (fresh_blocks ps)
fresh_different near s [] [] size h = tt
fresh_different near s [] (p ∷ ps) size h = absurd h
fresh_different near s (c ∷ cs) [] size h = absurd h
fresh_different near s (c ∷ cs) (p ∷ ps) size h = go p.how (λ near' s' long rest. fresh_different near' s' cs ps long rest) h.1 h.2
  where
    go : (how : How) → ((near' : ℕ) (s' : Space) → length s'.placed ≡ s'.block_count → AreChosen near' s' cs ps → AreDifferent (fresh_blocks ps)) → IsChosen near s c how → AreChosen (behind near how) (placed_in s how) cs ps → AreDifferent (block_of how ++ fresh_blocks ps)
    go (Fresh a) ih one rest =
        let lt : a.0 < length s.placed = omega (arith, one.1.within, size) in
        let long : length (set s.placed a.0 true) ≡ s.block_count = length-set s.placed a.0 true ∙ size in
        let later = fresh_unused (a.0 + 1) (with_placed s a.0) cs ps long rest in
        ((λ again. let one_more = later again.0 a.0 again.1 in never_both (is_taken (with_placed s a.0) a.0) (taken_here s a.0 lt) (subst (λ (k : ℕ). is_taken (with_placed s a.0) k ≡ false) again.2 one_more.1)), ih (a.0 + 1) (with_placed s a.0) long rest)
    go (Relocate a) ih one rest = absurd one
    go Overwrite ih one rest = ih near s size rest

-- what is placed stays placed
stays_placed : (near : ℕ) (s : Space) (cs : List CellSeen) (ps : List Placed) (b : ℕ) → length s.placed ≡ s.block_count → AreChosen near s cs ps → get_or s.placed b false ≡ true → get_or (placed_all s ps).placed b false ≡ true
stays_placed near s [] [] b size h on = on
stays_placed near s [] (p ∷ ps) b size h on = absurd h
stays_placed near s (c ∷ cs) [] b size h on = absurd h
stays_placed near s (c ∷ cs) (p ∷ ps) b size h on = go p.how (λ near' s' long rest still. stays_placed near' s' cs ps b long rest still) h.1 h.2
  where
    go : (how : How) → ((near' : ℕ) (s' : Space) → length s'.placed ≡ s'.block_count → AreChosen near' s' cs ps → get_or s'.placed b false ≡ true → get_or (placed_all s' ps).placed b false ≡ true) → IsChosen near s c how → AreChosen (behind near how) (placed_in s how) cs ps → get_or (placed_all (placed_in s how) ps).placed b false ≡ true
    go (Fresh a) ih one rest =
        let lt : a.0 < length s.placed = omega (arith, one.1.within, size) in
        ih (a.0 + 1) (with_placed s a.0) (length-set s.placed a.0 true ∙ size) rest (elim (cases_eq b a.0) [
          | inl is ↦ ap (λ (k : ℕ). get_or (set s.placed a.0 true) k false) is ∙ get_or-set_same s.placed a.0 true false lt
          | inr other ↦ get_or-set_other s.placed a.0 b true false other ∙ on
        ])
    go (Relocate a) ih one rest = absurd one
    go Overwrite ih one rest = ih near s size rest on

pub fresh_used : (near : ℕ) (s : Space) (cs : List CellSeen) (ps : List Placed) → length s.placed ≡ s.block_count → AreChosen near s cs ps → All (λ b. get_or (placed_all s ps).placed b false ≡ true) (fresh_blocks ps)
fresh_used near s [] [] size h = All-nil (λ (b : ℕ). get_or s.placed b false ≡ true)
fresh_used near s [] (p ∷ ps) size h = absurd h
fresh_used near s (c ∷ cs) [] size h = absurd h
fresh_used near s (c ∷ cs) (p ∷ ps) size h = go p.how (λ near' s' long rest. fresh_used near' s' cs ps long rest) h.1 h.2
  where
    go : (how : How) → ((near' : ℕ) (s' : Space) → length s'.placed ≡ s'.block_count → AreChosen near' s' cs ps → All (λ b. get_or (placed_all s' ps).placed b false ≡ true) (fresh_blocks ps)) → IsChosen near s c how → AreChosen (behind near how) (placed_in s how) cs ps → All (λ b. get_or (placed_all (placed_in s how) ps).placed b false ≡ true) (block_of how ++ fresh_blocks ps)
    go (Fresh a) ih one rest =
        let lt : a.0 < length s.placed = omega (arith, one.1.within, size) in
        All-cons (λ (b : ℕ). get_or (placed_all (with_placed s a.0) ps).placed b false ≡ true) a.0 (fresh_blocks ps)
        (stays_placed (a.0 + 1) (with_placed s a.0) cs ps a.0 (length-set s.placed a.0 true ∙ size) rest (get_or-set_same s.placed a.0 true false lt))
        (ih (a.0 + 1) (with_placed s a.0) (length-set s.placed a.0 true ∙ size) rest)
    go (Relocate a) ih one rest = absurd one
    go Overwrite ih one rest = ih near s size rest

pub others_stay : (s : Space) (ps : List Placed) (b : ℕ) → (Contains (fresh_blocks ps) b → ⊥) → get_or (placed_all s ps).placed b false ≡ get_or s.placed b false
others_stay s [] b out = refl
others_stay s (p ∷ ps) b out = go p.how (λ s' gone. others_stay s' ps b gone) out
  where
    go : (how : How) → ((s' : Space) → (Contains (fresh_blocks ps) b → ⊥) → get_or (placed_all s' ps).placed b false ≡ get_or s'.placed b false) → (Contains (block_of how ++ fresh_blocks ps) b → ⊥) → get_or (placed_all (placed_in s how) ps).placed b false ≡ get_or s.placed b false
    go (Fresh a) ih gone = ih (with_placed s a.0) (λ h. gone (member_later a.0 (fresh_blocks ps) b h)) ∙ get_or-set_other s.placed a.0 b true false (λ is. gone (member_here a.0 (fresh_blocks ps) b is))
    go (Relocate a) ih gone = ih (with_placed s a.0) (λ h. gone (member_later a.0 (fresh_blocks ps) b h)) ∙ get_or-set_other s.placed a.0 b true false (λ is. gone (member_here a.0 (fresh_blocks ps) b is))
    go Overwrite ih gone = ih s gone

pub rest_stays : (s : Space) (ps : List Placed) → placed_all s ps ≡ record s { placed = (placed_all s ps).placed }
rest_stays s [] = refl
rest_stays s (p ∷ ps) = go p.how (λ s'. rest_stays s' ps)
  where
    go : (how : How) → ((s' : Space) → placed_all s' ps ≡ record s' { placed = (placed_all s' ps).placed }) → placed_all (placed_in s how) ps ≡ record s { placed = (placed_all (placed_in s how) ps).placed }
    go (Fresh a) ih = ih (with_placed s a.0)
    go (Relocate a) ih = ih (with_placed s a.0)
    go Overwrite ih = ih s

-- ---- a cell more

pub chosen_more : (near : ℕ) (s : Space) (cs : List CellSeen) (ps : List Placed) (c : CellSeen) (p : Placed) → AreChosen near s cs ps → p.node.0 ≡ c.id → IsChosen (behind_all near ps) (placed_all s ps) c p.how → AreChosen near s (cs ++ c ∷ []) (ps ++ p ∷ [])
chosen_more near s [] [] c p h name one = (name, one, tt)
chosen_more near s [] (q ∷ ps) c p h name one = absurd h
chosen_more near s (d ∷ cs) [] c p h name one = absurd h
chosen_more near s (d ∷ cs) (q ∷ ps) c p h name one = (h.0, h.1, chosen_more (behind near q.how) (placed_in s q.how) cs ps c p h.2 name one)

pub behind_more : (near : ℕ) (ps : List Placed) (p : Placed) → behind_all near (ps ++ p ∷ []) ≡ behind (behind_all near ps) p.how
behind_more near [] p = refl
behind_more near (q ∷ ps) p = behind_more (behind near q.how) ps p

pub placed_more : (s : Space) (ps : List Placed) (p : Placed) → placed_all s (ps ++ p ∷ []) ≡ placed_in (placed_all s ps) p.how
placed_more s [] p = refl
placed_more s (q ∷ ps) p = placed_more (placed_in s q.how) ps p

pub next_chosen : {X : Type 0} (f : X → CellSeen) (slum : List X) (i near : ℕ) (s0 s : Space) (ps now : List Placed) (x : X) (c : CellSeen) (p : Placed) → AreChosen 22 s0 (map f (take i slum)) ps → near ≡ behind_all 22 ps → s ≡ placed_all s0 ps
    → i < length slum → x ≡ get_or slum i x → c ≡ f x → p.node.0 ≡ c.id → IsChosen near s c p.how → now ≡ ps ++ p ∷ [] → AreChosen 22 s0 (map f (take (i + 1) slum)) now
next_chosen {X = X} f slum i near s0 s ps now x c p so_far at space lt item cell name one more =
    let here : IsChosen (behind_all 22 ps) (placed_all s0 ps) c p.how = subst (λ (k : ℕ). IsChosen k (placed_all s0 ps) c p.how) at (subst (λ (t : Space). IsChosen near t c p.how) space one) in
    let whole : AreChosen 22 s0 (map f (take i slum) ++ c ∷ []) (ps ++ p ∷ []) = chosen_more 22 s0 (map f (take i slum)) ps c p so_far name here in
    let cells : map f (take (i + 1) slum) ≡ map f (take i slum) ++ c ∷ [] =
    ap (map f) (take_more slum i x lt ∙ ap (λ (y : X). take i slum ++ y ∷ []) (sym item)) ∙ map-append f (take i slum) (x ∷ []) ∙ ap (λ (d : CellSeen). map f (take i slum) ++ d ∷ []) (sym cell) in
    subst (λ (cs : List CellSeen). AreChosen 22 s0 cs now) (sym cells) (subst (AreChosen 22 s0 (map f (take i slum) ++ c ∷ [])) (sym more) whole)
