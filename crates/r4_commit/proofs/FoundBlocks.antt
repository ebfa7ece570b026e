-- Unused blocks that are found, one more at a time: in rising order from a number on, and then from the front.
use Rattle.std.proofs.Common.{◌≡◌, ◌≢◌, ◌⊎◌, inl, inr, ⊎_elim, ℕ, zero, suc, ◌+◌, ◌-◌, ◌≤◌, ◌<◌, true, false, not, List, [], ◌∷◌, ◌++◌, length, map, take, drop, get_or, refl, sym, ap, ◌∙◌, subst, append_assoc, length-append, length-drop, arith}
use Rattle.std.specs.Prelude.{Contains, All, count_by}
use Rattle.std.specs.List.{range_with_len}
use Rattle.std.proofs.lemmas.Bool.{cases_Bool, cases_lt, eq-eqb, or_parts}
use Rattle.std.proofs.lemmas.List.{map-append, take_more, take_all}
use Rattle.std.proofs.lemmas.List.FromFn.{length-range_with_len}
use Rattle.std.proofs.lemmas.List.Folds.{list_any-append}
use Rattle.std.proofs.lemmas.List.Sums.{count_by-le-length}
use Rattle.std.proofs.lemmas.List.Elements.{All-append, All-map, All-nil, All-push, Contains-append_left, Contains-append_right, Contains-push_cases}
use Rattle.r4_base.specs.Image.{AreDifferent}
use Rattle.r4_base.specs.Bitmap.{is_fixed}
use Rattle.r4_base.specs.declared.things.AtomNo.{AtomNo}
use Rattle.r4_base.specs.declared.things.BlockNo.{BlockNo}
use Rattle.r4_base.proofs.Members.{member_cases, member_here, member_later, no_member}
use Rattle.r4_space.specs.declared.things.Claim.{Claim}
use Rattle.r4_space.specs.Lawful.{IsLawful}
use Rattle.r4_space.specs.Space.{Space, is_block, is_claimed, is_taken, is_taken_by, unused_count}
use Rattle.r4_space.specs.Words.{IsNextClear}
use Rattle.r4_space.proofs.UsedLaws.{held_fewer}
use Rattle.r4_place.proofs.ChosenCells.{none_unused}
use Rattle.r4_commit.specs.Planned.{IsUnused}
use Rattle.r4_commit.proofs.HeldBlocks.{claim, four_false, next_is, none_more, number, still_clear}

-- ---- the space as it would be with these blocks held; for whom is no matter

abbrev nobody : AtomNo
nobody = record { 0 = 0 }

abbrev with_these : Space → List ℕ → Space
with_these s blocks = record s { held = s.held ++ map (claim nobody) blocks }

claimed_member : (atom : AtomNo) (bs : List ℕ) (k : ℕ) → is_claimed (map (claim atom) bs) k ≡ false → Contains bs k → ⊥
claimed_member atom [] k clear h = no_member k h
claimed_member atom (b ∷ bs) k clear h =
    let both = or_parts (is_block k (claim atom b)) (is_claimed (map (claim atom) bs) k) clear in
    ⊎_elim (λ is. absurd (cc (sym (eq-eqb b k (sym is)) ∙ both.0))) (λ later. claimed_member atom bs k both.1 later) (member_cases b bs k h)

-- what is not taken then was not before, and is none of the blocks
clear_both : (s : Space) (blocks : List ℕ) (k : ℕ) → is_taken (with_these s blocks) k ≡ false → (is_taken s k ≡ false) × (Contains blocks k → ⊥)
unfolding is_taken_by
clear_both s blocks k clear =
    let four = four_false (get_or s.marked k false) (get_or s.placed k false) (is_claimed (s.held ++ map (claim nobody) blocks) k) (is_claimed s.deferred k) clear in
    let split = or_parts (is_claimed s.held k) (is_claimed (map (claim nobody) blocks) k) (sym (list_any-append (is_block k) s.held (map (claim nobody) blocks)) ∙ four.2) in
    let marked = four.0 in
    let placed = four.1 in
    let held = split.0 in
    let deferred = four.3 in
    (rw (marked, placed, held, deferred) refl, claimed_member nobody blocks k split.1)

-- what was taken, or is one of the blocks, is taken then
taken_by_either : (s : Space) (blocks : List ℕ) (k : ℕ) → (is_taken s k ≡ true) ⊎ Contains blocks k → is_taken (with_these s blocks) k ≡ true
taken_by_either s blocks k either = elim (cases_Bool (is_taken (with_these s blocks) k)) [
  | inl is ↦ is
  | inr clear ↦ let both = clear_both s blocks k clear in absurd (⊎_elim (λ taken. absurd (cc (sym taken ∙ both.0))) (λ h. both.1 h) either)
]

-- and so it is with one block more
taken_more : (s : Space) (blocks : List ℕ) (b k : ℕ) → is_taken (with_these s blocks) k ≡ true → is_taken (with_these s (blocks ++ b ∷ [])) k ≡ true
taken_more s blocks b k taken = elim (cases_Bool (is_taken (with_these s (blocks ++ b ∷ [])) k)) [
  | inl is ↦ is
  | inr clear ↦
      let both = clear_both s (blocks ++ b ∷ []) k clear in
      let less : is_taken (with_these s blocks) k ≡ false = still_clear s nobody blocks k both.0 (λ h. both.1 (Contains-append_left blocks (b ∷ []) k h)) in
      absurd (cc (sym taken ∙ less))
]

lawful_these : (s : Space) (blocks : List ℕ) → IsLawful s → All (IsUnused s) blocks → IsLawful (with_these s blocks)
lawful_these s blocks l unused = record {
  least = l.least;
  most = l.most;
  marked_size = l.marked_size;
  placed_size = l.placed_size;
  fixed = l.fixed;
  held_within = All-append (λ (c : Claim). c.block.0 < s.block_count) s.held (map (claim nobody) blocks) l.held_within (All-map (λ (c : Claim). c.block.0 < s.block_count) (claim nobody) blocks (λ k d lt. (unused k d lt).0));
  deferred_within = l.deferred_within;
  once = l.once;
  dues_small = l.dues_small;
}

-- one unused block fewer
fewer_more : (s : Space) (blocks : List ℕ) (b : ℕ) → IsLawful s → All (IsUnused s) blocks → b < s.block_count → is_taken (with_these s blocks) b ≡ false → unused_count (with_these s (blocks ++ b ∷ [])) + 1 ≡ unused_count (with_these s blocks)
unfolding unused_count
fewer_more s blocks b lawful unused lt clear =
    let row : (s.held ++ map (claim nobody) blocks) ++ claim nobody b ∷ [] ≡ s.held ++ map (claim nobody) (blocks ++ b ∷ []) =
    append_assoc s.held (map (claim nobody) blocks) (claim nobody b ∷ []) ∙ ap (λ (l : List Claim). s.held ++ l) (sym (map-append (claim nobody) blocks (b ∷ []))) in
    ap (λ (l : List Claim). count_by (λ (k : ℕ). not (is_taken_by s.marked s.placed l s.deferred k)) (range_with_len 0 s.block_count) + 1) (sym row)
    ∙ held_fewer (with_these s blocks) nobody (record { 0 = b }) (lawful_these s blocks lawful unused) lt clear

-- ---- how far they were looked for

-- Not yet from the front: the blocks are among those from `prev` on up to `from`, and all of these are taken with them.
pub record IsAhead (s : Space) (prev from : ℕ) (blocks : List ℕ) : Type 0 where
  pub le : prev ≤ from
  pub within : (k : ℕ) → Contains blocks k → (prev ≤ k) × (k < from)
  pub covered : (k : ℕ) → prev ≤ k → k < from → is_taken (with_these s blocks) k ≡ true

-- From the front: they are among those below `from` and those from `prev` on.
pub record IsAround (s : Space) (prev from : ℕ) (blocks : List ℕ) : Type 0 where
  pub le : from ≤ prev
  pub within : (k : ℕ) → Contains blocks k → (k < from) ⊎ (prev ≤ k)
  pub front : (k : ℕ) → k < from → is_taken (with_these s blocks) k ≡ true
  pub behind : (k : ℕ) → prev ≤ k → k < s.block_count → is_taken (with_these s blocks) k ≡ true

abbrev pub IsSearched : Space → ℕ → ℕ → List ℕ → Type 0
IsSearched s prev from blocks = IsAhead s prev from blocks ⊎ IsAround s prev from blocks

-- Different unused blocks that were found from `prev` on; the next one is looked for from `from` on.
pub record IsFound (s : Space) (prev from : ℕ) (blocks : List ℕ) : Type 0 where
  pub different : AreDifferent blocks
  pub unused : All (IsUnused s) blocks
  pub left : unused_count (with_these s blocks) + length blocks ≡ unused_count s
  pub begins : length blocks ≡ 0 → from ≡ prev
  pub first : IsUnused s prev → 1 ≤ length blocks → get_or blocks 0 0 ≡ prev
  pub searched : IsSearched s prev from blocks

pub found_none : (s : Space) (prev : ℕ) → IsFound s prev prev []
found_none s prev = record {
  different = tt;
  unused = All-nil (IsUnused s);
  left = (let same : unused_count (with_these s []) ≡ unused_count s = ap (λ (l : List Claim). unused_count (record s { held = l })) (none_more s.held) in omega (arith, same));
  begins = λ none. refl;
  first = λ unused some. absurd (omega (arith, some));
  searched = inl (record { le = omega arith; within = λ k h. absurd (no_member k h); covered = λ k ge lt. absurd (omega (arith, ge, lt)) });
}

different_more : (bs : List ℕ) (b : ℕ) → AreDifferent bs → (Contains bs b → ⊥) → AreDifferent (bs ++ b ∷ [])
different_more [] b different out = (no_member b, tt)
different_more (c ∷ cs) b different out =
    ((λ h. ⊎_elim (λ old. different.0 old) (λ is. out (0, omega arith, sym is)) (Contains-push_cases cs b c h)), different_more cs b different.1 (λ h. out (Rattle.r4_base.proofs.Members.member_later c cs b h)))

module _ (s : Space) (prev from : ℕ) (blocks : List ℕ) (b : ℕ) (lawful : IsLawful s) (f : IsFound s prev from blocks) (some : length blocks < unused_count s) (next : IsNextClear (is_taken s) s.block_count from b) where
  -- not all blocks are taken yet
  not_all : ((k : ℕ) → k < s.block_count → is_taken (with_these s blocks) k ≡ true) → ⊥
  not_all all = let none = none_unused (with_these s blocks) (λ k ge lt. all k lt) in absurd (omega (arith, none, f.left, some))

  was : (k : ℕ) → is_taken s k ≡ true → is_taken (with_these s blocks) k ≡ true
  was k taken = taken_by_either s blocks k (inl taken)

  then : (k : ℕ) → is_taken s k ≡ true → is_taken (with_these s (blocks ++ b ∷ [])) k ≡ true
  then k taken = taken_by_either s (blocks ++ b ∷ []) k (inl taken)

  this : (k : ℕ) → k < b + 1 → b ≤ k → is_taken (with_these s (blocks ++ b ∷ [])) k ≡ true
  this k lt ge = taken_by_either s (blocks ++ b ∷ []) k (inr (Contains-append_right blocks (b ∷ []) k (member_here b [] k (omega (arith, lt, ge)))))

  abbrev IsStep : Type 0
  IsStep = (Contains blocks b → ⊥) × IsSearched s prev (b + 1) (blocks ++ b ∷ [])

  step_ahead : IsAhead s prev from blocks → from ≤ b → IsStep
  step_ahead a ge = (
    λ h. let lt = (a.within b h).1 in absurd (omega (arith, ge, lt)),
    inl (record {
      le = omega (arith, a.le, ge);
      within = λ k h. ⊎_elim
          (λ old. let both = a.within k old in (both.0, let lt = both.1 in omega (arith, lt, ge)))
          (λ is. (omega (arith, is, a.le, ge), omega (arith, is)))
          (Contains-push_cases blocks b k h);
      covered = λ k from_on lt. elim (cases_lt k from) [
        | inl before ↦ taken_more s blocks b k (a.covered k from_on before)
        | inr later ↦ elim (cases_lt k b) [ inl below ↦ then k (next.ahead ge k later below) | inr at ↦ this k lt at ]
      ];
    }),
  )

  step_turn : IsAhead s prev from blocks → b < from → IsStep
  step_turn a lt = elim (cases_lt b prev) [
    | inl below ↦ (
      λ h. let ge = (a.within b h).0 in absurd (omega (arith, below, ge)),
      inr (record {
        le = omega (arith, below);
        within = λ k h. ⊎_elim (λ old. inr (a.within k old).0) (λ is. inl (omega (arith, is))) (Contains-push_cases blocks b k h);
        front = λ k to. elim (cases_lt k b) [ inl before ↦ then k ((next.around lt).1 k before) | inr at ↦ this k to at ];
        behind = λ k ge within. elim (cases_lt k from) [ inl before ↦ taken_more s blocks b k (a.covered k ge before) | inr later ↦ then k ((next.around lt).0 k later within) ];
      }),
    )
    | inr above ↦ absurd (not_all (λ k within. elim (cases_lt k prev) [
      | inl front ↦ was k ((next.around lt).1 k (omega (arith, front, above)))
      | inr ge ↦ elim (cases_lt k from) [ inl before ↦ a.covered k ge before | inr later ↦ was k ((next.around lt).0 k later within) ]
    ]))
  ]

  step_around : IsAround s prev from blocks → IsStep
  step_around a = elim (cases_lt b from) [
    | inl lt ↦ absurd (not_all (λ k within. elim (cases_lt k from) [ inl before ↦ a.front k before | inr later ↦ was k ((next.around lt).0 k later within) ]))
    | inr ge ↦ elim (cases_lt b prev) [
      | inl below ↦ (
        λ h. ⊎_elim (λ lt. absurd (omega (arith, ge, lt))) (λ above. absurd (omega (arith, below, above))) (a.within b h),
        inr (record {
          le = omega (arith, below);
          within = λ k h. ⊎_elim (λ old. ⊎_elim (λ lt. inl (omega (arith, lt, ge))) (λ above. inr above) (a.within k old)) (λ is. inl (omega (arith, is))) (Contains-push_cases blocks b k h);
          front = λ k to. elim (cases_lt k from) [
            | inl before ↦ taken_more s blocks b k (a.front k before)
            | inr later ↦ elim (cases_lt k b) [ inl lower ↦ then k (next.ahead ge k later lower) | inr at ↦ this k to at ]
          ];
          behind = λ k above within. taken_more s blocks b k (a.behind k above within);
        }),
      )
      | inr above ↦ absurd (not_all (λ k within. elim (cases_lt k from) [
        | inl before ↦ a.front k before
        | inr later ↦ elim (cases_lt k prev) [ inl below ↦ was k (next.ahead ge k later (omega (arith, below, above))) | inr high ↦ a.behind k high within ]
      ]))
    ]
  ]

  step : IsStep
  step = ⊎_elim (λ a. elim (cases_lt b from) [ inl lt ↦ step_turn a lt | inr ge ↦ step_ahead a ge ]) step_around f.searched

  pub found_more : is_fixed s.block_count b ≡ false → IsFound s prev (b + 1) (blocks ++ b ∷ [])
  found_more free =
      let clear : is_taken (with_these s blocks) b ≡ false = still_clear s nobody blocks b next.clear step.0 in
      let fewer = fewer_more s blocks b lawful f.unused next.within clear in
      let longer = length-append blocks (b ∷ []) in
      record {
        different = different_more blocks b f.different step.0;
        unused = All-push (IsUnused s) blocks b f.unused (next.within, next.clear, free);
        left = omega (arith, f.left, fewer, longer);
        begins = λ none. absurd (omega (arith, none, longer));
        first = go blocks f.begins f.first;
        searched = step.1;
      }
    where
      go : (blocks : List ℕ) → (length blocks ≡ 0 → from ≡ prev) → (IsUnused s prev → 1 ≤ length blocks → get_or blocks 0 0 ≡ prev) → IsUnused s prev → 1 ≤ length (blocks ++ b ∷ []) → get_or (blocks ++ b ∷ []) 0 0 ≡ prev
      go [] begins first unused more = let at = begins refl in next_is (is_taken s) s.block_count prev b (subst (λ (k : ℕ). IsNextClear (is_taken s) s.block_count k b) at next) unused.0 unused.1
      go (c ∷ cs) begins first unused more = first unused (omega arith)

-- ---- so many at most

pub unused_few : (s : Space) → unused_count s ≤ s.block_count
unfolding unused_count
unused_few s = omega (arith, count_by-le-length (λ (b : ℕ). not (is_taken s b)) (range_with_len 0 s.block_count), length-range_with_len 0 s.block_count)

-- ---- the blocks of the copies, those of the records and the head's

split_two : {X : Type 0} (xs : List X) (k : ℕ) → take k xs ++ drop k xs ≡ xs
split_two xs zero = refl
split_two [] (suc k) = refl
split_two {X = X} (x ∷ xs) (suc k) = ap (λ (l : List X). x ∷ l) (split_two xs k)

all_but_last : {X : Type 0} (xs : List X) (r : ℕ) (d : X) → length xs ≡ r + 1 → take r xs ++ get_or xs r d ∷ [] ≡ xs
all_but_last xs r d long = sym (take_more xs r d (omega (arith, long))) ∙ take_all (r + 1) xs (omega (arith, long))

get_or-drop_at : {X : Type 0} (xs : List X) (k r : ℕ) (d : X) → get_or (drop k xs) r d ≡ get_or xs (k + r) d
get_or-drop_at xs zero r d = let e : 0 + r ≡ r = omega arith in ap (λ (j : ℕ). get_or xs j d) (sym e)
get_or-drop_at [] (suc k) r d = refl
get_or-drop_at (x ∷ xs) (suc k) r d = let e : suc k + r ≡ suc (k + r) = omega arith in get_or-drop_at xs k r d ∙ ap (λ (j : ℕ). get_or (x ∷ xs) j d) (sym e)

pub split_blocks : (bs copies records : List BlockNo) (k r last : ℕ) (head : BlockNo) → length bs ≡ k + r + 1 → last ≡ k + r → copies ≡ take k bs → records ≡ take (last - k) (drop k bs) → head ≡ get_or bs last head
    → map number copies ++ (map number records ++ head.0 ∷ []) ≡ map number bs
split_blocks bs copies records k r last head long end front middle top =
    let rest : List BlockNo = drop k bs in
    let few : last - k ≡ r = omega (arith, end) in
    let rest_long : length rest ≡ r + 1 = omega (arith, long, length-drop k bs) in
    let head_is : get_or rest r head ≡ head = get_or-drop_at bs k r head ∙ ap (λ (j : ℕ). get_or bs j head) (sym end) ∙ sym top in
    let behind : records ++ head ∷ [] ≡ rest = ap (λ (l : List BlockNo). l ++ head ∷ []) (middle ∙ ap (λ (j : ℕ). take j rest) few) ∙ ap (λ (b : BlockNo). take r rest ++ b ∷ []) (sym head_is) ∙ all_but_last rest r head rest_long in
    ap (λ (l : List ℕ). map number copies ++ l) (sym (map-append number records (head ∷ []))) ∙ sym (map-append number copies (records ++ head ∷ []))
    ∙ ap (map number) (ap (λ (l : List BlockNo). l ++ (records ++ head ∷ [])) front ∙ ap (λ (l : List BlockNo). take k bs ++ l) behind ∙ split_two bs k)

-- where the last one's list is different, and `prev` was the first where it was unused, the last one is another
pub head_other : (s : Space) (bs : List ℕ) (last prev : ℕ) → AreDifferent bs → All (IsUnused s) bs → (IsUnused s prev → get_or bs 0 0 ≡ prev) → 1 ≤ last → last < length bs → get_or bs last 0 ≢ prev
head_other s [] last prev different unused first some lt is = absurd (omega (arith, lt))
head_other s (b ∷ bs) zero prev different unused first some lt is = absurd (omega (arith, some))
head_other s (b ∷ bs) (suc k) prev different unused first some lt is =
    let free : IsUnused s prev = subst (IsUnused s) is (unused (suc k) 0 lt) in
    different.0 (k, omega (arith, lt), get_any bs k (omega (arith, lt)) ∙ is ∙ sym (first free))
  where
    get_any : (bs : List ℕ) (k : ℕ) → k < length bs → get_or bs k b ≡ get_or bs k 0
    get_any [] k lt = absurd (omega (arith, lt))
    get_any (c ∷ cs) zero lt = refl
    get_any (c ∷ cs) (suc k) lt = get_any cs k (omega (arith, lt))
