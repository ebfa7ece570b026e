-- Ways up a forest: where they end, and where they end after a change.
use Rattle.std.proofs.Common.{◌≡◌, ◌≢◌, ◌⊎◌, ℕ, zero, suc, ◌+◌, ◌-◌, ◌<◌, ◌≤◌, ◌^◌, true, false, eqb, cond, List, [], ◌∷◌, ◌++◌, length, get_or, set, map, refl, sym, ap, ◌∙◌, subst, inl, inr, arith}
use Rattle.std.proofs.lemmas.Bool.{cases_Bool, cases_eq, eq-eqb, ne_eqb}
use Rattle.std.proofs.lemmas.List.{get_or-set_same, get_or-set_other, length-set, length-append, get_or_append_left, get_or_push}
use Rattle.std.proofs.lemmas.List.Sums.{sum_by-set, sum_by_push, get_or-le-sum_by}
use Rattle.std.specs.List.{range_with_len, sum_by}
use Rattle.r4_atoms.specs.declared.forest.Link.{Link}
use Rattle.r4_atoms.specs.Forest.{climb, HasRoom, IsForest, IsTop, link_at, linked, name_at, names_of, next_link, no_link, OwnNames, root_of, weight}
use Rattle.r4_atoms.specs.Names.{AreNames, renamed}
use Rattle.std.proofs.lemmas.List.{get_or-map, same_lists, length-map}
use Rattle.std.proofs.lemmas.List.FromFn.{get_or-map-range_with_len, length-map-range_with_len, map-range_with_len_more}

pub climb-zero : (links : List Link) (i : ℕ) → climb links 0 i ≡ i
unfolding climb
climb-zero links i = refl

pub climb-suc : (links : List Link) (steps i : ℕ) → climb links (suc steps) i ≡ climb links steps (link_at links i).up
unfolding climb
climb-suc links steps i = refl

-- a top stays where it is
pub climb_top : (links : List Link) (steps i : ℕ) → (link_at links i).up ≡ i → climb links steps i ≡ i
climb_top links zero i still = climb-zero links i
climb_top links (suc steps) i still = climb-suc links steps i ∙ ap (climb links steps) still ∙ climb_top links steps i still

pub climb_within : (links : List Link) → IsForest links → (steps i : ℕ) → i < length links → climb links steps i < length links
climb_within links forest zero i within = rw climb-zero within
climb_within links forest (suc steps) i within = rw climb-suc (climb_within links forest steps (link_at links i).up (forest.up_in i within))

-- enough steps end at a top
pub climb_ends : (links : List Link) → IsForest links → (steps i : ℕ) → i < length links → length links ≤ steps + (link_at links i).size → (link_at links (climb links steps i)).top ≡ true
climb_ends links forest zero i within enough = rw climb-zero (elim (cases_Bool (link_at links i).top) [
  | inl top ↦ top
  | inr under ↦
      let more = forest.rises i within under in
      let small = forest.small (link_at links i).up (forest.up_in i within) in
      absurd (omega arith)
])
climb_ends links forest (suc steps) i within enough = elim (cases_Bool (link_at links i).top) [
  | inl top ↦ rw (climb_top links (suc steps) i (forest.still i within top)) top
  | inr under ↦
      let more = forest.rises i within under in
      rw climb-suc (climb_ends links forest steps (link_at links i).up (forest.up_in i within) (omega arith))
]

pub root_within : (links : List Link) → IsForest links → (i : ℕ) → i < length links → root_of links i < length links
root_within links forest i within = climb_within links forest (length links) i within

pub root_is_top : (links : List Link) → IsForest links → (i : ℕ) → i < length links → IsTop links (root_of links i)
root_is_top links forest i within = record {
  within = root_within links forest i within;
  top = climb_ends links forest (length links) i within (omega arith);
}

-- a step more changes nothing once a top is come to
pub climb_more : (links : List Link) → IsForest links → (steps i : ℕ) → i < length links → (link_at links (climb links steps i)).top ≡ true → climb links (suc steps) i ≡ climb links steps i
climb_more links forest zero i within top =
    let here : (link_at links i).top ≡ true = rw climb-zero at top in
    rw (climb-suc, climb-zero, climb-zero) (forest.still i within here)
climb_more links forest (suc steps) i within top =
    let later : (link_at links (climb links steps (link_at links i).up)).top ≡ true = rw climb-suc at top in
    climb-suc links (suc steps) i ∙ climb_more links forest steps (link_at links i).up (forest.up_in i within) later ∙ sym (climb-suc links steps i)

-- the root of what stands above is the root
pub root_of_up : (links : List Link) → IsForest links → (i : ℕ) → i < length links → root_of links (link_at links i).up ≡ root_of links i
root_of_up links forest i within =
    sym (climb-suc links (length links) i) ∙ climb_more links forest (length links) i within (root_is_top links forest i within).top

pub root_of_top : (links : List Link) → IsForest links → (i : ℕ) → IsTop links i → root_of links i ≡ i
root_of_top links forest i top = climb_top links (length links) i (forest.still i top.within top.top)

-- ---- a top under another top

module _ (links : List Link) (hang keep name : ℕ) (forest : IsForest links) (low : IsTop links hang) (high : IsTop links keep) (differ : hang ≢ keep) where
  -- the new top of what had this one
  abbrev pub moved : ℕ → ℕ
  moved top = cond (eqb top hang) keep top

  abbrev under : Link
  under = record { up = keep; size = (link_at links hang).size; name = (link_at links hang).name; top = false }

  at_hang : link_at (linked links hang keep name) hang ≡ record { up = keep; size = (link_at links hang).size; name = (link_at links hang).name; top = false }
  at_hang = get_or-set_other _ keep hang _ no_link differ ∙ get_or-set_same links hang _ no_link low.within

  at_keep : link_at (linked links hang keep name) keep ≡ record { up = (link_at links keep).up; size = (link_at links keep).size + (link_at links hang).size; name = name; top = (link_at links keep).top }
  at_keep = get_or-set_same _ keep _ no_link (rw (length-set links hang) high.within)

  at_other : (i : ℕ) → i ≢ hang → i ≢ keep → link_at (linked links hang keep name) i ≡ link_at links i
  at_other i a b = get_or-set_other _ keep i _ no_link b ∙ get_or-set_other links hang i _ no_link a

  pub length-linked : length (linked links hang keep name) ≡ length links
  length-linked = length-set _ keep _ ∙ length-set links hang _

  -- two tops have no more members than there are
  pub tops_together : (link_at links keep).size + (link_at links hang).size ≤ length links
  tops_together =
      let gap : Link = record { up = 0; size = 0; name = 0; top = false } in
      let left = sum_by-set weight links hang gap no_link low.within in
      let other : keep ≢ hang = λ e. differ (sym e) in
      let same = get_or-set_other links hang keep gap no_link other in
      let part = get_or-le-sum_by weight (set links hang gap) keep no_link (rw (length-set links hang gap) high.within) in
      let a : weight (link_at links hang) ≡ (link_at links hang).size = rw low.top refl in
      let b : weight (link_at links keep) ≡ (link_at links keep).size = rw high.top refl in
      let c : weight (get_or (set links hang gap) keep no_link) ≡ weight (link_at links keep) = ap weight same in
      omega (arith, forest.total)

  up_at_keep : (link_at (linked links hang keep name) keep).up ≡ keep
  up_at_keep = rw at_keep (forest.still keep high.within high.top)

  up_at_other : (i : ℕ) → i ≢ hang → (link_at (linked links hang keep name) i).up ≡ (link_at links i).up
  up_at_other i apart = elim (cases_eq i keep) [
    | inl same ↦ rw (same, at_keep) refl
    | inr other ↦ ap (λ (l : Link). l.up) (at_other i apart other)
  ]

  -- a step more than to the old top is enough to come to the new one
  climb_linked : (steps i : ℕ) → i < length links → (link_at links (climb links steps i)).top ≡ true → climb (linked links hang keep name) (suc steps) i ≡ moved (climb links steps i)
  climb_linked zero i within top =
      let here : (link_at links i).top ≡ true = rw climb-zero at top in
      rw (climb-suc, climb-zero, climb-zero) (elim (cases_eq i hang) [
        | inl same ↦ rw (same, at_hang, eq-eqb hang hang refl) refl
        | inr apart ↦ rw (up_at_other i apart, ne_eqb i hang apart) (forest.still i within here)
      ])
  climb_linked (suc steps) i within top = elim (cases_eq i hang) [
    | inl same ↦
        let stays : climb links (suc steps) i ≡ i = climb_top links (suc steps) i (rw same (forest.still hang low.within low.top)) in
        let over : (link_at (linked links hang keep name) i).up ≡ keep = rw (same, at_hang) refl in
        rw (climb-suc, over, stays, eq-eqb i hang same) (climb_top (linked links hang keep name) (suc steps) keep up_at_keep)
    | inr apart ↦
        let later : (link_at links (climb links steps (link_at links i).up)).top ≡ true = rw climb-suc at top in
        climb-suc (linked links hang keep name) (suc steps) i ∙ ap (climb (linked links hang keep name) (suc steps)) (up_at_other i apart)
        ∙ climb_linked steps (link_at links i).up (forest.up_in i within) later ∙ ap moved (sym (climb-suc links steps i))
  ]

  linked_total : sum_by weight (linked links hang keep name) ≡ sum_by weight links
  linked_total =
      let first = set links hang under in
      let one = sum_by-set weight links hang under no_link low.within in
      let inside : keep < length first = rw (length-set links hang under) high.within in
      let two = sum_by-set weight first keep (record { up = (link_at links keep).up; size = (link_at links keep).size + (link_at links hang).size; name = name; top = (link_at links keep).top }) no_link inside in
      let same : get_or first keep no_link ≡ link_at links keep = get_or-set_other links hang keep under no_link (λ e. differ (sym e)) in
      let a : weight (link_at links hang) ≡ (link_at links hang).size = rw low.top refl in
      let b : weight (get_or first keep no_link) ≡ (link_at links keep).size = rw (same, high.top) refl in
      let c : weight (record { up = (link_at links keep).up; size = (link_at links keep).size + (link_at links hang).size; name = name; top = (link_at links keep).top }) ≡ (link_at links keep).size + (link_at links hang).size = rw high.top refl in
      omega arith

  inside : (i : ℕ) → i < length (linked links hang keep name) → i < length links
  inside i within = rw length-linked at within

  size_grows : (i : ℕ) → (link_at links i).size ≤ (link_at (linked links hang keep name) i).size
  size_grows i = elim (cases_eq i keep) [
    | inl same ↦ rw (same, at_keep) (omega arith)
    | inr other ↦ elim (cases_eq i hang) [
      | inl under ↦ rw (under, at_hang) (omega arith)
      | inr apart ↦ rw (at_other i apart other) (omega arith)
    ]
  ]

  pub IsForest-linked : IsForest (linked links hang keep name)
  IsForest-linked = record {
    up_in = λ i within. rw length-linked (elim (cases_eq i hang) [
      | inl same ↦ rw (same, at_hang) high.within
      | inr apart ↦ rw (up_at_other i apart) (forest.up_in i (inside i within))
    ]);
    rises = λ i within below. elim (cases_eq i hang) [
      | inl same ↦ let some = forest.some keep high.within in rw (same, at_hang, at_keep) (omega arith)
      | inr apart ↦ elim (cases_eq i keep) [
        | inl top ↦ let e : (link_at links keep).top ≡ false = rw (top, at_keep) at below in absurd (let h = high.top in cc)
        | inr other ↦
            let was : (link_at links i).top ≡ false = rw (at_other i apart other) at below in
            let more = forest.rises i (inside i within) was in
            let grows = size_grows (link_at links i).up in
            rw (at_other i apart other) (omega arith)
      ]
    ];
    still = λ i within top. elim (cases_eq i hang) [
      | inl same ↦ let e : false ≡ true = rw (same, at_hang) at top in absurd (cc)
      | inr apart ↦ elim (cases_eq i keep) [
        | inl here ↦ rw (here, at_keep) (forest.still keep high.within high.top)
        | inr other ↦
            let was : (link_at links i).top ≡ true = rw (at_other i apart other) at top in
            rw (at_other i apart other) (forest.still i (inside i within) was)
      ]
    ];
    some = λ i within. let grows = size_grows i in let some = forest.some i (inside i within) in omega arith;
    small = λ i within. rw length-linked (elim (cases_eq i keep) [
      | inl same ↦ rw (same, at_keep) tops_together
      | inr other ↦ elim (cases_eq i hang) [
        | inl under ↦ rw (under, at_hang) (forest.small hang low.within)
        | inr apart ↦ rw (at_other i apart other) (forest.small i (inside i within))
      ]
    ]);
    total = linked_total ∙ forest.total ∙ sym length-linked;
  }

  pub root_of-linked : (i : ℕ) → i < length links → root_of (linked links hang keep name) i ≡ moved (root_of links i)
  root_of-linked i within =
      let more = climb_linked (length links) i within (root_is_top links forest i within).top in
      let within' : i < length (linked links hang keep name) = rw length-linked within in
      let still = root_of_up (linked links hang keep name) IsForest-linked i within' in
      let steps : length (linked links hang keep name) ≡ length links = length-linked in
      let same : climb (linked links hang keep name) (suc (length (linked links hang keep name))) i ≡ root_of (linked links hang keep name) i = climb-suc _ _ i ∙ still in
      sym same ∙ ap (λ (n : ℕ). climb (linked links hang keep name) (suc n) i) steps ∙ more

  -- a new top is an old one, and not the one that was put under
  was_top : (i : ℕ) → IsTop (linked links hang keep name) i → (i ≢ hang) × IsTop links i
  was_top i top = elim (cases_eq i hang) [
    | inl same ↦ let e : false ≡ true = rw (same, at_hang) at top.top in absurd (cc)
    | inr apart ↦ (
      apart,
      elim (cases_eq i keep) [
        | inl here ↦ rw here high
        | inr other ↦ record { within = inside i top.within; top = rw (at_other i apart other) at top.top }
      ],
    )
  ]

  -- ---- the names, where the new one is of one of the two sets
  module _ (own : OwnNames links) (inside_name : name < length links) (of_two : (root_of links name ≡ hang) ⊎ (root_of links name ≡ keep)) where
    there : (m : ℕ) → m < length links → m < length (linked links hang keep name)
    there m within = rw length-linked within

    pub OwnNames-linked : OwnNames (linked links hang keep name)
    OwnNames-linked i top =
        let was = was_top i top in
        elim (cases_eq i keep) [
          | inl here ↦ rw (here, at_keep) (
            there name inside_name,
            root_of-linked name inside_name ∙ elim of_two [
              | inl down ↦ rw (down, eq-eqb hang hang refl) refl
              | inr up ↦ rw (up, ne_eqb keep hang (λ e. differ (sym e))) refl
            ],
          )
          | inr other ↦
              let mine = own i was.1 in
              rw (at_other i was.0 other) (there _ mine.0, root_of-linked (link_at links i).name mine.0 ∙ rw (mine.1, ne_eqb i hang was.0) refl)
        ]

    -- two tops of one name are one
    one_top : (i j : ℕ) → IsTop links i → IsTop links j → (link_at links i).name ≡ (link_at links j).name → i ≡ j
    one_top i j a b e = sym (own i a).1 ∙ ap (root_of links) e ∙ (own j b).1

    top_named : (gone : ℕ) → name ≢ gone → (((link_at links hang).name ≡ gone) × ((link_at links keep).name ≡ name)) ⊎ (((link_at links hang).name ≡ name) × ((link_at links keep).name ≡ gone)) → (r : ℕ) → IsTop links r
        → (link_at (linked links hang keep name) (moved r)).name ≡ renamed name gone (link_at links r).name
    top_named gone apart two r top = elim (cases_eq r hang) [
      | inl down ↦ rw (down, eq-eqb hang hang refl, at_keep) (elim two [
        | inl first ↦ rw (first.0, eq-eqb gone gone refl) refl
        | inr second ↦ rw (second.0, ne_eqb name gone apart) refl
      ])
      | inr off ↦ rw (ne_eqb r hang off) (elim (cases_eq r keep) [
        | inl up ↦ rw (up, at_keep) (elim two [
          | inl first ↦ rw (first.1, ne_eqb name gone apart) refl
          | inr second ↦ rw (second.1, eq-eqb gone gone refl) refl
        ])
        | inr other ↦
            let kept : (link_at links r).name ≢ gone = λ e. elim two [
              | inl first ↦ off (one_top r hang top low (e ∙ sym first.0))
              | inr second ↦ other (one_top r keep top high (e ∙ sym second.1))
            ] in
            rw (at_other r off other, ne_eqb _ gone kept) refl
      ])
    ]

    name_at-linked : (gone : ℕ) → name ≢ gone → (((link_at links hang).name ≡ gone) × ((link_at links keep).name ≡ name)) ⊎ (((link_at links hang).name ≡ name) × ((link_at links keep).name ≡ gone)) → (i : ℕ) → i < length links
        → name_at (linked links hang keep name) i ≡ renamed name gone (name_at links i)
    name_at-linked gone apart two i within =
        ap (λ (r : ℕ). (link_at (linked links hang keep name) r).name) (root_of-linked i within) ∙ top_named gone apart two (root_of links i) (root_is_top links forest i within)

    pub names_of-linked : (gone : ℕ) → name ≢ gone → (((link_at links hang).name ≡ gone) × ((link_at links keep).name ≡ name)) ⊎ (((link_at links hang).name ≡ name) × ((link_at links keep).name ≡ gone))
        → names_of (linked links hang keep name) ≡ map (renamed name gone) (names_of links)
    names_of-linked gone apart two =
        let mine : length (names_of (linked links hang keep name)) ≡ length links = length-map-range_with_len (name_at (linked links hang keep name)) 0 (length (linked links hang keep name)) ∙ length-linked in
        let theirs : length (map (renamed name gone) (names_of links)) ≡ length links = length-map (names_of links) (renamed name gone) ∙ length-map-range_with_len (name_at links) 0 (length links) in
        same_lists _ _ (mine ∙ sym theirs) (λ k d within.
        let here : k < length links = omega arith in
        let also : k < length (names_of links) = rw (length-map-range_with_len (name_at links) 0 (length links)) here in
        get_or-map-range_with_len (name_at (linked links hang keep name)) 0 (length (linked links hang keep name)) k k d (there k here) (omega arith)
        ∙ name_at-linked gone apart two k here
        ∙ sym (get_or-map (renamed name gone) (names_of links) k 0 d also ∙ ap (renamed name gone) (get_or-map-range_with_len (name_at links) 0 (length links) k k 0 here (omega arith))))

-- ---- a set of its own for the next number

module _ (links : List Link) (forest : IsForest links) where
  abbrev more : List Link
  more = links ++ next_link links ∷ []

  at_old : (i : ℕ) → i < length links → link_at more i ≡ link_at links i
  at_old i within = get_or_append_left links _ no_link i within

  at_next : link_at more (length links) ≡ next_link links
  at_next = get_or_push links (next_link links) no_link (length links) refl

  length-more : length more ≡ length links + 1
  length-more = length-append links _

  place : (i : ℕ) → i < length more → (i < length links) ⊎ (i ≡ length links)
  place i within = let e = length-more in elim (cases_eq i (length links)) [ inl same ↦ inr same | inr other ↦ inl (omega arith) ]

  climb_old : (steps i : ℕ) → i < length links → climb more steps i ≡ climb links steps i
  climb_old zero i within = climb-zero more i ∙ sym (climb-zero links i)
  climb_old (suc steps) i within =
      climb-suc more steps i ∙ ap (λ (l : Link). climb more steps l.up) (at_old i within) ∙ climb_old steps (link_at links i).up (forest.up_in i within) ∙ sym (climb-suc links steps i)

  pub IsForest-more : IsForest more
  IsForest-more = let e = length-more in record {
    up_in = λ i within. elim (place i within) [
      | inl old ↦ let h = forest.up_in i old in rw (at_old i old) (omega arith)
      | inr next ↦ rw (next, at_next) (omega arith)
    ];
    rises = λ i within below. elim (place i within) [
      | inl old ↦
          let was : (link_at links i).top ≡ false = rw (at_old i old) at below in
          rw (at_old i old, at_old (link_at links i).up (forest.up_in i old)) (forest.rises i old was)
      | inr next ↦ let bad : true ≡ false = rw (next, at_next) at below in absurd (cc)
    ];
    still = λ i within top. elim (place i within) [
      | inl old ↦ let was : (link_at links i).top ≡ true = rw (at_old i old) at top in rw (at_old i old) (forest.still i old was)
      | inr next ↦ rw (next, at_next) refl
    ];
    some = λ i within. elim (place i within) [
      | inl old ↦ rw (at_old i old) (forest.some i old)
      | inr next ↦ rw (next, at_next) (omega arith)
    ];
    small = λ i within. elim (place i within) [
      | inl old ↦ let h = forest.small i old in rw (at_old i old) (omega arith)
      | inr next ↦ rw (next, at_next) (omega arith)
    ];
    total = let sum = sum_by_push weight links (next_link links) in let t = forest.total in omega arith;
  }

  root_of_old : (i : ℕ) → i < length links → root_of more i ≡ root_of links i
  root_of_old i within =
      let one : length more ≡ suc (length links) = omega (arith, length-more) in
      ap (λ (n : ℕ). climb more n i) one ∙ climb_old (suc (length links)) i within ∙ climb_more links forest (length links) i within (root_is_top links forest i within).top

  next_top : IsTop more (length links)
  next_top = record { within = omega (arith, length-more); top = rw at_next refl }

  root_of_next : root_of more (length links) ≡ length links
  root_of_next = root_of_top more IsForest-more (length links) next_top

  pub OwnNames-more : OwnNames links → OwnNames more
  OwnNames-more own i top = elim (place i top.within) [
    | inl old ↦
        let was : IsTop links i = record { within = old; top = rw (at_old i old) at top.top } in
        let mine = own i was in
        rw (at_old i old) (omega (arith, length-more, mine.0), root_of_old (link_at links i).name mine.0 ∙ mine.1)
    | inr next ↦ rw (next, at_next) (omega (arith, length-more), root_of_next)
  ]

  pub names_of-more : names_of more ≡ names_of links ++ length links ∷ []
  names_of-more =
      let one : length more ≡ length links + 1 = length-more in
      let last : name_at more (length links) ≡ length links = ap (λ (r : ℕ). (link_at more r).name) root_of_next ∙ ap (λ (l : Link). l.name) at_next in
      let front : map (name_at more) (range_with_len 0 (length links)) ≡ names_of links =
      same_lists _ _ (length-map-range_with_len (name_at more) 0 (length links) ∙ sym (length-map-range_with_len (name_at links) 0 (length links))) (λ k d within.
      let here : k < length links = rw (length-map-range_with_len (name_at more) 0 (length links)) at within in
      get_or-map-range_with_len (name_at more) 0 (length links) k k d here (omega arith)
      ∙ ap (λ (r : ℕ). (link_at more r).name) (root_of_old k here) ∙ ap (λ (l : Link). l.name) (at_old (root_of links k) (root_within links forest k here))
      ∙ sym (get_or-map-range_with_len (name_at links) 0 (length links) k k d here (omega arith)))
      in
      ap (λ (n : ℕ). map (name_at more) (range_with_len 0 n)) one ∙ map-range_with_len_more (name_at more) 0 (length links) (length links) (omega arith)
      ∙ ap (λ (n : ℕ). map (name_at more) (range_with_len 0 (length links)) ++ n ∷ []) last ∙ ap (λ (ns : List ℕ). ns ++ length links ∷ []) front

-- ---- what one sees of the names

pub length-names : (links : List Link) → length (names_of links) ≡ length links
length-names links = length-map-range_with_len (name_at links) 0 (length links)

pub name_seen : (links : List Link) (i : ℕ) → i < length links → get_or (names_of links) i 0 ≡ name_at links i
name_seen links i within = get_or-map-range_with_len (name_at links) 0 (length links) i i 0 within (omega arith)

pub AreNames-more : (names : List ℕ) → AreNames names → AreNames (names ++ length names ∷ [])
AreNames-more names are =
    let longer = length-append names (length names ∷ []) in
    let last = get_or_push names (length names) 0 (length names) refl in
    let place : (i : ℕ) → i < length (names ++ length names ∷ []) → (i < length names) ⊎ (i ≡ length names) =
    λ i within. elim (cases_eq i (length names)) [ inl same ↦ inr same | inr other ↦ inl (omega arith) ] in
    record {
      least = λ i within. elim (place i within) [
        | inl old ↦ rw (get_or_append_left names _ 0 i old) (are.least i old)
        | inr next ↦ rw (next, last) (omega arith)
      ];
      own = λ i within. elim (place i within) [
        | inl old ↦
            let few = are.least i old in
            let inside : get_or names i 0 < length names = omega arith in
            rw (get_or_append_left names _ 0 i old, get_or_append_left names _ 0 (get_or names i 0) inside) (are.own i old)
        | inr next ↦ rw (next, last) last
      ];
    }

pub AreNames-renamed : (names : List ℕ) (kept gone : ℕ) → AreNames names → kept < gone → get_or names kept 0 ≡ kept → kept < length names → AreNames (map (renamed kept gone) names)
AreNames-renamed names kept gone are less own within =
    let same = length-map names (renamed kept gone) in
    let at : (i : ℕ) → i < length names → get_or (map (renamed kept gone) names) i 0 ≡ renamed kept gone (get_or names i 0) = λ i inside. get_or-map (renamed kept gone) names i 0 0 inside in
    record {
      least = λ i inside.
          let old : i < length names = omega arith in
          let few = are.least i old in
          rw (at i old) (elim (cases_eq (get_or names i 0) gone) [
            | inl hit ↦ rw (eq-eqb (get_or names i 0) gone hit) (omega arith)
            | inr miss ↦ rw (ne_eqb (get_or names i 0) gone miss) few
          ]);
      own = λ i inside.
          let old : i < length names = omega arith in
          let few = are.least i old in
          let apart : kept ≢ gone = λ e. absurd (omega arith) in
          rw (at i old) (elim (cases_eq (get_or names i 0) gone) [
            | inl hit ↦ rw (eq-eqb (get_or names i 0) gone hit, at kept within, own, ne_eqb kept gone apart) refl
            | inr miss ↦
                let there : get_or names i 0 < length names = omega arith in
                rw (ne_eqb (get_or names i 0) gone miss, at (get_or names i 0) there, are.own i old, ne_eqb (get_or names i 0) gone miss) refl
          ]);
    }

-- ---- the steps of a forest with room

-- a step of `push`
pub HasRoom-more : (links : List Link) (spare room room' : ℕ) → HasRoom links spare room → 0 < spare → length links < 4294967295 → room ≤ room' → HasRoom (links ++ next_link links ∷ []) (spare - 1) room'
HasRoom-more links spare room room' has some few more_room =
    let longer = length-append links (next_link links ∷ []) in
    let same = length-names links in
    let named : AreNames (names_of links ++ length links ∷ []) = rw same at (AreNames-more (names_of links) has.named) in
    record {
      forest = IsForest-more links has.forest;
      own = OwnNames-more links has.forest has.own;
      named = subst AreNames (sym (names_of-more links has.forest)) named;
      few = let e : 4294967295 + 1 ≡ 2 ^ 32 = refl in omega arith;
      enough = omega (arith, has.enough);
    }

module _ (links : List Link) (spare room : ℕ) (has : HasRoom links spare room) (kept gone : ℕ) (less : kept < gone) (within : gone < length links)
    (own_kept : get_or (names_of links) kept 0 ≡ kept) (own_gone : get_or (names_of links) gone 0 ≡ gone) where
  kept_within : kept < length links
  kept_within = omega arith

  low_named : (link_at links (root_of links kept)).name ≡ kept
  low_named = sym (name_seen links kept kept_within) ∙ own_kept

  high_named : (link_at links (root_of links gone)).name ≡ gone
  high_named = sym (name_seen links gone within) ∙ own_gone

  apart : kept ≢ gone
  apart e = absurd (omega arith)

  pub tops_differ : root_of links kept ≢ root_of links gone
  tops_differ e = apart (sym low_named ∙ ap (λ (r : ℕ). (link_at links r).name) e ∙ high_named)

  low : IsTop links (root_of links kept)
  low = root_is_top links has.forest kept kept_within

  high : IsTop links (root_of links gone)
  high = root_is_top links has.forest gone within

  renamed_well : AreNames (map (renamed kept gone) (names_of links))
  renamed_well = AreNames-renamed (names_of links) kept gone has.named less own_kept (rw (length-names links) kept_within)

  -- the names, where the set of the kept name is put under the other
  pub names-under_gone : names_of (linked links (root_of links kept) (root_of links gone) kept) ≡ map (renamed kept gone) (names_of links)
  names-under_gone = names_of-linked links (root_of links kept) (root_of links gone) kept has.forest low high tops_differ has.own kept_within (inl refl) gone apart (inr (low_named, high_named))

  pub HasRoom-under_gone : (room' : ℕ) → room ≤ room' → HasRoom (linked links (root_of links kept) (root_of links gone) kept) spare room'
  HasRoom-under_gone room' more_room =
      let same = length-linked links (root_of links kept) (root_of links gone) kept has.forest low high tops_differ in
      record {
        forest = IsForest-linked links (root_of links kept) (root_of links gone) kept has.forest low high tops_differ;
        own = OwnNames-linked links (root_of links kept) (root_of links gone) kept has.forest low high tops_differ has.own kept_within (inl refl);
        named = subst AreNames (sym names-under_gone) renamed_well;
        few = subst (λ (n : ℕ). n < 2 ^ 32) (sym same) has.few;
        enough = omega (arith, has.enough);
      }

  -- the names, where the set of the other name is put under that of the kept one
  pub names-under_kept : names_of (linked links (root_of links gone) (root_of links kept) kept) ≡ map (renamed kept gone) (names_of links)
  names-under_kept = names_of-linked links (root_of links gone) (root_of links kept) kept has.forest high low (λ e. tops_differ (sym e)) has.own kept_within (inr refl) gone apart (inl (high_named, low_named))

  pub HasRoom-under_kept : (room' : ℕ) → room ≤ room' → HasRoom (linked links (root_of links gone) (root_of links kept) kept) spare room'
  HasRoom-under_kept room' more_room =
      let same = length-linked links (root_of links gone) (root_of links kept) kept has.forest high low (λ e. tops_differ (sym e)) in
      record {
        forest = IsForest-linked links (root_of links gone) (root_of links kept) kept has.forest high low (λ e. tops_differ (sym e));
        own = OwnNames-linked links (root_of links gone) (root_of links kept) kept has.forest high low (λ e. tops_differ (sym e)) has.own kept_within (inr refl);
        named = subst AreNames (sym names-under_kept) renamed_well;
        few = subst (λ (n : ℕ). n < 2 ^ 32) (sym same) has.few;
        enough = omega (arith, has.enough);
      }
