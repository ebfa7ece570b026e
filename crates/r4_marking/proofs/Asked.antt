-- What is held after one cell more.
use Rattle.std.proofs.Common.{◌≡◌, ◌≢◌, ◌⊎◌, inl, inr, ℕ, zero, suc, ◌+◌, ◌-◌, ◌<◌, ◌≤◌, Bool, true, false, List, [], ◌∷◌, ◌++◌, length, map, take, refl, sym, ap, subst, ◌∙◌, arith}
use Rattle.std.specs.Prelude.{Contains, Option, Some, None, ◌==◌, slice_get, slice_index_or}
use Rattle.std.proofs.lemmas.Bool.Decides.{nat_tests}
use Rattle.std.proofs.lemmas.Option.{none-some, same_Some}
use Rattle.std.proofs.Math.Decide.{ℕ_discrete}
use Rattle.r4_base.specs.Cell.{cell_of}
use Rattle.r4_base.specs.Key.{rank}
use Rattle.r4_base.specs.Tree.{Fits, Name, Node, Root, Store}
use Rattle.r4_base.specs.Value.{Value}
use Rattle.r4_search.specs.r4_cell.Patch.{HaveNames, by_name}
use Rattle.r4_search.specs.r4_cell.Seen.{CellSeen, node_of}
use Rattle.r4_reach.specs.r4_patch.Part.{IsPart}
use Rattle.r4_reach.proofs.r4_patch.Members.{Distinct, absent, cases, distinct, found, here, later, none, there}
use Rattle.r4_reach.specs.Demand.{Demand, ask, ask_of, heard}
use Rattle.r4_reach.specs.Needs.{Ask}
use Rattle.r4_marking.specs.Marks.{AreAsks, AreLevels, HearsLittle, AreMet, IsNoted, heard_by_id, most_for}
use Rattle.r4_marking.proofs.Held.{heard_same}

-- ---- places in lists

module _ {A : Type 0} where
  pub got : (xs : List A) (k : ℕ) (x : A) → slice_get xs k ≡ Some x → Contains xs x
  got [] k x is = absurd cc
  got (y ∷ ys) zero x is = subst (Contains (y ∷ ys)) (same_Some y x is) (here y ys)
  got (y ∷ ys) (suc k) x is = later y x ys (got ys k x is)

  pub place_of : (xs : List A) (x : A) → Contains xs x → (k : ℕ) × (slice_get xs k ≡ Some x)
  place_of [] x at = absurd (none x at)
  place_of (y ∷ ys) x at = elim (cases y x ys at) [
    | inl same ↦ (0, ap (λ (z : A). Some z) (sym same))
    | inr more ↦ let (k, is) = place_of ys x more in (suc k, is)
  ]

  pub in_take : (k : ℕ) (xs : List A) (x : A) → Contains (take k xs) x → Contains xs x
  in_take zero xs x at = absurd (none x at)
  in_take (suc k) [] x at = absurd (none x at)
  in_take (suc k) (y ∷ ys) x at = elim (cases y x (take k ys) at) [ inl same ↦ subst (Contains (y ∷ ys)) (sym same) (here y ys) | inr more ↦ later y x ys (in_take k ys x more) ]

  pub taken : (k j : ℕ) (xs : List A) (x : A) → slice_get xs j ≡ Some x → j < k → Contains (take k xs) x
  taken zero j xs x is lt = absurd (omega (arith, lt))
  taken (suc k) j [] x is lt = absurd cc
  taken (suc k) zero (y ∷ ys) x is lt = subst (Contains (y ∷ take k ys)) (same_Some y x is) (here y (take k ys))
  taken (suc k) (suc j) (y ∷ ys) x is lt = later y x (take k ys) (taken k j ys x is (omega (arith, lt)))

  -- one more
  pub take_cases : (k : ℕ) (xs : List A) (c x : A) → slice_get xs k ≡ Some c → Contains (take (suc k) xs) x → Contains (take k xs) x ⊎ (x ≡ c)
  take_cases k [] c x is at = absurd cc
  take_cases zero (y ∷ ys) c x is at = elim (cases y x [] at) [ inl same ↦ inr (same ∙ same_Some y c is) | inr more ↦ absurd (none x more) ]
  take_cases (suc k) (y ∷ ys) c x is at = elim (cases y x (take (suc k) ys) at) [
    | inl same ↦ inl (subst (Contains (y ∷ take k ys)) (sym same) (here y (take k ys)))
    | inr more ↦ elim (take_cases k ys c x is more) [ inl first ↦ inl (later y x (take k ys) first) | inr same ↦ inr same ]
  ]

  pub take_on : (k : ℕ) (xs : List A) (x : A) → Contains (take k xs) x → Contains (take (suc k) xs) x
  take_on zero xs x at = absurd (none x at)
  take_on (suc k) [] x at = absurd (none x at)
  take_on (suc k) (y ∷ ys) x at = elim (cases y x (take k ys) at) [ inl same ↦ subst (Contains (y ∷ take (suc k) ys)) (sym same) (here y (take (suc k) ys)) | inr more ↦ later y x (take (suc k) ys) (take_on k ys x more) ]

-- what is made of an element
pub at_place : {A B : Type 0} (f : A → B) (xs : List A) (i : ℕ) (d : A) (y : B) → i < length xs → y ≡ f (slice_index_or xs i d) → slice_get (map f xs) i ≡ Some y
at_place f [] i d y lt is = absurd (omega (arith, lt))
at_place f (x ∷ xs) zero d y lt is = ap (λ z. Some z) (sym is)
at_place f (x ∷ xs) (suc i) d y lt is = at_place f xs i d y (omega (arith, lt)) is

-- no cell before it has its name
apart : (k : ℕ) (cells : List CellSeen) (c x : CellSeen) → Distinct cells → slice_get cells k ≡ Some c → Contains (take k cells) x → x.id ≢ c.id
apart zero cells c x h is at = absurd (none x at)
apart (suc k) [] c x h is at = absurd cc
apart (suc k) (y ∷ ys) c x (first, rest) is at = elim (cases y x (take k ys) at) [
  | inl same ↦ (λ e. first c (got ys k c is) (ap (λ (z : CellSeen). z.id) (sym same) ∙ e))
  | inr more ↦ apart k ys c x rest is more
]

cell_level : (level lo hi : ℕ) (b : List ℕ) → (cell_of level lo hi b).level ≡ level
unfolding cell_of
cell_level zero lo hi b = refl
cell_level (suc l) lo hi b = refl

pub node_level : (c : CellSeen) → (node_of c).level ≡ c.level
node_level c = cell_level c.level (rank c.lo) (rank c.hi) c.block

module _ (d : Demand Ask) (met : List CellSeen) (root : Root) (m : AreMet met root) where
  abbrev pub t : Store Value
  t = by_name met

  pub stands : (c : CellSeen) → Contains met c → t c.id ≡ Some (node_of c)
  stands c at = there met c (distinct met m.names) at

  -- among some of the cells, which have each one below c
  module _ (c : CellSeen) (among : Contains met c) (cells : List CellSeen) (sub : (x : CellSeen) → Contains cells x → Contains met x) (below : (x : CellSeen) → Contains met x → x.level < c.level → Contains cells x) (f : ℕ → Option Ask) (a : AreAsks d t cells f) where
    -- a node that it names is one level below
    level_below : (l : ℕ) → c.level ≡ suc l → (n : Name) → Contains (node_of c).names n → 1 ≤ n.level → n.level ≡ l
    level_below l level n at some =
        let up_c = node_level c in
        elim ((m.part.nodes c.id (node_of c) (stands c among)).below n at) [
          | inl node ↦ (let up = node.1 in omega (arith, up_c, up, level))
          | inr block ↦ (let zero_is = block.1 in absurd (omega (arith, zero_is, some)))
        ]

    its_child : (l : ℕ) → c.level ≡ suc l → (n : Name) → Contains (node_of c).names n → 1 ≤ n.level → (e : Node Value) → t n.id ≡ Some e → (x : CellSeen) × Contains cells x × (x.id ≡ n.id) × (e ≡ node_of x) × (x.level ≡ l)
    its_child l level n at some e there_is =
        let (x, at_x, id, says) = found met n.id e there_is in
        let fits = (m.part.named c.id (node_of c) e n (stands c among) at there_is).level in
        let down = level_below l level n at some in
        let a_level = node_level x in
        let same = ap (λ (y : Node Value). y.level) says in
        let low : x.level ≡ l = omega (arith, fits, down, a_level, same) in
        (x, below x at_x (omega (arith, low, level)), id, says, low)

    -- what is held for a node that it names is what this asks for
    pub heard_of : (l : ℕ) → c.level ≡ suc l → (n : Name) → Contains (node_of c).names n → 1 ≤ n.level → f n.id ≡ ask_of (ask d t l) (t n.id)
    heard_of l level n at some = by (t n.id) refl
      where
        by : (o : Option (Node Value)) → t n.id ≡ o → f n.id ≡ ask_of (ask d t l) o
        by None gone = a.none n.id (λ x first same. absurd (none-some (node_of x) (sym gone ∙ (ap t (sym same) ∙ stands x (sub x first)))))
        by (Some e) there_is =
            let (x, first, id, says, low) = its_child l level n at some e there_is in
            ap f (sym id) ∙ (a.asks x first ∙ (ap (λ (i : ℕ). ask d t i (node_of x)) low ∙ ap (λ (y : Node Value). ask d t l y) (sym says)))

    nameless : c.level ≡ 0 → (n : Name) → Contains (node_of c).names n → ⊥
    nameless level n at =
        let up_c = node_level c in
        elim ((m.part.nodes c.id (node_of c) (stands c among)).below n at) [
          | inl node ↦ (let up = node.1 in omega (arith, up_c, up, level))
          | inr block ↦ (let two = block.0 in omega (arith, up_c, two, level))
        ]

    -- and that is little
    pub heard_little : HearsLittle f (most_for c.level) (node_of c).names
    heard_little n asked at some held = by c.level refl
      where
        among_first : (l : ℕ) → c.level ≡ suc l → (o : Option (Node Value)) → t n.id ≡ o → asked.more ≤ most_for c.level
        among_first l level None gone = absurd (let nothing = heard_of l level n at some ∙ ap (ask_of (ask d t l)) gone in let one = sym nothing ∙ held in cc)
        among_first l level (Some e) there_is =
            let (x, first, id, says, low) = its_child l level n at some e there_is in
            let up : x.level + 1 ≡ c.level = omega (arith, low, level) in
            subst (λ (i : ℕ). asked.more ≤ most_for i) up (a.small x asked first (ap f id ∙ held))

        by : (l : ℕ) → c.level ≡ l → asked.more ≤ most_for c.level
        by zero level = absurd (nameless level n at)
        by (suc l) level = among_first l level (t n.id) refl

  module _ (k : ℕ) (c : CellSeen) (is : slice_get met k ≡ Some c) (f : ℕ → Option Ask) (a : AreAsks d t (take k met) f) where
    among : Contains met c
    among = got met k c is

    before : (x : CellSeen) → Contains met x → x.level < c.level → Contains (take k met) x
    before x at lt =
        let (j, there_is) = place_of met x at in
        elim (compare j k) [
          | inl low ↦ taken k j met x there_is low
          | inr high ↦ elim (ℕ_discrete j k) [
            | yes same ↦ absurd (let one = ap (λ (y : CellSeen). y.level) (same_Some x c (sym there_is ∙ (ap (slice_get met) same ∙ is))) in omega (arith, one, lt))
            | no other ↦ absurd (let up = m.levels k j c x is there_is (omega (arith, high, other)) in omega (arith, up, lt))
          ]
        ]
      where
        compare : (m n : ℕ) → (m < n) ⊎ (n ≤ m)
        compare m n = grind (arith, nat_tests)

    pub hears_little : HearsLittle f (most_for c.level) (node_of c).names
    hears_little = heard_little c among (take k met) (in_take k met) before f a

    none_before : f c.id ≡ None
    none_before = a.none c.id (λ x first. apart k met c x (distinct met m.names) is first)

    noted_suc : (g : ℕ → Option Ask) → IsNoted d c f g → AreAsks d t (take (suc k) met) g
    noted_suc g n = record {
      asks = λ x at. elim (take_cases k met c x is at) [
        | inl first ↦ n.others x.id (apart k met c x (distinct met m.names) is first) ∙ a.asks x first
        | inr same ↦ subst (λ (y : CellSeen). g y.id ≡ ask d t y.level (node_of y)) (sym same) (its_own c.level refl)
      ];
      none = λ i other. n.others i (λ e. other c (taken (suc k) k met c is (omega arith)) (sym e)) ∙ a.none i (λ x first. other x (take_on k met x first));
      small = λ x asked at held. elim (take_cases k met c x is at) [
        | inl first ↦ a.small x asked first (sym (n.others x.id (apart k met c x (distinct met m.names) is first)) ∙ held)
        | inr same ↦ subst (λ (y : CellSeen). asked.more ≤ most_for (y.level + 1)) (sym same) (n.small asked none_before (subst (λ (y : CellSeen). g y.id ≡ Some asked) same held))
      ];
    }
      where
        its_own : (l : ℕ) → c.level ≡ l → g c.id ≡ ask d t l (node_of c)
        its_own zero level = n.data_block level ∙ none_before
        its_own (suc l) level = n.node none_before (omega (arith, level)) ∙ ap (d.asks (node_of c)) (heard_same d t l f (node_of c).names (heard_of c among (take k met) (in_take k met) before f a l level))

    pub noted_next : (g : ℕ → Option Ask) → IsNoted d c f g → AreAsks d t (take (k + 1) met) g
    noted_next g n = let e : suc k ≡ k + 1 = omega arith in subst (λ (i : ℕ). AreAsks d t (take i met) g) e (noted_suc g n)
