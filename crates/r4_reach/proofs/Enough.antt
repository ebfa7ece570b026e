-- The cells that are written above one that asks for room suffice for it.
use Rattle.std.proofs.Common.{◌≡◌, ◌≢◌, inl, inr, ℕ, suc, ◌+◌, ◌-◌, ◌*◌, ◌/◌, ◌<◌, ◌≤◌, Bool, true, false}
use Rattle.std.proofs.Common.{List, [], ◌∷◌, ◌++◌, refl, ap, sym, subst, ◌∙◌, arith}
use Rattle.std.specs.Prelude.{All, Contains, Option, None, Some, not, ◌&&◌, ◌||◌, ◌==◌, nat_lt, if◌then◌else◌, length}
use Rattle.std.proofs.Math.Decide.{dec_le}
use Rattle.std.proofs.Math.Nat.{lt_of_not-le}
use Rattle.std.proofs.lemmas.List.Elements.{All-cons, All-head, All-nil, All-tail}
use Rattle.std.proofs.lemmas.List.Sums.{sum_by-cons}
use Rattle.r4_base.specs.Node.{items_of}
use Rattle.r4_base.specs.Tree.{Name, Node, Root, Store}
use Rattle.r4_base.specs.Value.{Value}
use Rattle.r4_path.specs.r4_branch.Pieces.{twig_bytes}
use Rattle.r4_content.specs.Edited.{Edits, Intervals}
use Rattle.r4_path.specs.r4_patch.Part.{IsPart}
use Rattle.r4_path.proofs.r4_patch.PartCells.{one_above, root_high}
use Rattle.r4_reach.specs.Demand.{Demand, ask, ask_of, heard, heard_one}
use Rattle.r4_reach.specs.Enough.{IsLongEnough, LeadsUp, Numbered}
use Rattle.r4_content.specs.Bodies.{larger}
use Rattle.r4_path.specs.Nodes.{weight}
use Rattle.r4_reach.specs.Needs.{Ask, all_gone, all_more, asking, cell_asks, changes_pieces, come_of, demand_of}
use Rattle.r4_reach.specs.Needs.{growing, is_touched, leaf_asks, meets, moves, node_asks, node_need, over}
use Rattle.r4_reach.specs.Needs.{pieces_after, pointers_gone, put_among, twig_asks, twig_more, twig_need}
use Rattle.r4_reach.specs.Reach.{IsAsked, IsRootAsking, IsWritten}
use Rattle.r4_reach.specs.Touched.{Body}
use Rattle.r4_reach.proofs.Heard.{cases, is_heard, none, split}

no_or : (x y : Bool) (p q : ℕ) → x ≡ false → y ≡ false → (if x || y then p else q) ≡ q
no_or true y p q f g = absurd cc
no_or false true p q f g = absurd cc
no_or false false p q f g = refl

no_if : (x : Bool) (p : ℕ) → x ≡ false → (if x then p else 0) ≡ 0
no_if true p f = absurd cc
no_if false p f = refl

pub none_meet : (lo hi : ℕ) → meets lo hi (0, 0) ≡ false
none_meet lo hi = by_tests (nat_lt lo 0) (nat_lt hi 0) refl refl
  where
    by_tests : (x y : Bool) → nat_lt lo 0 ≡ x → nat_lt hi 0 ≡ y
        → nat_lt (if x then 0 else lo) (if y then hi else 0) ≡ false
    by_tests true y f g = absurd (grind (arith, f))
    by_tests false true f g = absurd (grind (arith, g))
    by_tests false false f g = f

pub over_some : (n : ℕ) → 4068 < n → 1 ≤ over n
over_some n h = by_test (nat_lt 4068 n) refl
  where
    by_test : (v : Bool) → nat_lt 4068 n ≡ v → 1 ≤ (if v then 1 + (n - 4068 + 1023) / 1024 else 0)
    by_test true f = omega arith
    by_test false f = absurd (grind (arith, f, h))

more_some : (n m : ℕ) → 4068 < n → 1 ≤ (if nat_lt 4068 n then larger (over n) m else 0)
more_some n m h = by_test (nat_lt 4068 n) refl
  where
    most : (v : Bool) → nat_lt (over n) m ≡ v → 1 ≤ (if v then m else over n)
    most true f = let o = over_some n h in grind (arith, f, o)
    most false f = over_some n h

    by_test : (v : Bool) → nat_lt 4068 n ≡ v → 1 ≤ (if v then larger (over n) m else 0)
    by_test true f = most (nat_lt (over n) m) refl
    by_test false f = absurd (grind (arith, f, h))

pub asks_some : (always : Bool) (a : Ask) → 1 ≤ a.more → asking always a ≡ Some a
asks_some true a h = refl
asks_some false a h = by_test (nat_lt 0 a.more) refl
  where
    by_test : (v : Bool) → nat_lt 0 a.more ≡ v → (if v || a.gone then Some a else None) ≡ Some a
    by_test true f = refl
    by_test false f = absurd (grind (arith, f, h))

module _ (f : Node Value → Option Ask) (t : Store Value) where
  more_rest : (n : Name) (o : Option Ask) (rest : List (Name × Ask)) → all_more rest ≤ all_more (heard_one n o rest)
  more_rest n None rest = omega arith
  more_rest n (Some a) rest = let e = sum_by-cons (λ (h : Name × Ask). h.1.more) (n, a) rest in omega (arith, e)

  heard_more : (ns : List Name) (n : Name) (b : Node Value) (a : Ask) → Contains ns n → n.level ≢ 0 → t n.id ≡ Some b
      → f b ≡ Some a → a.more ≤ all_more (heard f t ns)
  heard_more [] n b a c up tb fb = absurd (none n c)
  heard_more (m ∷ ns) n b a c up tb fb = elim (cases m n ns c) [
    | inl same ↦ by_level (m.level == 0) refl (λ z. up (ap (λ x. x.level) same
        ∙ z)) (t m.id) (ap (λ x. t x.id) (sym same) ∙ tb)
    | inr more ↦ pass (m.level == 0) (ask_of f (t m.id)) (heard_more ns n b a more up tb fb)
  ]
    where
      pass : (v : Bool) (o : Option Ask) → a.more ≤ all_more (heard f t ns)
          → a.more ≤ all_more (if v then heard f t ns else heard_one m o (heard f t ns))
      pass true o h = h
      pass false o h = let r = more_rest m o (heard f t ns) in omega (arith, h, r)

      told : (o : Option Ask) → o ≡ Some a → a.more ≤ all_more (heard_one m o (heard f t ns))
      told o g = subst (λ w. a.more ≤ all_more (heard_one m w (heard f t ns))) (sym g)
          (let e = sum_by-cons (λ (h : Name × Ask). h.1.more) (m, a) (heard f t ns) in omega (arith, e))

      by_level : (v : Bool) → (m.level == 0) ≡ v → m.level ≢ 0 → (o : Option (Node Value)) → o ≡ Some b
          → a.more ≤ all_more (if v then heard f t ns else heard_one m (ask_of f o) (heard f t ns))
      by_level true g w o is = absurd (w (grind (arith, g)))
      by_level false g w o is = told (ask_of f o) (ap (ask_of f) is ∙ fb)

module _ (b : Option Body) (e : Edits) (reads rs : Intervals) (quiet : come_of b ≡ (0, 0)) where
  abbrev D : Demand Ask
  D = demand_of b e reads rs

  none_meets : (lo hi : ℕ) → meets lo hi (come_of b) ≡ false
  none_meets lo hi = subst (λ r. meets lo hi r ≡ false) (sym quiet) (none_meet lo hi)

  -- a twig whose pieces stay, and a node above, need the bytes of their items and of the pointers that come
  pub twig_needs : (c : Node Value) (hs : List (Name × Ask)) → changes_pieces b e c ≡ false
      → twig_need b e c hs ≡ weight (items_of c.block) + 46 * all_more hs
  twig_needs c hs still = no_or (changes_pieces b e c) (meets c.lo c.hi (come_of b))
      (twig_bytes (pieces_after b e c hs) + 46 * (all_more hs + put_among b e c))
      (weight (items_of c.block) + 46 * all_more hs) still (none_meets c.lo c.hi)

  pub node_needs : (c : Node Value) (hs : List (Name × Ask))
      → node_need b c hs ≡ weight (items_of c.block) + 46 * all_more hs
  node_needs c hs = let z : pointers_gone (come_of b) c hs
      ≡ 0 = no_if (meets c.lo c.hi (come_of b)) (all_gone hs) (none_meets c.lo c.hi) in omega (arith, z)

  -- a cell above the leaves that hears for more than it has room for asks for something
  asks_up : (c : Node Value) (x : Name × Ask) (xs : List (Name × Ask)) → 2 ≤ c.level
      → (c.level ≡ 2 → changes_pieces b e c ≡ false) → 4068 < weight (items_of c.block) + 46 * all_more (x ∷ xs)
      → (a : Ask) × (cell_asks b e rs c (x ∷ xs) ≡ Some a) × (1 ≤ a.more)
  asks_up c x xs high still big = by_touch (is_touched rs c)
    where
      Up : Option Ask → Type 0
      Up o = (a : Ask) × (o ≡ Some a) × (1 ≤ a.more)

      hs : List (Name × Ask)
      hs = x ∷ xs

      twig : changes_pieces b e c ≡ false → Up (twig_asks b e c (x ∷ xs))
      twig same =
          let a : Ask = record {
            more = twig_more b e c (x ∷ xs);
            gone = meets c.lo c.hi (come_of b)
                && (length (pieces_after b e c (x ∷ xs)) == 0);
          } in
          let some : 1 ≤ a.more = more_some (twig_need b e c (x ∷ xs)) (growing (x ∷ xs))
          (subst (λ n. 4068 < n) (sym (twig_needs c (x ∷ xs) same)) big) in
          (a, asks_some (moves (come_of b) c) a some, some)

      node : Up (node_asks b c (x ∷ xs))
      node =
          let a : Ask = record {
            more = over (node_need b c (x ∷ xs));
            gone = meets c.lo c.hi (come_of b)
                && (length c.names == all_gone (x ∷ xs));
          } in
          let some : 1 ≤ a.more = over_some (node_need b c (x ∷ xs))
          (subst (λ n. 4068 < n) (sym (node_needs c (x ∷ xs))) big) in
          (a, asks_some (moves (come_of b) c) a some, some)

      by_twig : (v : Bool) → (c.level == 2) ≡ v
          → Up (if v then twig_asks b e c (x ∷ xs) else node_asks b c (x ∷ xs))
      by_twig true g = twig (still (grind (arith, g)))
      by_twig false g = node

      by_leaf : (v : Bool) → (c.level == 1) ≡ v
          → Up (if v then leaf_asks b e c else
          (if c.level == 2 then twig_asks b e c (x ∷ xs) else node_asks b c (x ∷ xs)))
      by_leaf true g = absurd (grind (arith, g, high))
      by_leaf false g = by_twig (c.level == 2) refl

      by_touch : (v : Bool) → Up (if v
          || not (length (x ∷ xs) == 0) then
          (if c.level == 1 then leaf_asks b e c else
          (if c.level == 2 then twig_asks b e c (x ∷ xs) else node_asks b c (x ∷ xs))) else None)
      by_touch v = by_some (v || not (length (x ∷ xs) == 0)) (some v)
        where
          some : (v : Bool) → (v || not (length (x ∷ xs) == 0)) ≡ true
          some true = refl
          some false = grind arith

          by_some : (w : Bool) → w ≡ true
              → Up (if w then (if c.level == 1 then leaf_asks b e c else
              (if c.level == 2 then twig_asks b e c (x ∷ xs) else node_asks b c (x ∷ xs))) else None)
          by_some true h = by_leaf (c.level == 1) refl
          by_some false h = absurd cc

module _ (b : Option Body) (e : Edits) (reads rs : Intervals) (quiet : come_of b
    ≡ (0, 0)) (t : Store Value) (root : Root) (it : IsPart t root)
    (low : (x : Ask) → IsRootAsking (demand_of b e reads rs) t root x → root.height < 8) where
  abbrev Near : Numbered → List Numbered → ℕ → Type 0
  Near c ups come = (near rest : List Numbered) × (ups ≡ near ++ rest)
      × All (λ (x : Numbered). IsWritten (demand_of b e reads rs) t x.0) near × IsLongEnough root come c near

  abbrev Up : Demand Ask
  Up = demand_of b e reads rs

  abbrev Still : Numbered → Type 0
  Still x = x.1.level ≡ 2 → changes_pieces b e x.1 ≡ false

  abbrev Here : Numbered → Type 0
  Here x = IsWritten Up t x.0

  -- a cell of a level asks by what it hears
  ask_at : (c : Node Value) (l : ℕ) → c.level ≡ suc l
      → ask Up t c.level c ≡ cell_asks b e rs c (heard (ask Up t l) t c.names)
  ask_at c l cl = ap (λ k. ask Up t k c) cl

  some_heard : (c : Node Value) (hs : List (Name × Ask)) → hs ≢ [] → 2 ≤ c.level
      → (c.level ≡ 2 → changes_pieces b e c ≡ false) → 4068 < weight (items_of c.block) + 46 * all_more hs
      → (a : Ask) × (cell_asks b e rs c hs ≡ Some a) × (1 ≤ a.more)
  some_heard c [] some high still big = absurd (some refl)
  some_heard c (x ∷ xs) some high still big = asks_up b e reads rs quiet c x xs high still big

  pub enough : (ups : List Numbered) (c : Numbered) (a : Ask) (come : ℕ) → t c.0 ≡ Some c.1 → 1 ≤ c.1.level
      → LeadsUp t root c ups → All Still ups → ask Up t c.1.level c.1 ≡ Some a → come ≤ a.more → Near c ups come
  enough [] c a come tc pos leads still asks fits =
      let high = root_high t root it c.0 c.1 tc leads in
      let asking : IsRootAsking Up t root a = (
        c.1,
        subst (λ i. t i ≡ Some c.1) leads tc,
        subst (λ l. ask Up t l c.1
            ≡ Some a) high asks,
      ) in
      let short = low a asking in
      ([], [], refl, All-nil Here, (leads, omega (arith, short, high)))
  enough (p ∷ ups) c a come tc pos (tp, (n, pn, is), leads) still asks fits =
      let tn : t n.id ≡ Some c.1 = subst (λ i. t i ≡ Some c.1) (sym is) tc in
      let f = (it.named p.0 p.1 c.1 n tp pn tn).level in
      let ip = it.nodes p.0 p.1 tp in
      let pl : p.1.level ≡ suc c.1.level = one_above p.1 n ip pn (omega (arith, f, pos)) ∙ ap suc (sym f) in
      let up : n.level ≢ 0 = λ z. not_low pos (f ∙ z) in
      let hs = heard (ask Up t c.1.level) t p.1.names in
      let some : hs ≢ [] = is_heard (ask Up t c.1.level) t p.1.names n c.1 a pn up tn asks in
      let most : a.more ≤ all_more hs = heard_more (ask Up t c.1.level) t p.1.names n c.1 a pn up tn asks in
      let hears : IsAsked Up t p.1 = subst (λ k. heard (ask Up t k) t p.1.names ≢ []) (omega (arith, pl)) some in
      let here : Here p = (p.1, tp, inr (inr (inr hears))) in
      elim (dec_le (weight (items_of p.1.block) + 46 * come) 4068) [
        | yes room ↦ (p ∷ [], ups, refl, All-cons Here p [] here (All-nil Here), inl room)
        | no full ↦
            let big : 4068 < weight (items_of p.1.block) + 46 * all_more hs = let less = lt_of_not-le full in
            omega (arith, less, most, fits) in
            let (a2, asks2, one) = some_heard p.1 hs some (omega (arith, pl, pos)) (All-head Still p ups still) big in
            let (near, rest, split, all, long) = enough ups p a2 1 tp (omega (arith, pl)) leads
            (All-tail Still p ups still) (ask_at p.1 c.1.level pl ∙ asks2) one in
            (p ∷ near, rest, ap (λ xs. p ∷ xs) split, All-cons Here p near here all, inr long)
      ]
    where
      not_low : 1 ≤ c.1.level → c.1.level ≡ 0 → ⊥
      not_low h z = absurd (omega (arith, h, z))
