-- A change climbs a path, level by level.
use Rattle.std.proofs.Common.{◌≡◌, ◌≢◌, ◌⊎◌, inl, inr, ℕ, zero, suc, ◌+◌, ◌-◌, ◌*◌, ◌^◌, ◌<◌, ◌≤◌, true, not, ◌&&◌, ◌||◌, List}
use Rattle.std.proofs.Common.{[], ◌∷◌, ◌++◌, length, map, take, drop, get_or, refl, sym, ap, subst, ◌∙◌, arith}
use Rattle.std.specs.Prelude.{All, Contains, reverse, slice_get, Option, Some, None, nat_le, nat_lt}
use Rattle.std.proofs.lemmas.Bool.{cases_lt}
use Rattle.std.proofs.lemmas.Bool.Decides.{nat_tests}
use Rattle.std.proofs.lemmas.List.{append_assoc, append-nil, length-append, length-drop, length-reverse, map-append}
use Rattle.std.proofs.lemmas.List.{reverse-append}
use Rattle.std.proofs.lemmas.List.Elements.{All-cons, All-nil, Contains-append_cases}
use Rattle.std.proofs.lemmas.Option.{none-some, same_Some, slice_get_read}
use Rattle.r4_base.specs.Bitmap.{is_fixed}
use Rattle.r4_base.specs.Key.{least, rank, top}
use Rattle.r4_base.specs.Node.{items_of, mkfs_id_of}
use Rattle.r4_base.specs.Tree.{IsNode}
use Rattle.r4_patch.specs.r4_cell.Seen.{CellSeen, node_of}
use Rattle.r4_patch.specs.r4_cell.declared.change.Fresh.{Fresh}
use Rattle.r4_patch.specs.Joining.{ids_of}
use Rattle.r4_path.specs.Levels.{CanClimb, Climbed, HaveMkfsIdOf, IsLongEnough, IsStepOver, IsUnder, Keeps, Leads}
use Rattle.r4_path.specs.Levels.{Suffices}
use Rattle.r4_path.specs.Nodes.{IsPointable, IsPointingTo, weight}
use Rattle.r4_path.specs.Steps.{CountUp, Follow, Step, fresh_ids, news}
use Rattle.r4_path.proofs.CellNodes.{long_map}
use Rattle.r4_path.proofs.Filling.{long_take, take_more}
use Rattle.r4_path.proofs.Grown.{map_names, names_map}
use Rattle.r4_patch.proofs.Members.{cases, here, none}
use Rattle.r4_path.proofs.Rising.{count_within}

-- ---- numbers

pub numbered : (id : ℕ) → 2 ^ 63 ≤ id → id < 2 ^ 64 → IsPointable id
numbered id low high = (high, fits id low)
  where
    fits : (x : ℕ) → 2 ^ 63 ≤ x → (nat_le (2 ^ 63) x || nat_lt x (2 ^ 64) && not (is_fixed (2 ^ 64) x)) ≡ true
    fits x low = grind (arith, nat_tests, low)

pub all_numbered : (from to : ℕ) (cells : List CellSeen) → 2 ^ 63 ≤ from → to ≤ 2 ^ 64
    → ((i : ℕ) → Contains (ids_of cells) i → (from ≤ i) × (i < to)) → All (λ c. IsPointable c.id) cells
all_numbered from to [] low high within = All-nil (λ (c : CellSeen). IsPointable c.id)
all_numbered from to (c ∷ cells) low high within =
    let w = within c.id (here_id c cells) in
    All-cons (λ (x : CellSeen). IsPointable x.id) c cells (numbered c.id (omega (arith, low, w)) (omega (arith, high, w)))
    (all_numbered from to cells low high (λ i member. within i (later_id c i cells member)))
  where
    here_id : (x : CellSeen) (xs : List CellSeen) → Contains (ids_of (x ∷ xs)) x.id
    here_id x xs = (zero, omega arith, refl)

    later_id : (x : CellSeen) (i : ℕ) (xs : List CellSeen) → Contains (ids_of xs) i → Contains (ids_of (x ∷ xs)) i
    later_id x i xs (k, l, e) = (suc k, omega (arith, l), e)

pub count_join : (n : ℕ) (xs ys : List ℕ) → CountUp n xs → CountUp (n + length xs) ys → CountUp n (xs ++ ys)
count_join n [] ys h g = subst (λ m. CountUp m ys) (let e : n + length {A = ℕ} [] ≡ n = omega arith in e) g
count_join n (x ∷ xs) ys (is, rest) g = (
  is,
  count_join (n + 1) xs ys rest
      (subst (λ m. CountUp m ys) (let e : n + length (x ∷ xs) ≡ n + 1 + length xs = omega arith in e) g),
)

pub long_ids : (cells : List CellSeen) → length (ids_of cells) ≡ length cells
long_ids [] = refl
long_ids (c ∷ cells) = let h = long_ids cells in omega (arith, h)

same_next : (f : Fresh) (n m : ℕ) → n ≡ m → record f { next = n } ≡ record f { next = m }
same_next f n m e = λ i. record f { next = e i }

one_alone : (cells : List CellSeen) → length cells ≡ 1 → (c : CellSeen) × (cells ≡ c ∷ [])
one_alone [] e = absurd (omega (arith, e))
one_alone (c ∷ []) e = (c, refl)
one_alone (c ∷ (d ∷ cells)) e = absurd (omega (arith, e))

-- ---- the change ends at one new cell

pub ends_alone : (s : Step) (ups : List CellSeen) (f : Fresh) (were are : List Step) → f.next ≤ f.end → length s.new ≡ 1 → are
    ≡ were ++ s ∷ [] → Climbed s ups f f were are None
ends_alone s ups f were are room one steps = record {
  more = [];
  steps = steps;
  climbs = tt;
  needed = tt;
  rows = tt;
  root_needed = tt;
  root_able = λ c e. absurd (none-some c e);
  olds_are = refl;
  sound = λ c member. absurd (none c member);
  keep = λ u member. absurd (none u member);
  mkfs_ids = λ h. h;
  root_units = λ c e. absurd (none-some c e);
  root_node = λ c e. absurd (none-some c e);
  counts = tt;
  number = same_next f f.next (f.next + 0) (omega arith);
  within = room;
  ends = λ r h. one_alone s.new one;
}

-- ---- or at a new root

-- the root has the mkfs_id of the first of the cells below it, which is that of the old cell
root_keeps : (old c : CellSeen) (cells : List CellSeen) → 1 ≤ length cells
    → ((first : CellSeen) → slice_get cells 0 ≡ Some first → mkfs_id_of c.block ≡ mkfs_id_of first.block)
    → HaveMkfsIdOf old cells → mkfs_id_of c.block ≡ mkfs_id_of old.block
root_keeps old c [] some is h = absurd (omega (arith, some))
root_keeps old c (x ∷ cells) some is h = is x refl ∙ h x (here x cells)

module _ (s : Step) (f : Fresh) (can : CanClimb s [] f) (two : length s.new ≢ 1) where
  root_facts : Suffices (length (drop 1 s.new)) s.old []
  root_facts = elim can.enough [ inl one ↦ absurd (two one) | inr h ↦ h ]

  pub root_level : (1 ≤ s.old.level) × (s.old.level < 8)
  root_level = (can.low, root_facts.2)

  pub root_some : 1 ≤ length s.new
  root_some = let a = long_ids s.new in let b = ap length can.first in omega (arith, a, b)

  pub root_few : 46 * length s.new ≤ 4068
  root_few = let n = can.few in omega (arith, n)

  pub root_follow : Follow s.old.level least top s.new
  root_follow = subst (λ lo. Follow s.old.level lo top s.new) root_facts.0
      (subst (λ hi. Follow s.old.level (rank s.old.lo) hi s.new) root_facts.1 can.ranges)

  pub root_able : All (λ c. IsPointable c.id) s.new
  root_able = go s.new can.first can.able
    where
      go : (cells : List CellSeen) → ids_of cells ≡ s.old.id ∷ ids_of (drop 1 cells)
          → All (λ c. IsPointable c.id) (drop 1 cells) → All (λ c. IsPointable c.id) cells
      go [] e able = absurd cc
      go (c ∷ cells) e able = All-cons (λ (x : CellSeen). IsPointable x.id) c cells
          (subst IsPointable (let same : s.old.id ≡ c.id = cc in same) root_facts.3) able

  pub root_number : f.next < f.end
  root_number = let n = can.numbers in omega (arith, n)

  pub ends_root : (g : Fresh) (were are : List Step) (c : CellSeen) → IsPointingTo s.new (s.old.level + 1) f.next c → g
      ≡ record f { next = f.next + 1 } → are ≡ were ++ s ∷ [] → Climbed s [] f g were are (Some c)
  ends_root g were are c points took steps = record {
    more = [];
    steps = steps;
    climbs = tt;
    needed = tt;
    rows = (two, points.items);
    root_needed = two;
    root_able = λ d e. subst (λ (x : CellSeen). IsPointable x.id) (same_Some c d e) (subst IsPointable (sym points.number)
        (numbered f.next can.unplaced (let n = can.numbers in let end = can.end in omega (arith, n, end))));
    olds_are = refl;
    sound = λ d member. absurd (none d member);
    keep = λ u member. absurd (none u member);
    mkfs_ids = λ h. (h, root_keeps s.old c s.new root_some points.mkfs_id h);
    root_units = λ d e. subst (λ x. (node_of x).units ≡ []) (same_Some c d e) points.units;
    root_node = λ d e. subst (λ x. IsNode (node_of x)) (same_Some c d e) points.node;
    counts = (points.number, tt);
    number = took;
    within = let n = can.numbers in let a = ap (λ (x : Fresh). x.next) took in let b = ap (λ (x : Fresh). x.end) took in
        omega (arith, n, a, b);
    ends = λ r h. elim h [
      | inl one ↦ absurd (two one)
      | inr enough ↦ record {
        was = enough.0;
        level = let l = points.level_is in omega (arith, l);
        lo = points.lo;
        hi = points.hi;
        names = λ n. (
          (λ g. names_map s.new n (subst (λ ns. Contains ns n) points.names g)),
          (λ g. subst (λ ns. Contains ns n) (sym points.names) (map_names s.new n g)),
        );
        spans = λ v g. none v (subst (λ vs. Contains vs v) points.spans g);
      }
    ];
  }

-- ---- or it goes on at the parent

module _ (s : Step) (parent : CellSeen) (ups : List CellSeen) (f : Fresh) (can : CanClimb s (parent ∷ ups) f)
    (two : length s.new ≢ 1) where
  pub under : IsUnder s parent
  under = record {
    named = can.leads.0;
    low = can.low;
    up = can.leads.1;
    range = can.leads.2;
    first = can.first;
    ranges = can.ranges;
    able = can.able;
    few = can.few;
  }

  pub has_number : f.next < f.end
  has_number = let n = can.numbers in omega (arith, n)

  module _ (g : Fresh) (u : Step) (step : IsStepOver s parent f g u) where
    -- one cell stands there now, or two
    one_or_two : (length u.new ≡ 1) ⊎ (length u.new ≡ 2)
    one_or_two = elim (cases_lt 4068 (weight (items_of parent.block) + 46 * length (drop 1 s.new))) [
      | inl over ↦ inr (step.two over)
      | inr fits ↦ inl (step.one fits)
    ]

    one_come : length u.new ≡ 2 → length (drop 1 u.new) ≡ 1
    one_come e = let d = length-drop 1 u.new in omega (arith, d, e)

    few_new : length u.new ≤ 2
    few_new = elim (cases_lt 4068 (weight (items_of parent.block) + 46 * length (drop 1 s.new))) [
      | inl over ↦ let e = step.two over in omega (arith, e)
      | inr fits ↦ let e = step.one fits in omega (arith, e)
    ]

    level_up : u.old.level ≡ suc s.old.level
    level_up = ap (λ (c : CellSeen). c.level) step.old ∙ can.leads.1

    next_is : g.next ≡ f.next + length (drop 1 u.new)
    next_is = ap (λ (x : Fresh). x.next) step.number

    end_is : g.end ≡ f.end
    end_is = ap (λ (x : Fresh). x.end) step.number

    few_numbers : length (drop 1 u.new) ≤ 1
    few_numbers = let d = length-drop 1 u.new in let n = few_new in omega (arith, d, n)

    pub goes_on : CanClimb u ups g
    goes_on = record {
      low = let l = level_up in omega (arith, l);
      first = step.step.first;
      ranges = step.step.ranges;
      able =
          let n = can.numbers in
          let low = can.unplaced in
          let high = can.end in
          let few = few_numbers in
          let long = long_ids (drop 1 u.new) in
          all_numbered f.next (f.next + length (ids_of (drop 1 u.new))) (drop 1 u.new) low (omega (arith, n, high, few, long))
          (λ i member. count_within f.next (ids_of (drop 1 u.new)) i step.counts member);
      few = let n = few_new in omega (arith, n);
      leads = subst (λ (c : CellSeen). Leads c ups) (sym step.old) can.leads.3;
      enough = elim can.enough [
        | inl one ↦ absurd (two one)
        | inr more ↦ elim more [
          | inl room ↦ inl (step.one room)
          | inr suffices ↦ elim one_or_two [
            | inl one ↦ inl one
            | inr e ↦ inr (subst (λ n. Suffices n u.old ups) (sym (one_come e))
                (subst (λ (c : CellSeen). Suffices 1 c ups) (sym step.old) suffices))
          ]
        ]
      ];
      unplaced = let n = next_is in let low = can.unplaced in omega (arith, n, low);
      numbers = let n = next_is in let e = end_is in let few = few_numbers in let m = can.numbers in
          omega (arith, n, e, few, m);
      end = subst (λ k. k < 2 ^ 64) (sym end_is) can.end;
    }

    pub went_on : (after : Fresh) (were are : List Step) (over : Option CellSeen)
        → Climbed u ups g after (were ++ s ∷ []) are over → Climbed s (parent ∷ ups) f after were are over
    went_on after were are over rest = record {
      more = u ∷ rest.more;
      steps = rest.steps ∙ append_assoc were (s ∷ []) (u ∷ rest.more);
      climbs = (step.step, rest.climbs);
      needed = (
        two,
        (λ room. step.one
            (subst (λ (c : CellSeen). weight (items_of c.block) + 46 * length
            (drop 1 s.new) ≤ 4068) step.old room)),
        rest.needed,
      );
      rows = (step.row, rest.rows);
      root_needed = rest.root_needed;
      root_able = rest.root_able;
      olds_are = (λ i. step.old i ∷ rest.olds_are i);
      sound = λ c member. elim (Contains-append_cases u.new (news rest.more None) c member) [
        | inl mine ↦ step.sound c mine
        | inr others ↦ rest.sound c others
      ];
      keep = λ v member. elim (cases u v rest.more member) [
        | inl e ↦ subst Keeps (sym e) step.keeps
        | inr others ↦ rest.keep v others
      ];
      mkfs_ids = λ h. (h, rest.mkfs_ids step.mkfs_id);
      root_units = rest.root_units;
      root_node = rest.root_node;
      counts =
          let long = long_ids (drop 1 u.new) in
          let n = next_is in
          count_join f.next (ids_of (drop 1 u.new)) (fresh_ids rest.more over) step.counts
          (subst (λ k. CountUp k (fresh_ids rest.more over)) (omega (arith, long, n)) rest.counts);
      number = rest.number ∙ (ap (λ (x : Fresh). record x { next = g.next + length (fresh_ids rest.more over) }) step.number
          ∙ same_next f (g.next + length (fresh_ids rest.more over))
          (f.next + length (ids_of (drop 1 u.new) ++ fresh_ids rest.more over))
          (let long = long_ids (drop 1 u.new) in let n = next_is in
          let sum = length-append (ids_of (drop 1 u.new)) (fresh_ids rest.more over) in omega (arith, long, n, sum)));
      within = rest.within;
      ends = λ r h. elim h [
        | inl one ↦ absurd (two one)
        | inr more ↦ elim more [
          | inl room ↦ rest.ends r (inl (step.one room))
          | inr enough ↦ elim one_or_two [
            | inl one ↦ rest.ends r (inl one)
            | inr e ↦ rest.ends r (inr (subst (λ n. IsLongEnough r n u.old ups) (sym (one_come e))
                (subst (λ (c : CellSeen). IsLongEnough r 1 c ups) (sym step.old) enough)))
          ]
        ]
      ];
    }

-- ---- the last cell of a path that is given from the top down

module _ {A : Type 0} where
  all_but_last : (xs : List A) (x : A) → length xs ≢ 0 → x ≡ get_or xs (length xs - 1) x → xs ≡ take (length xs - 1) xs
      ++ x ∷ []
  all_but_last [] x some e = absurd (some refl)
  all_but_last (y ∷ []) x some e = ap (λ z. z ∷ []) (sym e)
  all_but_last (y ∷ (z ∷ zs)) x some e =
      let n : length (y ∷ (z ∷ zs)) - 1 ≡ suc (length (z ∷ zs) - 1) = omega arith in
      let rest = all_but_last (z ∷ zs) x (λ none. absurd (omega (arith, none))) (e ∙ ap (λ k. get_or (y ∷ (z ∷ zs)) k x) n) in
      ap (λ ws. y ∷ ws) rest ∙ ap (λ k. take k (y ∷ (z ∷ zs)) ++ x ∷ []) (sym n)

  pub last_first : (f : A → CellSeen) (xs : List A) (x : A) → length xs ≢ 0 → x ≡ get_or xs (length xs - 1) x
      → reverse (map f xs) ≡ f x ∷ reverse (map f (take (length xs - 1) xs))
  last_first f xs x some e =
      ap (λ ws. reverse (map f ws)) (all_but_last xs x some e)
      ∙ (ap reverse (map-append f (take (length xs - 1) xs) (x ∷ []))
      ∙ reverse-append (map f (take (length xs - 1) xs)) (f x ∷ []))

pub none_above : {A : Type 0} (f : A → CellSeen) (xs : List A) → length xs ≡ 0 → reverse (map f xs) ≡ []
none_above f [] e = refl
none_above f (x ∷ xs) e = absurd (omega (arith, e))

pub pushed : {A : Type 0} (f : A → Step) (xs ys : List A) (x : A) → ys ≡ xs ++ x ∷ [] → map f ys ≡ map f xs ++ f x ∷ []
pushed f xs ys x e = ap (map f) e ∙ map-append f xs (x ∷ [])

-- ---- the new cells of all steps

pub news_append : (xs : List Step) (s : Step) → news (xs ++ s ∷ []) None ≡ news xs None ++ s.new
news_append [] s = append-nil s.new
news_append (x ∷ xs) s = ap (λ zs. x.new ++ zs) (news_append xs s) ∙ sym (append_assoc x.new (news xs None) s.new)

pub news_over : (xs : List Step) (c : CellSeen) → news xs (Some c) ≡ news xs None ++ c ∷ []
news_over [] c = refl
news_over (x ∷ xs) c = ap (λ zs. x.new ++ zs) (news_over xs c) ∙ sym (append_assoc x.new (news xs None) (c ∷ []))

pub news_more : {A : Type 0} (f : A → Step) (xs : List A) (n : ℕ) (x : A) → n < length xs → x ≡ get_or xs n x
    → news (map f (take (n + 1) xs)) None ≡ news (map f (take n xs)) None ++ (f x).new
news_more f xs n x lt is =
    ap (λ zs. news (map f zs) None) (take_more n xs x (slice_get_read xs (length xs) n x refl lt is))
    ∙ (ap (λ zs. news zs None) (map-append f (take n xs) (x ∷ [])) ∙ news_append (map f (take n xs)) (f x))

pub long_above : {A : Type 0} (f : A → CellSeen) (xs : List A) → length xs ≢ 0
    → 1 + length (reverse (map f (take (length xs - 1) xs))) ≡ length xs
long_above f [] some = absurd (some refl)
long_above f (x ∷ xs) some =
    let a = length-reverse (map f (take (length (x ∷ xs) - 1) (x ∷ xs))) in
    let b = long_map f (take (length (x ∷ xs) - 1) (x ∷ xs)) in
    let d = long_take (length (x ∷ xs) - 1) (x ∷ xs) (omega arith) in
    omega (arith, a, b, d)
