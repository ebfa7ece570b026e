-- What the items of a node name, and what is heard of it.
use Rattle.std.proofs.Common.{◌≡◌, ◌≢◌, ◌⊎◌, inl, inr, ℕ, zero, suc, ◌+◌, ◌-◌, ◌^◌, ◌<◌, ◌≤◌, Bool, true, false, List, [], ◌∷◌, ◌++◌, length, drop, map, refl, sym, ap, subst, ◌∙◌, arith, append_assoc}
use Rattle.std.specs.Prelude.{Contains, Option, Some, None, ◌==◌, if◌then◌else◌, slice_get}
use Rattle.std.proofs.lemmas.Bool.{eq-eqb, eqb-true, ne_eqb}
use Rattle.std.proofs.lemmas.Bool.Decides.{nat_tests}
use Rattle.std.proofs.Math.Decide.{ℕ_discrete}
use Rattle.std.proofs.lemmas.List.{append-nil, length-append, length-map}
use Rattle.std.proofs.lemmas.Option.{same_Some}
use Rattle.r4_base.specs.Cell.{block_names, cell_fault, cell_of, item_names, names_in, next_key, pointer_names}
use Rattle.r4_base.specs.Extents.{pointer_of, units_of}
use Rattle.r4_base.specs.Key.{rank}
use Rattle.r4_base.specs.Node.{Item, PluginsFit, fits_level, items_of}
use Rattle.r4_base.specs.Tree.{Name}
use Rattle.r4_base.proofs.Choices.{nothing_in}
use Rattle.r4_search.specs.r4_cell.Seen.{CellSeen, node_of}
use Rattle.r4_search.proofs.r4_cell.ItemRows.{extent_data}
use Rattle.r4_search.proofs.r4_cell.NodesAt.{node_at, plugins_at}
use Rattle.r4_reach.proofs.r4_patch.Members.{here, later, none}
use Rattle.r4_reach.specs.Demand.{heard_one}
use Rattle.r4_reach.specs.Needs.{Ask}
use Rattle.r4_search.specs.Place.{child_name}
use Rattle.r4_search.specs.declared.inside.Child.{Child}
use Rattle.r4_marking.specs.Marks.{AreSmall, HearsAt, HearsLittle, IsChildAt, NamesAt, NoChildAt, heard_by_id, heard_seen}
use Rattle.r4_marking.specs.declared.demands.Heard.{Heard}
use Rattle.r4_search.proofs.Places.{item_in}
use Rattle.std.specs.Prelude.{All}
use Rattle.std.proofs.lemmas.List.Elements.{All-cons, All-head, All-nil, All-tail}

abbrev next_of : CellSeen → (place : ℕ) → ℕ
next_of c place = next_key (rank c.hi) (drop (place + 1) (items_of c.block))

-- ---- one item

pointer_item : (level next to : ℕ) (it : Item) → it.plugin ≡ 3 → pointer_of it.body ≡ Some to → item_names level next it ≡ record { id = to; level = level - 1; lo = rank it.key; hi = next } ∷ []
unfolding item_names
pointer_item level next to it is e = let t : (it.plugin == 3) ≡ true = eq-eqb it.plugin 3 is in rw (t, e) refl

no_pointer : (level next : ℕ) (it : Item) → it.plugin ≡ 3 → pointer_of it.body ≡ None → item_names level next it ≡ []
unfolding item_names
no_pointer level next it is e = let t : (it.plugin == 3) ≡ true = eq-eqb it.plugin 3 is in rw (t, e) refl

other_data : (level next : ℕ) (it : Item) (n : Name) → it.plugin ≢ 3 → Contains (item_names level next it) n → n.level ≡ 0
unfolding item_names
other_data level next it n other at = by (it.plugin == 5) (let t : (it.plugin == 3) ≡ false = ne_eqb it.plugin 3 other in subst (λ (b : Bool). Contains (if b then pointer_names level (rank it.key) next (pointer_of it.body) else (if it.plugin == 5 then block_names (rank it.key) (units_of it.body) else [])) n) t at)
  where
    by : (b : Bool) → Contains (if b then block_names (rank it.key) (units_of it.body) else []) n → n.level ≡ 0
    by true h = extent_data (rank it.key) (units_of it.body) n h
    by false h = absurd (none n h)

module _ (c : CellSeen) (place : ℕ) (items : List Item) (same : items ≡ items_of c.block) (it : Item) (is : slice_get items place ≡ Some it) where
  it_is : (x : Item) → slice_get (items_of c.block) place ≡ Some x → x ≡ it
  it_is x h = same_Some x it (sym h ∙ (ap (λ (xs : List Item). slice_get xs place) (sym same) ∙ is))

  pub extent_here : it.plugin ≢ 3 → NoChildAt c place
  extent_here other x h n at = other_data c.level (next_of c place) it n other (subst (λ (y : Item). Contains (item_names c.level (next_of c place) y) n) (it_is x h) at)

  pub nothing_here : it.plugin ≡ 3 → pointer_of it.body ≡ None → NoChildAt c place
  nothing_here five e x h n at = absurd (none n (subst (λ (ns : List Name). Contains ns n) (ap (item_names c.level (next_of c place)) (it_is x h) ∙ no_pointer c.level (next_of c place) it five e) at))

  pub child_here : (child : Child) → 2 ≤ c.level → it.plugin ≡ 3 → pointer_of it.body ≡ Some child.id.0 → child.level ≡ c.level - 1 → child.lo ≡ it.key → rank child.hi ≡ next_key (rank c.hi) (drop (place + 1) items) → IsChildAt c place child
  child_here child two three to level lo hi = record {
    names = λ x h. ap (item_names c.level (next_of c place)) (it_is x h) ∙ (pointer_item c.level (next_of c place) child.id.0 it three to ∙ ap (λ (n : Name). n ∷ []) named);
    node = let up = level in omega (arith, up, two);
  }
    where
      named : (record { id = child.id.0; level = c.level - 1; lo = rank it.key; hi = next_of c place }) ≡ child_name child
      named = λ i. record { id = child.id.0; level = sym level i; lo = ap rank (sym lo) i; hi = sym (hi ∙ ap (λ (xs : List Item). next_key (rank c.hi) (drop (place + 1) xs)) same) i }

-- ---- item by item

-- what is held for the names of the items from a place on
abbrev pub HeardFrom : CellSeen → (ℕ → Option Ask) → (place : ℕ) → List (Name × Ask) → Type 0
HeardFrom c f place heard = heard ++ heard_by_id f (names_in c.level (rank c.hi) (drop place (items_of c.block))) ≡ heard_by_id f (names_in c.level (rank c.hi) (items_of c.block))

pub heard_append : (f : ℕ → Option Ask) (xs ys : List Name) → heard_by_id f (xs ++ ys) ≡ heard_by_id f xs ++ heard_by_id f ys
heard_append f [] ys = refl
heard_append f (n ∷ xs) ys = by (n.level == 0) refl (f n.id) refl (heard_append f xs ys)
  where
    by : (b : Bool) → (n.level == 0) ≡ b → (o : Option Ask) → f n.id ≡ o → heard_by_id f (xs ++ ys) ≡ heard_by_id f xs ++ heard_by_id f ys → heard_by_id f (n ∷ (xs ++ ys)) ≡ heard_by_id f (n ∷ xs) ++ heard_by_id f ys
    by true is o held rest = rw is rest
    by false is None held rest = rw (is, held) rest
    by false is (Some a) held rest = rw (is, held) (ap (λ (hs : List (Name × Ask)). (n, a) ∷ hs) rest)

heard_none : (f : ℕ → Option Ask) (ns : List Name) → ((n : Name) → Contains ns n → n.level ≡ 0) → heard_by_id f ns ≡ []
heard_none f [] h = refl
heard_none f (n ∷ ns) h = let is : (n.level == 0) ≡ true = eq-eqb n.level 0 (h n (here n ns)) in rw is (heard_none f ns (λ m at. h m (later n m ns at)))

names_suc : (level hi : ℕ) (items : List Item) (place : ℕ) (it : Item) → slice_get items place ≡ Some it → names_in level hi (drop place items) ≡ item_names level (next_key hi (drop (suc place) items)) it ++ names_in level hi (drop (suc place) items)
unfolding names_in
names_suc level hi [] place it is = absurd cc
names_suc level hi (x ∷ items) zero it is = ap (λ (y : Item). item_names level (next_key hi items) y ++ names_in level hi items) (same_Some x it is)
names_suc level hi (x ∷ items) (suc place) it is = names_suc level hi items place it is

pub names_next : (level hi : ℕ) (items : List Item) (place : ℕ) (it : Item) → slice_get items place ≡ Some it → names_in level hi (drop place items) ≡ item_names level (next_key hi (drop (place + 1) items)) it ++ names_in level hi (drop (place + 1) items)
names_next level hi items place it is = let e : suc place ≡ place + 1 = omega arith in subst (λ (k : ℕ). names_in level hi (drop place items) ≡ item_names level (next_key hi (drop k items)) it ++ names_in level hi (drop k items)) e (names_suc level hi items place it is)

pub heard_more : (c : CellSeen) (f : ℕ → Option Ask) (place : ℕ) (heard more : List (Name × Ask)) → place < length (items_of c.block) → HeardFrom c f place heard → HearsAt c place f heard more → HeardFrom c f (place + 1) more
heard_more c f place heard more within h hears =
    let (it, is) = item_in (items_of c.block) place within in
    let here_names = item_names c.level (next_of c place) it in
    let rest_names = names_in c.level (rank c.hi) (drop (place + 1) (items_of c.block)) in
    ap (λ (hs : List (Name × Ask)). hs ++ heard_by_id f rest_names) (hears it is)
    ∙ (append_assoc heard (heard_by_id f here_names) (heard_by_id f rest_names)
    ∙ (ap (λ (hs : List (Name × Ask)). heard ++ hs) (sym (ap (heard_by_id f) (names_next c.level (rank c.hi) (items_of c.block) place it is) ∙ heard_append f here_names rest_names)) ∙ h))

pub hears_none : (c : CellSeen) (f : ℕ → Option Ask) (place : ℕ) (heard : List (Name × Ask)) → NoChildAt c place → HearsAt c place f heard heard
hears_none c f place heard no_child it is = sym (append-nil heard) ∙ ap (λ (hs : List (Name × Ask)). heard ++ hs) (sym (heard_none f (item_names c.level (next_of c place) it) (no_child it is)))

pub hears_one : (c : CellSeen) (f : ℕ → Option Ask) (place : ℕ) (child : Child) (heard more : List (Name × Ask)) → IsChildAt c place child → more ≡ heard ++ heard_one (child_name child) (f child.id.0) [] → HearsAt c place f heard more
hears_one c f place child heard more ch is it at = is ∙ ap (λ (hs : List (Name × Ask)). heard ++ hs) (sym (ap (heard_by_id f) (ch.names it at) ∙ one))
  where
    some : 1 ≤ (child_name child).level → ((child_name child).level == 0) ≡ false
    some le = grind (arith, le)

    one : heard_by_id f (child_name child ∷ []) ≡ heard_one (child_name child) (f child.id.0) []
    one = let is_node : ((child_name child).level == 0) ≡ false = some ch.node in rw is_node refl

-- ---- all items

names_of : (level lo hi : ℕ) (b : List ℕ) → 1 ≤ level → (cell_of level lo hi b).names ≡ names_in level hi (items_of b)
unfolding cell_of
names_of zero lo hi b some = absurd (omega (arith, some))
names_of (suc l) lo hi b some = refl

pub all_heard : (c : CellSeen) (f : ℕ → Option Ask) (place : ℕ) (heard : List (Name × Ask)) → 1 ≤ c.level → length (items_of c.block) ≤ place → HeardFrom c f place heard → heard ≡ heard_by_id f (node_of c).names
unfolding names_in
all_heard c f place heard some past h =
    sym (append-nil heard) ∙ (ap (λ (items : List Item). heard ++ heard_by_id f (names_in c.level (rank c.hi) items)) (sym (drop_past place (items_of c.block) past)) ∙ (h ∙ ap (heard_by_id f) (sym (names_of c.level (rank c.lo) (rank c.hi) c.block some))))
  where
    drop_past : (k : ℕ) (items : List Item) → length items ≤ k → drop k items ≡ []
    drop_past zero [] le = refl
    drop_past (suc k) [] le = refl
    drop_past zero (x ∷ items) le = absurd (omega (arith, le))
    drop_past (suc k) (x ∷ items) le = drop_past k items (omega (arith, le))

-- a leaf names nothing
leaf_item : (level next : ℕ) (it : Item) → level ≡ 1 → fits_level level it.plugin ≡ true → item_names level next it ≡ []
unfolding item_names
leaf_item level next it one fits =
    let three : (it.plugin == 3) ≡ false = grind (arith, nat_tests, one, fits) in
    let five : (it.plugin == 5) ≡ false = grind (arith, nat_tests, one, fits) in
    rw (three, five) refl

pub leaf_names : (level hi : ℕ) (items : List Item) → level ≡ 1 → PluginsFit level items → names_in level hi items ≡ []
unfolding names_in
leaf_names level hi [] one fits = refl
leaf_names level hi (it ∷ items) one fits =
    ap (λ (ns : List Name). ns ++ names_in level hi items) (leaf_item level (next_key hi items) it one (fits 0 it refl))
    ∙ leaf_names level hi items one (λ k x is. fits (suc k) x is)

pub leaf_silent : (c : CellSeen) (f : ℕ → Option Ask) → c.level ≡ 1 → length c.block ≡ 4096 → cell_fault true (2 ^ 64) c.level (rank c.lo) (rank c.hi) c.block ≡ None → heard_by_id f (node_of c).names ≡ []
leaf_silent c f level whole stands =
    let at = node_at true (2 ^ 64) c.level (rank c.lo) (rank c.hi) c.block (omega (arith, level)) stands in
    ap (heard_by_id f) (names_of c.level (rank c.lo) (rank c.hi) c.block (omega (arith, level)) ∙ leaf_names c.level (rank c.hi) (items_of c.block) level (plugins_at true (2 ^ 64) c.level (rank c.lo) (rank c.hi) c.block whole at))

-- ---- what is heard is little

little_heard : (f : ℕ → Option Ask) (most : ℕ) (ns : List Name) → HearsLittle f most ns → All (λ (h : Name × Ask). h.1.more ≤ most) (heard_by_id f ns)
little_heard f most [] h = All-nil (λ (x : Name × Ask). x.1.more ≤ most)
little_heard f most (n ∷ ns) h = by (n.level == 0) refl (f n.id) refl (little_heard f most ns (λ m a at. h m a (later n m ns at)))
  where
    some : (n.level == 0) ≡ false → 1 ≤ n.level
    some is = grind (arith, is)

    by : (b : Bool) → (n.level == 0) ≡ b → (o : Option Ask) → f n.id ≡ o → All (λ (x : Name × Ask). x.1.more ≤ most) (heard_by_id f ns) → All (λ (x : Name × Ask). x.1.more ≤ most) (heard_by_id f (n ∷ ns))
    by true is o held rest = rw is rest
    by false is None held rest = rw (is, held) rest
    by false is (Some a) held rest = rw (is, held) (All-cons (λ (x : Name × Ask). x.1.more ≤ most) (n, a) (heard_by_id f ns) (h n a (here n ns) (some is) held) rest)

pub small_heard : (f : ℕ → Option Ask) (most : ℕ) (ns : List Name) (heard : List Heard) → map heard_seen heard ≡ heard_by_id f ns → HearsLittle f most ns → AreSmall most heard
small_heard f most ns heard is h = each heard (subst (All (λ (x : Name × Ask). x.1.more ≤ most)) (sym is) (little_heard f most ns h))
  where
    each : (heard : List Heard) → All (λ (x : Name × Ask). x.1.more ≤ most) (map heard_seen heard) → AreSmall most heard
    each [] a = All-nil (λ (x : Heard). x.ask.more ≤ most)
    each (x ∷ xs) a = All-cons (λ (y : Heard). y.ask.more ≤ most) x xs (All-head (λ (y : Name × Ask). y.1.more ≤ most) (heard_seen x) (map heard_seen xs) a) (each xs (All-tail (λ (y : Name × Ask). y.1.more ≤ most) (heard_seen x) (map heard_seen xs) a))

-- ---- at most one node for each item

item_one : (f : ℕ → Option Ask) (level next : ℕ) (it : Item) → length (heard_by_id f (item_names level next it)) ≤ 1
item_one f level next it = elim (ℕ_discrete it.plugin 3) [
  | yes three ↦ by_target three (pointer_of it.body) refl
  | no other ↦
      (let e = ap length (heard_none f (item_names level next it) (λ n at. other_data level next it n other at)) in
      omega (arith, e))
]
  where
    one_name : (n : Name) (b : Bool) → (n.level == 0) ≡ b → (o : Option Ask) → f n.id ≡ o
        → length (heard_by_id f (n ∷ [])) ≤ 1
    one_name n true is o held = rw is (omega arith)
    one_name n false is None held = rw (is, held) (omega arith)
    one_name n false is (Some a) held = rw (is, held) (omega arith)

    by_target : it.plugin ≡ 3 → (o : Option ℕ) → pointer_of it.body ≡ o
        → length (heard_by_id f (item_names level next it)) ≤ 1
    by_target three None e = let same = ap (λ (ns : List Name). length (heard_by_id f ns))
        (no_pointer level next it three e) in omega (arith, same)
    by_target three (Some to) e =
        let n : Name = record { id = to; level = level - 1; lo = rank it.key; hi = next } in
        let same = ap (λ (ns : List Name). length (heard_by_id f ns)) (pointer_item level next to it three e) in
        let one = one_name n (n.level == 0) refl (f n.id) refl in
        omega (arith, same, one)

few_heard : (f : ℕ → Option Ask) (level hi : ℕ) (items : List Item)
    → length (heard_by_id f (names_in level hi items)) ≤ length items
unfolding names_in
few_heard f level hi [] = omega arith
few_heard f level hi (it ∷ items) =
    let both = ap length (heard_append f (item_names level (next_key hi items) it) (names_in level hi items)) in
    let sum = length-append (heard_by_id f (item_names level (next_key hi items) it))
    (heard_by_id f (names_in level hi items)) in
    let one = item_one f level (next_key hi items) it in
    let rest = few_heard f level hi items in
    omega (arith, both, sum, one, rest)

pub heard_few : (c : CellSeen) (f : ℕ → Option Ask) (heard : List Heard) → 1 ≤ c.level → map heard_seen heard
    ≡ heard_by_id f (node_of c).names → length heard ≤ length (items_of c.block)
heard_few c f heard some is =
    let names = ap (λ (ns : List Name). length (heard_by_id f ns))
    (names_of c.level (rank c.lo) (rank c.hi) c.block some) in
    let few = few_heard f c.level (rank c.hi) (items_of c.block) in
    let long = ap length is in
    let same = length-map heard heard_seen in
    omega (arith, names, few, long, same)

-- ---- a data block names nothing

data_names : (level lo hi : ℕ) (b : List ℕ) → level ≡ 0 → (cell_of level lo hi b).names ≡ []
unfolding cell_of
data_names zero lo hi b is = refl
data_names (suc l) lo hi b is = absurd cc

pub data_silent : (c : CellSeen) (f : ℕ → Option Ask) → c.level ≡ 0 → heard_by_id f (node_of c).names ≡ []
data_silent c f level = ap (heard_by_id f) (data_names c.level (rank c.lo) (rank c.hi) c.block level)

pub data_nameless : (c : CellSeen) → c.level ≡ 0 → (node_of c).names ≡ []
data_nameless c level = data_names c.level (rank c.lo) (rank c.hi) c.block level
