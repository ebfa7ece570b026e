-- Which blocks the reader accepts, in words of their lists of items.
use Rattle.std.proofs.Common.{◌≡◌, ℕ, zero, suc, ◌+◌, ◌-◌, ◌*◌, ◌<◌, ◌≤◌, Bool, true, false, cond, ◌||◌, not, eqb, List, length, Option, Some, None, refl, sym, ap, subst, ◌∙◌, arith, inl, inr}
use Rattle.std.proofs.lemmas.Bool.{and_parts, cases_eq, eq-eqb, eqb-true, le-leb, leb-true, lt-ltb, ltb-true, ne_eqb, not-false}
use Rattle.std.proofs.lemmas.Option.{slice_get_within}
use Rattle.std.proofs.lemmas.List.Sums.{sum_by-cons}
use Rattle.std.specs.Prelude.{nat_lt, nat_le, slice_get, sum_by}
use Rattle.r4_base.proofs.Numbers.{length-slice_range}
use Rattle.r4_base.specs.declared.node.NodeFault.TheVariants.{Magic, Level, Empty, Space, Offset, Plugin, Order}
use Rattle.r4_base.specs.declared.node.NodeFault.{NodeFault}
use Rattle.r4_base.specs.Key.{rank}
use Rattle.r4_base.specs.Node.{Item, PluginsFit, KeysRise, count_of, start_of, free_of, magic_of, plugin_of, level_of, key_at, plugin_at, offset_at, edge_at, item_at, items_from, items_of, then_fault, header_fault, item_fault, items_fault, node_fault, magic_is_good, level_is_good, is_empty_branch, space_is_good, offset_is_good, fits_level, order_is_good}
use Rattle.r4_node40.specs.Laid.{IsPlaced, IsLaid, IsNode, HasGoodHead, room_of}
use Rattle.r4_node40.proofs.Faults.{chosen_none, node_parts, each_good, laid_from_good}
use Rattle.r4_node40.proofs.Laid.{edge_next, edge_last, edge_first, edge_step, edge_stands, get-items_of, length-items_of}

-- ---- a good block is accepted

good_header : (b : List ℕ) → IsLaid b → HasGoodHead b → header_fault b ≡ cond (is_empty_branch b) (Some Empty) None
unfolding header_fault
good_header b laid head =
    let m = eq-eqb (magic_of b) 0x52344653 head.magic in
    let p = eq-eqb (plugin_of b) 0 head.plugin in
    let l = le-leb 1 (level_of b) head.level.0 in
    let h = le-leb (level_of b) 8 head.level.1 in
    let s = le-leb 28 (start_of b) laid.low in
    let t = eq-eqb (start_of b + free_of b + 38 * count_of b) 4096 laid.sum in
    rw (m, p, l, h, s, t) refl

offset_good : (b : List ℕ) (i : ℕ) → IsPlaced b i → offset_is_good b i ≡ true
offset_good b i p =
    let below = lt-ltb (offset_at b i) (start_of b) p.below in
    elim (cases_eq i 0) [
      | inl z ↦ let t = eq-eqb i 0 z in let e = eq-eqb (offset_at b i) 28 (p.first z) in rw (t, e, below) refl
      | inr pos ↦ let t = ne_eqb i 0 pos in let e = lt-ltb (offset_at b (i - 1)) (offset_at b i) (p.later (omega arith)) in rw (t, e, below) refl
    ]

order_good : (b : List ℕ) (i : ℕ) → (0 < i → rank (key_at b (i - 1)) < rank (key_at b i)) → order_is_good b i ≡ true
order_good b i up = elim (cases_eq i 0) [
  | inl z ↦ let t = eq-eqb i 0 z in rw t refl
  | inr pos ↦ let t = ne_eqb i 0 pos in let e = lt-ltb (rank (key_at b (i - 1))) (rank (key_at b i)) (up (omega arith)) in rw (t, e) refl
]

no_item_fault : (b : List ℕ) (i : ℕ) → offset_is_good b i ≡ true → fits_level (level_of b) (plugin_at b i) ≡ true → order_is_good b i ≡ true → item_fault b i ≡ None
unfolding item_fault
no_item_fault b i o p k =
    let order : Option NodeFault = cond (not (order_is_good b i)) (Some (Order i)) None in
    let plugin : Option NodeFault = cond (not (fits_level (level_of b) (plugin_at b i))) (Some (Plugin i)) order in
    passes (offset_is_good b i) (Offset i) plugin o ∙ passes (fits_level (level_of b) (plugin_at b i)) (Plugin i) order p ∙ passes (order_is_good b i) (Order i) None k
  where
    passes : (t : Bool) (f : NodeFault) (r : Option NodeFault) → t ≡ true → cond (not t) (Some f) r ≡ r
    passes true f r e = refl
    passes false f r e = absurd cc

no_items_fault : (b : List ℕ) (k i : ℕ) → ((j : ℕ) → i ≤ j → j < i + k → item_fault b j ≡ None) → items_fault k i b ≡ None
unfolding items_fault
no_items_fault b zero i good = refl
no_items_fault b (suc k) i good =
    let here = good i (omega arith) (omega arith) in
    let rest = no_items_fault b k (i + 1) (λ j le lt. good j (omega arith) (omega arith)) in
    rw (here, rest) refl

-- the items of the list, as the headers say them
plugin_of_item : (b : List ℕ) (i : ℕ) → PluginsFit (level_of b) (items_of b) → i < count_of b → fits_level (level_of b) (plugin_at b i) ≡ true
unfolding item_at
plugin_of_item b i fit lt = fit i (item_at (count_of b) b i) (get-items_of b (count_of b) i refl lt)

key_below : (b : List ℕ) (i : ℕ) → KeysRise (items_of b) → 0 < i → i < count_of b → rank (key_at b (i - 1)) < rank (key_at b i)
unfolding item_at
key_below b i up pos lt =
    let n = count_of b in
    let back : i - 1 + 1 ≡ i = omega arith in
    up (i - 1) (item_at n b (i - 1)) (item_at n b i) (get-items_of b n (i - 1) refl (omega arith)) (ap (slice_get (items_of b)) back ∙ get-items_of b n i refl lt)

pub accepted : (b : List ℕ) → IsNode b → node_fault b ≡ cond (is_empty_branch b) (Some Empty) None
unfolding node_fault
accepted b node =
    let h = good_header b node.laid node.head in
    let each = no_items_fault b (count_of b) 0 (λ j le lt.
    let within : j < count_of b = omega arith in
    no_item_fault b j (offset_good b j (node.laid.placed j within)) (plugin_of_item b j node.plugins within) (order_good b j (λ pos. key_below b j node.keys pos within))) in
    rw (h, each) (ends (is_empty_branch b))
  where
    ends : (t : Bool) → then_fault (cond t (Some Empty) None) None ≡ cond t (Some Empty) None
    ends true = refl
    ends false = refl

-- ---- what is accepted is good

pub record GoodTests (b : List ℕ) : Type 0 where
  pub magic : magic_is_good b ≡ true
  pub level : level_is_good b ≡ true
  pub full : is_empty_branch b ≡ false

good_tests : (b : List ℕ) → header_fault b ≡ None → GoodTests b
unfolding header_fault
good_tests b e =
    let space : Option NodeFault = cond (not (space_is_good b)) (Some Space) None in
    let empty : Option NodeFault = cond (is_empty_branch b) (Some Empty) space in
    let level : Option NodeFault = cond (not (level_is_good b)) (Some Level) empty in
    let first = chosen_none (not (magic_is_good b)) Magic level e in
    let second = chosen_none (not (level_is_good b)) Level empty first.1 in
    let third = chosen_none (is_empty_branch b) Empty space second.1 in
    record { magic = not-false _ first.0; level = not-false _ second.0; full = third.0 }

good_head : (b : List ℕ) → GoodTests b → HasGoodHead b
good_head b t =
    let m = and_parts (eqb (magic_of b) 0x52344653) (eqb (plugin_of b) 0) t.magic in
    let l = and_parts (nat_le 1 (level_of b)) (nat_le (level_of b) 8) t.level in
    record { magic = eqb-true _ _ m.0; plugin = eqb-true _ _ m.1; level = (leb-true _ _ l.0, leb-true _ _ l.1) }

pub record GoodItem (b : List ℕ) (i : ℕ) : Type 0 where
  pub plugin : fits_level (level_of b) (plugin_at b i) ≡ true
  pub order : order_is_good b i ≡ true

good_item : (b : List ℕ) (i : ℕ) → item_fault b i ≡ None → GoodItem b i
unfolding item_fault
good_item b i e =
    let order : Option NodeFault = cond (not (order_is_good b i)) (Some (Order i)) None in
    let plugin : Option NodeFault = cond (not (fits_level (level_of b) (plugin_at b i))) (Some (Plugin i)) order in
    let first = chosen_none (not (offset_is_good b i)) (Offset i) plugin e in
    let second = chosen_none (not (fits_level (level_of b) (plugin_at b i))) (Plugin i) order first.1 in
    let third = chosen_none (not (order_is_good b i)) (Order i) None second.1 in
    record { plugin = not-false _ second.0; order = not-false _ third.0 }

is_below : (b : List ℕ) (i : ℕ) → order_is_good b (i + 1) ≡ true → rank (key_at b i) < rank (key_at b (i + 1))
is_below b i good =
    let t = ne_eqb (i + 1) 0 (λ e. omega (arith, e)) in
    let same : i + 1 - 1 ≡ i = omega arith in
    let test = when_none (eqb (i + 1) 0) (nat_lt (rank (key_at b (i + 1 - 1))) (rank (key_at b (i + 1)))) t good in
    subst (λ (j : ℕ). rank (key_at b j) < rank (key_at b (i + 1))) same (ltb-true _ _ test)
  where
    when_none : (t x : Bool) → t ≡ false → (t || x) ≡ true → x ≡ true
    when_none true x e h = absurd cc
    when_none false x e h = h

-- an item that the list has
found : (b : List ℕ) (k : ℕ) (x : Item) → slice_get (items_of b) k ≡ Some x → (k < count_of b) × (x ≡ item_at (count_of b) b k)
found b k x e =
    let long = length-items_of b in
    let lt : k < count_of b = omega (arith, slice_get_within (items_of b) k x e) in
    (lt, ap (λ (o : Option Item). shown o x) (sym e ∙ get-items_of b (count_of b) k refl lt))
  where
    shown : Option Item → Item → Item
    shown (Some y) x = y
    shown None x = x

plugins_fit : (b : List ℕ) → ((i : ℕ) → i < count_of b → GoodItem b i) → PluginsFit (level_of b) (items_of b)
unfolding item_at
plugins_fit b good k x e = let f = found b k x e in rw f.1 (good k f.0).plugin

keys_rise : (b : List ℕ) → ((i : ℕ) → i < count_of b → GoodItem b i) → KeysRise (items_of b)
unfolding item_at
keys_rise b good k x y e e' =
    let f = found b k x e in
    let g = found b (k + 1) y e' in
    rw (f.1, g.1) (is_below b k (good (k + 1) g.0).order)

pub good : (b : List ℕ) → length b ≡ 4096 → node_fault b ≡ None → IsNode b × (is_empty_branch b ≡ false)
good b whole e =
    let parts = node_parts b e in
    let tests = good_tests b parts.0 in
    let each : (i : ℕ) → i < count_of b → GoodItem b i = λ i lt. good_item b i (each_good b (count_of b) 0 i parts.1 (omega arith) (omega arith)) in
    (record { laid = laid_from_good b whole e; head = good_head b tests; plugins = plugins_fit b each; keys = keys_rise b each }, tests.full)

-- ---- the room that items take up

abbrev pub takes : Item → ℕ
takes x = 38 + length x.body

takes_item : (b : List ℕ) (n i : ℕ) → IsLaid b → n ≡ count_of b → i < n → takes (item_at n b i) + edge_at n b i ≡ 38 + edge_at n b (i + 1)
unfolding item_at
takes_item b n i laid is lt =
    let here = edge_next n i b lt in
    let order = edge_step b n i laid is lt in
    let s = edge_stands b n (i + 1) laid is (omega arith) in
    let long = length-slice_range b (offset_at b i) (edge_at n b (i + 1)) (omega arith) (omega (arith, s.high, s.start, laid.whole)) in
    omega arith

take_up : (b : List ℕ) (n k i : ℕ) → IsLaid b → n ≡ count_of b → i + k ≡ n → sum_by takes (items_from n k i b) + edge_at n b i ≡ start_of b + 38 * k
unfolding items_from
take_up b n zero i laid is e = let last = edge_last n i b (omega arith) in omega arith
take_up b n (suc k) i laid is e =
    let one = takes_item b n i laid is (omega arith) in
    let ih = take_up b n k (i + 1) laid is (omega arith) in
    let cons = sum_by-cons takes (item_at n b i) (items_from n k (i + 1) b) in
    omega arith

pub space : (b : List ℕ) → IsLaid b → room_of b + sum_by takes (items_of b) ≡ 4068
unfolding items_of room_of
space b laid = elim (cases_eq (count_of b) 0) [
  | inl none ↦
      let t = eq-eqb (count_of b) 0 none in
      let last = edge_last (count_of b) 0 b (sym none) in
      let all = take_up b (count_of b) (count_of b) 0 laid refl (omega arith) in
      let zero_sum : sum_by takes (items_from (count_of b) (count_of b) 0 b) ≡ 0 = omega arith in
      rw (t, zero_sum) refl
  | inr some ↦
      let t = ne_eqb (count_of b) 0 some in
      let first = edge_first b (count_of b) laid refl (omega arith) in
      let all = take_up b (count_of b) (count_of b) 0 laid refl (omega arith) in
      let sum = laid.sum in
      let total : free_of b + sum_by takes (items_from (count_of b) (count_of b) 0 b) ≡ 4068 = omega arith in
      rw t total
]
