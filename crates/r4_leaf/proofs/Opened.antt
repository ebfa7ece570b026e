-- The last item of a node, put in or made longer, and its body then written.
use Rattle.std.proofs.Common.{◌≡◌, ◌⊎◌, ℕ, zero, suc, ◌+◌, ◌-◌, ◌<◌, ◌≤◌, true, List, [], ◌∷◌, ◌++◌, length, replicate, take, get_or, set, inl, inr, refl, sym, ap, ◌∙◌, arith}
use Rattle.std.specs.Prelude.{slice_get, slice_set, Some, None, Result, OnOk, IsOk, Ok, Err, ◌==◌, if◌then◌else◌}
use Rattle.std.specs.List.{insert, sum_by}
use Rattle.std.proofs.lemmas.Bool.Decides.{nat_tests}
use Rattle.std.proofs.lemmas.List.{length-append, length-replicate, length-take, set-append_right, take_all, take-append-le}
use Rattle.std.proofs.lemmas.List.Edits.{insert_end}
use Rattle.std.proofs.lemmas.List.Sums.{sum_by-append}
use Rattle.std.proofs.lemmas.Option.{same_Some}
use Rattle.r4_base.specs.Node.{Item, count_of, end_at, fits_level, item_at, items_of, key_at, level_of, mkfs_id_of, offset_at, plugin_at}
use Rattle.r4_base.proofs.Choices.{get_end}
use Rattle.r4_node40.specs.Edits.{InsertsItem, ResizesItem, growth, resized}
use Rattle.r4_node40.specs.Laid.{IsNode, WritesBody, room_of, span_at}
use Rattle.r4_node40.proofs.Accepted.{space}
use Rattle.r4_node40.proofs.Kept.{node_inserted, node_resized, node_written}
use Rattle.r4_node40.proofs.Laid.{get_or-items_of, length-items_of}
use Rattle.r4_leaf.specs.Filling.{Holds, IsPlace, Opens, need}

weight : List Item → ℕ
weight items = sum_by (λ (x : Item). 38 + length x.body) items

weight_last : (before : List Item) (x : Item) → weight (before ++ x ∷ []) ≡ weight before + 38 + length x.body
unfolding weight
weight_last before x = let h = sum_by-append (λ (y : Item). 38 + length y.body) before (x ∷ []) in omega (arith, h)

set_end : (xs : List Item) (x y : Item) (i : ℕ) → i ≡ length xs → slice_set (xs ++ x ∷ []) i y ≡ xs ++ y ∷ []
set_end xs x y i is = set-append_right xs (x ∷ []) i i y (sym is) (omega arith) ∙ ap (λ k. xs ++ set (x ∷ []) k y) (let e : i - i ≡ 0 = omega arith in e)

pub split_last : (i : ℕ) (xs : List Item) (x : Item) → i + 1 ≡ length xs → slice_get xs i ≡ Some x → xs ≡ take i xs ++ x ∷ []
split_last i [] x long at = absurd cc
split_last zero (y ∷ []) x long at = ap (λ z. z ∷ []) (same_Some y x at)
split_last zero (y ∷ (z ∷ zs)) x long at = absurd (omega (arith, long))
split_last (suc i) (y ∷ ys) x long at = ap (λ zs. y ∷ zs) (split_last i ys x (omega (arith, long)) at)

long_take : (n : ℕ) (xs : List Item) → n ≤ length xs → length (take n xs) ≡ n
long_take zero xs le = refl
long_take (suc n) [] le = absurd (omega (arith, le))
long_take (suc n) (y ∷ ys) le = let h = long_take n ys (omega (arith, le)) in omega (arith, h)

-- ---- the last item of a block

module _ (b : List ℕ) (before : List Item) (x : Item) (i : ℕ) (node : IsNode b) (items : items_of b ≡ before ++ x ∷ []) (place : i ≡ length before) where
  counted : count_of b ≡ i + 1
  counted = let one = length-append before (x ∷ []) in let all = ap length items in let n = length-items_of b in omega (arith, one, all, n, place)

  pub last_within : i < count_of b
  last_within = let c = counted in omega (arith, c)

  shown : item_at (count_of b) b i ≡ x
  shown = let c = counted in sym (get_or-items_of b (count_of b) i x refl (omega (arith, c))) ∙ (ap (λ (l : List Item). get_or l i x) items ∙ (ap (λ k. get_or (before ++ x ∷ []) k x) place ∙ get_end before x x))

  pub last_span : span_at b i i ≡ x.body
  unfolding item_at
  last_span = ap (λ (y : Item). y.body) shown

  pub last_key : key_at b i ≡ x.key
  unfolding item_at
  last_key = ap (λ (y : Item). y.key) shown

  pub last_plugin : plugin_at b i ≡ x.plugin
  unfolding item_at
  last_plugin = ap (λ (y : Item). y.plugin) shown

  pub last_written : (ws c : List ℕ) → WritesBody b ws i c → IsNode c × (items_of c ≡ before ++ (record { key = x.key; plugin = x.plugin; body = ws }) ∷ [])
  last_written ws c w = (
    node_written b ws c i node last_within w,
    w.items ∙ (ap (λ (l : List Item). slice_set l i (record { key = key_at b i; plugin = plugin_at b i; body = ws })) items
        ∙ (set_end before x (record { key = key_at b i; plugin = plugin_at b i; body = ws }) i place
        ∙ (λ j. before ++ (record { key = last_key j; plugin = last_plugin j; body = ws }) ∷ []))),
  )

-- ---- the item is put in

pub nothing : (xs : List ℕ) → length xs ≡ 0 → xs ≡ []
nothing [] e = refl
nothing (x ∷ xs) e = absurd (omega (arith, e))

fits : (plugin : ℕ) → (plugin ≡ 0) ⊎ ((plugin ≡ 2) ⊎ (plugin ≡ 6)) → fits_level 1 plugin ≡ true
fits plugin (inl is) = ap (fits_level 1) is
fits plugin (inr (inl is)) = ap (fits_level 1) is
fits plugin (inr (inr is)) = ap (fits_level 1) is

pub need_new : (it : Item) (n : ℕ) → length it.body ≡ 0 → need it n ≡ n + 38
need_new it n e = grind (arith, nat_tests, e)

pub need_old : (it : Item) (n : ℕ) → 1 ≤ length it.body → need it n ≡ n
need_old it n e = grind (arith, nat_tests, e)

holds : (old : List ℕ) (i : ℕ) (it : Item) (ws c : List ℕ) → IsNode old → IsNode c → level_of c ≡ 1 → mkfs_id_of c ≡ mkfs_id_of old → items_of c ≡ take i (items_of old) ++ (record { key = it.key; plugin = it.plugin; body = ws }) ∷ []
    → ((length it.body ≡ 0) × (take i (items_of old) ≡ items_of old)) ⊎ ((1 ≤ length it.body) × (items_of old ≡ take i (items_of old) ++ it ∷ [])) → Holds old i it ws c
unfolding weight
holds old i it ws c node_old node_new level mkfs_id items (inl h) = record {
  node = node_new;
  level = level;
  items = items;
  mkfs_id = mkfs_id;
  room =
      let a : room_of c + weight (items_of c) ≡ 4068 = space c node_new.laid in
      let b : room_of old + weight (items_of old) ≡ 4068 = space old node_old.laid in
      let same = ap weight items in
      let one = weight_last (take i (items_of old)) (record { key = it.key; plugin = it.plugin; body = ws }) in
      let before = ap weight h.1 in
      let n = need_new it (length ws) h.0 in
      let none = h.0 in
      omega (arith, a, b, same, one, before, n, none);
}
holds old i it ws c node_old node_new level mkfs_id items (inr h) = record {
  node = node_new;
  level = level;
  items = items;
  mkfs_id = mkfs_id;
  room =
      let a : room_of c + weight (items_of c) ≡ 4068 = space c node_new.laid in
      let b : room_of old + weight (items_of old) ≡ 4068 = space old node_old.laid in
      let same = ap weight items in
      let one = weight_last (take i (items_of old)) (record { key = it.key; plugin = it.plugin; body = ws }) in
      let two = weight_last (take i (items_of old)) it in
      let was = ap weight h.1 in
      let n = need_old it (length ws) h.0 in
      omega (arith, a, b, same, one, two, was, n);
}

module _ (b0 b1 : List ℕ) (i more : ℕ) (it : Item) (place : IsPlace b0 i it) (none : length it.body ≡ 0) (put : InsertsItem b0 i it.key it.plugin more b1) where
  node1 : IsNode b1
  node1 =
      let at = place.new none in
      node_inserted b0 b1 i it.plugin more it.key place.node (let c = at.0 in omega (arith, c)) (ap (λ l. fits_level l it.plugin) place.level ∙ fits it.plugin place.plugin) at.1 put

  whole : length (items_of b0) ≡ i
  whole = length-items_of b0 ∙ sym (place.new none).0

  all : take i (items_of b0) ≡ items_of b0
  all = let w = whole in take_all i (items_of b0) (omega (arith, w))

  blank : Item
  blank = record { key = it.key; plugin = it.plugin; body = replicate more 0 }

  items1 : items_of b1 ≡ items_of b0 ++ blank ∷ []
  unfolding blank
  items1 = put.items ∙ (ap (λ k. insert (items_of b0) k (record { key = it.key; plugin = it.plugin; body = replicate more 0 })) (sym whole) ∙ insert_end (items_of b0) (record { key = it.key; plugin = it.plugin; body = replicate more 0 }))

  pub opened_new : Opens b0 i it more b1
  unfolding blank
  opened_new = record {
    laid = put.laid;
    within = last_within b1 (items_of b0) blank i node1 items1 (sym whole);
    long = ap length (last_span b1 (items_of b0) blank i node1 items1 (sym whole)) ∙ (length-replicate more 0 ∙ (let e : more ≡ length it.body + more = omega (arith, none) in e));
    keeps = ap (λ n. take n (span_at b1 i i)) none ∙ sym (nothing it.body none);
    written = λ ws c long w.
        let r = last_written b1 (items_of b0) blank i node1 items1 (sym whole) ws c w in
        holds b0 i it ws c place.node r.0 (w.head.level ∙ (put.head.level ∙ place.level)) (w.head.mkfs_id ∙ put.head.mkfs_id) (r.1 ∙ ap (λ l. l ++ (record { key = it.key; plugin = it.plugin; body = ws }) ∷ []) (sym all)) (inl (none, all));
  }

-- ---- the item is made longer

module _ (b0 b1 : List ℕ) (i more len : ℕ) (it : Item) (place : IsPlace b0 i it) (some : 1 ≤ length it.body) (is_len : len ≡ length it.body + more) where
  old_items : items_of b0 ≡ take i (items_of b0) ++ it ∷ []
  old_items =
      let at = place.old some in
      split_last i (items_of b0) it (at.0 ∙ sym (length-items_of b0)) at.1

  before_long : i ≡ length (take i (items_of b0))
  before_long = let at = (place.old some).0 in let n = length-items_of b0 in sym (long_take i (items_of b0) (omega (arith, at, n)))

  pub old_within : i < count_of b0
  old_within = let at = (place.old some).0 in omega (arith, at)

  old_span : span_at b0 i i ≡ it.body
  old_span = last_span b0 (take i (items_of b0)) it i place.node old_items before_long

  pub grows : growth b0 i len ≤ more
  grows =
      let long = ap length old_span in
      let t = length-take (end_at (count_of b0) b0 i - offset_at b0 i) (Rattle.std.specs.Prelude.drop (offset_at b0 i) b0) in
      omega (arith, long, t, is_len)

  pub together : length it.body ≤ 4068 - room_of b0
  unfolding weight
  together =
      let sum : room_of b0 + weight (items_of b0) ≡ 4068 = space b0 place.node.laid in
      let was = ap weight old_items in
      let one = weight_last (take i (items_of b0)) it in
      omega (arith, sum, was, one)

  longer : Item
  longer = record { key = it.key; plugin = it.plugin; body = it.body ++ replicate more 0 }

  resized_is : resized (span_at b0 i i) len ≡ it.body ++ replicate more 0
  resized_is =
      ap (λ (xs : List ℕ). resized xs len) old_span
      ∙ (λ j. take_all len it.body (omega (arith, is_len)) j ++ replicate (left j) 0)
    where
      left : len - length it.body ≡ more
      left = omega (arith, is_len)

  module _ (put : ResizesItem b0 i len b1) where
    node_longer : IsNode b1
    node_longer = node_resized b0 b1 i len place.node old_within put

    items_longer : items_of b1 ≡ take i (items_of b0) ++ longer ∷ []
    unfolding longer
    items_longer =
        put.items
        ∙ (ap (λ (l : List Item). slice_set l i (record { key = key_at b0 i; plugin = plugin_at b0 i; body = resized (span_at b0 i i) len })) old_items
        ∙ (set_end (take i (items_of b0)) it (record { key = key_at b0 i; plugin = plugin_at b0 i; body = resized (span_at b0 i i) len }) i before_long
        ∙ (λ j. take i (items_of b0) ++ (record { key = last_key b0 (take i (items_of b0)) it i place.node old_items before_long j; plugin = last_plugin b0 (take i (items_of b0)) it i place.node old_items before_long j; body = resized_is j }) ∷ [])))

    pub opened_longer : Opens b0 i it more b1
    unfolding longer
    opened_longer = record {
      laid = put.laid;
      within = last_within b1 (take i (items_of b0)) longer i node_longer items_longer before_long;
      long = ap length (last_span b1 (take i (items_of b0)) longer i node_longer items_longer before_long) ∙ (length-append it.body (replicate more 0) ∙ ap (λ n. length it.body + n) (length-replicate more 0));
      keeps = ap (take (length it.body)) (last_span b1 (take i (items_of b0)) longer i node_longer items_longer before_long) ∙ (take-append-le (length it.body) it.body (replicate more 0) (omega arith) ∙ take_all (length it.body) it.body (omega arith));
      written = λ ws c long w.
          let r = last_written b1 (take i (items_of b0)) longer i node_longer items_longer before_long ws c w in
          holds b0 i it ws c place.node r.0 (w.head.level ∙ (put.head.level ∙ place.level)) (w.head.mkfs_id ∙ put.head.mkfs_id) r.1 (inr (some, old_items));
    }

pub need_least : (it : Item) (n : ℕ) → n ≤ need it n
need_least it n = omega arith
