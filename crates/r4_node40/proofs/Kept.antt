-- An edit of a node leaves a node, where the list of items that it makes is in order.
use Rattle.std.proofs.Common.{◌≡◌, ℕ, ◌+◌, ◌-◌, ◌<◌, ◌≤◌, true, List, length, get_or, set, Option, Some, None, refl, sym, ap, subst, ◌∙◌, arith, inl, inr}
use Rattle.std.proofs.lemmas.Bool.{cases_eq, cases_lt}
use Rattle.std.proofs.lemmas.Option.{slice_get_within, slice_get-get_or}
use Rattle.std.proofs.lemmas.List.{length-set, get_or-set_same, get_or-set_other}
use Rattle.std.proofs.lemmas.List.Edits.{length-remove, get_or-remove_below, get_or-remove_above, length-insert, get_or-insert_below, get_or-insert_at, get_or-insert_above}
use Rattle.std.specs.List.{insert}
use Rattle.std.specs.Prelude.{remove, slice_get}
use Rattle.r4_base.specs.declared.key.Key.{Key}
use Rattle.r4_base.specs.Key.{IsBelow, rank}
use Rattle.r4_base.specs.Node.{Item, PluginsFit, KeysRise, count_of, level_of, item_at, items_of, fits_level}
use Rattle.r4_node40.specs.Laid.{IsNode, HasGoodHead, SameHead, WritesBody}
use Rattle.r4_node40.specs.Edits.{RemovesItem, InsertsItem, ResizesItem, GoesBetween}
use Rattle.r4_node40.proofs.Laid.{length-items_of, get-items_of}

shown : Option Item → Item → Item
shown (Some y) x = y
shown None x = x

here : (xs : List Item) (k : ℕ) (x : Item) → slice_get xs k ≡ Some x → get_or xs k x ≡ x
unfolding shown
here xs k x e = ap (λ (o : Option Item). shown o x) (sym (slice_get-get_or xs k x (slice_get_within xs k x e)) ∙ e)

there : (xs : List Item) (k : ℕ) (x : Item) → k < length xs → get_or xs k x ≡ x → slice_get xs k ≡ Some x
there xs k x lt e = slice_get-get_or xs k x lt ∙ ap (λ (y : Item). Some y) e

-- ---- an item is taken away

remove_low : (xs : List Item) (i k : ℕ) (x : Item) → i < length xs → k < i → slice_get (remove xs i) k ≡ Some x → slice_get xs k ≡ Some x
remove_low xs i k x within lt e = there xs k x (omega arith) (sym (get_or-remove_below xs i x k lt within) ∙ here (remove xs i) k x e)

remove_high : (xs : List Item) (i k : ℕ) (x : Item) → i < length xs → i ≤ k → slice_get (remove xs i) k ≡ Some x → slice_get xs (k + 1) ≡ Some x
remove_high xs i k x within le e =
    let long = length-remove xs i within in
    let lt = slice_get_within (remove xs i) k x e in
    there xs (k + 1) x (omega arith) (sym (get_or-remove_above xs i x k le within) ∙ here (remove xs i) k x e)

plugins_removed : (level : ℕ) (xs : List Item) (i : ℕ) → i < length xs → PluginsFit level xs → PluginsFit level (remove xs i)
plugins_removed level xs i within fit k x e = elim (cases_lt k i) [
  | inl lt ↦ fit k x (remove_low xs i k x within lt e)
  | inr ge ↦ fit (k + 1) x (remove_high xs i k x within ge e)
]

keys_removed : (xs : List Item) (i : ℕ) → i < length xs → KeysRise xs → KeysRise (remove xs i)
keys_removed xs i within up k x y e e' =
    let long = length-remove xs i within in
    let lt' = slice_get_within (remove xs i) (k + 1) y e' in
    elim (cases_lt k i) [
      | inl lt ↦
          elim (cases_lt (k + 1) i) [
            | inl more ↦ up k x y (remove_low xs i k x within lt e) (remove_low xs i (k + 1) y within more e')
            | inr at ↦
                let z = get_or xs (k + 1) x in
                let mid : slice_get xs (k + 1) ≡ Some z = slice_get-get_or xs (k + 1) x (omega arith) in
                let a : rank x.key < rank z.key = up k x z (remove_low xs i k x within lt e) mid in
                let b : rank z.key < rank y.key = up (k + 1) z y mid (remove_high xs i (k + 1) y within at e') in
                omega arith
          ]
      | inr ge ↦ up (k + 1) x y (remove_high xs i k x within ge e) (remove_high xs i (k + 1) y within (omega arith) e')
    ]

-- ---- an item is put in

insert_low : (xs : List Item) (i k : ℕ) (v x : Item) → i ≤ length xs → k < i → slice_get (insert xs i v) k ≡ Some x → slice_get xs k ≡ Some x
insert_low xs i k v x within lt e = there xs k x (omega arith) (sym (get_or-insert_below xs i v x k lt within) ∙ here (insert xs i v) k x e)

insert_here : (xs : List Item) (i : ℕ) (v x : Item) → i ≤ length xs → slice_get (insert xs i v) i ≡ Some x → v ≡ x
insert_here xs i v x within e = sym (get_or-insert_at xs i v x within) ∙ here (insert xs i v) i x e

insert_high : (xs : List Item) (i k : ℕ) (v x : Item) → i ≤ length xs → i ≤ k → slice_get (insert xs i v) (k + 1) ≡ Some x → slice_get xs k ≡ Some x
insert_high xs i k v x within le e =
    let long = length-insert xs i v within in
    let lt = slice_get_within (insert xs i v) (k + 1) x e in
    there xs k x (omega arith) (sym (get_or-insert_above xs i v x k le within) ∙ here (insert xs i v) (k + 1) x e)

plugins_inserted : (level : ℕ) (xs : List Item) (i : ℕ) (v : Item) → i ≤ length xs → fits_level level v.plugin ≡ true → PluginsFit level xs → PluginsFit level (insert xs i v)
plugins_inserted level xs i v within good fit k x e = elim (cases_lt k i) [
  | inl lt ↦ fit k x (insert_low xs i k v x within lt e)
  | inr ge ↦
      elim (cases_eq k i) [
        | inl at ↦ subst (λ (y : Item). fits_level level y.plugin ≡ true) (insert_here xs i v x within (ap (slice_get (insert xs i v)) (sym at) ∙ e)) good
        | inr past ↦ let back : k - 1 + 1 ≡ k = omega arith in fit (k - 1) x (insert_high xs i (k - 1) v x within (omega arith) (ap (slice_get (insert xs i v)) back ∙ e))
      ]
]

keys_inserted : (xs : List Item) (i : ℕ) (v : Item) → i ≤ length xs → GoesBetween xs i v.key → KeysRise xs → KeysRise (insert xs i v)
keys_inserted xs i v within between up k x y e e' = elim (cases_lt k i) [
  | inl lt ↦
      elim (cases_eq (k + 1) i) [
        | inl next ↦
            let same = insert_here xs i v y within (ap (slice_get (insert xs i v)) (sym next) ∙ e') in
            subst (λ (z : Item). IsBelow x.key z.key) same (between.above k x next (insert_low xs i k v x within lt e))
        | inr more ↦ up k x y (insert_low xs i k v x within lt e) (insert_low xs i (k + 1) v y within (omega arith) e')
      ]
  | inr ge ↦
      elim (cases_eq k i) [
        | inl at ↦
            let same = insert_here xs i v x within (ap (slice_get (insert xs i v)) (sym at) ∙ e) in
            subst (λ (z : Item). IsBelow z.key y.key) same (between.below y (ap (slice_get xs) (sym at) ∙ insert_high xs i k v y within ge e'))
        | inr past ↦
            let back : k - 1 + 1 ≡ k = omega arith in
            up (k - 1) x y (insert_high xs i (k - 1) v x within (omega arith) (ap (slice_get (insert xs i v)) back ∙ e)) (ap (slice_get xs) back ∙ insert_high xs i k v y within ge e')
      ]
]

-- ---- an item gets another body

-- the item of the old list with this key and plugin
pub record Before (xs : List Item) (k : ℕ) (x : Item) : Type 0 where
  pub item : Item
  pub found : slice_get xs k ≡ Some item
  pub key : item.key ≡ x.key
  pub plugin : item.plugin ≡ x.plugin

set_before : (xs : List Item) (i k : ℕ) (v w x : Item) → slice_get xs i ≡ Some w → w.key ≡ v.key → w.plugin ≡ v.plugin → slice_get (set xs i v) k ≡ Some x → Before xs k x
set_before xs i k v w x old key plugin e =
    let within = slice_get_within xs i w old in
    let long = length-set xs i v in
    let lt = slice_get_within (set xs i v) k x e in
    elim (cases_eq k i) [
      | inl at ↦
          let same : v ≡ x = sym (get_or-set_same xs i v x within) ∙ ap (λ (j : ℕ). get_or (set xs i v) j x) (sym at) ∙ here (set xs i v) k x e in
          record { item = w; found = ap (slice_get xs) at ∙ old; key = key ∙ ap (λ (y : Item). y.key) same; plugin = plugin ∙ ap (λ (y : Item). y.plugin) same }
      | inr other ↦ record { item = x; found = there xs k x (omega arith) (sym (get_or-set_other xs i k v x other) ∙ here (set xs i v) k x e); key = refl; plugin = refl }
    ]

plugins_set : (level : ℕ) (xs : List Item) (i : ℕ) (v w : Item) → slice_get xs i ≡ Some w → w.key ≡ v.key → w.plugin ≡ v.plugin → PluginsFit level xs → PluginsFit level (set xs i v)
plugins_set level xs i v w old key plugin fit k x e = let b = set_before xs i k v w x old key plugin e in subst (λ (p : ℕ). fits_level level p ≡ true) b.plugin (fit k b.item b.found)

keys_set : (xs : List Item) (i : ℕ) (v w : Item) → slice_get xs i ≡ Some w → w.key ≡ v.key → w.plugin ≡ v.plugin → KeysRise xs → KeysRise (set xs i v)
keys_set xs i v w old key plugin up k x y e e' =
    let a = set_before xs i k v w x old key plugin e in
    let b = set_before xs i (k + 1) v w y old key plugin e' in
    rw (← a.key, ← b.key) (up k a.item b.item a.found b.found)

-- ---- nodes

head_kept : (b c : List ℕ) → HasGoodHead b → SameHead b c → HasGoodHead c
head_kept b c good same = let level = same.level in let range = good.level in record { magic = same.magic ∙ good.magic; plugin = same.plugin ∙ good.plugin; level = (omega arith, omega arith) }

pub node_removed : (b c : List ℕ) (i : ℕ) → IsNode b → i < count_of b → RemovesItem b i c → IsNode c
node_removed b c i node lt r =
    let within : i < length (items_of b) = omega (arith, length-items_of b) in
    record {
      laid = r.laid;
      head = head_kept b c node.head r.head;
      plugins = rw (r.items, r.head.level) (plugins_removed (level_of b) (items_of b) i within node.plugins);
      keys = rw r.items (keys_removed (items_of b) i within node.keys);
    }

pub node_inserted : (b c : List ℕ) (i plugin len : ℕ) (key : Key) → IsNode b → i ≤ count_of b → fits_level (level_of b) plugin ≡ true → GoesBetween (items_of b) i key → InsertsItem b i key plugin len c → IsNode c
node_inserted b c i plugin len key node le good between r =
    let within : i ≤ length (items_of b) = omega (arith, length-items_of b) in
    record {
      laid = r.laid;
      head = head_kept b c node.head r.head;
      plugins = rw (r.items, r.head.level) (plugins_inserted (level_of b) (items_of b) i _ within good node.plugins);
      keys = rw r.items (keys_inserted (items_of b) i _ within between node.keys);
    }

pub node_resized : (b c : List ℕ) (i len : ℕ) → IsNode b → i < count_of b → ResizesItem b i len c → IsNode c
unfolding item_at
node_resized b c i len node lt r =
    let old = get-items_of b (count_of b) i refl lt in
    record {
      laid = r.laid;
      head = head_kept b c node.head r.head;
      plugins = rw (r.items, r.head.level) (plugins_set (level_of b) (items_of b) i _ (item_at (count_of b) b i) old refl refl node.plugins);
      keys = rw r.items (keys_set (items_of b) i _ (item_at (count_of b) b i) old refl refl node.keys);
    }

pub node_written : (b ws c : List ℕ) (i : ℕ) → IsNode b → i < count_of b → WritesBody b ws i c → IsNode c
unfolding item_at
node_written b ws c i node lt r =
    let old = get-items_of b (count_of b) i refl lt in
    record {
      laid = r.laid;
      head = head_kept b c node.head r.head;
      plugins = rw (r.items, r.head.level) (plugins_set (level_of b) (items_of b) i _ (item_at (count_of b) b i) old refl refl node.plugins);
      keys = rw r.items (keys_set (items_of b) i _ (item_at (count_of b) b i) old refl refl node.keys);
    }
