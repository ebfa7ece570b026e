-- An item put behind those of a node, and its body then written.
use Rattle.std.proofs.Common.{◌≡◌, ℕ, ◌+◌, ◌-◌, ◌<◌, ◌≤◌, true, false, List, [], ◌∷◌, ◌++◌, length, replicate, get_or, set}
use Rattle.std.proofs.Common.{refl, sym, ap, ◌∙◌, arith}
use Rattle.std.specs.Prelude.{slice_get, slice_set, Some, Result, OnOk, IsOk, Ok, Err}
use Rattle.std.specs.List.{insert}
use Rattle.std.proofs.lemmas.List.{length-replicate, set-append_right}
use Rattle.std.proofs.lemmas.List.Edits.{insert_end}
use Rattle.r4_base.specs.Lending.{written}
use Rattle.r4_base.specs.Node.{Item, count_of, fits_level, item_at, items_of, key_at, level_of, offset_at, plugin_at}
use Rattle.r4_base.specs.declared.key.Key.{Key}
use Rattle.r4_base.proofs.Choices.{get_end}
use Rattle.r4_leaf.specs.r4_node40.Edits.{GoesBetween, InsertsItem}
use Rattle.r4_leaf.specs.r4_node40.Laid.{IsLaid, IsNode, WritesBody, room_of, span_at}
use Rattle.r4_leaf.proofs.r4_node40.Accepted.{space}
use Rattle.r4_leaf.proofs.r4_node40.Bodies.{body_lent}
use Rattle.r4_leaf.proofs.r4_node40.Kept.{node_inserted, node_written}
use Rattle.r4_leaf.proofs.r4_node40.Laid.{get_or-items_of, length-items_of}
use Rattle.r4_path.specs.Nodes.{IsAppended}

module _ (b0 b1 body : List ℕ) (n plugin : ℕ) (key : Key) (counted : n ≡ count_of b0) (node : IsNode b0)
    (fits : fits_level (level_of b0) plugin ≡ true) (between : GoesBetween (items_of b0) n key) (some : 1 ≤ length body)
    (put : InsertsItem b0 n key plugin (length body) b1) where
  node1 : IsNode b1
  node1 = node_inserted b0 b1 n plugin (length body) key node (omega (arith, counted)) fits between put

  count : count_of b1 ≡ n + 1
  count = put.count ∙ ap (λ k. k + 1) (sym counted)

  pub below : n < count_of b1
  below = let c = count in omega (arith, c)

  blank : Item
  blank = record { key = key; plugin = plugin; body = replicate (length body) 0 }

  long : length (items_of b0) ≡ n
  long = length-items_of b0 ∙ sym counted

  items : items_of b1 ≡ items_of b0 ++ blank ∷ []
  unfolding blank
  items = put.items ∙ (ap (λ k. insert (items_of b0) k
      (record { key = key; plugin = plugin; body = replicate (length body) 0 })) (sym long)
      ∙ insert_end (items_of b0) (record { key = key; plugin = plugin; body = replicate (length body) 0 }))

  shown : item_at (n + 1) b1 n ≡ blank
  shown = sym (get_or-items_of b1 (n + 1) n blank count (omega arith))
      ∙ (ap (λ (l : List Item). get_or l n blank) items
      ∙ (ap (λ k. get_or (items_of b0 ++ blank ∷ []) k blank) (sym long) ∙ get_end (items_of b0) blank blank))

  span : span_at b1 n n ≡ replicate (length body) 0
  unfolding item_at blank
  span = ap (λ (k : ℕ). (item_at k b1 n).body) count ∙ ap (λ (x : Item). x.body) shown

  pub same_length : length (span_at b1 n n) ≡ length body
  same_length = ap length span ∙ length-replicate (length body) 0

  wrote : WritesBody b1 body n (written b1 (offset_at b1 n) body)
  wrote = body_lent b1 body n put.laid below (sym same_length)

  set_end : (y : Item) → slice_set (items_of b0 ++ blank ∷ []) n y ≡ items_of b0 ++ y ∷ []
  set_end y = set-append_right (items_of b0) (blank ∷ []) n n y long (omega arith)
      ∙ ap (λ k. items_of b0 ++ set (blank ∷ []) k y) (let e : n - n ≡ 0 = omega arith in e)

  pub appended : IsAppended b0 (record { key = key; plugin = plugin; body = body }) (written b1 (offset_at b1 n) body)
  unfolding item_at blank
  appended = record {
    node = node_written b1 body (written b1 (offset_at b1 n) body) n node1 below wrote;
    items = wrote.items ∙ (ap (λ (l : List Item). slice_set l n
        (record { key = key_at b1 n; plugin = plugin_at b1 n; body = body })) items
        ∙ (set_end (record { key = key_at b1 n; plugin = plugin_at b1 n; body = body })
        ∙ (λ i. items_of b0 ++ record { key = (shown i).key; plugin = (shown i).plugin; body = body } ∷ [])));
    level = wrote.head.level ∙ put.head.level;
    room = ap (λ k. k + length body + 38) wrote.room ∙ put.room;
    mkfs_id = wrote.head.mkfs_id ∙ put.head.mkfs_id;
  }
