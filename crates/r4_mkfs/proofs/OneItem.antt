-- A node of one item: a fresh node into which an item was put, and its body then written.
use Rattle.std.proofs.Common.{◌≡◌, ℕ, ◌≤◌, Bool, true, false, ◌&&◌, cond, List, [], ◌∷◌, length, replicate, slice_get, slice_set, get_or, refl, sym, ap, subst, ◌∙◌, arith}
use Rattle.std.specs.Prelude.{Some, None, ◌==◌, Result, OnOk, IsOk, Ok, Err}
use Rattle.std.specs.List.{insert}
use Rattle.std.proofs.lemmas.List.{length-replicate}
use Rattle.std.proofs.lemmas.Bool.{and_right}
use Rattle.r4_base.specs.Lending.{written}
use Rattle.r4_base.specs.Node.{Item, PluginsFit, KeysRise, count_of, fits_level, is_empty_branch, item_at, items_of, key_at, level_of, offset_at, plugin_at}
use Rattle.r4_base.specs.declared.node.NodeFault.TheVariants.{Empty}
use Rattle.r4_base.specs.Fresh.{HasOneItem, IsFreshNode, root_key}
use Rattle.r4_base.proofs.Choices.{none_at}
use Rattle.r4_node40.specs.Laid.{IsFresh, IsNode, WritesBody, span_at}
use Rattle.r4_node40.specs.Edits.{GoesBetween, InsertsItem}
use Rattle.r4_node40.proofs.Accepted.{accepted}
use Rattle.r4_node40.proofs.Bodies.{body_lent}
use Rattle.r4_node40.proofs.Kept.{node_inserted, node_written}
use Rattle.r4_node40.proofs.Laid.{get_or-items_of}

module _ (b0 b1 body : List ℕ) (level plugin : ℕ) (fresh : IsFresh b0 level 1) (fits : fits_level level plugin ≡ true) (some : 1 ≤ length body) (put : InsertsItem b0 0 root_key plugin (length body) b1) where
  node0 : IsNode b0
  node0 = record {
    laid = fresh.laid;
    head = fresh.head;
    plugins = subst (λ (l : List Item). PluginsFit (level_of b0) l) (sym fresh.items) (λ k x e. absurd (none_at k x e));
    keys = subst KeysRise (sym fresh.items) (λ k x y e g. absurd (none_at k x e));
  }

  between : GoesBetween (items_of b0) 0 root_key
  between = record {
    above = λ k x e is. absurd (omega (arith, e));
    below = λ y is. absurd (none_at 0 y (subst (λ (l : List Item). slice_get l 0 ≡ Some y) fresh.items is));
  }

  node1 : IsNode b1
  node1 = node_inserted b0 b1 0 plugin (length body) root_key node0 (omega arith) (ap (λ (l : ℕ). fits_level l plugin) fresh.level_is ∙ fits) between put

  one : count_of b1 ≡ 1
  one = let n = fresh.count in let m = put.count in omega (arith, n, m)

  item : Item
  item = record { key = root_key; plugin = plugin; body = replicate (length body) 0 }

  items : items_of b1 ≡ item ∷ []
  unfolding item
  items = put.items ∙ ap (λ (l : List Item). insert l 0 (record { key = root_key; plugin = plugin; body = replicate (length body) 0 })) fresh.items ∙ refl

  shown : item_at 1 b1 0 ≡ item
  shown = sym (get_or-items_of b1 1 0 item one (omega arith)) ∙ ap (λ (l : List Item). get_or l 0 item) items

  span : span_at b1 0 0 ≡ replicate (length body) 0
  unfolding item_at item
  span = ap (λ (n : ℕ). (item_at n b1 0).body) one ∙ ap (λ (x : Item). x.body) shown

  pub long : length body ≡ length (span_at b1 0 0)
  long = sym (ap length span ∙ length-replicate (length body) 0)

  wrote : WritesBody b1 body 0 (written b1 (offset_at b1 0) body)
  wrote = body_lent b1 body 0 put.laid (let n = one in omega (arith, n)) long

  pub filled : HasOneItem (written b1 (offset_at b1 0) body) level plugin body
  unfolding item_at item
  filled = record {
    sound = accepted (written b1 (offset_at b1 0) body) (node_written b1 body (written b1 (offset_at b1 0) body) 0 node1 (let n = one in omega (arith, n)) wrote) ∙ ap (λ (e : Bool). cond e (Some Empty) None) not_empty;
    level_is = wrote.head.level ∙ put.head.level ∙ fresh.level_is;
    items = wrote.items ∙ ap (λ (l : List Item). slice_set l 0 (record { key = key_at b1 0; plugin = plugin_at b1 0; body = body })) items
        ∙ (λ i. record { key = (shown i).key; plugin = (shown i).plugin; body = body } ∷ []);
  }
    where
      not_empty : is_empty_branch (written b1 (offset_at b1 0) body) ≡ false
      not_empty = let n : count_of (written b1 (offset_at b1 0) body) ≡ 1 = wrote.count ∙ one in let test : (count_of (written b1 (offset_at b1 0) body) == 0) ≡ false = rw n refl in and_right _ _ test

  pub fresh_node : IsFreshNode (written b1 (offset_at b1 0) body) level plugin body
  fresh_node = record {
    item = filled;
    mkfs_id = wrote.head.mkfs_id ∙ put.head.mkfs_id ∙ fresh.mkfs_id_is;
    flush_id = wrote.head.flush_id ∙ put.head.flush_id ∙ fresh.flush_id_is;
    flags = wrote.head.flags ∙ put.head.flags ∙ fresh.flags_is;
    pad = wrote.head.pad ∙ put.head.pad ∙ fresh.pad_is;
    item_flags = wrote.flags 0 (let n = one in omega (arith, n)) ∙ put.flags;
    free = λ p ge lt.
        let count : count_of (written b1 (offset_at b1 0) body) ≡ 1 = wrote.count ∙ one in
        let n = one in
        let start = wrote.start in
        let low = put.laid.low in
        wrote.free p ge (omega (arith, lt, count)) ∙ put.free p (omega (arith, ge, start)) (omega (arith, lt, n)) ∙ fresh.blank p (omega (arith, ge, start, low));
  }
