-- The new nodes of a row.
use Rattle.std.proofs.Common.{◌≡◌, ◌∙◌, ℕ, suc, ◌+◌, ◌-◌, ◌<◌, ◌≤◌, List, [], ◌∷◌, ◌++◌, length, map, take, refl, sym, ap, subst, arith}
use Rattle.std.specs.Prelude.{All, Contains}
use Rattle.std.proofs.lemmas.List.{length-append}
use Rattle.std.proofs.lemmas.List.Elements.{All-append, All-cons, All-nil}
use Rattle.r4_base.proofs.Numbers.{length-number_bytes}
use Rattle.r4_base.specs.Cell.{next_key}
use Rattle.r4_base.specs.Key.{rank}
use Rattle.r4_base.specs.Node.{Item}
use Rattle.r4_base.specs.declared.key.Key.{Key}
use Rattle.r4_cell.specs.Seen.{CellSeen}
use Rattle.r4_cell.specs.declared.change.Fresh.{Fresh}
use Rattle.r4_patch.specs.Joining.{ids_of}
use Rattle.r4_path.proofs.Parenting.{cells_next}
use Rattle.r4_path.proofs.PointerNodes.{next_follow}
use Rattle.r4_path.proofs.Pointers.{pointers_fit}
use Rattle.r4_path.proofs.Rows.{fit_append, next_append}
use Rattle.r4_path.specs.Nodes.{pointer_item, weight_of}
use Rattle.r4_path.specs.Sharing.{IsSound, items_of_cells}
use Rattle.r4_path.specs.Steps.{Follow}
use Rattle.r4_rows.proofs.Pointing.{pointers_point}
use Rattle.r4_squeeze.proofs.Cells.{nodes_packed}
use Rattle.r4_squeeze.proofs.NodeCells.{cells_hold, filled_ids, filled_many, filled_sound, nodes_follow, nodes_items, nodes_many, nodes_stand, nodes_whole}
use Rattle.r4_squeeze.proofs.SqueezedSlums.{cells_ids, nodes_ids}
use Rattle.r4_squeeze.proofs.Standing.{pointers_append, pointers_left, pointers_right, pointers_stand}
use Rattle.r4_squeeze.specs.Packing.{AddsNodes, ArePointers, MayStandAll, PacksNodes, cells_filled, first_mkfs_id}
use Rattle.r4_squeeze.specs.declared.filled.Filled.{Filled}
use Rattle.r4_row_edit.proofs.Counted.{all_taken}
use Rattle.r4_row_edit.proofs.Placed.{point_first, point_many}
use Rattle.r4_row_edit.proofs.Spliced.{row_points}
use Rattle.r4_row_edit.specs.Numbers.{TakesNumbers}
use Rattle.r4_row_edit.specs.Over.{ShareOut, StandsOver}
use Rattle.r4_row_edit.specs.Repacked.{IsRepacked, items_over}

pointers_alike : (cells : List CellSeen) → All (λ (x : Item). weight_of x ≡ 46) (map pointer_item cells)
pointers_alike [] = All-nil (λ (x : Item). weight_of x ≡ 46)
pointers_alike (c ∷ cells) = All-cons (λ (x : Item). weight_of x ≡ 46) (pointer_item c) (map pointer_item cells)
    (let long = length-number_bytes 8 c.id in omega (arith, long)) (pointers_alike cells)

long_pointers : (cells : List CellSeen) → length (map pointer_item cells) ≡ length cells
long_pointers [] = refl
long_pointers (c ∷ cells) = ap suc (long_pointers cells)

pub some_cells : (l begin end : ℕ) (cells : List CellSeen) → begin < end → Follow l begin end cells → 1 ≤ length cells
some_cells l begin end [] lt follow = absurd (omega (arith, lt, follow))
some_cells l begin end (c ∷ cells) lt follow = omega arith

module _ (l : ℕ) (gone row come : List CellSeen) (s : StandsOver l gone row) (o : ShareOut gone come)
    (sound : (c : CellSeen) → Contains row c → IsSound c) where
  abbrev new_items : List Item
  new_items = items_over l gone row come s

  along : Follow l s.begin s.end come
  along = o.ranges l s.begin s.end s.below

  old_parts : ArePointers (suc l) s.to (s.before ++ (s.pointers ++ s.behind))
  old_parts = subst (ArePointers (suc l) s.to) s.had (row_points l gone row s sound)

  behind_points : ArePointers (suc l) s.to s.behind
  behind_points = pointers_right (suc l) s.to s.pointers s.behind
      (pointers_right (suc l) s.to s.before (s.pointers ++ s.behind) old_parts)

  old_first : next_key s.to (s.pointers ++ s.behind) ≡ s.begin
  old_first =
      let f = point_first l s.begin s.end s.pointers gone s.one s.below s.point in
      ap (λ xs. next_key s.to (xs ++ s.behind)) f.are ∙ f.at

  new_first : next_key s.to (map pointer_item come ++ s.behind) ≡ s.begin
  new_first = next_append s.to (map pointer_item come) s.behind
      ∙ (ap (λ k. next_key k (map pointer_item come)) s.next ∙ next_follow l s.begin s.end come along)

  come_points : ArePointers (suc l) s.to (map pointer_item come ++ s.behind)
  come_points = let low = s.low in record {
    stand = pointers_stand l s.to s.begin s.end come s.behind along o.able s.next behind_points.stand;
    fit = fit_append (suc l) (map pointer_item come) s.behind
        (pointers_fit (λ (c : CellSeen). c) (suc l) come (omega (arith, low))) behind_points.fit;
    alike = All-append (λ (x : Item). weight_of x ≡ 46) (map pointer_item come) s.behind (pointers_alike come)
        behind_points.alike;
  }

  pub new_points : ArePointers (suc l) s.to new_items
  new_points = pointers_append (suc l) s.to s.before (map pointer_item come ++ s.behind)
      (subst (λ k. ArePointers (suc l) k s.before) (old_first ∙ sym new_first)
      (pointers_left (suc l) s.to s.before (s.pointers ++ s.behind) old_parts)) come_points

  pub new_some : 1 ≤ length new_items
  new_some =
      let some = some_cells l s.begin s.end come s.one along in
      let many = long_pointers come in
      let one = length-append s.before (map pointer_item come ++ s.behind) in
      let two = length-append (map pointer_item come) s.behind in
      omega (arith, some, many, one, two)

  begins : next_key s.to new_items ≡ s.from
  begins = let low = s.low in
      next_append s.to s.before (map pointer_item come ++ s.behind)
      ∙ (ap (λ k. next_key k s.before) (new_first ∙ sym old_first)
      ∙ (sym (next_append s.to s.before (s.pointers ++ s.behind))
      ∙ (ap (next_key s.to) (sym s.had) ∙ cells_next l (omega (arith, low)) s.from s.to row s.along sound)))

  pub packs_over : (level m : ℕ) (had : List Item) (old new : List Filled) → level ≡ suc l → had ≡ new_items → old ≡ []
      → ((hi : ℕ) → ArePointers level hi had → AddsNodes level m had old new) → PacksNodes (suc l) m new_items new
  packs_over level m had old new same is none adds = nodes_packed level m (suc l) m had new_items old new
      (adds s.to (subst (λ k. ArePointers k s.to had) (sym same) (subst (ArePointers (suc l) s.to) (sym is) new_points)))
      none same refl is

  module _ (m : ℕ) (filled : List Filled) (packs : PacksNodes (suc l) m new_items filled) where
    -- there are no more further nodes than further cells below
    pub new_few : length filled ≤ length row + (length come - length gone)
    new_few =
        let high = s.low in
        let many = nodes_many l m high new_items filled packs in
        let hold = cells_hold l m high s.from s.to row s.along sound in
        let some = some_cells l s.begin s.end come s.one along in
        let pointers = long_pointers come in
        let went = point_many s.pointers gone s.point in
        let had = ap length s.had in
        let old = length-append s.before (s.pointers ++ s.behind) in
        let older = length-append s.pointers s.behind in
        let new = length-append s.before (map pointer_item come ++ s.behind) in
        let newer = length-append (map pointer_item come) s.behind in
        omega (arith, many, hold, some, pointers, went, had, old, older, new, newer)

    pub new_stand : (hi : ℕ) → hi ≡ s.to → MayStandAll (suc l) hi filled
    new_stand hi is = subst (λ k. MayStandAll (suc l) k filled) (sym is)
        (nodes_stand l m s.low s.to new_items filled packs new_points)

    module _ (same_id : m ≡ first_mkfs_id row) (before after : Fresh) (ns : List ℕ)
        (t : TakesNumbers (ids_of row) (length filled) before after ns) (hi : Key) (end : rank hi ≡ s.to)
        (cells : List CellSeen) (are : cells ≡ cells_filled (suc l) ns hi filled) where
      enough : length filled ≤ length ns
      enough = let many = t.many in omega (arith, many)

      points : ArePointers (suc l) (rank hi) new_items
      points = subst (λ k. ArePointers (suc l) k new_items) (sym end) new_points

      long : length cells ≡ length filled
      long = ap length are ∙ filled_many (suc l) ns hi filled enough

      have : items_of_cells cells ≡ new_items
      have = ap items_of_cells are ∙ nodes_items l m s.low ns hi new_items filled enough packs

      follow : Follow (suc l) s.from s.to cells
      follow = subst (Follow (suc l) s.from s.to) (sym are)
          (subst (λ k. Follow (suc l) s.from k (cells_filled (suc l) ns hi filled)) end
          (nodes_follow l m s.low ns hi s.from new_items filled enough packs points
          (ap (λ k. next_key k new_items) end ∙ begins)))

      stand : (c : CellSeen) → Contains cells c → IsSound c
      stand c at = filled_sound (suc l) ns hi filled (nodes_whole l m s.low new_items filled packs)
          (new_stand (rank hi) end) c (subst (λ cs. Contains cs c) are at)

      pub repacked_is : IsRepacked l row gone come before after cells
      repacked_is = record {
        points = record {
          from = s.from;
          to = s.to;
          were = s.along;
          are = follow;
          sound_old = sound;
          sound_new = stand;
          low = s.begin;
          high = s.end;
          below_were = s.below;
          below_are = along;
          before = s.before;
          gone = s.pointers;
          come = map pointer_item come;
          behind = s.behind;
          had = s.had;
          have = have;
          point_old = s.point;
          point_new = pointers_point come o.able;
          next = s.next;
        };
        few =
            let many = nodes_many l m s.low new_items filled packs in
            let same = ap length have in
            let cells_many = long in
            omega (arith, many, same, cells_many);
        grows = let most = new_few in let cells_many = long in omega (arith, most, cells_many);
        taken = t.taken;
        ids = ap ids_of are ∙ (filled_ids (suc l) ns hi filled
            ∙ (ap (λ k. take k ns) (filled_many (suc l) ns hi filled enough)
            ∙ (all_taken (ids_of row) (length filled) before after ns t
            ∙ (t.are ∙ ap (λ k. take k (ids_of row) ++ t.taken) (sym long)))));
        count = t.counts;
        left = t.left;
        mkfs_id = λ c at. cells_ids m (suc l) ns hi filled (nodes_ids (suc l) m new_items filled packs) c
            (subst (λ cs. Contains cs c) are at) ∙ same_id;
      }
