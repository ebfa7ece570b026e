-- The cell above a slum with pointers to what comes in its place.
use Rattle.std.proofs.Common.{◌≡◌, ℕ, zero, suc, ◌+◌, ◌*◌, ◌^◌, ◌<◌, ◌≤◌, Bool, true, false, List, [], ◌∷◌, ◌++◌, drop, get_or, length, map, take, refl, sym, ap, subst, ◌∙◌, arith}
use Rattle.std.specs.Prelude.{All, None, Some, ◌==◌, if◌then◌else◌, slice_get}
use Rattle.std.proofs.lemmas.Bool.{and_parts, eqb-true}
use Rattle.std.proofs.lemmas.List.{append-nil, length-append, length-take-le, take-append-drop}
use Rattle.std.proofs.lemmas.List.Elements.{All-cons, All-head, All-nil, All-tail}
use Rattle.std.proofs.lemmas.List.Sums.{sum_by-append}
use Rattle.std.proofs.lemmas.Option.{none-some, same_Some}
use Rattle.r4_base.proofs.Choices.{chosen}
use Rattle.r4_base.proofs.Numbers.{length-number_bytes, number_at-lt}
use Rattle.r4_base.specs.Cell.{cell_fault, item_body_fault, names_block, next_key}
use Rattle.r4_base.specs.Extents.{pointer_of}
use Rattle.r4_base.specs.Key.{rank}
use Rattle.r4_base.specs.Node.{Item, KeysRise, PluginsFit, items_of, mkfs_id_of}
use Rattle.r4_base.specs.declared.key.Key.{Key}
use Rattle.r4_base.specs.declared.items.CellFault.TheVariants.{Pointer}
use Rattle.r4_cell.specs.Seen.{CellSeen}
use Rattle.r4_node40.proofs.Accepted.{good}
use Rattle.r4_patch.specs.Joining.{ids_of}
use Rattle.r4_path.proofs.CellNodes.{long_map, map_twice}
use Rattle.r4_path.proofs.Finding.{bodied, node_weighs, weighs_length}
use Rattle.r4_path.proofs.Filling.{weight_cons}
use Rattle.r4_path.proofs.Lying.{Good, sound as lying_sound}
use Rattle.r4_path.proofs.Parenting.{begins, sound_node}
use Rattle.r4_path.proofs.PointerNodes.{next_follow}
use Rattle.r4_path.proofs.Pointers.{pointers_fit, pointers_weigh}
use Rattle.r4_path.proofs.Rows.{fit_append, fit_left, fit_right, next_append}
use Rattle.r4_path.specs.Nodes.{IsNodeOf, IsPointable, pointer_item, weight, weight_of}
use Rattle.r4_path.specs.Sharing.{IsSound}
use Rattle.r4_path.specs.Steps.{Follow}
use Rattle.r4_rows.specs.Pointers.{PointTo}
use Rattle.r4_squeeze.specs.Items.{HaveBodies, Stand}
use Rattle.r4_squeeze.specs.Over.{ArePointedTo, ComesOver, IsOver, IsSlumOf, StandsOver}
use Rattle.r4_squeeze.proofs.Cells.{level_most}
use Rattle.r4_squeeze.proofs.Naming.{cell_stand, slum_level, slum_points}
use Rattle.r4_squeeze.proofs.Standing.{pointers_stand, stand_append, stand_good, stand_left, stand_rise, stand_right}
use Rattle.r4_squeeze.proofs.TwigSlums.{split_first}

-- ---- the slum, as the code finds it

pub record Ready (parent : CellSeen) (slum : List CellSeen) (at : ℕ) : Type 0 where
  pub l : ℕ
  pub low : 1 ≤ l
  pub up : parent.level ≡ suc l
  pub from : ℕ
  pub to : ℕ
  pub follow : Follow l from to slum
  pub some : 1 ≤ length slum
  pub pointed : ArePointedTo l (rank parent.hi) (drop at (items_of parent.block)) slum

pub ready : {A : Type 0} (f : A → CellSeen) (parent : CellSeen) (xs : List A) (x : A) (at : ℕ) (items : List Item) (lo : ℕ)
    → x ≡ get_or xs 0 x → IsSlumOf (map f xs) parent → IsSound parent → items ≡ items_of parent.block → lo ≡ rank (f x).lo
    → ((k : ℕ) (y : Item) → k < at → slice_get items k ≡ Some y → rank y.key < lo)
    → ((y : Item) → slice_get items at ≡ Some y → lo ≤ rank y.key) → Ready parent (map f xs) at
ready f parent xs x at items lo is s sound same begin below past =
    let (rest, parts) = split_first f s.level s.from s.to xs x is s.beside.follow s.beside.some in
    let whole : IsSlumOf (f x ∷ map f rest) parent = subst (λ ys. IsSlumOf (map f ys) parent) parts s in
    let levels = slum_level (f x ∷ map f rest) parent (f x) (map f rest) refl whole in
    let (level, from, lt, more) = whole.beside.follow in
    let points = slum_points parent (f x) (map f rest) at sound levels.0 levels.1
    (λ k y less e. let h = below k y less (ap (λ zs. slice_get zs k) same ∙ e) in omega (arith, h, begin))
    (λ y e. let h = past y (ap (λ zs. slice_get zs at) same ∙ e) in omega (arith, h, begin)) whole in
    subst (λ ys. Ready parent (map f ys) at) (sym parts) (record {
      l = (f x).level;
      low = levels.0;
      up = sym levels.1;
      from = whole.from;
      to = whole.to;
      follow = (refl, from, lt, subst (λ k. Follow k (rank (f x).hi) whole.to (map f rest)) (sym level) more);
      some = omega arith;
      pointed = points;
    })

-- ---- pointers one after the other

pointed_many : (l hi : ℕ) (xs : List Item) (cells : List CellSeen) → ArePointedTo l hi xs cells → length cells ≤ length xs
pointed_many l hi xs [] p = omega arith
pointed_many l hi [] (c ∷ cells) p = absurd p
pointed_many l hi (x ∷ xs) (c ∷ cells) p = let h = pointed_many l hi xs cells p.2 in omega (arith, h)

pointed_gone : (l hi : ℕ) (xs : List Item) (cells : List CellSeen) → ArePointedTo l hi xs cells
    → PointTo (take (length cells) xs) cells
pointed_gone l hi [] [] p = tt
pointed_gone l hi (x ∷ xs) [] p = tt
pointed_gone l hi [] (c ∷ cells) p = absurd p
pointed_gone l hi (x ∷ xs) (c ∷ cells) (level, points, more) =
    (points.plugin, points.to, points.key, pointed_gone l hi xs cells more)

pointed_next : (l hi from to : ℕ) (xs : List Item) (cells : List CellSeen) → 1 ≤ length cells → Follow l from to cells
    → ArePointedTo l hi xs cells → next_key hi (drop (length cells) xs) ≡ to
pointed_next l hi from to xs [] some follow p = absurd (omega (arith, some))
pointed_next l hi from to [] (c ∷ cells) some follow p = absurd p
pointed_next l hi from to (x ∷ xs) (c ∷ []) some follow (level, points, more) = points.next ∙ follow.3
pointed_next l hi from to (x ∷ xs) (c ∷ (d ∷ cells)) some follow (level, points, more) =
    pointed_next l hi (rank c.hi) to xs (d ∷ cells) (omega arith) follow.3 more

pointed_first : (l hi from to : ℕ) (xs : List Item) (cells : List CellSeen) → 1 ≤ length cells → Follow l from to cells
    → ArePointedTo l hi xs cells → next_key hi xs ≡ from
pointed_first l hi from to xs [] some follow p = absurd (omega (arith, some))
pointed_first l hi from to [] (c ∷ cells) some follow p = absurd p
pointed_first l hi from to (x ∷ xs) (c ∷ cells) some follow (level, points, more) = points.key ∙ follow.1

one_of : (p : Bool) (n to : ℕ) → (if p then Some n else None) ≡ Some to → (p ≡ true) × (n ≡ to)
one_of true n to e = (refl, same_Some n to e)
one_of false n to e = absurd (none-some to e)

pub pointer_long : (b : List ℕ) (to : ℕ) → pointer_of b ≡ Some to → (length b ≡ 8) × (to < 2 ^ 64)
unfolding pointer_of
pointer_long b to e =
    let (tests, is) = one_of _ _ _ e in
    let less = number_at-lt 8 0 b in
    (eqb-true (length b) 8 (and_parts (length b == 8) _ tests).0, omega (arith, less, is))

pub accepted_pointer : (it : Item) → it.plugin ≡ 3 → item_body_fault true (2 ^ 64) it ≡ None
    → names_block true (2 ^ 64) (pointer_of it.body) ≡ true
unfolding item_body_fault
accepted_pointer it plugin none_wrong =
    let a : (it.plugin == 0) ≡ false = ap (λ (y : ℕ). y == 0) plugin in
    let b : (it.plugin == 2) ≡ false = ap (λ (y : ℕ). y == 2) plugin in
    let d : (it.plugin == 3) ≡ true = ap (λ (y : ℕ). y == 3) plugin in
    chosen _ Pointer (let says : (if names_block true (2 ^ 64) (pointer_of it.body) then None else Some Pointer)
    ≡ None = (rw (a, b, d) at none_wrong) in says)

pointed_able : (l hi : ℕ) (xs : List Item) (cells : List CellSeen) → Stand hi xs → ArePointedTo l hi xs cells
    → All (λ (c : CellSeen). IsPointable c.id) cells
pointed_able l hi xs [] stand p = All-nil (λ (c : CellSeen). IsPointable c.id)
pointed_able l hi [] (c ∷ cells) stand p = absurd p
pointed_able l hi (x ∷ xs) (c ∷ cells) (placed, below, end, rest) (level, points, more) =
    let named = accepted_pointer x points.plugin placed.body in
    All-cons (λ (d : CellSeen). IsPointable d.id) c cells (
      (pointer_long x.body c.id points.to).1,
      ap (names_block true (2 ^ 64)) (sym points.to) ∙ named,
    ) (pointed_able l hi xs cells rest more)

pointed_weigh : (l hi : ℕ) (xs : List Item) (cells : List CellSeen) → ArePointedTo l hi xs cells
    → weight (take (length cells) xs) ≡ 46 * length cells
pointed_weigh l hi [] [] p = refl
pointed_weigh l hi (x ∷ xs) [] p = refl
pointed_weigh l hi [] (c ∷ cells) p = absurd p
pointed_weigh l hi (x ∷ xs) (c ∷ cells) (level, points, more) =
    let long = (pointer_long x.body c.id points.to).0 in
    let rest = pointed_weigh l hi xs cells more in
    let sum = weight_cons x (take (length cells) xs) in
    omega (arith, long, rest, sum)

-- the first of these numbers may be pointed to where all may
able_taken : (ids : List ℕ) (cells slum : List CellSeen) → ids_of cells ≡ take (length cells) ids → ids ≡ ids_of slum
    → All (λ (c : CellSeen). IsPointable c.id) slum → All (λ (c : CellSeen). IsPointable c.id) cells
able_taken ids [] slum e same able = All-nil (λ (c : CellSeen). IsPointable c.id)
able_taken [] (c ∷ cells) slum e same able = absurd cc
able_taken (i ∷ ids) (c ∷ cells) [] e same able = absurd cc
able_taken (i ∷ ids) (c ∷ cells) (d ∷ slum) e same able =
    let head : c.id ≡ i = cc in
    let tail : ids_of cells ≡ take (length cells) ids = cc in
    let first : i ≡ d.id = cc in
    let others : ids ≡ ids_of slum = cc in
    All-cons (λ (x : CellSeen). IsPointable x.id) c cells
    (subst IsPointable (sym (head ∙ first)) (All-head (λ (x : CellSeen). IsPointable x.id) d slum able))
    (able_taken ids cells slum tail others (All-tail (λ (x : CellSeen). IsPointable x.id) d slum able))

-- ---- bodies

bodies_append : (xs ys : List Item) → HaveBodies xs → HaveBodies ys → HaveBodies (xs ++ ys)
bodies_append [] ys hx hy k z e = hy k z e
bodies_append (x ∷ xs) ys hx hy zero z e = hx zero z e
bodies_append (x ∷ xs) ys hx hy (suc k) z e = bodies_append xs ys (λ j. hx (suc j)) hy k z e

bodies_left : (xs ys : List Item) → HaveBodies (xs ++ ys) → HaveBodies xs
bodies_left [] ys h k z e = absurd cc
bodies_left (x ∷ xs) ys h zero z e = h zero z e
bodies_left (x ∷ xs) ys h (suc k) z e = bodies_left xs ys (λ j. h (suc j)) k z e

bodies_right : (xs ys : List Item) → HaveBodies (xs ++ ys) → HaveBodies ys
bodies_right [] ys h = h
bodies_right (x ∷ xs) ys h = bodies_right xs ys (λ j. h (suc j))

pointer_bodies : (cells : List CellSeen) → HaveBodies (map pointer_item cells)
pointer_bodies [] k z e = absurd cc
pointer_bodies (c ∷ cells) zero z e =
    let long = length-number_bytes 8 c.id in
    let same = ap (λ (y : Item). length y.body) (same_Some (pointer_item c) z e) in
    (omega (arith, long, same), omega (arith, long, same))
pointer_bodies (c ∷ cells) (suc k) z e = pointer_bodies cells k z e

-- ---- the new items

drop_none : {A : Type 0} (n : ℕ) → drop {A = A} n [] ≡ []
drop_none zero = refl
drop_none (suc n) = refl

drop_twice : {A : Type 0} (n a : ℕ) (xs : List A) → drop n (drop a xs) ≡ drop (a + n) xs
drop_twice n zero xs = ap (λ k. drop k xs) (let same : n ≡ 0 + n = omega arith in same)
drop_twice n (suc a) [] = drop_none n ∙ sym (drop_none (suc a + n))
drop_twice n (suc a) (x ∷ xs) = drop_twice n a xs
    ∙ ap (λ k. drop k (x ∷ xs)) (let step : suc (a + n) ≡ suc a + n = omega arith in step)

-- What is asked of items that come into the cell above.
pub record IsRewritten (parent : CellSeen) (slum cells : List CellSeen) (items : List Item) : Type 0 where
  pub level : (2 ≤ parent.level) × (parent.level ≤ 8)
  pub rise : KeysRise items
  pub fit : PluginsFit parent.level items
  pub bodies : HaveBodies items
  pub room : weight items ≤ 4068
  pub lies : Good parent.level (rank parent.lo) (rank parent.hi) 0 items
  pub some : 0 < length items
  pub able : All (λ (c : CellSeen). IsPointable c.id) cells
  pub below : ℕ
  pub stood : StandsOver below parent slum
  pub are : items ≡ stood.before ++ (map pointer_item cells ++ stood.behind)

module _ (parent : CellSeen) (slum : List CellSeen) (at : ℕ) (sound : IsSound parent) (r : Ready parent slum at) where
  stand_all : Stand (rank parent.hi) (items_of parent.block)
  stand_all = let up = r.up in cell_stand parent (omega (arith, up)) sound

  stand_from : Stand (rank parent.hi) (drop at (items_of parent.block))
  stand_from = stand_right (rank parent.hi) (take at (items_of parent.block)) (drop at (items_of parent.block))
      (subst (Stand (rank parent.hi)) (sym (take-append-drop at (items_of parent.block))) stand_all)

  pub room_for : at ≤ length (items_of parent.block) → at + length slum ≤ length (items_of parent.block)
  room_for within =
      let many = pointed_many r.l (rank parent.hi) (drop at (items_of parent.block)) slum r.pointed in
      let both = ap length (take-append-drop at (items_of parent.block)) in
      let sum = length-append (take at (items_of parent.block)) (drop at (items_of parent.block)) in
      let front = length-take-le at (items_of parent.block) within in
      omega (arith, many, both, sum, front)

  pub few_items : length (items_of parent.block) < 65536
  few_items =
      let up = r.up in
      let node = (good parent.block sound.whole (sound_node parent (omega (arith, up)) sound).accepted).0 in
      let most = node_weighs parent.block node.laid in
      let long = weighs_length (items_of parent.block) in
      omega (arith, most, long)

  module _ (cells : List CellSeen) (come : ComesOver slum cells) where
    able : All (λ (c : CellSeen). IsPointable c.id) cells
    able = able_taken (ids_of slum) cells slum come.ids refl
        (pointed_able r.l (rank parent.hi) (drop at (items_of parent.block)) slum stand_from r.pointed)

    stood : StandsOver r.l parent slum
    stood = record {
      low = r.low;
      level = r.up;
      some = r.some;
      before = take at (items_of parent.block);
      gone = take (length slum) (drop at (items_of parent.block));
      behind = drop (length slum) (drop at (items_of parent.block));
      had = sym (take-append-drop at (items_of parent.block))
          ∙ ap (λ xs. take at (items_of parent.block) ++ xs)
          (sym (take-append-drop (length slum) (drop at (items_of parent.block))));
      points = pointed_gone r.l (rank parent.hi) (drop at (items_of parent.block)) slum r.pointed;
      from = r.from;
      to = r.to;
      follow = r.follow;
      next = pointed_next r.l (rank parent.hi) r.from r.to (drop at (items_of parent.block)) slum r.some r.follow r.pointed;
    }

    abbrev new_items : List Item
    new_items = take at (items_of parent.block)
        ++ (map pointer_item cells ++ drop (length slum) (drop at (items_of parent.block)))

    stand_behind : Stand (rank parent.hi) (drop (length slum) (drop at (items_of parent.block)))
    stand_behind = stand_right (rank parent.hi) (take (length slum) (drop at (items_of parent.block)))
        (drop (length slum) (drop at (items_of parent.block)))
        (subst (Stand (rank parent.hi)) (sym (take-append-drop (length slum) (drop at (items_of parent.block)))) stand_from)

    along : Follow r.l r.from r.to cells
    along = come.ranges r.l r.from r.to r.follow

    next_behind : next_key (rank parent.hi) (drop (length slum) (drop at (items_of parent.block))) ≡ r.to
    next_behind = pointed_next r.l (rank parent.hi) r.from r.to (drop at (items_of parent.block)) slum r.some r.follow
        r.pointed

    new_first : next_key (rank parent.hi) (map pointer_item cells ++ drop (length slum) (drop at (items_of parent.block)))
        ≡ next_key (rank parent.hi) (drop at (items_of parent.block))
    new_first = next_append (rank parent.hi) (map pointer_item cells) (drop (length slum) (drop at (items_of parent.block)))
        ∙ (ap (λ k. next_key k (map pointer_item cells)) next_behind
        ∙ (next_follow r.l r.from r.to cells along
        ∙ sym (pointed_first r.l (rank parent.hi) r.from r.to (drop at (items_of parent.block)) slum r.some r.follow
        r.pointed)))

    stand_new : Stand (rank parent.hi) new_items
    stand_new = stand_append (rank parent.hi) (take at (items_of parent.block))
        (map pointer_item cells ++ drop (length slum) (drop at (items_of parent.block)))
        (subst (λ k. Stand k (take at (items_of parent.block))) (sym new_first)
        (stand_left (rank parent.hi) (take at (items_of parent.block)) (drop at (items_of parent.block))
        (subst (Stand (rank parent.hi)) (sym (take-append-drop at (items_of parent.block))) stand_all)))
        (pointers_stand r.l (rank parent.hi) r.from r.to cells (drop (length slum) (drop at (items_of parent.block))) along
        able next_behind stand_behind)

    begins_same : next_key (rank parent.hi) new_items ≡ rank parent.lo
    begins_same =
        let up = r.up in
        let low = r.low in
        next_append (rank parent.hi) (take at (items_of parent.block))
        (map pointer_item cells ++ drop (length slum) (drop at (items_of parent.block)))
        ∙ (ap (λ k. next_key k (take at (items_of parent.block))) new_first
        ∙ (sym (next_append (rank parent.hi) (take at (items_of parent.block)) (drop at (items_of parent.block)))
        ∙ (ap (next_key (rank parent.hi)) (take-append-drop at (items_of parent.block)
        ∙ sym (append-nil (items_of parent.block)))
        ∙ begins parent (rank parent.hi) [] (omega (arith, up, low)) sound)))

    weigh_new : weight new_items ≤ 4068
    unfolding stood
    weigh_new =
        let up = r.up in
        let few = come.few in
        let node = (good parent.block sound.whole (sound_node parent (omega (arith, up)) sound).accepted).0 in
        let most = node_weighs parent.block node.laid in
        let had = ap weight stood.had in
        let old = sum_by-append weight_of (take at (items_of parent.block))
        (take (length slum) (drop at (items_of parent.block)) ++ drop (length slum) (drop at (items_of parent.block))) in
        let older = sum_by-append weight_of (take (length slum) (drop at (items_of parent.block)))
        (drop (length slum) (drop at (items_of parent.block))) in
        let went = pointed_weigh r.l (rank parent.hi) (drop at (items_of parent.block)) slum r.pointed in
        let new = sum_by-append weight_of (take at (items_of parent.block))
        (map pointer_item cells ++ drop (length slum) (drop at (items_of parent.block))) in
        let newer = sum_by-append weight_of (map pointer_item cells) (drop (length slum) (drop at (items_of parent.block))) in
        let came = pointers_weigh (λ (c : CellSeen). c) cells in
        omega (arith, few, most, had, old, older, went, new, newer, came)

    pub rewriting : (items : List Item) → items ≡ take at (items_of parent.block)
        ++ (map pointer_item cells ++ drop (at + length slum) (items_of parent.block)) → IsRewritten parent slum cells items
    unfolding stood
    rewriting items is =
        let up = r.up in
        let low = r.low in
        let some = come.some in
        let at_node = sound_node parent (omega (arith, up)) sound in
        let node = (good parent.block sound.whole at_node.accepted).0 in
        let had_fit : PluginsFit parent.level (items_of parent.block) =
        subst (λ k. PluginsFit k (items_of parent.block)) at_node.level_is node.plugins in
        let had_bodies : HaveBodies (items_of parent.block) = bodied parent.block node.laid in
        let parts = stood.had in
        let fits = subst (PluginsFit parent.level) parts had_fit in
        let have = subst HaveBodies parts had_bodies in
        let gone = take (length slum) (drop at (items_of parent.block)) in
        let behind = drop (length slum) (drop at (items_of parent.block)) in
        let before = take at (items_of parent.block) in
        let same : items ≡ new_items = is ∙ ap (λ xs. take at (items_of parent.block) ++ (map pointer_item cells ++ xs))
        (sym (drop_twice (length slum) at (items_of parent.block))) in
        let first = begins_same in
        let long = long_new in
        subst (IsRewritten parent slum cells) (sym same) (record {
          level = (omega (arith, up, low), level_most parent (omega (arith, up)) sound);
          rise = stand_rise (rank parent.hi) new_items stand_new;
          fit = fit_append parent.level before (map pointer_item cells ++ behind)
              (fit_left parent.level before (gone ++ behind) fits)
              (fit_append parent.level (map pointer_item cells) behind
              (pointers_fit (λ (c : CellSeen). c) parent.level cells (omega (arith, up, low)))
              (fit_right parent.level gone behind (fit_right parent.level before (gone ++ behind) fits)));
          bodies = bodies_append before (map pointer_item cells ++ behind) (bodies_left before (gone ++ behind) have)
              (bodies_append (map pointer_item cells) behind (pointer_bodies cells)
              (bodies_right gone behind (bodies_right before (gone ++ behind) have)));
          room = weigh_new;
          lies = stand_good parent.level (rank parent.lo) (rank parent.hi) 0 new_items stand_new (omega (arith, first))
              (λ zeroth. first);
          some = omega (arith, long, some);
          able = able;
          below = r.l;
          stood = stood;
          are = refl;
        })
      where
        long_pointers : (cs : List CellSeen) → length (map pointer_item cs) ≡ length cs
        long_pointers [] = refl
        long_pointers (c ∷ cs) = ap suc (long_pointers cs)

        long_new : length cells ≤ length new_items
        long_new =
            let one = length-append (take at (items_of parent.block))
            (map pointer_item cells ++ drop (length slum) (drop at (items_of parent.block))) in
            let two = length-append (map pointer_item cells) (drop (length slum) (drop at (items_of parent.block))) in
            let many = long_pointers cells in
            omega (arith, one, two, many)

-- ---- what the code puts together

pub parent_some : (slum : List CellSeen) (parent : CellSeen) → IsSlumOf slum parent → 1 ≤ parent.level
parent_some [] parent s = absurd (let follow = s.beside.follow in let some = s.beside.some in omega (arith, follow, some))
parent_some (c ∷ rest) parent s = let up = (slum_level (c ∷ rest) parent c rest refl s).1 in omega (arith, up)

pub items_are : {A B : Type 0} (parent : CellSeen) (f : A → CellSeen) (g : B → CellSeen) (xs : List A) (ys : List B) (at : ℕ)
    (view items : List Item)
    → items ≡ take at view ++ (map (λ y. pointer_item (g y)) ys ++ drop (at + length xs) view)
    → view ≡ items_of parent.block
    → items ≡ take at (items_of parent.block)
    ++ (map pointer_item (map g ys) ++ drop (at + length (map f xs)) (items_of parent.block))
items_are parent f g xs ys at view items is same =
    is ∙ (ap (λ zs. take at zs ++ (map (λ y. pointer_item (g y)) ys ++ drop (at + length xs) zs)) same
    ∙ (ap (λ zs. take at (items_of parent.block) ++ (zs ++ drop (at + length xs) (items_of parent.block))) (map_twice g ys)
    ∙ ap (λ n. take at (items_of parent.block) ++ (map pointer_item (map g ys) ++ drop (at + n) (items_of parent.block)))
    (sym (long_map f xs))))

pub new_stands : (parent : CellSeen) (items : List Item) (b : List ℕ) (l level lo hi : ℕ) → l ≡ parent.level
    → level ≡ parent.level → lo ≡ rank parent.lo → hi ≡ rank parent.hi → IsNodeOf l items b → 2 ≤ parent.level
    → 0 < length items → Good parent.level (rank parent.lo) (rank parent.hi) 0 items
    → cell_fault true (2 ^ 64) level lo hi b ≡ None
new_stands parent items b l level lo hi is same from to node two some lies =
    subst (λ k. cell_fault true (2 ^ 64) k lo hi b ≡ None) (sym same)
    (subst (λ k. cell_fault true (2 ^ 64) parent.level k hi b ≡ None) (sym from)
    (subst (λ k. cell_fault true (2 ^ 64) parent.level (rank parent.lo) k b ≡ None) (sym to)
    (lying_sound parent.level (rank parent.lo) (rank parent.hi) items b (omega (arith, two))
    (subst (λ k. IsNodeOf k items b) is node) (λ _. some) lies)))

pub over_is : (parent : CellSeen) (slum cells : List CellSeen) (items : List Item) (over : CellSeen) (id level : ℕ) (lo hi : Key)
    (b : List ℕ) → over ≡ record { id = id; level = level; lo = lo; hi = hi; block = b } → id ≡ parent.id
    → level ≡ parent.level → lo ≡ parent.lo → hi ≡ parent.hi → IsSound parent → IsRewritten parent slum cells items
    → IsNodeOf parent.level items b → mkfs_id_of b ≡ mkfs_id_of parent.block → IsOver parent slum cells over
over_is parent slum cells items over id level lo hi b is same_id same_level same_lo same_hi sound done node mkfs =
    subst (IsOver parent slum cells) (sym is) (record {
      id = same_id;
      level = same_level;
      lo = same_lo;
      hi = same_hi;
      mkfs_id = mkfs;
      was_sound = sound;
      sound = record {
        whole = node.node.laid.whole;
        accepted = new_stands parent items b parent.level level (rank lo) (rank hi) refl same_level (ap rank same_lo)
            (ap rank same_hi) node done.level.0 done.some done.lies;
      };
      below = done.below;
      stood = done.stood;
      able = done.able;
      items = node.items_are ∙ done.are;
    })
