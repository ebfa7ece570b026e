-- A twig that takes a piece, or has no room for it.
use Rattle.std.proofs.Common.{◌≡◌, ◌⊎◌, ℕ, ◌+◌, ◌-◌, ◌*◌, ◌^◌, ◌<◌, ◌≤◌, Bool, true, false, List, [], ◌∷◌, ◌++◌, length, inl, inr, refl, sym, ap, subst, ◌∙◌, arith}
use Rattle.std.specs.Prelude.{slice_get, slice_index, Some, None, ◌==◌, nat_lt, if◌then◌else◌}
use Rattle.std.proofs.lemmas.Bool.Decides.{nat_tests}
use Rattle.std.proofs.lemmas.Bool.{cases_lt, eqb-true, ltb-true}
use Rattle.std.proofs.lemmas.List.{append-nil, length-append}
use Rattle.r4_base.specs.Cell.{block_names, hole_bytes, item_end, item_names, item_units}
use Rattle.r4_base.specs.Extents.{AreLawfulUnits, blocks_in, units_of as units_in_body}
use Rattle.r4_base.specs.Key.{IsKey, offset_of, rank}
use Rattle.r4_base.specs.Node.{Item, count_of, items_of, mkfs_id_of}
use Rattle.r4_base.specs.declared.items.Unit.{Unit as ExtentUnit}
use Rattle.r4_base.specs.declared.key.Key.{Key}
use Rattle.r4_base.specs.declared.things.NodeId.{NodeId}
use Rattle.r4_node40.specs.Edits.{GoesBetween}
use Rattle.r4_node40.specs.Laid.{room_of}
use Rattle.r4_twig.proofs.Faults.{body_lawful, body_none}
use Rattle.r4_branch.specs.Filling.{Holds, IsFilled, IsFullFor, IsPlace, IsPlaceFor, Puts, Spells, continues_item, extent_end, item_open_end, need}
use Rattle.r4_branch.specs.Items.{IsSoundItem}
use Rattle.r4_branch.specs.Pieces.{IsSound, IsSoundPart, is_at, last_end, open_end, part_bytes, part_end, part_names, part_units}
use Rattle.r4_branch.specs.declared.piece.TwigPart.{TwigPart}
use Rattle.r4_branch.specs.declared.piece.TwigPart.TheVariants.{Pointer, Blocks}
use Rattle.r4_branch.specs.declared.piece.TwigPiece.{TwigPiece}
use Rattle.r4_branch.proofs.Bodied.{bodied}
use Rattle.r4_branch.proofs.Growing.{Grows, filled_more, goes_last, last_item, no_tip, tip}
use Rattle.r4_branch.proofs.Joined.{blocks_joined, holes_joined, lawful_joined, runs_joined, units_joined}
use Rattle.r4_branch.proofs.Lying.{lie_sound}
use Rattle.r4_branch.proofs.SoundItems.{extent_item, pointer_item}
use Rattle.r4_branch.proofs.Spelled.{extent_sound, pointer_number, pointer_sound}

-- ---- whether a unit continues the last item

at_item : (it : Item) (key : Key) → is_at (item_open_end it) (rank key) ≡ continues_item it key 5
at_item it key = by_test (it.plugin == 5)
  where
    by_test : (t : Bool) → is_at (if t then extent_end it else None) (rank key) ≡ (if t then is_at (extent_end it) (rank key) else false)
    by_test true = refl
    by_test false = refl

both_tests : (a c : Bool) → (if a then c else false) ≡ true → (a ≡ true) × (c ≡ true)
both_tests true c h = (refl, h)
both_tests false c h = absurd cc

-- an extent that is continued at a key ends there
ends_at : (it : Item) (k : ℕ) → is_at (extent_end it) k ≡ true → (offset_of it.key + 4096 * blocks_in (units_in_body it.body) < 2 ^ 64) × (rank it.key + 4096 * blocks_in (units_in_body it.body) ≡ k)
ends_at it k h = by_test (nat_lt (offset_of it.key + 4096 * blocks_in (units_in_body it.body)) (2 ^ 64)) refl h
  where
    by_test : (t : Bool) → t ≡ nat_lt (offset_of it.key + 4096 * blocks_in (units_in_body it.body)) (2 ^ 64) → is_at (if t then Some (rank it.key + 4096 * blocks_in (units_in_body it.body)) else None) k ≡ true
        → (offset_of it.key + 4096 * blocks_in (units_in_body it.body) < 2 ^ 64) × (rank it.key + 4096 * blocks_in (units_in_body it.body) ≡ k)
    by_test true e h = (ltb-true _ _ (sym e), eqb-true _ _ h)
    by_test false e h = absurd cc

-- the plugin of what is continued, and of what continues it
continued : (it : Item) (key : Key) (plugin : ℕ) → continues_item it key plugin ≡ true → (plugin ≡ 5) × (it.plugin ≡ 5) × (is_at (extent_end it) (rank key) ≡ true)
continued it key plugin h =
    let a = both_tests (plugin == 5) _ h in
    let b = both_tests (it.plugin == 5) (is_at (extent_end it) (rank key)) a.1 in
    (eqb-true _ _ a.0, eqb-true _ _ b.0, b.1)

module _ (lo mid : ℕ) (ps : List TwigPiece) (b : List ℕ) (key : Key) (i used : ℕ) (f : IsFilled lo mid ps b) (p : IsPlaceFor b key 5 i used) where
  at_new : used ≡ 0 → is_at (last_end None ps) (rank key) ≡ false
  at_new none = elim (cases_lt 0 (count_of b)) [
    | inl some ↦ new_some (omega (arith, some))
    | inr past ↦ ap (λ o. is_at o (rank key)) (no_tip lo mid ps b f (omega (arith, past)))
  ]
    where
      new_some : 1 ≤ count_of b → is_at (last_end None ps) (rank key) ≡ false
      new_some some =
          let it = last_item b some in
          ap (λ o. is_at o (rank key)) (tip lo mid ps b it.0 f some it.1) ∙ (at_item it.0 key ∙ (p.new none).1 it.0 it.1)

  at_old : 1 ≤ used → is_at (last_end None ps) (rank key) ≡ true
  at_old some =
      let o = p.old some in
      let next = o.1 in
      let at : slice_get (items_of b) (count_of b - 1) ≡ Some o.0 = subst (λ k. slice_get (items_of b) k ≡ Some o.0) (omega (arith, next)) o.2 in
      ap (λ o. is_at o (rank key)) (tip lo mid ps b o.0 f (omega (arith, next)) at) ∙ (at_item o.0 key ∙ o.4)

-- ---- what a piece costs

header_new : (used : ℕ) → used ≡ 0 → (let h : ℕ = if used == 0 then 38 else 0 in h) ≡ 38
header_new used none = grind (arith, nat_tests, none)

header_old : (used : ℕ) → 1 ≤ used → (let h : ℕ = if used == 0 then 38 else 0 in h) ≡ 0
header_old used some = grind (arith, nat_tests, some)

-- a pointer begins an item
alone : (b : List ℕ) (key : Key) (plugin i used : ℕ) → IsPlaceFor b key plugin i used → plugin ≡ 3 → used ≡ 0
alone b key plugin i used p is = elim (cases_lt 0 used) [
  | inl some ↦ let o = p.old some in let five = (continued o.0 key plugin o.4).0 in absurd (omega (arith, is, five))
  | inr past ↦ omega (arith, past)
]

pub part_cost : (lo mid : ℕ) (ps : List TwigPiece) (b : List ℕ) (key : Key) (part : TwigPart) (plugin i used : ℕ) (body : List ℕ) → IsFilled lo mid ps b → IsPlaceFor b key plugin i used → Spells part plugin body
    → part_bytes (last_end None ps) (rank key) part ≡ length body + (if used == 0 then 38 else 0)
part_cost lo mid ps b key (Pointer to) plugin i used body f p s =
    let long = s.1 in
    let h = header_new used (alone b key plugin i used p s.0) in
    omega (arith, long, h)
part_cost lo mid ps b key (Blocks u) plugin i used body f p s = elim (cases_lt 0 used) [
  | inl some ↦
      let long = s.1 in
      let h = header_old used some in
      let c = unit_cost true (at_old lo mid ps b key i used f place some) in
      omega (arith, long, h, c)
  | inr past ↦
      let long = s.1 in
      let h = header_new used (omega (arith, past)) in
      let c = unit_cost false (at_new lo mid ps b key i used f place (omega (arith, past))) in
      omega (arith, long, h, c)
]
  where
    place : IsPlaceFor b key 5 i used
    place = subst (λ n. IsPlaceFor b key n i used) s.0 p

    unit_cost : (t : Bool) → is_at (last_end None ps) (rank key) ≡ t → part_bytes (last_end None ps) (rank key) (Blocks u) ≡ (if t then 16 else 54)
    unit_cost t e = ap {B = ℕ} (λ (x : Bool). if x then 16 else 54) e

need_is : (it : Item) (used n : ℕ) → length it.body ≡ used → need it n ≡ n + (if used == 0 then 38 else 0)
need_is it used n is = ap (λ (m : ℕ). n + (if m == 0 then 38 else 0)) is

-- ---- an item that begins with a piece

module _ (key : Key) (plugin : ℕ) (body : List ℕ) (is_key : IsKey key) where
  -- What the item has.
  pub record IsAlone (part : TwigPart) : Type 0 where
    pub sound : IsSoundItem (record { key = key; plugin = plugin; body = body })
    pub end : item_end (record { key = key; plugin = plugin; body = body }) ≡ part_end (rank key) part
    pub names : (hi : ℕ) → item_names 2 hi (record { key = key; plugin = plugin; body = body }) ≡ part_names (rank key) hi part
    pub units : item_units (record { key = key; plugin = plugin; body = body }) ≡ part_units (rank key) part
    pub last : item_open_end (record { key = key; plugin = plugin; body = body }) ≡ open_end (record { key = key; part = part })

  alone_pointer : (to : NodeId) → Spells (Pointer to) plugin body → IsSoundPart (offset_of key) (Pointer to) → IsAlone (Pointer to)
  alone_pointer to s named =
      let sound = pointer_sound key plugin body to.0 s.0 is_key s.1 s.2 named in
      let own = pointer_item (record { key = key; plugin = plugin; body = body }) s.0 sound in
      let test : (plugin == 5) ≡ false = ap (λ (x : ℕ). x == 5) s.0 in
      record {
        sound = sound;
        end = own.end;
        names = λ hi. own.names hi ∙ ap (λ (n : ℕ). (record { id = n; level = 1; lo = rank key; hi = hi }) ∷ []) (pointer_number body to.0 s.2);
        units = own.units;
        last = rw test refl;
      }

  alone_unit : (u : ExtentUnit) → Spells (Blocks u) plugin body → IsSoundPart (offset_of key) (Blocks u) → IsAlone (Blocks u)
  alone_unit u s sound_part =
      let long = s.1 in
      let lawful : AreLawfulUnits true (2 ^ 64) (units_in_body body) = subst (AreLawfulUnits true (2 ^ 64)) (sym s.2) (sound_part.0, tt) in
      let good = body_none true (2 ^ 64) body (omega (arith, long), omega (arith, long), lawful) in
      let count : blocks_in (units_in_body body) ≡ u.width + 0 = ap blocks_in s.2 in
      let fits = sound_part.1 in
      let sound = extent_sound key plugin body s.0 is_key good (omega (arith, count, fits)) (omega (arith, long)) in
      let own = extent_item (record { key = key; plugin = plugin; body = body }) s.0 sound in
      let test : (plugin == 5) ≡ true = ap (λ (x : ℕ). x == 5) s.0 in
      let end = own.end in
      let offset : offset_of key + 4096 * blocks_in (units_in_body body) ≡ offset_of key + 4096 * u.width = omega (arith, count) in
      let at : rank key + 4096 * blocks_in (units_in_body body) ≡ rank key + 4096 * u.width = omega (arith, count) in
      record {
        sound = sound;
        end = omega (arith, end, count);
        names = λ hi. own.names hi ∙ (ap (block_names (rank key)) s.2 ∙ append-nil (part_names (rank key) hi (Blocks u)));
        units = own.units ∙ (ap (hole_bytes (rank key)) s.2 ∙ append-nil (part_units (rank key) (Blocks u)));
        last = rw test (λ j. if nat_lt (offset j) (2 ^ 64) then Some (at j) else None);
      }

  pub is_alone : (part : TwigPart) → Spells part plugin body → IsSoundPart (offset_of key) part → IsAlone part
  is_alone (Pointer to) s sound = alone_pointer to s sound
  is_alone (Blocks u) s sound = alone_unit u s sound

-- ---- an extent that goes on with a unit

upper : Key → ℕ
upper k = slice_index k.el 0 * 2 ^ 128 + (slice_index k.el 1 * 2 ^ 64 + slice_index k.el 2)

rank_is : (k : Key) → rank k ≡ upper k * 2 ^ 64 + offset_of k
unfolding rank upper
rank_is k = omega arith

same_offset : (x y k e n : ℕ) → x * 2 ^ 64 + k + n ≡ y * 2 ^ 64 + e → k + n < 2 ^ 64 → e < 2 ^ 64 → e ≡ k + n
same_offset x y k e n same low small = omega arith

module _ (it : Item) (key : Key) (u : ExtentUnit) (body : List ℕ) (is_key : IsKey key) (old : IsSoundItem it) (is : it.plugin ≡ 5) (at : is_at (extent_end it) (rank key) ≡ true)
    (long : length body ≡ 16) (one : units_in_body body ≡ u ∷ []) (part : IsSoundPart (offset_of key) (Blocks u)) (short : length it.body ≤ 4030) where
  it2 : Item
  it2 = record { key = it.key; plugin = it.plugin; body = it.body ++ body }

  next : rank it.key + 4096 * blocks_in (units_in_body it.body) ≡ rank key
  next = (ends_at it (rank key) at).1

  offset_next : offset_of key ≡ offset_of it.key + 4096 * blocks_in (units_in_body it.body)
  offset_next =
      let e = (ends_at it (rank key) at).0 in
      let n = next in
      let a = rank_is it.key in
      let c = rank_is key in
      same_offset (upper it.key) (upper key) (offset_of it.key) (offset_of key) (4096 * blocks_in (units_in_body it.body)) (omega (arith, a, c, n)) e (is_key.small 3)

  joined : units_in_body (it.body ++ body) ≡ units_in_body it.body ++ u ∷ []
  joined = units_joined it.body body u (body_lawful true (2 ^ 64) it.body (extent_item it is old).body).1 long one

  count : blocks_in (units_in_body (it.body ++ body)) ≡ blocks_in (units_in_body it.body) + u.width
  count = ap blocks_in joined ∙ blocks_joined (units_in_body it.body) u

  sound : IsSoundItem it2
  unfolding it2
  sound =
      let lawful = body_lawful true (2 ^ 64) it.body (extent_item it is old).body in
      let even = lawful.1 in
      let both = length-append it.body body in
      let all : AreLawfulUnits true (2 ^ 64) (units_in_body (it.body ++ body)) = subst (AreLawfulUnits true (2 ^ 64)) (sym joined) (lawful_joined (units_in_body it.body) u lawful.2 part.0) in
      let good = body_none true (2 ^ 64) (it.body ++ body) (omega (arith, both, long), omega (arith, both, long, even), all) in
      let n = count in
      let off = offset_next in
      let fits = part.1 in
      extent_sound it.key it.plugin (it.body ++ body) is old.key good (omega (arith, n, off, fits)) (omega (arith, both, long, short))

  names : (hi : ℕ) → item_names 2 hi it2 ≡ item_names 2 (rank key) it ++ part_names (rank key) hi (Blocks u)
  unfolding it2
  names hi =
      (extent_item it2 is sound).names hi
      ∙ (ap (block_names (rank it.key)) joined
      ∙ (runs_joined (rank it.key) hi (units_in_body it.body) u
      ∙ (λ j. sym ((extent_item it is old).names (rank key)) j ++ part_names (next j) hi (Blocks u))))

  units : item_units it2 ≡ item_units it ++ part_units (rank key) (Blocks u)
  unfolding it2
  units =
      (extent_item it2 is sound).units
      ∙ (ap (hole_bytes (rank it.key)) joined
      ∙ (holes_joined (rank it.key) (units_in_body it.body) u
      ∙ (λ j. sym (extent_item it is old).units j ++ part_units (next j) (Blocks u))))

  ends : item_open_end it2 ≡ open_end (record { key = key; part = Blocks u })
  unfolding it2
  ends =
      let n = count in
      let off = offset_next in
      let far = next in
      let test : (it.plugin == 5) ≡ true = ap (λ (x : ℕ). x == 5) is in
      let offset : offset_of it.key + 4096 * blocks_in (units_in_body (it.body ++ body)) ≡ offset_of key + 4096 * u.width = omega (arith, n, off) in
      let to : rank it.key + 4096 * blocks_in (units_in_body (it.body ++ body)) ≡ rank key + 4096 * u.width = omega (arith, n, far) in
      rw test (λ j. if nat_lt (offset j) (2 ^ 64) then Some (to j) else None)

  pub grows_unit : (ps : List TwigPiece) → 1 ≤ length it.body → part_bytes (last_end None ps) (rank key) (Blocks u) + length it.body ≡ need it (length (it.body ++ body)) → Grows ps (record { key = key; part = Blocks u }) it (it.body ++ body)
  unfolding it2
  grows_unit ps some cost = record {
    sound = sound;
    end = let end = (extent_item it2 is sound).end in let n = count in let far = next in omega (arith, end, n, far);
    start = λ none. absurd (omega (arith, some, none));
    names_new = λ none. absurd (omega (arith, some, none));
    names_old = λ more hi. names hi;
    units_new = λ none. absurd (omega (arith, some, none));
    units_old = λ more. units;
    last = ends;
    cost = cost;
  }

-- ---- the item that takes a piece

-- The item at the place of a piece's key, and what its body makes of it.
pub record Takes (b : List ℕ) (ps : List TwigPiece) (p : TwigPiece) (plugin i used : ℕ) (body : List ℕ) : Type 0 where
  pub it : Item
  pub place : IsPlace b i it
  pub long : length it.body ≡ used
  pub kind : it.plugin ≡ plugin
  pub new : used ≡ 0 → it.key ≡ p.key
  pub grows : Grows ps p it (it.body ++ body)

level_plugin : (part : TwigPart) (plugin : ℕ) (body : List ℕ) → Spells part plugin body → (plugin ≡ 3) ⊎ (plugin ≡ 5)
level_plugin (Pointer to) plugin body s = inl s.0
level_plugin (Blocks u) plugin body s = inr s.0

module _ (lo mid : ℕ) (ps : List TwigPiece) (b : List ℕ) (p : TwigPiece) (plugin i used : ℕ) (body : List ℕ) (f : IsFilled lo mid ps b) (low : mid ≤ rank p.key) (at : IsPlaceFor b p.key plugin i used)
    (spells : Spells p.part plugin body) (sound : IsSound p) where
  costs : (it : Item) → length it.body ≡ used → part_bytes (last_end None ps) (rank p.key) p.part + length it.body ≡ need it (length (it.body ++ body))
  costs it long =
      let c = part_cost lo mid ps b p.key p.part plugin i used body f at spells in
      let n = need_is it used (length (it.body ++ body)) long in
      let both = length-append it.body body in
      omega (arith, c, n, both)

  takes_new : used ≡ 0 → Takes b ps p plugin i used body
  takes_new none =
      let own = is_alone p.key plugin body sound.0 p.part spells sound.1 in
      let it : Item = record { key = p.key; plugin = plugin; body = [] } in
      record {
        it = it;
        place = record {
          node = f.node;
          level = f.level;
          plugin = level_plugin p.part plugin body spells;
          new = λ e. ((at.new none).0, subst (λ k. GoesBetween (items_of b) k p.key) (sym (at.new none).0) (goes_last lo mid ps b p.key f low));
          old = λ some. absurd (omega (arith, some));
        };
        long = sym none;
        kind = refl;
        new = λ e. refl;
        grows = record {
          sound = own.sound;
          end = own.end;
          start = λ e. refl;
          names_new = λ e hi. own.names hi;
          names_old = λ some. absurd (omega (arith, some));
          units_new = λ e. own.units;
          units_old = λ some. absurd (omega (arith, some));
          last = own.last;
          cost = costs it (sym none);
        };
      }

  takes_old : 1 ≤ used → Takes b ps p plugin i used body
  takes_old some =
      let o = at.old some in
      let it = o.0 in
      let c = continued it p.key plugin o.4 in
      let long = o.3 in
      record {
        it = it;
        place = record {
          node = f.node;
          level = f.level;
          plugin = inr c.1;
          new = λ none. absurd (omega (arith, none, long, some));
          old = λ e. (o.1, o.2);
        };
        long = o.3;
        kind = c.1 ∙ sym c.0;
        new = λ none. absurd (omega (arith, none, some));
        grows = by_part p.part spells sound.1 (costs it o.3);
      }
    where
      by_part : (part : TwigPart) → Spells part plugin body → IsSoundPart (offset_of p.key) part
          → part_bytes (last_end None ps) (rank p.key) part + length (at.old some).0.body ≡ need (at.old some).0 (length ((at.old some).0.body ++ body)) → Grows ps (record { key = p.key; part = part }) (at.old some).0 ((at.old some).0.body ++ body)
      by_part (Pointer to) s named cost = let five = (continued (at.old some).0 p.key plugin (at.old some).4).0 in let three = s.0 in absurd (omega (arith, five, three))
      by_part (Blocks u) s fits cost =
          let o = at.old some in
          let it = o.0 in
          let c = continued it p.key plugin o.4 in
          let long = o.3 in
          grows_unit it p.key u body sound.0 (lie_sound lo mid (items_of b) i it f.lie o.2) c.1 c.2 s.1 s.2 fits (bodied b f.node.laid i it o.2).1 ps (omega (arith, long, some)) cost

  pub takes_piece : Takes b ps p plugin i used body
  takes_piece = elim (cases_lt 0 used) [
    | inl some ↦ takes_old some
    | inr past ↦ takes_new (omega (arith, past))
  ]

-- ---- what was put, and what there is no room for

module _ (b c : List ℕ) (p : TwigPiece) (plugin i used : ℕ) (body : List ℕ) (at : IsPlaceFor b p.key plugin i used) (spells : Spells p.part plugin body) where
  module _ (sound : IsSound p) (room : length body + (if used == 0 then 38 else 0) ≤ room_of b)
      (holds : (it : Item) → IsPlace b i it → length it.body ≡ used → it.plugin ≡ plugin → (used ≡ 0 → it.key ≡ p.key) → need it (length body) ≤ room_of b → Holds b i it (it.body ++ body) c) where
    held : (lo mid : ℕ) (ps : List TwigPiece) (t : Takes b ps p plugin i used body) → Holds b i t.it (t.it.body ++ body) c
    held lo mid ps t = let n = need_is t.it used (length body) t.long in holds t.it t.place t.long t.kind t.new (omega (arith, n, room))

    pub piece_puts : Puts p b c
    piece_puts = record {
      filled = λ lo mid ps f le.
          let t = takes_piece lo mid ps b p plugin i used body f le at spells sound in
          filled_more lo mid ps b i t.it (t.it.body ++ body) c p f t.place (held lo mid ps t) le t.grows;
    }

    pub same_id : (lo mid : ℕ) (ps : List TwigPiece) → IsFilled lo mid ps b → mid ≤ rank p.key → mkfs_id_of c ≡ mkfs_id_of b
    same_id lo mid ps f le = (held lo mid ps (takes_piece lo mid ps b p plugin i used body f le at spells sound)).id

  pub full_for : room_of b < length body + (if used == 0 then 38 else 0) → IsFullFor p b
  full_for low = record { full = λ lo mid ps f. let r = f.room in let k = part_cost lo mid ps b p.key p.part plugin i used body f at spells in omega (arith, r, k, low) }

pub place_is : (lo mid : ℕ) (ps : List TwigPiece) (b : List ℕ) (p : TwigPiece) (plugin i used : ℕ) (body : List ℕ) → IsFilled lo mid ps b → mid ≤ rank p.key → IsPlaceFor b p.key plugin i used → Spells p.part plugin body → IsSound p
    → length body + (if used == 0 then 38 else 0) ≤ room_of b
    → (it : Item) × IsPlace b i it × (length it.body ≡ used) × (it.plugin ≡ plugin) × (used ≡ 0 → it.key ≡ p.key) × (need it (length body) ≤ room_of b)
place_is lo mid ps b p plugin i used body f low at spells sound room =
    let t = takes_piece lo mid ps b p plugin i used body f low at spells sound in
    let n = need_is t.it used (length body) t.long in
    (t.it, t.place, t.long, t.kind, t.new, omega (arith, n, room))
