use Rattle.std.proofs.Common.{◌≡◌, refl, ◌+◌, ◌/◌, ℕ, List, [], ◌∷◌, ◌++◌, length, length-take, map, take, sym, ap, ◌∙◌, arith}
use Rattle.std.specs.Arc.{arc_value}
use Rattle.std.specs.Ordering.{nat_cmp}
use Rattle.std.specs.BTreeMap.{get}
use Rattle.std.proofs.lemmas.List.{length-map}
use Rattle.r4_base.specs.declared.things.BlockNo.{BlockNo}
use Rattle.r4_place.specs.r4_cell.Seen.{CellSeen}
use Rattle.r4_space.specs.Space.{unused_count}
use Rattle.r4_wander.specs.Seen.{Copy}
use Rattle.r4_wander.specs.Torn.{Write}
use Rattle.r4_wander.specs.declared.plan.LogPlan.{LogPlan}
use Rattle.r4_commit.specs.Held.{blocks_in}
use Rattle.r4_commit.specs.Places.{overwritten, overwritten_blocks, place_of}
use Rattle.r4_commit.specs.Planned.{blocks_of, new_super}
use Rattle.r4_commit.proofs.HeldBlocks.{number}
use Rattle.r4_commit.proofs.PlanFacts.{length-new_homes}
use Rattle.r4_commit.proofs.PlanMaking.{IsMadeOf, is_plan, is_below, can_be_written, room_enough}
use Rattle.r4_commit.proofs.planning.make_plan.Goals as goal

pub find_log-requires-clause-unused : goal.find_log-requires-clause-unused
find_log-requires-clause-unused c =
    let cells : List CellSeen = map (λ cell. arc_value cell) c.args.cells.now in
    let place : ℕ → _ = get nat_cmp c.in_ok-places.places in
    let same : place ≡ place_of c.args.placed.now = λ i name. c.in_ok-places.ensures name i in
    let long = ap (λ (l : List Write). length l) c.in_ok-homes.ensures.homes ∙ length-new_homes c.renew_super-last.result c.in_ok-bitmaps.bitmaps.items (overwritten place cells) in
    let kept : length (overwritten place cells) ≡ length (overwritten_blocks c.args.placed.now cells) = ap (λ f. length (overwritten f cells)) same ∙ sym (length-map (overwritten (place_of c.args.placed.now) cells) (λ (x : CellSeen). x.id)) in
    room_enough c.len-copies.result _ _ (unused_count c.args.space.now) (omega (arith, c.len-copies.ensures, long, kept, c.in_ok-bitmaps.ensures.count)) c.requires.room

-- the plan that is returned
abbrev plan_of : (c : goal.After-drop-places-2) → LogPlan
plan_of c = record {
  id = c.renew_super-last.result.flushes;
  prev = c.args.prev;
  head = c.in_ok-log.log.head;
  records = c.from_vec.result;
  placed = c.from_vec-2.result;
  wandered = c.from_vec-3.result;
  free_blocks = c.renew_super-last.result.free_blocks;
  nr_files = c.renew_super-last.result.file_count;
  next_oid = c.renew_super-last.result.oid;
}

copies_are : (c : goal.After-drop-places-2) → map (λ (w : Copy). w.copy) c.from_vec-3.result ≡ map number (take c.len-copies.result c.in_ok-log.log.all.items)
copies_are c = ap (map (λ (w : Copy). w.copy)) c.from_vec-3.ensures ∙ c.in_ok-wandered.ensures.copies ∙ ap (λ (l : List BlockNo). map number (take c.len-copies.result l)) c.deref-2.ensures.value

counted : (c : goal.After-drop-places-2) → length c.from_vec-3.result ≡ c.len-copies.result
counted c = sym (length-map c.from_vec-3.result (λ (w : Copy). w.copy)) ∙ ap (λ (l : List ℕ). length l) (copies_are c) ∙ length-map (take c.len-copies.result c.in_ok-log.log.all.items) number ∙ (let within = c.in_ok-log.ensures.copies in omega (arith, length-take c.len-copies.result c.in_ok-log.log.all.items, within))

records_counted : (c : goal.After-drop-places-2) → length c.from_vec.result ≡ (length c.from_vec-3.result + 253) / 254
records_counted c = ap (λ (l : List ℕ). length l) c.from_vec.ensures ∙ length-map c.in_ok-log.log.records.items number ∙ c.in_ok-log.ensures.records ∙ ap (λ (n : ℕ). (n + 253) / 254) (sym (counted c))

blocks_are : (c : goal.After-drop-places-2) → blocks_of (plan_of c) ≡ blocks_in c.in_ok-log.log
blocks_are c = ap (λ (l : List ℕ). l ++ (c.from_vec.result ++ c.in_ok-log.log.head.0 ∷ [])) (copies_are c)
    ∙ ap (λ (l : List ℕ). map number (take c.len-copies.result c.in_ok-log.log.all.items) ++ (l ++ c.in_ok-log.log.head.0 ∷ [])) c.from_vec.ensures ∙ sym c.in_ok-log.ensures.parts

made : (c : goal.After-drop-places-2) → IsMadeOf c.args.space.now c.args.atom (map (λ cell. arc_value cell) c.args.cells.now) c.args.placed.now c.args.next.now c.renew_super-last.result c.args.prev (get nat_cmp c.in_ok-places.places) c.in_ok-bitmaps.bitmaps.items
    (blocks_in c.in_ok-log.log) (plan_of c)
made c = record {
  places = c.in_ok-places.ensures;
  placed = c.from_vec-2.ensures ∙ c.in_ok-placed.ensures;
  are_new = c.in_ok-bitmaps.ensures;
  super_is = c.renew_super-last.ensures ∙ ap (new_super c.args.next.now) c.deref.ensures.value;
  homes = ap (map (λ (w : Copy). (w.original, w.block))) c.from_vec-3.ensures ∙ c.in_ok-wandered.ensures.homes ∙ c.in_ok-homes.ensures.homes;
  reads = c.in_ok-homes.ensures.reads;
  id = refl;
  free_blocks = refl;
  nr_files = refl;
  next_oid = refl;
  prev = refl;
  records = records_counted c;
  blocks_are = blocks_are c;
  different = c.in_ok-log.ensures.different;
  unused = c.in_ok-log.ensures.unused;
  head = c.in_ok-log.ensures.head;
}

pub returns-clause-is_for : goal.returns-clause-is_for
returns-clause-is_for c = is_plan _ _ _ _ _ _ _ _ _ _ _ (made c)

pub returns-clause-below : goal.returns-clause-below
returns-clause-below c = is_below _ _ _ _ _ _ _ _ _ _ _ (made c) c.lawful.ensures c.requires.overwritten c.requires.placed

pub returns-clause-written : goal.returns-clause-written
returns-clause-written c = can_be_written _ _ _ _ _ _ _ _ _ _ _ (made c) c.lawful.ensures c.requires.overwritten c.requires.placed

pub returns-clause-blocks : goal.returns-clause-blocks
returns-clause-blocks c = sym (blocks_are c)
