use Rattle.std.proofs.Common.{◌≡◌, ℕ, ◌++◌, List, map, inl, inr, ⊎_elim, ap, ◌∙◌, arith}
use Rattle.std.specs.Prelude.{◌↔◌, Contains, Option, Some, filter}
use Rattle.std.specs.BTreeMap.{BTreeMap}
use Rattle.r4_atoms.specs.Atoms.{numbers, owner_of}
use Rattle.r4_base.specs.declared.things.NodeId.{NodeId}
use Rattle.r4_flush.specs.declared.cells.RenamedCell.{RenamedCell}
use Rattle.r4_turns.specs.Turns.{TurnsSeen}
use Rattle.r4_turns.specs.declared.turn.Turn.{Turn}
use Rattle.r4_renaming.specs.Renamed.{CanRename, Parts}
use Rattle.r4_renaming.specs.Renaming.{name_then, turns_with_pins}
use Rattle.r4_renaming.specs.Steps.{IsFreeNode, is_placed, name_in, new_nodes, pins_then, turns_keeping}
use Rattle.r4_renaming.proofs.Owned.{AreMovable, movable_by_first, nodes_are, owners_by_first}
use Rattle.r4_renaming.proofs.Standing.{from_same}
use Rattle.r4_renaming.proofs.Tasks.{can_keep, keeping_all}
use Rattle.r4_renaming.proofs.renaming.rename_atom.Goals as goal

turns_are : (t : TurnsSeen) (names : BTreeMap ℕ ℕ) (pins : List (Option (List NodeId))) (rs qs : List RenamedCell)
    → pins ≡ map (λ (x : Turn). pins_then (name_in names) x.out) t.turns
    → ((i : ℕ) → name_in names i ≡ name_then qs i) → qs ≡ rs
    → record t { turns = turns_keeping pins t.turns } ≡ turns_with_pins (name_then rs) t
turns_are t names pins rs qs are named same =
    let by_name : name_in names ≡ name_then qs = λ i j. named j i in
    ap (λ (l : List (Option (List NodeId))). record t { turns = turns_keeping l t.turns }) are
    ∙ ap (λ (l : List Turn). record t { turns = l }) (keeping_all (name_in names) t.turns)
    ∙ ap (λ (f : ℕ → ℕ). turns_with_pins f t) by_name
    ∙ ap (λ (l : List RenamedCell). turns_with_pins (name_then l) t) same

movable : (p : Parts) (a : ℕ) (rs : List RenamedCell) (owned : List NodeId) → CanRename p a rs
    → ((i : ℕ) → Contains (numbers owned) i ↔ (owner_of p.atoms i ≡ Some a)) → AreMovable a p.atoms rs owned
movable p a rs owned can mine = (can.some, (can.before, (can.own, (free, mine))))
  where
    free : (r : RenamedCell) → Contains rs r → IsFreeNode p.atoms r
    free r has = ⊎_elim
        (λ stays. inl stays)
        (λ (high, low, there, none). inr (high, low, none))
        (can.may r has)

pub rename_owned-requires : goal.rename_owned-requires
rename_owned-requires c =
    movable_by_first c.args.atom.0 c.args.atoms.now c.args.renamed.items c.as_slice-5.result.now
    c.in_ok-owned.owned.items c.as_slice-4.result.now c.as_slice-5.ensures.value c.as_slice-4.ensures.value
    (movable (record { buffer = c.args.buffer.now; atoms = c.args.atoms.now; turns = c.args.turns.now }) c.args.atom.0
    c.args.renamed.items c.in_ok-owned.owned.items c.requires c.in_ok-owned.ensures.owned)

pub returns-clause-ok : goal.returns-clause-ok
returns-clause-ok c =
    let can = movable
    (record { buffer = c.args.buffer.now; atoms = c.args.atoms.now; turns = c.args.turns.now }) c.args.atom.0
    c.args.renamed.items c.in_ok-owned.owned.items c.requires c.in_ok-owned.ensures.owned in
    let owners = owners_by_first c.args.atom.0 c.args.atoms.now c.rename_owned.new.atoms c.args.renamed.items
    c.as_slice-5.result.now c.in_ok-owned.owned.items c.as_slice-5.ensures.value can
    c.rename_owned.ensures.owners in
    let room = c.in_ok-make_room.ensures.ok in
    let used = c.rename_cells.ensures.spare in
    let count = c.len.ensures in
    record {
      cells = from_same c.args.buffer.now c.make_room.new.buffer c.rename_cells.new.buffer c.args.renamed.items
          c.in_ok-make_room.ensures.cells c.rename_cells.ensures.cells;
      places = omega (arith, room, used, count);
      txns = c.rename_owned.ensures.rest.txns;
      states = c.rename_owned.ensures.rest.states;
      owners = owners;
      captures = c.rename_owned.ensures.rest.captures;
      begins = c.rename_owned.ensures.rest.begins;
      turns = c.put_pins.ensures
          ∙ turns_are c.args.turns.now c.in_ok-names.names c.in_ok-pins.pins.items c.args.renamed.items
          c.as_slice-3.result.now c.in_ok-pins.ensures c.in_ok-names.ensures c.as_slice-3.ensures.value;
      owned = nodes_are c.args.atom.0 c.args.renamed.items c.args.atoms.now c.rename_owned.new.atoms
          c.in_ok-owned.owned.items can owners c.in_ok-nodes.nodes
          (c.in_ok-nodes.ensures
          ∙ ap (λ (l : List NodeId). filter is_placed l ++ new_nodes c.as_slice-2.result.now) c.as_slice.ensures.value
          ∙ ap (λ (l : List RenamedCell). filter is_placed c.in_ok-owned.owned.items ++ new_nodes l)
          c.as_slice-2.ensures.value);
    }

pub put_pins-requires : goal.put_pins-requires
put_pins-requires c =
    can_keep (name_in c.in_ok-names.names) c.args.turns.now c.in_ok-pins.pins.items c.in_ok-pins.ensures c.requires.next
