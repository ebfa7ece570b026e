use Rattle.std.proofs.Common.{◌∙◌, ◌≤◌, ◌++◌, ap, arith, drop, length, rules}
use Rattle.std.proofs.Common.{subst}
use Rattle.std.proofs.lemmas.Result.{on_ok_weaker}
use Rattle.r4_base.specs.Cell.{next_key}
use Rattle.r4_base.specs.Key.{rank}
use Rattle.r4_path.specs.Nodes.{IsNodeOf}
use Rattle.r4_squeeze.specs.Items.{item_meant, items_meant}
use Rattle.r4_squeeze.proofs.Adding.{length_meant}
use Rattle.r4_squeeze.proofs.Pointed.{behind_point, first_meant, long_rest, meant_parts, mine_point, more_nodes}
use Rattle.r4_squeeze.proofs.Pointed.{some_left}
use Rattle.r4_squeeze.proofs.Standing.{pointer_bodies, pointers_weigh, stand_rise}
use Rattle.r4_squeeze.proofs.nodes.+pack_nodes.Goals as goal

pub node_of-requires-clause-rise : goal.node_of-requires-clause-rise
node_of-requires-clause-rise t c =
    let (hi, p) = c.requires.pointers in
    stand_rise (next_key hi (items_meant c.split_at.result.1.now)) (items_meant c.split_at.result.0.now)
    (mine_point c.args.level hi c.min-count.result c.args.items.now c.split_at.result.0.now c.split_at.result.1.now
    c.split_at.ensures.front c.split_at.ensures.back p).stand

pub node_of-requires-clause-fit : goal.node_of-requires-clause-fit
node_of-requires-clause-fit t c =
    let (hi, p) = c.requires.pointers in
    (mine_point c.args.level hi c.min-count.result c.args.items.now c.split_at.result.0.now c.split_at.result.1.now
    c.split_at.ensures.front c.split_at.ensures.back p).fit

pub node_of-requires-clause-bodies : goal.node_of-requires-clause-bodies
node_of-requires-clause-bodies t c =
    let (hi, p) = c.requires.pointers in
    pointer_bodies c.args.level (next_key hi (items_meant c.split_at.result.1.now)) (items_meant c.split_at.result.0.now)
    (mine_point c.args.level hi c.min-count.result c.args.items.now c.split_at.result.0.now c.split_at.result.1.now
    c.split_at.ensures.front c.split_at.ensures.back p)

pub node_of-requires-clause-room : goal.node_of-requires-clause-room
node_of-requires-clause-room t c =
    let (hi, p) = c.requires.pointers in
    let weigh = pointers_weigh c.args.level (next_key hi (items_meant c.split_at.result.1.now))
    (items_meant c.split_at.result.0.now)
    (mine_point c.args.level hi c.min-count.result c.args.items.now c.split_at.result.0.now c.split_at.result.1.now
    c.split_at.ensures.front c.split_at.ensures.back p) in
    let long = length_meant c.split_at.result.0.now in
    let front = c.split_at.ensures.front_len in
    let least = c.min-count.ensures in
    omega (arith, weigh, long, front, least)

pub pack_nodes-requires : goal.pack_nodes-requires
pack_nodes-requires t c =
    let (hi, p) = c.requires.pointers in (
      search rules,
      (
        c.requires.level,
        (
          some_left (length c.split_at.result.1.now) c.is_empty.result c.is_empty.ensures
              c.if-is_empty.false,
          (
            hi,
            behind_point c.args.level hi c.min-count.result c.args.items.now
                c.split_at.result.0.now c.split_at.result.1.now c.split_at.ensures.front c.split_at.ensures.back p,
          ),
        ),
      ),
    )

pub returns : goal.returns
returns t c =
    let mine = c.split_at.result.0.now in
    let behind = c.split_at.result.1.now in
    let first = c.index-mine-0.result in
    let front = c.split_at.ensures.front_len in
    let back = c.split_at.ensures.back_len in
    let least = c.min-count.ensures in
    let some = c.requires.some in
    let more = some_left (length behind) c.is_empty.result c.is_empty.ensures c.if-is_empty.false in
    let one : 1 ≤ length mine = omega (arith, front, least, some) in
    let cons = first_meant mine first one c.index-mine-0.is in
    let rest = long_rest mine in
    on_ok_weaker c.pack_nodes.result (λ goes. λ hi p.
    more_nodes c.args.level c.args.mkfs_id (items_meant c.args.items.now) (items_meant (drop 1 mine)) (items_meant behind)
    (item_meant first) (record { lo = c.key.result; block = c.in_ok-node_of.field-0 })
    c.args.filled.now.items c.push.new.self.items c.pack_nodes.new.filled.items
    (meant_parts c.min-count.result c.args.items.now mine behind c.split_at.ensures.front c.split_at.ensures.back
    ∙ ap (λ xs. xs ++ items_meant behind) cons)
    (omega (arith, rest, front, back, least, more))
    (record {
      from = ap rank c.key.ensures;
      node = subst (λ xs. IsNodeOf c.args.level xs c.in_ok-node_of.field-0) cons c.in_ok-node_of.ensures.node;
      mkfs_id_is = c.in_ok-node_of.ensures.mkfs_id;
    })
    c.in_ok-push.ensures.items
    (goes hi (behind_point c.args.level hi c.min-count.result c.args.items.now mine behind
    c.split_at.ensures.front c.split_at.ensures.back p)))
    c.pack_nodes.ensures
