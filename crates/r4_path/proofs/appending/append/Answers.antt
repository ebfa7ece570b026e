use Rattle.std.proofs.Common.{arith, sym, ap, ◌∙◌, length, subst, List, ℕ}
use Rattle.r4_base.specs.Lending.{written}
use Rattle.r4_base.specs.Node.{offset_at}
use Rattle.r4_base.proofs.Choices.{went_well}
use Rattle.r4_leaf.proofs.r4_node40.LaidItems.{room_small}
use Rattle.r4_leaf.specs.r4_node40.Loan.{bytes_of}
use Rattle.r4_path.specs.Nodes.{IsAppended}
use Rattle.r4_path.proofs.Appended.{appended, same_length}
use Rattle.r4_path.proofs.appending.append.Goals as goal

pub overflow_cast-body : goal.overflow_cast-body
overflow_cast-body c = let small = room_small (bytes_of c.args.node.now) c.requires.node.laid in omega (arith, small)

pub insert-requires-clause-short : goal.insert-requires-clause-short
insert-requires-clause-short c = let small = room_small (bytes_of c.args.node.now) c.requires.node.laid in omega (arith, small)

pub copy_from_slice-requires : goal.copy_from_slice-requires
copy_from_slice-requires c =
    let put = went_well c.insert.result _ (c.insert.ensures.fits.1 c.requires.room) c.insert.ensures.ok in
    ap length c.body_mut.ensures.value
    ∙ same_length (bytes_of c.args.node.now)
    (bytes_of c.insert.new.self) c.args.body.now c.args.count c.args.plugin c.args.key c.requires.counted c.requires.node c.requires.plugin c.requires.above c.requires.some put

pub returns-clause-appended : goal.returns-clause-appended
returns-clause-appended c =
    let put = went_well c.insert.result _ (c.insert.ensures.fits.1 c.requires.room) c.insert.ensures.ok in
    subst (λ (w : List ℕ). IsAppended (bytes_of c.args.node.now)
    (record { key = c.args.key; plugin = c.args.plugin; body = c.args.body.now })
    (written (bytes_of c.insert.new.self) (offset_at (bytes_of c.insert.new.self) c.args.count) w))
    (sym c.copy_from_slice.ensures.after)
    (appended (bytes_of c.args.node.now)
    (bytes_of c.insert.new.self) c.args.body.now c.args.count c.args.plugin c.args.key c.requires.counted c.requires.node c.requires.plugin c.requires.above c.requires.some put)
