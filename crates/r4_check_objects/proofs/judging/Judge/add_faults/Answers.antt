use Rattle.r4_check_objects.specs.Faults.{fault_at}
use Rattle.r4_check_objects.specs.Objects.{block_of, id_is_wrong, is_lost, links_are_wrong, size_is_wrong, what_if, wrongs_of}
use Rattle.r4_check_objects.specs.declared.fault.What.TheVariants.{Size, Links, Lost, Id}
use Rattle.r4_check_objects.proofs.Told.{four_more, one_told}
use Rattle.r4_check_objects.proofs.judging.Judge.add_faults.Goals as goal

pub returns : goal.returns
unfolding wrongs_of
returns c found j =
    let block = c.block_of.ensures found j in
    four_more (fault_at (block_of c.args.self.now.leaf found c.args.id)) (what_if (size_is_wrong found c.args.id) Size) (what_if (links_are_wrong found c.args.id) Links) (what_if (is_lost found c.args.id) Lost) (what_if (id_is_wrong c.args.self.now.super40 found c.args.id) Id)
    c.args.faults.now.items c.add_if.new.faults.items c.add_if-2.new.faults.items c.add_if-3.new.faults.items c.add_if-4.new.faults.items
    (one_told _ _ _ _ Size _ _ c.in_ok-add_if.ensures block (c.size_is_wrong.ensures found j))
    (one_told _ _ _ _ Links _ _ c.in_ok-add_if-2.ensures block (c.links_are_wrong.ensures found j))
    (one_told _ _ _ _ Lost _ _ c.in_ok-add_if-3.ensures block (c.is_lost.ensures found j))
    (one_told _ _ _ _ Id _ _ c.in_ok-add_if-4.ensures block (c.id_is_wrong.ensures found j))
