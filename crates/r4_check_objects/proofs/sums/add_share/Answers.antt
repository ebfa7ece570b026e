use Rattle.r4_check_objects.proofs.Summed.{summed_more}
use Rattle.r4_check_objects.proofs.sums.add_share.Goals as goal

pub returns-in_ok-add_under : goal.returns-in_ok-add_under
returns-in_ok-add_under c found before known s = summed_more c.args.part found before c.args.held.now c.args.sums.now s c.place_of.result c.share_of-more.result c.add_under.new.sums c.place_of.ensures (c.share_of-more.ensures found known) c.in_ok-add_under.ensures
