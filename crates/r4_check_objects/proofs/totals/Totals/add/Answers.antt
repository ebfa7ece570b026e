use Rattle.r4_check_objects.proofs.totals.Totals.add.Goals as goal

pub returns : goal.returns
returns c found before known t = record {
  entries = c.in_ok-add_share.ensures found before known t.entries;
  directories = c.in_ok-add_share-2.ensures found before known t.directories;
  links = c.in_ok-add_share-3.ensures found before known t.links;
  reached = c.in_ok-add_share-4.ensures found before known t.reached;
  tails = c.in_ok-add_share-5.ensures found before known t.tails;
  blocks = c.in_ok-add_share-6.ensures found before known t.blocks;
  past = c.in_ok-add_share-7.ensures found before known t.past;
  strays = c.in_ok-add_share-8.ensures found before known t.strays;
}
