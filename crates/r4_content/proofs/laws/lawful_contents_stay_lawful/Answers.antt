use Rattle.std.proofs.Common.{arith}
use Rattle.r4_content.proofs.OneObject.{numbers_of}
use Rattle.r4_content.proofs.Staying.{lawful_stays}
use Rattle.r4_content.proofs.Widths.{links_after, room_after}
use Rattle.r4_content.proofs.laws.lawful_contents_stay_lawful.Goals as goal

pub returns : goal.returns
returns c = record {
  objects = λ limit x m lt lawful bytes unused. (lawful_stays limit x m lt lawful bytes unused).0;
  bodies = λ limit x m lt lawful bytes unused. (lawful_stays limit x m lt lawful bytes unused).1;
  links = λ limit x m lt lawful bytes unused. links_after limit x m lt lawful bytes unused;
  room = λ limit x m n lt lawful bytes unused room. room_after limit x m n lt lawful bytes unused room;
  lawful = λ limit x m lt lawful bytes unused room. record {
    objects = (lawful_stays limit x m lt lawful bytes unused).0;
    bodies = (lawful_stays limit x m lt lawful bytes unused).1;
    room = λ o a h d. let r = room_after limit x m 1 lt lawful bytes unused room o a h d in omega (arith, r);
    links = links_after limit x m lt lawful bytes unused;
  };
  numbers = numbers_of;
}
