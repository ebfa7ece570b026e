use Rattle.r4_sets.proofs.BodyKinds.{extent_shows, extents_after, extents_anew, tail_shows, tails_after, tails_anew}
use Rattle.r4_sets.proofs.changes.bodies_stand_after.Goals as goal

pub returns : goal.returns
returns g = record {
  tails = λ t u changed o old new stays h there same. tails_after t u changed o stays old new h there same;
  extents = λ t u changed o old new stays h there same. extents_after t u changed o stays old new h there same;
  tails_anew = λ t u changed o new stays there none. tails_anew t u changed o stays new there none;
  extents_anew = λ t u changed o new stays there none. extents_anew t u changed o stays new there none;
  tail = λ t raw o a x f stat file lt h. tail_shows t raw o a f stat file x lt h;
  extent = λ t raw o a x f stat file lt h. extent_shows t raw o a f stat file x lt h;
}
