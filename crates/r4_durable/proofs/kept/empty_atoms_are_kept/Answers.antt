use Rattle.r4_durable.proofs.Empty.{empty_deferred, empty_kept, empty_session}
use Rattle.r4_durable.proofs.kept.empty_atoms_are_kept.Goals as goal

pub returns : goal.returns
returns g = record {
  session = λ limit b job c s image a kept none. (
    empty_session limit b job c s image kept a none,
    empty_deferred limit b job c s image kept a none,
  );
  again = λ limit b job c s image a kept none now more goes session later alike lawful deferred clock.
      empty_kept limit b job c s image kept a none now more goes session later alike lawful deferred clock;
}
