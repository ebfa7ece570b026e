use Rattle.std.proofs.Common.{◌∷◌}
use Rattle.r4_path.specs.Steps.{fresh_ids}
use Rattle.r4_path.proofs.GraftNumbers.{serve}
use Rattle.r4_edit.proofs.graft_laws.numbers_serve_below.Goals as goal

pub returns : goal.returns
returns c t twig ups qs b data_names first f after d grafts of are = serve f after
    (fresh_ids (grafts.lowest ∷ grafts.more) grafts.over) grafts.counts grafts.number grafts.within t twig qs b data_names of
    first are
