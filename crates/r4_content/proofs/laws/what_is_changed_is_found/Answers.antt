use Rattle.r4_content.proofs.FoundAfter.{chmod_stat, chown_stat, link_stat, rmdir_stat, times_stat}
use Rattle.r4_content.proofs.RenamedFound.{rename_stat}
use Rattle.r4_content.proofs.laws.what_is_changed_is_found.Goals as goal

pub returns : goal.returns
returns c = record { chmod = chmod_stat; chown = chown_stat; times = times_stat; link = link_stat; rmdir = rmdir_stat; rename = rename_stat }
