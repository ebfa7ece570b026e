use Rattle.r4_content.proofs.StatsAsked.{bytes_asked, stats_asked}
use Rattle.r4_content.proofs.laws.commands_ask_for_stats.Goals as goal

pub returns : goal.returns
returns c = record { stats = stats_asked; bytes = bytes_asked }
