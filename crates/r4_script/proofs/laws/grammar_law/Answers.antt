use Rattle.r4_script.proofs.Jobs.{job_is, job_again}
use Rattle.r4_script.proofs.Keeps.{job_keeps}
use Rattle.r4_script.proofs.Spellings.{job_spells}
use Rattle.r4_script.specs.Spelling.{job_text}
use Rattle.r4_script.proofs.laws.grammar_law.Goals as goal

pub returns : goal.returns
returns c = record {
  exact = λ text job. (job_is text job, job_again text job);
  kept = job_keeps;
  spelled = λ job h. job_again (job_text job) job (job_spells job h);
}
