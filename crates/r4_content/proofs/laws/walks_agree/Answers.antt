use Rattle.std.proofs.Common.{sym, ◌∙◌}
use Rattle.r4_content.specs.Walk.{walk}
use Rattle.r4_content.proofs.Found.{at_absent, at_found, at_name, at_notdir, stat_walks}
use Rattle.r4_content.proofs.laws.walks_agree.Goals as goal

pub returns : goal.returns
returns c = record {
  stat = stat_walks;
  found = λ l m p a. let h = at_found (walk m p) a in ((λ e. h.0 (sym (stat_walks l m p) ∙ e)), (λ e. stat_walks l m p ∙ h.1 e));
  notdir = λ l m p. let h = at_notdir (walk m p) in ((λ e. h.0 (sym (stat_walks l m p) ∙ e)), (λ e. stat_walks l m p ∙ h.1 e));
  absent = λ l m p. let h = at_absent (walk m p) in ((λ e. h.0 (sym (stat_walks l m p) ∙ e)), (λ e. stat_walks l m p ∙ h.1 e));
  name = λ l m p. let h = at_name (walk m p) in ((λ e. h.0 (sym (stat_walks l m p) ∙ e)), (λ e. stat_walks l m p ∙ h.1 e));
}
