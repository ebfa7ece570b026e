use Rattle.std.proofs.Common.{rules, ◌+◌, ◌≡◌, ◌∙◌, ap, subst, sym}
use Rattle.std.proofs.lemmas.Fn.{filter_same}
use Rattle.std.specs.List.{filter}
use Rattle.r4_base.specs.Key.{rank}
use Rattle.r4_summary.proofs.Parts.{cut_kept, cut_pairs, outside}
use Rattle.r4_summary.specs.Kept.{AreKept, pairs_in}
use Rattle.r4_summary.proofs.kept.wipe.Goals as goal

pub returns-clause-kept : goal.returns-clause-kept
returns-clause-kept c =
    let is : c.retain.new.self.items ≡ filter (outside (rank c.args.from) (rank c.args.from + c.args.count)) c.args.parts.now.items =
    filter_same _ _ _ (λ x b f' k. search rules) _ _ c.retain.ensures.filtered in
    subst AreKept (sym is) (cut_kept (rank c.args.from) (rank c.args.from + c.args.count) c.args.parts.now.items c.requires)

pub returns-clause-pairs : goal.returns-clause-pairs
returns-clause-pairs c =
    let is : c.retain.new.self.items ≡ filter (outside (rank c.args.from) (rank c.args.from + c.args.count)) c.args.parts.now.items =
    filter_same _ _ _ (λ x b f' k. search rules) _ _ c.retain.ensures.filtered in
    ap pairs_in is ∙ cut_pairs (rank c.args.from) (rank c.args.from + c.args.count) c.args.parts.now.items c.requires.ones
